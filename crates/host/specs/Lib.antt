-- What the exported functions promise beside the model's definitions.
pub mod Handing
pub mod Messages
pub mod Keeping
pub mod Quorums
pub mod Waiting
pub mod BundleNumbers
pub mod Evidences
