-- What the proofs of this crate's functions share.
pub mod Keying
pub mod Linking
pub mod Partners
