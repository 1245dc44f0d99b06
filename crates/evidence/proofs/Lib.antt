-- What the proofs of this crate's functions share.
pub mod Joining
