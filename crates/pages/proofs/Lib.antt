-- What the proofs of this crate share.
pub mod Made
