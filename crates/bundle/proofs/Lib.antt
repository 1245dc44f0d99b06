-- Laws that the proofs of this crate share, and worked facts of a reading.
pub mod Longest
pub mod Reading
pub mod Facts
pub mod Asking
