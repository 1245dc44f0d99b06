-- Laws that the proofs of the crates above share.
pub mod Filling
pub mod Counting
pub mod ReadBack
pub mod Writing
pub mod Searching
