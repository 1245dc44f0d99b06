-- What the functions' proofs share, the laws for callers, and worked facts. Where a function's proof needs more, it
-- stands in the function's folder.
pub mod Carrying
pub mod Decimals
pub mod Facts
