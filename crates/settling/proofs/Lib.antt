-- What the functions' proofs share: Turns, one turn of settling. Where a function's proof needs more, it stands in the
-- function's folder.
pub mod Turns
