-- What the functions' proofs share. Where a function's proof needs more, it stands in the function's folder.
pub mod Opening
pub mod Fresh
pub mod Lists
