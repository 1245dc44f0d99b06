-- What the kinds of pages mean.
pub mod Kinds
