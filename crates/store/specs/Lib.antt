-- What the stores promise.
pub mod Stores
