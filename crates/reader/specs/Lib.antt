-- What the functions of this crate promise, by the model's definitions.
pub mod Promises
