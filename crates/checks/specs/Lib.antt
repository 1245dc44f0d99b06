-- What a check promises, by the model's definitions.
pub mod Promises
