-- What a call promises, by the model's definitions.
pub mod Promises
