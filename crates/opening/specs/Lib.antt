-- What an opening promises, by the model's definitions.
pub mod Promises
