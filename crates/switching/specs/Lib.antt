-- What taking a held book over promises, by the model's definitions.
pub mod Promises
