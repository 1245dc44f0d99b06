-- What the join promises, by the model's definitions.
pub mod Promises
