-- What the public functions promise, beside document 01's definitions, which they cite from the model.
pub mod Promises
