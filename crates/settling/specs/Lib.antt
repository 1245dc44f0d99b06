-- What settling leaves, by the model's definitions.
pub mod Results
