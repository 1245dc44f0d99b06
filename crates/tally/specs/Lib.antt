-- The running tally, beside the model's definitions.
pub mod Results
