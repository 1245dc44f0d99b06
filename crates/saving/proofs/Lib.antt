-- What is saved is loaded, and nothing else is; what the functions' proofs share; the definitions, tried.
pub mod RoundTrips
pub mod Filling
pub mod Tried
