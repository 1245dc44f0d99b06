-- The saved form of a book and what a load replies; and that the two fit.
pub mod Saved
pub mod RoundTrips
