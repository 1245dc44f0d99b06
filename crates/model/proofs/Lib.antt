-- The definitions tried: the known pages, and what no answer shows. What holds of every
-- ledger is proved in the crate laws.
pub mod Rows
pub mod KnownPages
pub mod Tried
