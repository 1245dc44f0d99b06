-- Accounts of a held book, taken over one after another.
pub mod Accounts
