-- The text that `daybook` writes for a bundle, and what replaying promises.
pub mod Text
pub mod Lists
pub mod Promises
