-- Demand 3 as a statement, in reading order. `Claims.Demand3` is the whole of it; beside it Facts, Undisputed, and of
-- document 02 Proposals, of request 2, Switching, of requests 3 and 5, and Evidence, of request 7.
pub mod Runs
pub mod Premises
pub mod Slates
pub mod Claims
pub mod Facts
pub mod Undisputed
pub mod Proposals
pub mod Switching
pub mod Evidence
