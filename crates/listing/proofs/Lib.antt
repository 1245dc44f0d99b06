-- What the loop of the waiting list knows.
pub mod Waiters
