-- Laws of the tests.
pub mod Rules
pub mod Ranges
pub mod Acks
