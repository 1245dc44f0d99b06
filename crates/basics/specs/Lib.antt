-- What it is to write bytes into a lent buffer.
pub mod Outputs
