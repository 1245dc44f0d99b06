-- The text's lines as lists of bytes.
pub mod Lines
