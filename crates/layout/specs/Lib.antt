-- Layout: the ledger that any words are. Words: the words of a ledger. Blocks: what stores of words do.
pub mod Layout
pub mod Words
pub mod Blocks
