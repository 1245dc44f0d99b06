-- Laws of the layout. Blocks: what a store of words does to the ledger that they are. Entries: what each thing stored
-- makes of an entry. Ranges: the group's numbers are in their ranges. Words: the words of a ledger are that ledger.
-- Facts: words written out, and the ledger that they are.
pub mod Blocks
pub mod Entries
pub mod Ranges
pub mod Words
pub mod Facts
