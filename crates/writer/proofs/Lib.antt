-- The two round trips, `write_then_read` and `read_then_write`; and what the functions' proofs share. Where a
-- function's proof needs more, it stands in the function's folder.
pub mod Numbers
pub mod Pages
pub mod WriteThenRead
pub mod Turns
pub mod Bundling
pub mod Recording
pub mod PagesBack
pub mod ReadThenWrite
pub mod RecordFacts
pub mod Tried
