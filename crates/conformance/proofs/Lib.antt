-- The links, proved: every ledger that a run reaches has its words (`reached_told`); `works_obeys` and what follows
-- from it; `every_text`, `every_run` and `every_list`, behind their steps; `one_reading`; and all tried.
pub mod Reached
pub mod Operations
pub mod EntryRuns
pub mod ClosingRows
pub mod Texts
pub mod Reading
pub mod Tried
