-- Documents 01 and 02 as definitions, in reading order: the ledger, its calls, bundles and their join. The crates above
-- have definitions of their own in specs/, which a reader must believe too: what words are as a ledger (layout), the
-- text (text, replay), a saved book (saving), records (writer), numbers for a host (host), what is claimed of a join
-- (laws), runs and what is claimed of them (runs), and what each function promises.
pub mod Types
pub mod Basics
pub mod Records
pub mod Transfers
pub mod Acks
pub mod Gathering
pub mod Refusals
pub mod Replies
pub mod Openings
pub mod Settling
pub mod Calls
pub mod Switches
pub mod Bundles
pub mod Writing
pub mod Joins
