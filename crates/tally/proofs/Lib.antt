-- Gathered: the tally of the seats so far. Conflicts: when two of the acks conflict. Nexts: of slips that are of the
-- next number. Leaders: the leader of the seats so far.
pub mod Gathered
pub mod Conflicts
pub mod Nexts
mod Leaders
