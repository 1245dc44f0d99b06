-- Demand 3, proved: `demand3`, in Demand3.antt. The files before it are its steps; behind it stand the proofs of the
-- other statements. The statements are in the crate runs.
pub mod Places
pub mod Proposals
pub mod Deeds
pub mod Soundness
pub mod StepLaws
pub mod Reachable
pub mod Accounts
pub mod SlateSettles
pub mod Slated
pub mod Quorums
pub mod Acked
pub mod Votes
pub mod Reasons
pub mod Agree
pub mod EqualCounts
pub mod Demand3
pub mod Retained
pub mod Always
pub mod Theorem1
pub mod Switching
pub mod Evidence
pub mod Tried
