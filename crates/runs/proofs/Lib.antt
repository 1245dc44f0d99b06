-- The statements tried on runs, all computed. What holds of every run is proved in the crate agreement.
pub mod Found
pub mod AnyOrder
pub mod Examples
pub mod Ties
pub mod FactsTried
pub mod SwitchesTried
pub mod LateTried
pub mod EvidenceTried
