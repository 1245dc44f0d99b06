-- Laws of replaying.
pub mod Sound
pub mod Playing
pub mod Closing
pub mod Telling
pub mod Listing
pub mod Fronts
pub mod WholeOutput
