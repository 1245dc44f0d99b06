-- From what the operations reply to what it is told as; what is handed over, and tried.
pub mod Telling
pub mod Handed
pub mod Tried
