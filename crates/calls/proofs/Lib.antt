-- From what a call computed to what it promises.
pub mod Taking
