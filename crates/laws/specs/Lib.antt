-- The model's types with their constructors, by one name each, for the crates above; and what is claimed of a join.
pub mod Types
pub mod JoinClaims
