-- An ack as two numbers, and an index over the acks of a bundle.
pub mod Keys
pub mod Links
