-- What the writer promises, and what is stated of the definition.
pub mod Sinks
pub mod RecordLists
pub mod Promises
pub mod RoundTrips
