-- Laws of the stores. Parts: a part of a block, stored at once. Clearing: a part that is cleared. Taking: a block that
-- is copied word by word from a book held from before. Reading: what stands in a place, told with a number. Storing:
-- what stored words make of an entry, and the laws that the check tries at each function. Entering: entries stored one
-- after another.
mod Parts
pub mod Clearing
pub mod Taking
pub mod Reading
pub mod Storing
pub mod Entering
