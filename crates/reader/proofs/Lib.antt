-- Laws of a reading that holds its bundle.
pub mod Pages
