-- What the reading of an input cites.
pub mod Consumed
