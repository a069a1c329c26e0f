-- What the proofs of more than one module use.
mod Tags
pub mod FirstBad
pub mod NoRoom
