-- What the proofs of this module use: lemmas on plain numbers.
mod Columns
