-- What the proofs of more than one module use.
mod Words
-- laws and theorems that rest on definitions of specs/
pub mod BytesTheorems
pub mod NumberLaws
mod Eight
