-- What the proofs of this module use: laws of quotients.
mod Laws
