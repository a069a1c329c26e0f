-- `ops_crypto::check::price` meets its contract: a message's price is below the cap. Assumes nothing.
use mathlib.Core.Path.{refl}
use Rattle.ops_crypto.specs.Prices.{check_price}
use Rattle.ops_crypto.specs.CheckLaws.{uncapped}
use Rattle.ops_crypto.proofs.check.price.Goals as goal

pub returns-in-VerifyMl : goal.returns-in-VerifyMl
unfolding check_price
returns-in-VerifyMl c = rw (c.in-VerifyMl.is, ← c.read.ensures) (uncapped _ _ c.message_variable.type_inv c.message_variable.ensures)

pub returns-in-VerifySlh : goal.returns-in-VerifySlh
unfolding check_price
returns-in-VerifySlh c =
    rw (c.in-VerifySlh.is, ← c.read-in-VerifySlh.ensures) (uncapped _ _ c.message_variable-in-VerifySlh.type_inv c.message_variable-in-VerifySlh.ensures)

pub returns-in-MerkleVerify : goal.returns-in-MerkleVerify
unfolding check_price
returns-in-MerkleVerify c = rw (c.in-MerkleVerify.is, ← c.read-in-MerkleVerify.ensures) c.merkle_variable.ensures

pub returns-in-Addr : goal.returns-in-Addr
unfolding check_price
returns-in-Addr c = rw c.in-Addr.is refl
