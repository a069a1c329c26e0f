-- What a crypto instruction that only takes a reply costs beyond its base price.
use Rattle.std.specs.Prelude.{ℕ}
use Rattle.meter.specs.Prices.{message_price, merkle_price}
use Rattle.state.specs.Regs.{reg}
use Rattle.state.specs.declared.regs.RegFile.{RegFile}
use Rattle.machine.specs.declared.host.Host.{Host}
use Rattle.machine.specs.declared.action.Check.{Check}
use Rattle.machine.specs.declared.action.Check.TheVariants.{VerifyMl, VerifySlh, MerkleVerify, Addr}

unfoldable pub check_price : Check → RegFile → Host → ℕ
check_price (VerifyMl b) f h = message_price (reg f b) h.ml_signed
check_price (VerifySlh b) f h = message_price (reg f b) h.slh_signed
check_price (MerkleVerify b) f h = merkle_price (reg f b)
check_price Addr f h = 0
