-- A Hash is a price, a reply, and what its base and output come to. Assumes nothing.
use Rattle.std.specs.Prelude.{◌≡◌, List, ℕ, Option}
use Rattle.meter.specs.Prices.{hash_price}
use Rattle.state.specs.Regs.{reg}
use Rattle.state.specs.declared.regs.RegFile.{RegFile}
use Rattle.machine.specs.Machine.{Env}
use Rattle.machine.specs.CryptoRules.{asking, base_of, tainting, hash_of}
use Rattle.machine.specs.Lent.{Bufs}
use Rattle.machine.specs.Sound.{machine_of}
use Rattle.machine.specs.Does.{paid_by}
use Rattle.machine.specs.declared.run.Run.{Run}
use Rattle.ops_crypto.specs.PayLaws.{Priced, priced}

pub hash_pays : (e : Env) (s : List ℕ) (d : ℕ) (f : RegFile) (i j k : ℕ) (r : Run) (b : Bufs) (at n out : ℕ) → at ≡ reg f i → n ≡ reg f j → out ≡ reg f k
    → (base : Option ℕ) → base ≡ base_of b.memory at n → (p : ℕ) → p ≡ hash_price n → (x : Option Run) → x ≡ paid_by r p
    → Priced e s d f r b (hash_of e i j k) (λ m. asking m (tainting e base out)) x
unfolding hash_of machine_of
hash_pays e s d f i j k r b at n out qi qj qk base qb p qp x h =
    priced (hash_of e i j k) (λ m. asking m (tainting e base out)) p h (λ so. rw (← qi, ← qj, ← qk, ← qb, ← qp))
