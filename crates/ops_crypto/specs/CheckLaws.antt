-- A check is a price, which may be capped, and a reply. Assumes nothing.
use Rattle.std.specs.Prelude.{◌≡◌, refl, Bool, true, false, List, ℕ, ◌+◌, ◌-◌, ◌^◌, ◌≤◌, ◌<◌, min, leb, Option}
use Rattle.std.proofs.Common.{sym, ◌∙◌, arith, le-leb, leb-true, leb-false}
use Rattle.std.proofs.Math.Nat.{min-eq_left, min-eq_right}
use Rattle.std.proofs.lemmas.Bool.{lt-leb}
use Rattle.state.specs.declared.regs.RegFile.{RegFile}
use Rattle.machine.specs.Machine.{Env, Machine, bare}
use Rattle.machine.specs.Rules.{Rule, next, pay, play}
use Rattle.machine.specs.CryptoRules.{asking, check_of}
use Rattle.machine.specs.Lent.{Bufs}
use Rattle.machine.specs.Sound.{machine_of}
use Rattle.machine.specs.Does.{paid_by}
use Rattle.machine.specs.declared.action.Check.{Check}
use Rattle.machine.specs.declared.action.Check.TheVariants.{VerifyMl, VerifySlh, MerkleVerify, Addr}
use Rattle.machine.specs.declared.run.Run.{Run}
use Rattle.ops_crypto.specs.Prices.{check_price}
use Rattle.ops_crypto.specs.PayLaws.{Priced, priced}

-- a word is below the cap
pub uncapped : (r p : ℕ) → r < 2 ^ 64 → r ≡ p → r ≡ min p (2 ^ 64 - 1)
uncapped r p l q = q ∙ sym (min-eq_left (omega (arith, l, q)))

-- where something is used, a capped price is paid as the plain one
capped_pays : (l u n : ℕ) (p : ℕ) (r : Rule) → 1 ≤ u → l < 2 ^ 64 → play l u n (pay p r) ≡ play l u n (pay (min p (2 ^ 64 - 1)) r)
unfolding play
capped_pays l u n p r some low = go (leb p (2 ^ 64 - 1)) refl
  where
    go : (t : Bool) → leb p (2 ^ 64 - 1) ≡ t → play l u n (pay p r) ≡ play l u n (pay (min p (2 ^ 64 - 1)) r)
    go true q = rw (min-eq_left (leb-true p (2 ^ 64 - 1) q))
    go false q =
        let h : 2 ^ 64 - 1 < p = leb-false p (2 ^ 64 - 1) q in
        let z : min p (2 ^ 64 - 1) ≡ 2 ^ 64 - 1 = min-eq_right (omega arith) in
        rw (z, lt-leb (u + p) l (omega arith), lt-leb (u + (2 ^ 64 - 1)) l (omega arith))

-- a check is a capped price, then a reply; nothing is paid for an address
check_priced : (e : Env) (o : Check) (m : Machine) (u n : ℕ) → 1 ≤ u → u ≤ e.limit → e.limit < 2 ^ 64
    → play e.limit u n (check_of e o m) ≡ play e.limit u n (pay (min (check_price o m.regs e.host) (2 ^ 64 - 1)) (asking m next))
unfolding check_of check_price play
check_priced e o m u n some w l = plain o ∙ capped_pays e.limit u n (check_price o m.regs e.host) (asking m next) some l
  where
    plain : (z : Check) → play e.limit u n (check_of e z m) ≡ play e.limit u n (pay (check_price z m.regs e.host) (asking m next))
    plain (VerifyMl b) = refl
    plain (VerifySlh b) = refl
    plain (MerkleVerify b) = refl
    plain Addr = let z : u + 0 ≡ u = omega arith in rw (z, le-leb u e.limit w)

pub check_pays : (e : Env) (s : List ℕ) (d : ℕ) (f : RegFile) (o : Check) (r : Run) (b : Bufs) → r.meter.limit < 2 ^ 64
    → (p : ℕ) → p ≡ min (check_price o f e.host) (2 ^ 64 - 1) → (x : Option Run) → x ≡ paid_by r p → Priced e s d f r b (check_of e o) (λ m. asking m next) x
unfolding machine_of
check_pays e s d f o r b l p q x h =
    priced (check_of e o) (λ m. asking m next) p h
    (λ so. let m = so.metered in rw q (check_priced e o (bare (machine_of s r f b)) r.meter.used r.fetches m.some m.within (omega (arith, m.limit, l))))
