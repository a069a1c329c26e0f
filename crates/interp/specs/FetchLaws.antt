-- Each end of a fetch is the turn's. Assumes nothing.
use Rattle.std.specs.Prelude.{◌≡◌, refl, Option, Some, None, Result, Ok, Err, IsErrAnd}
use Rattle.std.proofs.Common.{sym}
use Rattle.std.proofs.Math.Bool.{true, false}
use Prim.Native.Nat.{ℕ, suc, ◌+◌, ◌≤◌, ◌<◌}
use native.Mathlib.Omega.{arith}
use Rattle.std.proofs.Math.Dec.{leb}
use borrow.Author.Tests.{lt-ltb, le-ltb}
use Rattle.isa.specs.Table.{price_of}
use Rattle.isa.specs.Forms.{form_of}
use Rattle.isa.specs.Answers.{decode_error}
use Rattle.isa.specs.declared.instr.Instr.{Instr}
use Rattle.isa.specs.declared.opcode.OpCode.{OpCode}
use Rattle.isa.specs.declared.codec.DecodeError.{DecodeError}
use Rattle.isa.specs.declared.codec.DecodeError.TheVariants.{UnknownOpcode, BadRegister, Truncated}
use Rattle.machine.specs.Rules.{play}
use Rattle.machine.specs.Turns.{rule_of, step_of, fetch_of, turn_of}
use Rattle.machine.specs.Sound.{machine_of}
use Rattle.machine.specs.Does.{paid_by}
use Rattle.machine.proofs.TurnLaws.{pays_on, pays_not}
use Rattle.machine.specs.RunParts.{with_place, with_used, with_fetches}
use Rattle.machine.specs.SoundLaws.{place_sound, fetches_sound}
use Rattle.machine.specs.declared.run.Run.{Run}
use Rattle.interp.specs.Fetched.{instruction_in, Onward, Fetches}
use Rattle.state.specs.declared.fault.Fault.{Fault}
use Rattle.state.specs.declared.fault.Fault.TheVariants.{OutOfMeter, BadJump, Decode}

-- ---- after decoding: price and next address

module _ (r : Run) (i : Instr) (n price : ℕ) (q : price ≡ price_of (form_of i).op) (x : Option Run) (e : x ≡ paid_by r price) where
  pub onward_out : x ≡ None → Onward (Ok (i, n)) r (Err OutOfMeter)
  unfolding fetch_of machine_of play
  onward_out k env s d f b so =
      let h : leb (r.meter.used + price_of (form_of i).op) env.limit ≡ false = rw q at (pays_not so price e k) in
      (rw h, omega arith)

  module _ (y : Run) (k : x ≡ Some y) where
    pub onward_far : 4294967296 ≤ r.pc + n → Onward (Ok (i, n)) r (Err BadJump)
    unfolding fetch_of machine_of play
    onward_far h env s d f b so =
        let p = pays_on so price e k in
        let t : leb (r.meter.used + price_of (form_of i).op) env.limit ≡ true = rw q at p.passed in
        (rw (t, le-ltb (r.pc + n) 4294967296 h), omega arith)

    pub onward_done : r.pc + n < 4294967296 → Onward (Ok (i, n)) r (Ok (with_place y (r.pc + n)))
    unfolding instruction_in fetch_of rule_of step_of machine_of play
    onward_done h env s d f b so =
        let p = pays_on so price e k in
        let t : leb (r.meter.used + price_of (form_of i).op) env.limit ≡ true = rw q at p.passed in
        let w : y ≡ with_used r (r.meter.used + price_of (form_of i).op) = rw q at p.is in
        let above : r.fetches + (d + price_of (form_of i).op) ≤ r.meter.used + price_of (form_of i).op = omega (arith, so.metered.above) in
        rw w (rw (t, lt-ltb (r.pc + n) 4294967296 h), place_sound (fetches_sound (rw w at p.sound) r.fetches (d + price_of (form_of i).op) above) (r.pc + n) h, refl)

-- the price is that of the instruction's opcode
pub price_of_lem : (i : Instr) (o : OpCode) (price : ℕ) → o ≡ (form_of i).op → price ≡ price_of o → price ≡ price_of (form_of i).op
price_of_lem i o price e q = rw e at q

-- ---- decoding

error_some : (x : DecodeError) → 0 < (decode_error x).number
error_some (UnknownOpcode byte) = omega arith
error_some (BadRegister byte) = omega arith
error_some Truncated = omega arith

module _ (r : Run) where
  -- the refusal that `?` hands on
  pub fetch_refused : (x : DecodeError) (t : Result Run Fault) → IsErrAnd t (λ y. y ≡ Decode x) → Fetches (Err x) r t
  unfolding turn_of fetch_of machine_of
  fetch_refused x (Ok q) p = absurd p
  fetch_refused x (Err w) p = λ env s d f b c so. rw (sym c, p) (refl, error_some x)

  pub fetch_on : (i : Instr) (n : ℕ) (t : Result Run Fault)
      → Onward (Ok (i, n)) (with_fetches r (r.fetches + 1)) t
      → Fetches (Ok (i, n)) r t
  unfolding turn_of machine_of
  fetch_on i n t on env s d f b c so =
      let o = on env s d f b (fetches_sound so (r.fetches + 1) d (omega (arith, so.metered.above))) in
      let z : r.fetches + 1 ≡ suc r.fetches = omega arith in
      rw (sym c) (rw z at o)
