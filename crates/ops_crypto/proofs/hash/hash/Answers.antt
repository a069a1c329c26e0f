-- `ops_crypto::hash::hash` meets its contract: the price, the reply, then what follows it, with base and output from before. Assumes nothing.
use mathlib.Core.List.{List}
use Prim.Native.Nat.{ℕ}
use Rattle.state.specs.Regs.{file}
use Rattle.state.specs.declared.regs.RegFile.{RegFile}
use Rattle.machine.specs.Machine.{Env, Machine}
use Rattle.machine.specs.Rules.{Rule}
use Rattle.machine.specs.CryptoRules.{asking, tainting, hash_of}
use Rattle.machine.specs.Lent.{Bufs, lent_to}
use Rattle.machine.specs.Sound.{machine_of}
use Rattle.machine.proofs.TurnLaws.{paid_is}
use Rattle.ops_crypto.specs.PayLaws.{Priced}
use Rattle.ops_crypto.specs.HashLaws.{hash_pays}
use Rattle.ops_crypto.specs.AskLaws.{asked_stops, asked_on}
use Rattle.ops_crypto.proofs.hash.hash.Goals as goal
use Rattle.ops_crypto.proofs.hash.hash.Goals.{After-ask-t, After-pay, Start}

-- the registers, the bytes lent, and what follows the reply
abbrev registers : Start → RegFile
registers c = file c.args.regs.now

abbrev lent_at : Start → (stack ch fe pd log : List ℕ) → Bufs
lent_at c stack ch fe pd log = let a = c.args in lent_to a.memory.now stack ch fe a.readable.now a.writable.now pd log

abbrev then : After-pay → Env → Machine → Rule
then c e = tainting e c.base_at-base.result c.read-out.result

pays : (c : After-pay) (e : Env) (stack ch fe pd log : List ℕ) (d : ℕ) → let a = c.args in
    Priced e a.replies.now d (registers (goal.at-After-pay c).Start) a.run (lent_at (goal.at-After-pay c).Start stack ch fe pd log) (hash_of e a.a a.b a.c) (λ m. asking m (then c e)) c.pay.result
pays c e stack ch fe pd log d =
    let base = c.base_at-base in
    let a = c.args in
    hash_pays e a.replies.now d (registers (goal.at-After-pay c).Start) a.a a.b a.c a.run (lent_at (goal.at-After-pay c).Start stack ch fe pd log)
    _ _ _ c.read-at.ensures c.read-len.ensures c.read-out.ensures base.result base.ensures _ c.hash_variable.ensures _ c.pay.ensures

-- the machine that asks for the reply
abbrev machine_at : After-ask-t → (stack ch fe pd log : List ℕ) → Machine
machine_at c stack ch fe pd log =
    machine_of c.args.replies.now c.in-Some.rest (registers (goal.at-After-ask-t c).Start) (lent_at (goal.at-After-ask-t c).Start stack ch fe pd log)

pub returns-in_default : goal.returns-in_default
returns-in_default c =
    λ e l rd wr st ld ch fe pd stack log d ek.
    (pays (goal.at-returns-in_default c).After-pay e stack ch fe pd log d).off _ _ c.in_default.is c.stop.ensures

pub ask-t-requires : goal.ask-t-requires
ask-t-requires c = rw (paid_is c.args.run _ _ _ c.pay.ensures c.in-Some.is) c.requires.0

pub returns-then-t-ne0 : goal.returns-then-t-ne0
returns-then-t-ne0 c =
    λ e l rd wr st ld ch fe pd stack log d ek.
    (pays (goal.at-returns-then-t-ne0 c).After-pay e stack ch fe pd log d).on _ _ _ c.in-Some.is
    (λ sixteen so. asked_stops e c.args.replies.now d (registers (goal.at-returns-then-t-ne0 c).Start) (machine_at (goal.at-returns-then-t-ne0 c).After-ask-t stack ch fe pd log) _ _ _ _ (c.ask-t.ensures.turn e stack log d (lent_at (goal.at-returns-then-t-ne0 c).Start stack ch fe pd log).keys (registers (goal.at-returns-then-t-ne0 c).Start) sixteen so) (then (goal.at-returns-then-t-ne0 c).After-pay e) c.if-t-ne0.true)

pub taint-requires : goal.taint-requires
taint-requires c =
    let kept = c.ask-t.ensures.keys in
    rw (kept.0, kept.1) (rw (paid_is c.args.run _ _ _ c.pay.ensures c.in-Some.is) (c.requires.1, c.requires.2))

pub returns : goal.returns
returns c =
    λ e l rd wr st ld ch fe pd stack log d ek.
    (pays (goal.at-returns c).After-pay e stack ch fe pd log d).on _ _ _ c.in-Some.is
    (λ sixteen so. asked_on e c.args.replies.now d (registers (goal.at-returns c).Start) (machine_at (goal.at-returns c).After-ask-t stack ch fe pd log) _ _ _ _ (c.ask-t.ensures.turn e stack log d (lent_at (goal.at-returns c).Start stack ch fe pd log).keys (registers (goal.at-returns c).Start) sixteen so) (then (goal.at-returns c).After-pay e) _ _ c.if-t-ne0.false
    (c.taint.ensures e c.args.replies.now rd wr st ld stack ch fe pd log d (registers (goal.at-returns c).Start) l ek sixteen))
