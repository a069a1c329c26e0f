-- `ops_crypto::check::check` meets its contract: the price, then the reply. Assumes nothing.
use mathlib.Core.Path.{◌≡◌}
use mathlib.Core.List.{List}
use Prim.Native.Nat.{ℕ, ◌^◌, ◌<◌}
use native.Mathlib.Omega.{arith}
use Rattle.state.specs.Regs.{file}
use Rattle.state.specs.declared.regs.RegFile.{RegFile}
use Rattle.keys.specs.Lent as tables
use Rattle.machine.specs.Machine.{Env}
use Rattle.machine.specs.Rules.{next}
use Rattle.machine.specs.CryptoRules.{asking, check_of}
use Rattle.machine.specs.Lent.{Bufs, bufs}
use Rattle.machine.proofs.TurnLaws.{paid_is}
use Rattle.ops_crypto.specs.PayLaws.{Priced}
use Rattle.ops_crypto.specs.CheckLaws.{check_pays}
use Rattle.ops_crypto.proofs.check.check.Goals as goal
use Rattle.ops_crypto.proofs.check.check.Goals.{After-pay, Start}

-- a limit is a word
limit_fits : (c : Start) → c.args.run.meter.limit < 2 ^ 64
limit_fits c = omega (arith, c.well_formed.1.0)

abbrev registers : Start → RegFile
registers c = file c.args.regs.now

abbrev lent_at : Start → (stack : List ℕ) → tables.KeyBufs → (log : List ℕ) → Bufs
lent_at c stack ks log = bufs c.args.memory.now stack ks log

pays : (c : After-pay) (e : Env) (stack log : List ℕ) (d : ℕ) (ks : tables.KeyBufs) → e.host ≡ c.args.host → Priced e c.args.replies.now d (registers (goal.at-After-pay c).Start) c.args.run (lent_at (goal.at-After-pay c).Start stack ks log) (check_of e c.args.o) (λ m. asking m next) c.pay.result
pays c e stack log d ks host =
    check_pays e c.args.replies.now d (registers (goal.at-After-pay c).Start) c.args.o c.args.run (lent_at (goal.at-After-pay c).Start stack ks log) (limit_fits (goal.at-After-pay c).Start) _ (rw host c.price-p.ensures) _ c.pay.ensures

pub returns-in_default : goal.returns-in_default
returns-in_default c =
    λ e stack log d ks host.
    (pays (goal.at-returns-in_default c).After-pay e stack log d ks host).off _ _ c.in_default.is c.stop.ensures

pub ask-requires : goal.ask-requires
ask-requires c = rw (paid_is c.args.run _ _ _ c.pay.ensures c.in-Some.is) c.requires

pub returns : goal.returns
returns c =
    λ e stack log d ks host.
    (pays (goal.at-returns c).After-pay e stack log d ks host).on _ _ _ c.in-Some.is (c.ask.ensures.turn e stack log d ks (registers (goal.at-returns c).Start))
