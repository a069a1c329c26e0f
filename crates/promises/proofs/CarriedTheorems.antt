-- Demand 3 over the contract of a call, as its callers learn it. Assumes nothing.
use Rattle.std.specs.Prelude.{◌≡◌}
use contract.Lifetimes.{Lfts}
use denote.Triple.Clauses.{Lasts, at_exit}
use borrow.Fn.Kinds.{Dens, res_t, ended_of}
use Rattle.keys.specs.Lent as tables
use Rattle.container.specs.Container.{Container}
use Rattle.container.specs.Reader.{done, read_of}
use Rattle.opening.specs.Opening.{Input, Lent, opening_of}
use Rattle.opening.specs.Opened.{input_of}
use Rattle.interp.specs.Call.{called, call_of, lent_as}
use Rattle.interp.proofs.call.run.Kinds as kinds
use Rattle.interp.proofs.call.run.Reads as reads
use Rattle.promises.specs.Promised.{Promised}
use Rattle.promises.proofs.CallTheorems.{promised}

module _ (κs : Lfts 14) (a : Dens κs kinds.ps) where
  -- the arguments as a call's input, and the buffers at entry and at exit
  abbrev pub given : Input
  given = input_of a.0 a.1.0.now a.1.1.0.now a.1.1.1.0.now a.1.1.1.1.0.now a.1.1.1.1.1.0.now

  abbrev pub lent : Lent
  lent =
      let w = a.1.1.1.1.1.1 in
      lent_as w.0.now w.1.0.now
      (tables.key_bufs w.1.1.1.0.now w.1.1.1.1.0.now w.1.1.1.1.1.0.now w.1.1.1.1.1.1.0.now w.1.1.1.1.1.1.1.0.now) w.1.1.1.1.1.1.1.1.0.now w.1.1.0.now

  abbrev Exits : Type 0
  Exits = Lasts (ended_of 14 kinds.ps kinds.r) κs a

  abbrev pub left : Exits → Lent
  left u =
      let w = u.1.1.1.1.1.1 in
      lent_as w.0 w.1.0
      (tables.key_bufs w.1.1.1.0 w.1.1.1.1.0 w.1.1.1.1.1.0 w.1.1.1.1.1.1.0 w.1.1.1.1.1.1.1.0) w.1.1.1.1.1.1.1.1.0 w.1.1.0

  -- what a caller learns of the answer x and of the buffers at exit
  abbrev Told : (res_t kinds.r κs).Denot → Exits → Type 0
  Told x u = reads.Learnt κs a x (at_exit (ended_of 14 kinds.ps kinds.r) κs a u)

  -- the call's answer, and every buffer at its exit, are the machine's
  pub run_called : (x : (res_t kinds.r κs).Denot) (u : Exits) → Told x u → called x (left u) ≡ call_of given lent
  run_called x u learnt = learnt

  pub run_promised : (x : (res_t kinds.r κs).Denot) (u : Exits) → Told x u → (c : Container) → read_of given.container ≡ done c →
      Promised given lent c (opening_of given lent) (called x (left u))
  run_promised x u learnt c r = rw (run_called x u learnt) (promised given lent c r)
