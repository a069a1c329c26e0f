-- `begin` meets its contract. Assumes nothing.
use borrow.Author.Rules.{rules}
use native.Mathlib.Omega.{arith}
use Rattle.std.proofs.Math.Path.{ap}
use Rattle.opening.specs.Opening.{Lent}
use Rattle.starts.proofs.StartsLaws.{marks_starts}
use Rattle.interp.specs.BufferLaws.{preload_wiped}
use Rattle.interp.proofs.begin.begin.Goals as goal

pub returns-clause-begins : goal.returns-clause-begins
returns-clause-begins c =
    let a = c.args in
    let z = c.wipe_work.ensures.wiped in
    record {
      memory = preload_wiped a.work.now.memory.now a.preload.now _ _ (ap (λ (b : Lent). b.run.memory) z) c.preload.ensures;
      stack = ap (λ (b : Lent). b.run.stack) z;
      changes = search (rules, ap (λ (b : Lent). b.run.keys.changes) z);
      fetched = ap (λ (b : Lent). b.run.keys.fetched) z;
      readable = ap (λ (b : Lent). b.run.keys.may_read) z;
      writable = ap (λ (b : Lent). b.run.keys.may_write) z;
      paid = ap (λ (b : Lent). b.run.keys.paid) z;
      log = search (rules, ap (λ (b : Lent). b.run.log) z);
      starts = marks_starts a.code.now 65536 (λ i. (c.type_inv.code i).fits) (omega arith) _ _ _ (ap (λ (b : Lent). b.starts) z) c.scan.ensures.map;
    }
