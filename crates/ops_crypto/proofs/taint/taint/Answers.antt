-- `ops_crypto::taint::taint` meets its contract: base, region, plan, price, cap and room, each way out the rule's. Assumes nothing.
use Rattle.std.specs.Prelude.{ℕ, Option}
use mathlib.Core.Path.{◌≡◌, sym, ap, subst}
use mathlib.Core.Bool.{false}
use mathlib.Core.List.{List, []}
use Prim.Native.Nat.{ℕ, ◌≤◌}
use native.Mathlib.Omega.{arith}
use Rattle.words.specs.Bytes.{num}
use Rattle.state.specs.declared.regs.RegFile.{RegFile}
use Rattle.keys.specs.Lent.{Given, key_bufs, given}
use Rattle.keys.specs.KeyLaws.{key_ready}
use Rattle.keys.specs.declared.look.TableRows.{TableRows}
use Rattle.machine.specs.Machine.{Env}
use Rattle.machine.specs.CryptoRules.{tainting}
use Rattle.machine.specs.Lent.{Bufs, lent_to}
use Rattle.machine.specs.Does.{DoesFrom, puts}
use Rattle.machine.proofs.TurnLaws.{paid_is}
use Rattle.machine.specs.declared.run.Run.{Run}
use Rattle.machine.specs.declared.turn.Turn.{Turn}
use Rattle.ops_crypto.specs.Taints.{admitting}
use Rattle.ops_crypto.specs.TaintLaws.{admit_not, admit_unpaid, taint_none, taint_outside, taint_inside}
use Rattle.ops_crypto.specs.AuthoriseLaws.{authorise_capped, authorise_full, authorise_done}
use borrow.Author.Tests.{not-true, not-false}
use Rattle.ops_crypto.proofs.taint.taint.Goals as goal
use Rattle.ops_crypto.proofs.taint.taint.Goals.{After-struct_known-2-1, In-Some-mem_key, Start}

-- what a run is given about keys, the bytes lent, the key
abbrev given_at : Start → (rd wr st ld : List ℕ) → Given
given_at c rd wr st ld = let a = c.args in given rd wr a.keyed_reads.now a.keyed_writes.now st ld

abbrev lent_at : Start → (stack ch fe pd log : List ℕ) → Bufs
lent_at c stack ch fe pd log = let a = c.args in lent_to a.memory.now stack ch fe a.readable.now a.writable.now pd log

abbrev base_at : In-Some-mem_key → ℕ
base_at c = c.in-Some.n

abbrev key_at : In-Some-mem_key → List ℕ
key_at c = c.in-Some-mem_key.key.now

-- the store and the loader are not looked at
nothing_lent : TableRows
nothing_lent = record { store = 0; has_loader = false; loader = 0 }

-- a claim of the key in place of one of base and output
on_key : (c : In-Some-mem_key) (e : Env) (s stack ch fe pd log : List ℕ) (d : ℕ) (f : RegFile) (a : Bufs) (t : Turn) → let r = c.args in
    DoesFrom e s d (admitting e (base_at c) (num (key_at c))) r.run f (puts r.put f) (lent_at (goal.at-In-Some-mem_key c).Start stack ch fe pd log) a t
    → DoesFrom e s d (tainting e r.base r.out) r.run f (puts r.put f) (lent_at (goal.at-In-Some-mem_key c).Start stack ch fe pd log) a t
on_key c e s stack ch fe pd log d f a t h =
    let r = c.args in
    subst (λ (z : Option ℕ). DoesFrom e s d (tainting e z r.out) r.run f (puts r.put f) (lent_at (goal.at-In-Some-mem_key c).Start stack ch fe pd log) a t)
    (sym c.in-Some.is)
    (taint_inside e s d f r.run r.put (lent_at (goal.at-In-Some-mem_key c).Start stack ch fe pd log) (base_at c) r.out _ a t c.in-Some-mem_key.ensures.0 c.in-Some-mem_key.ensures.1 h)

pub returns-in_default : goal.returns-in_default
returns-in_default c =
    let a = c.args in
    λ e s rd wr st ld stack ch fe pd log d f l ek.
    rw c.in_default.is (taint_none e s d f a.run a.put (lent_at (goal.at-returns-in_default c).Start stack ch fe pd log) a.out _ c.go_with.ensures)

pub returns-in_default-mem_key : goal.returns-in_default-mem_key
returns-in_default-mem_key c =
    let a = c.args in
    λ e s rd wr st ld stack ch fe pd log d f l ek.
    rw c.in-Some.is
    (taint_outside e s d f a.run a.put (lent_at (goal.at-returns-in_default-mem_key c).Start stack ch fe pd log) _ a.out _ c.in_default-mem_key.ensures c.go_with-in_default-mem_key.ensures)

pub plan_authorise-plan-requires : goal.plan_authorise-plan-requires
plan_authorise-plan-requires c =
    let good = c.requires.1.3 in (good.may_read.table, good.may_write.table)

pub returns-then-not-plan : goal.returns-then-not-plan
returns-then-not-plan c =
    let a = c.args in
    λ e s rd wr st ld stack ch fe pd log d f l ek.
    on_key (goal.at-returns-then-not-plan c).In-Some-mem_key e s stack ch fe pd log d f _ _
    (admit_not e s d f a.run a.put (lent_at (goal.at-returns-then-not-plan c).Start stack ch fe pd log) l (given_at (goal.at-returns-then-not-plan c).Start rd wr st ld) ek (base_at (goal.at-returns-then-not-plan c).In-Some-mem_key) (num (key_at (goal.at-returns-then-not-plan c).In-Some-mem_key)) _ _
    (λ so. c.plan_authorise-plan.ensures l rd wr st ld ch fe pd so.tables) (not-true _ c.if-not-plan.true) c.go_with-then-not-plan.ensures)

pub returns-in_default-pay : goal.returns-in_default-pay
returns-in_default-pay c =
    let a = c.args in
    λ e s rd wr st ld stack ch fe pd log d f l ek.
    on_key (goal.at-returns-in_default-pay c).In-Some-mem_key e s stack ch fe pd log d f _ _
    (admit_unpaid e s d f a.run a.put (lent_at (goal.at-returns-in_default-pay c).Start stack ch fe pd log) l (given_at (goal.at-returns-in_default-pay c).Start rd wr st ld) ek (base_at (goal.at-returns-in_default-pay c).In-Some-mem_key) (num (key_at (goal.at-returns-in_default-pay c).In-Some-mem_key)) _
    (not-false _ c.if-not-plan.false) _ c.pay.ensures _ _ (λ so. c.plan_authorise-plan.ensures l rd wr st ld ch fe pd so.tables)
    c.in_default-pay.is c.stop.ensures)

-- the run that paid, and that it has the same keys and total
abbrev rest_at : After-struct_known-2-1 → Run
rest_at c = c.in-Some-pay.rest

keyed_is : (c : After-struct_known-2-1) → (rest_at c).keyed ≡ c.args.run.keyed
keyed_is c = ap (λ (x : Run). x.keyed) (paid_is c.args.run _ _ _ c.pay.ensures c.in-Some-pay.is)

few : (c : After-struct_known-2-1) → (rest_at c).keyed ≤ 1048576
few c = omega (arith, keyed_is c, c.requires.0)

pub overflow_sub-rest : goal.overflow_sub-rest
overflow_sub-rest c = omega (arith, few c)

pub returns-then-rest-plan : goal.returns-then-rest-plan
returns-then-rest-plan c =
    let a = c.args in
    λ e s rd wr st ld stack ch fe pd log d f l ek.
    on_key (goal.at-returns-then-rest-plan c).In-Some-mem_key e s stack ch fe pd log d f _ _
    (authorise_capped e s d f a.run a.put (lent_at (goal.at-returns-then-rest-plan c).Start stack ch fe pd log) l (given_at (goal.at-returns-then-rest-plan c).Start rd wr st ld) ek (base_at (goal.at-returns-then-rest-plan c).In-Some-mem_key) (num (key_at (goal.at-returns-then-rest-plan c).In-Some-mem_key)) _
    (not-false _ c.if-not-plan.false) _ c.pay.ensures (λ so. c.plan_authorise-plan.ensures l rd wr st ld ch fe pd so.tables) _ c.in-Some-pay.is (few (goal.at-returns-then-rest-plan c).After-struct_known-2-1)
    _ _ c.stop-then-rest-plan.ensures c.if-rest-plan.true)

pub returns-then-not-plan-2 : goal.returns-then-not-plan-2
returns-then-not-plan-2 c =
    let a = c.args in
    λ e s rd wr st ld stack ch fe pd log d f l ek.
    on_key (goal.at-returns-then-not-plan-2 c).In-Some-mem_key e s stack ch fe pd log d f _ _
    (authorise_full e s d f a.run a.put (lent_at (goal.at-returns-then-not-plan-2 c).Start stack ch fe pd log) l (given_at (goal.at-returns-then-not-plan-2 c).Start rd wr st ld) ek (base_at (goal.at-returns-then-not-plan-2 c).In-Some-mem_key) (num (key_at (goal.at-returns-then-not-plan-2 c).In-Some-mem_key)) _
    (not-false _ c.if-not-plan.false) _ c.pay.ensures (λ so. c.plan_authorise-plan.ensures l rd wr st ld ch fe pd so.tables) _ c.in-Some-pay.is (few (goal.at-returns-then-not-plan-2 c).After-struct_known-2-1)
    c.if-rest-plan.false _ _ c.stop-then-not-plan-2.ensures (not-true _ c.if-not-plan-2.true))

pub overflow_add-keyed : goal.overflow_add-keyed
overflow_add-keyed c = omega (arith, few (goal.at-overflow_add-keyed c).After-struct_known-2-1, c.if-rest-plan.false)

pub authorise-counts-requires : goal.authorise-counts-requires
authorise-counts-requires c =
    let a = c.args in
    let lists = c.requires.1 in
    rw (ap (λ (x : Run). x.counts) (paid_is a.run _ _ _ c.pay.ensures c.in-Some-pay.is))
    (key_ready nothing_lent (given_at (goal.at-authorise-counts-requires c).Start [] [] [] []) a.run.counts (key_bufs lists.0 lists.1 a.readable.now a.writable.now lists.2) lists.3 (base_at (goal.at-authorise-counts-requires c).In-Some-mem_key) (num (key_at (goal.at-authorise-counts-requires c).In-Some-mem_key)) _
    (c.plan_authorise-plan.ensures nothing_lent [] [] [] [] lists.0 lists.1 lists.2 lists.3) (not-false _ c.if-not-plan-2.false))

pub returns : goal.returns
returns c =
    let a = c.args in
    let kept = c.authorise-counts.auto in
    λ e s rd wr st ld stack ch fe pd log d f l ek.
    on_key (goal.at-returns c).In-Some-mem_key e s stack ch fe pd log d f _ _
    (authorise_done e s d f a.run a.put (lent_at (goal.at-returns c).Start stack ch fe pd log) l (given_at (goal.at-returns c).Start rd wr st ld) ek (base_at (goal.at-returns c).In-Some-mem_key) (num (key_at (goal.at-returns c).In-Some-mem_key)) _
    (not-false _ c.if-not-plan.false) _ c.pay.ensures (λ so. c.plan_authorise-plan.ensures l rd wr st ld ch fe pd so.tables) _ c.in-Some-pay.is (few (goal.at-returns c).After-struct_known-2-1)
    c.if-rest-plan.false _ _ _ kept.readable kept.writable _ c.go_with-2.ensures (not-false _ c.if-not-plan-2.false)
    (λ so z. c.authorise-counts.ensures l (given_at (goal.at-returns c).Start rd wr st ld) (base_at (goal.at-returns c).In-Some-mem_key) ch fe pd so.tables z))
