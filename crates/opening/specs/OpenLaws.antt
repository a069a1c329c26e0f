-- What each refusal of the code's opening says of document 01's, and what it starts from. Assumes nothing.
use Rattle.std.specs.Prelude.{◌≡◌, refl, Bool, true, false, ℕ, ◌-◌, ◌+◌, ◌^◌, ◌≤◌, ◌<◌, min, leb, eqb, length, take, drop, Result, Ok, Err, IsErrAnd}
use Rattle.std.proofs.Common.{sym, ◌∙◌, arith, le-leb}
use Rattle.std.proofs.Math.Path.{ap, subst}
use mathlib.Core.List.{List, []}
use Rattle.std.proofs.Math.Nat.{min-eq_left, add-sub_cancel_left}
use Rattle.std.proofs.lemmas.Bool.{lt-leb}
use Rattle.words.specs.Bytes.{Bytes}
use Rattle.words.specs.Choice.{pick, both}
use Rattle.words.specs.Lists.{member}
use Rattle.words.specs.declared.refusal.Refusal.{Refusal}
use Rattle.meter.specs.Prices.{dispatch_price}
use Rattle.container.specs.Container.{Entry, Container, slot_count}
use Rattle.container.specs.Reader.{read, entries, refused, read_of, layout_of}
use Rattle.container.specs.Entries.{placed, slots_of}
use Rattle.container.specs.ReadToldLaws.{ReadTold, laid, code_within}
use Rattle.container.specs.Answers.{read_error}
use Rattle.container.specs.declared.reader.Layout.{Layout}
use Rattle.container.specs.declared.reader.ReadError.{ReadError}
use Rattle.container.specs.declared.entries.EntryLayout.{EntryLayout}
use Rattle.keys.specs.declared.look.TableRows.{TableRows}
use Rattle.starts.specs.Starts.{starts_of}
use Rattle.opening.specs.Opening.{Input, Lent, start, must, within, env_of, machine_for, opening_read, opening_in, opening_one, opening_at}
use Rattle.opening.specs.Opened.{input_of, ToldOf, numbered, Opens}
use Rattle.opening.specs.Parts.{Checks, SoughtTold, OpensIn, Searched, Beginning, OpensAt}
use Rattle.opening.specs.SizeLaws.{code_small}
use Rattle.opening.specs.StandingLaws.{entry_stands, consts_stand}
use Rattle.opening.specs.declared.open.Call.{Call}
use Rattle.opening.specs.declared.open.Opened.{Opened}
use Rattle.state.specs.Faults.{fault_refusal}
use Rattle.state.specs.declared.fault.Fault.{Fault}
use Rattle.state.specs.declared.fault.Fault.TheVariants.{UnknownSelector, Malformed, OutOfMeter}
use Rattle.opening.specs.NotOne.{not_one_fault}
use Rattle.opening.specs.declared.unique_entry.NotOne.{NotOne}

-- ---- the container and the tables

module _ (c : Call) (s st ld rp : List ℕ) where
  -- the refusals that `?` hands on as numbers
  pub unreadable : (e : ReadError) → read_of s ≡ refused e → (r : Result Opened Refusal) → IsErrAnd r (λ y. y ≡ read_error e) → Opens c s st ld rp r
  unfolding opening_read
  unreadable e h (Ok o) q = absurd q
  unreadable e h (Err n) q = λ pre b. rw (h, q)

  pub numbered_err : (o : Result Opened Fault) (n : Fault) → o ≡ Err n → Opens c s st ld rp (numbered o) →
      (r : Result Opened Refusal) → IsErrAnd r (λ y. y ≡ fault_refusal n) → Opens c s st ld rp r
  numbered_err o n h k (Ok x) q = absurd q
  numbered_err o n h k (Err y) q = rw (h, ← q) at k

  module _ (l : Layout) (r : ReadTold s l) where
    opened : (pre : List ℕ) (b : Lent) → opening_read (input_of c s st ld rp pre) b (read_of s) ≡ opening_in (input_of c s st ld rp pre) b r.found
    unfolding opening_read
    opened pre b = rw r.is

    module _ (t : Result TableRows Fault) (k : Checks c st ld rp t) where
      pub bad_tables : (n : Fault) → t ≡ Err n → (r : Result Opened Refusal) → IsErrAnd r (λ y. y ≡ fault_refusal n) → Opens c s st ld rp r
      unfolding opening_in
      bad_tables n e (Ok o) q = absurd q
      bad_tables n e (Err y) q = λ pre b. let h = subst (Checks c st ld rp) e k s pre in opened pre b ∙ rw (h.is, h.some, q, h.tells)

      pub entered : (n : TableRows) → t ≡ Ok n → Bytes s → (o : Result Opened Fault) →
          OpensIn c l n s (take (l.code_at + l.code - l.code_at) (drop l.code_at s)) o → Opens c s st ld rp (numbered o)
      entered n e all o q = λ pre b. q st ld rp pre b (record {
        read = r;
        bytes = all;
        code = (laid s l r).code;
        tables = subst (Checks c st ld rp) e k s pre;
        is = opened pre b;
      })

-- ---- the selector, the sizes, the entries

module _ (c : Call) (l : Layout) (n : TableRows) (s code : List ℕ) where
  pub genesis : both c.entry (eqb c.selector c.host.genesis) ≡ true → OpensIn c l n s code (Err UnknownSelector)
  unfolding opening_in
  genesis h = λ st ld rp pre b i. i.is ∙ rw (i.tables.number, h)

  module _ (g : both c.entry (eqb c.selector c.host.genesis) ≡ false) (small : Bool) (q : (d : Container) → l ≡ layout_of d → small ≡ within d) where
    pub too_large : small ≡ false → OpensIn c l n s code (Err Malformed)
    unfolding opening_in
    too_large h = λ st ld rp pre b i. i.is ∙ rw (i.tables.number, g, ← q i.read.found i.read.layout, h)

    pub searched : small ≡ true → (o : Result EntryLayout NotOne) →
        ((es : List Entry) (t : List ℕ) → entries l.entries (drop l.entries_at s) ≡ read es t → SoughtTold s c.selector es o) → Searched c l n s code o
    unfolding opening_in
    searched h o k = λ st ld rp pre b i. record {
      entering = i;
      small = code_small l i.read.found i.read.layout (sym (q i.read.found i.read.layout) ∙ h);
      is = i.is ∙ rw (i.tables.number, g, ← q i.read.found i.read.layout, h);
      told = k i.read.found.entries [] (laid s l i.read).entries;
    }

  module _ (o : Result EntryLayout NotOne) (k : Searched c l n s code o) where
    missing : o ≡ Err NotOne.Missing → OpensIn c l n s code (Err UnknownSelector)
    unfolding opening_one
    missing e = λ st ld rp pre b i. let x = subst (Searched c l n s code) e k st ld rp pre b i in x.is ∙ rw x.told

    twice : o ≡ Err NotOne.Twice → OpensIn c l n s code (Err Malformed)
    unfolding opening_one
    twice e = λ st ld rp pre b i. let x = subst (Searched c l n s code) e k st ld rp pre b i in x.is ∙ rw x.told.is

    -- the refusal that `?` hands on
    pub not_one : (e : NotOne) → o ≡ Err e → (r : Result Opened Fault) → IsErrAnd r (λ y. y ≡ not_one_fault e) → OpensIn c l n s code r
    not_one e h (Ok x) q = absurd q
    not_one NotOne.Missing h (Err y) q = rw q (missing h)
    not_one NotOne.Twice h (Err y) q = rw q (twice h)

    pub begins : (e : EntryLayout) → o ≡ Ok e → (r : Result Opened Fault) → OpensAt c l n e code r → OpensIn c l n s code r
    unfolding opening_one
    begins e h r a = λ st ld rp pre b i.
        let x = subst (Searched c l n s code) h k st ld rp pre b i in
        a s st ld rp pre b (record { entering = x.entering; small = x.small; at = x.told.at; entry = x.told.entry; is = x.is ∙ rw x.told.is })

-- ---- the entry

module _ (x : Input) (b : Lent) (l : Layout) (n : TableRows) (e : EntryLayout) (part : List ℕ) (i : Beginning x b l n e part) where
  slots : slots_of e ≡ slot_count i.entry.found
  unfolding slot_count placed
  slots = rw i.entry.layout

  offset : e.offset ≡ i.entry.found.offset
  unfolding placed
  offset = ap (λ (m : EntryLayout). m.offset) i.entry.layout

  size : l.code ≡ length i.entering.read.found.code
  unfolding layout_of
  size = ap (λ (m : Layout). m.code) i.entering.read.layout

  -- the price of as little code is no more than a word
  price : (used : ℕ) → used ≡ min (dispatch_price l.code) (2 ^ 64 - 1) → used ≡ dispatch_price (length i.entering.read.found.code)
  price used h = h ∙ min-eq_left (omega (arith, i.small)) ∙ ap dispatch_price size

  -- what three tests decide
  tested : (used : ℕ) → used ≡ min (dispatch_price l.code) (2 ^ 64 - 1) →
      opening_read x b (read_of x.container)
      ≡ must (leb (slots_of e) 4096) 14 (must (leb used x.limit) 1 (must (member e.offset (starts_of part)) 14
      (start (env_of x b i.entering.read.found i.entry.found) (machine_for x i.entering.read.found i.entry.found))))
  unfolding opening_at
  tested used p = i.is ∙ rw (slots, price used p, offset, i.entering.code)

  found : (used : ℕ) → used ≡ min (dispatch_price l.code) (2 ^ 64 - 1) → used ≤ x.limit →
      opening_read x b (read_of x.container) ≡ start (env_of x b i.entering.read.found i.entry.found) (machine_for x i.entering.read.found i.entry.found) →
      ToldOf x b (Ok (record { layout = l; entry = e; lent = n; used = used }))
  found used p a is =
      let r = i.entering.read in
      let s = entry_stands x.container i.at e i.entry i.entering.bytes in
      let cut : l.code_at + l.code - l.code_at ≡ l.code = add-sub_cancel_left l.code_at l.code in
      record {
        container = r.found;
        entry = i.entry.found;
        is = is;
        code_within = omega (arith, code_within x.container l r);
        code = rw cut at (laid x.container l r).code;
        code_small = omega (arith, size, i.small);
        consts = consts_stand x.container l r;
        reads = s.reads;
        writes = s.writes;
        keyed_reads = s.keyed_reads;
        keyed_writes = s.keyed_writes;
        offset = offset;
        offset_small = s.offset;
        store = i.entering.tables.store;
        has_loader = i.entering.tables.has_loader;
        loader = i.entering.tables.loader;
        used = price used p;
        afford = rw (price used p) at a;
      }

module _ (c : Call) (l : Layout) (n : TableRows) (e : EntryLayout) (code : List ℕ) where
  pub many_slots : leb (slots_of e) 4096 ≡ false → OpensAt c l n e code (Err Malformed)
  many_slots h = λ s st ld rp pre b i. tested _ b l n e code i _ refl ∙ rw h

  module _ (f : leb (slots_of e) 4096 ≡ true) (used : ℕ) (p : used ≡ min (dispatch_price l.code) (2 ^ 64 - 1)) where
    pub too_dear : c.limit < used → OpensAt c l n e code (Err OutOfMeter)
    too_dear h = λ s st ld rp pre b i. tested _ b l n e code i used p ∙ rw (f, lt-leb used c.limit h)

    -- the offset decides
    pub at_offset : used ≤ c.limit → (t : Bool) → member e.offset (starts_of code) ≡ t →
        OpensAt c l n e code (pick t (Ok (record { layout = l; entry = e; lent = n; used = used })) (Err Malformed))
    at_offset a true h = λ s st ld rp pre b i. found _ b l n e code i used p a (tested _ b l n e code i used p ∙ rw (f, le-leb used c.limit a, h))
    at_offset a false h = λ s st ld rp pre b i. tested _ b l n e code i used p ∙ rw (f, le-leb used c.limit a, h)
