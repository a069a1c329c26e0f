-- What an accepted opening starts from; a refused one has a number. Assumes nothing.
use Rattle.std.proofs.Math.Path.{◌≡◌, refl}
use Rattle.std.specs.Prelude.{Bool, true, false, not, ℕ, ◌≤◌, leb, eqb, length}
use mathlib.Core.List.{List, [], ◌∷◌}
use native.Mathlib.Omega.{arith}
use Rattle.std.proofs.lemmas.Bool.{eqb-false}
use Rattle.words.specs.Choice.{both}
use Rattle.words.specs.Lists.{member}
use Rattle.meter.specs.Prices.{dispatch_price}
use Rattle.container.specs.Container.{Entry, Container, slot_count}
use Rattle.container.specs.Reader.{Read, done, refused, read_of}
use Rattle.container.specs.Answers.{read_error}
use Rattle.container.specs.declared.reader.ReadError.{ReadError}
use Rattle.container.specs.declared.reader.ReadError.TheVariants as reading
use Rattle.machine.specs.Machine.{Env, Machine}
use Rattle.starts.specs.Starts.{starts_of}
use Rattle.opening.specs.Opening.{Input, Lent, Opening, refuse, start, must, sizes_fit, tables_number, within, matching, env_of, machine_for, opening_at, opening_one, opening_in, opening_read, opening_of}

-- a container that was read and an entry of it, whose environment and first machine these are
pub record StartedFrom (x : Input) (b : Lent) (e : Env) (m : Machine) : Type 0 where
  pub container : Container
  pub entry : Entry
  pub is_read : read_of x.container ≡ done container
  pub env : e ≡ env_of x b container entry
  pub machine : m ≡ machine_for x container entry

-- what is started passed every condition
passed : (ok : Bool) (n : ℕ) (o : Opening) (e : Env) (m : Machine) → must ok n o ≡ start e m → o ≡ start e m
passed true n o e m h = h
passed false n o e m h = absurd (let z : ◌≡◌ {A = ℕ} 0 1 = cc in omega arith)

module _ (x : Input) (b : Lent) (e : Env) (m : Machine) where
  at_entry : (c : Container) (en : Entry) → read_of x.container ≡ done c → opening_at x b c en ≡ start e m → StartedFrom x b e m
  unfolding opening_at
  at_entry c en r h =
      let k : start (env_of x b c en) (machine_for x c en) ≡ start e m =
      passed (member en.offset (starts_of c.code)) 14 _ e m
      (passed (leb (dispatch_price (length c.code)) x.limit) 1 _ e m
      (passed (leb (slot_count en) 4096) 14 _ e m h)) in
      record { container = c; entry = en; is_read = r; env = cc; machine = cc }

  in_list : (c : Container) (es : List Entry) → read_of x.container ≡ done c → opening_one x b c es ≡ start e m → StartedFrom x b e m
  unfolding opening_one
  in_list c [] r h = absurd (let z : ◌≡◌ {A = ℕ} 0 1 = cc in omega arith)
  in_list c (en ∷ []) r h = at_entry c en r h
  in_list c (en ∷ f ∷ es) r h = absurd (let z : ◌≡◌ {A = ℕ} 0 1 = cc in omega arith)

  pub starts_from_lem : opening_of x b ≡ start e m → StartedFrom x b e m
  unfolding opening_of opening_read opening_in
  starts_from_lem h = go (read_of x.container) refl (passed (sizes_fit b) 44 _ e m h)
    where
      go : (r : Read) → read_of x.container ≡ r → opening_read x b r ≡ start e m → StartedFrom x b e m
      go (refused y) q k = absurd (let z : ◌≡◌ {A = ℕ} 0 1 = cc in omega arith)
      go (done c) q k =
          in_list c (matching x.selector c.entries) q
          (passed (within c) 14 _ e m
          (passed (not (both x.entry (eqb x.selector x.host.genesis))) 9 _ e m
          (passed (eqb (tables_number x) 0) (tables_number x) _ e m k)))

-- ---- a refusal's number is not 0

abbrev pub Numbered : Opening → Type 0
Numbered (refuse n) = 1 ≤ n.number
Numbered (start e m) = Unit {0}

must_number : (ok : Bool) (n : ℕ) (o : Opening) → 1 ≤ n → Numbered o → Numbered (must ok n o)
must_number true n o h k = k
must_number false n o h k = h

-- a number that is a refusal unless it is 0
number_number : (n : ℕ) (o : Opening) → Numbered o → Numbered (must (eqb n 0) n o)
number_number n o k = go (eqb n 0) refl
  where
    go : (t : Bool) → eqb n 0 ≡ t → Numbered (must t n o)
    go true q = k
    go false q = omega (arith, eqb-false n 0 q)

module _ (x : Input) (b : Lent) where
  entry_numbered : (c : Container) (es : List Entry) → Numbered (opening_one x b c es)
  unfolding opening_one opening_at
  entry_numbered c [] = omega arith
  entry_numbered c (en ∷ []) =
      must_number (leb (slot_count en) 4096) 14 _ (omega arith)
      (must_number (leb (dispatch_price (length c.code)) x.limit) 1 _ (omega arith)
      (must_number (member en.offset (starts_of c.code)) 14 _ (omega arith) tt))
  entry_numbered c (en ∷ f ∷ es) = omega arith

  pub refusals_numbered : Numbered (opening_of x b)
  unfolding opening_of opening_read opening_in
  refusals_numbered = must_number (sizes_fit b) 44 _ (omega arith) (go (read_of x.container))
    where
      unread : (y : ReadError) → 1 ≤ (read_error y).number
      unread reading.BadTag = omega arith
      unread reading.Short = omega arith
      unread reading.Trailing = omega arith

      go : (r : Read) → Numbered (opening_read x b r)
      go (refused y) = unread y
      go (done c) =
          number_number (tables_number x) _
          (must_number (not (both x.entry (eqb x.selector x.host.genesis))) 9 _ (omega arith)
          (must_number (within c) 14 _ (omega arith) (entry_numbered c (matching x.selector c.entries))))
