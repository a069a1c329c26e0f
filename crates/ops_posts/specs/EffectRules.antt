-- Send and Emit as one way for both kinds, from the region to the record; and what the code claims of it.
use Rattle.std.specs.Prelude.{List, ℕ, ◌+◌, ◌*◌, leb, eqb, length, take, drop}
use Rattle.words.specs.Choice.{pick}
use Rattle.state.specs.Regs.{file}
use Rattle.state.specs.Memory.{inside}
use Rattle.state.specs.declared.regs.RegFile.{RegFile}
use Rattle.keys.specs.Lent as tables
use Rattle.effects.specs.Log.{Effect}
use Rattle.effects.specs.Targets.{target_of}
use Rattle.machine.specs.Machine.{Env, Machine, posted_to}
use Rattle.machine.specs.Rules.{Rule, need, pay}
use Rattle.machine.specs.PostRules.{target_price, event_price, total_with, posting, post_of}
use Rattle.machine.specs.Lent.{Bufs, bufs}
use Rattle.machine.specs.SoundLaws.{with_records}
use Rattle.machine.specs.Does.{Does}
use Rattle.machine.specs.declared.action.Post.{Post}
use Rattle.machine.specs.declared.run.Run.{Run}
use Rattle.machine.specs.declared.turn.Turn.{Turn}

abbrev pub effect : (kind word : ℕ) → List ℕ → Effect
effect kind word bytes = record { kind = kind; word = word; bytes = bytes }

-- what is left to pay after the total, in one sum
unfoldable pub later_price : Effect → List Effect → ℕ
later_price x es = pick (eqb x.kind 0) (target_price (target_of x) es) (98 * length x.bytes + target_price (target_of x) es + event_price es)

-- the bytes and 32 into the total (11), then what is left to pay, then the record
abbrev pub totalling : Env → Effect → Machine → Rule
totalling e x m = need (leb (total_with x m) 1048576) 11 (pay (later_price x m.effects) (posting e x (posted_to m (total_with x m))))

-- 2 a byte, then the total
abbrev pub charging : Env → Effect → Machine → Rule
charging e x m = pay (2 * length x.bytes) (totalling e x m)

-- an effect with the bytes of a region of this memory (6)
abbrev pub placing : Env → (kind word : ℕ) → List ℕ → (at n : ℕ) → Machine → Rule
placing e kind word mem at n m = need (inside (length mem) at n) 6 (charging e (effect kind word (take n (drop at mem))) m)

-- r, with the log u after t, is what a rule comes to, whatever the rest of the state is
pub record Comes (rule : Env → Machine → Rule) (run : Run) (t u : List ℕ) (r : Turn) : Type 0 where
  pub turned : (e : Env) (s : List ℕ) (d : ℕ) (f : RegFile) (b : Bufs) → Does e s d (rule e) run f (with_records b t) (with_records b u) r

-- the same of a Send or Emit, from these registers and this memory
abbrev pub Posts : Post → Run → (regs memory t u : List ℕ) → Turn → Type 0
Posts o run regs mem t u r =
    (e : Env) (s stack : List ℕ) (d : ℕ) (ks : tables.KeyBufs) → Does e s d (post_of e o) run (file regs) (bufs mem stack ks t) (bufs mem stack ks u) r
