-- What the code's turns are: the rules' steps, whatever stands in the buffers that they do not touch.
use Rattle.std.specs.Prelude.{◌≡◌, List, ℕ, ◌/◌, ltb, length, take, drop, get_or}
use Rattle.words.specs.Bytes.{num, words_of}
use Rattle.starts.specs.Marks.{Holds}
use Rattle.keys.specs.Lent as tables
use Rattle.state.specs.Regs.{file}
use Rattle.state.specs.Memory.{inside, stored_at}
use Rattle.state.specs.declared.regs.RegFile.{RegFile}
use Rattle.machine.specs.Machine.{Env, Machine, reg_to, memory_to}
use Rattle.machine.specs.Rules.{Rule, next, need}
use Rattle.machine.specs.MoveRules.{pushing, popping, move_of}
use Rattle.machine.specs.JumpRules.{jumping, jump_of}
use Rattle.machine.specs.Lent.{bufs}
use Rattle.machine.specs.Does.{Does}
use Rattle.machine.specs.declared.run.Run.{Run}
use Rattle.machine.specs.declared.turn.Turn.{Turn}
use Rattle.machine.specs.declared.action.Move.{Move}
use Rattle.machine.specs.declared.action.Jump.{Jump}

-- what a run stands in, beside memory and stack
pub record Around : Type 0 where
  pub env : Env
  pub replies : List ℕ
  pub above : ℕ
  pub keys : tables.KeyBufs
  pub log : List ℕ

-- a rule does this to memory and stack, whatever is around them
abbrev pub DoesIn : Around → Run → RegFile → (mem st mem' st' : List ℕ) → (Machine → Rule) → Turn → Type 0
DoesIn x r f mem st mem' st' rule t = Does x.env x.replies x.above rule r f (bufs mem st x.keys x.log) (bufs mem' st' x.keys x.log) t

-- ---- moves

abbrev pub constant_of : Env → (d k : ℕ) → Machine → Rule
constant_of e d k m = need (ltb k (length e.consts)) 8 (next (reg_to m d (get_or e.consts k 0)))

abbrev pub Constants : Run → List ℕ → (d k : ℕ) → Turn → Type 0
Constants r consts d k t =
    (x : Around) (f : RegFile) (mem st : List ℕ) → x.env.consts ≡ words_of (length consts / 8) consts → DoesIn x r f mem st mem st (constant_of x.env d k) t

abbrev pub Pushes : Run → ℕ → (st st' : List ℕ) → Turn → Type 0
Pushes r v st st' t = (x : Around) (f : RegFile) (mem : List ℕ) → DoesIn x r f mem st mem st' (λ m. pushing m v next) t

abbrev pub Pops : Run → ℕ → List ℕ → Turn → Type 0
Pops r d st t = (x : Around) (f : RegFile) (mem : List ℕ) → DoesIn x r f mem st mem st (λ m. popping m (λ v p. next (reg_to p d v))) t

abbrev pub MemoryLoads : Run → (d at : ℕ) → List ℕ → Turn → Type 0
MemoryLoads r d at mem t =
    (x : Around) (f : RegFile) (st : List ℕ) →
    DoesIn x r f mem st mem st (λ m. need (inside (length m.memory) at 8) 6 (next (reg_to m d (num (take 8 (drop at m.memory)))))) t

abbrev pub MemoryStores : Run → (at v : ℕ) → (mem mem' : List ℕ) → Turn → Type 0
MemoryStores r at v mem mem' t =
    (x : Around) (f : RegFile) (st : List ℕ) →
    DoesIn x r f mem st mem' st (λ m. need (inside (length m.memory) at 8) 6 (next (memory_to m (stored_at m.memory at v)))) t

abbrev pub Moves : Move → Run → (regs consts mem st mem' st' : List ℕ) → Turn → Type 0
Moves o r regs consts mem st mem' st' t =
    (x : Around) → x.env.consts ≡ words_of (length consts / 8) consts → DoesIn x r (file regs) mem st mem' st' (move_of x.env o) t

-- ---- jumps

abbrev pub JumpsTo : Run → ℕ → List ℕ → Turn → Type 0
JumpsTo r target map t =
    (x : Around) (f : RegFile) (mem st : List ℕ) → length map ≡ 8192 → Holds map x.env.starts → DoesIn x r f mem st mem st (jumping x.env target) t

abbrev pub Calls : Run → ℕ → (map st st' : List ℕ) → Turn → Type 0
Calls r target map st st' t =
    (x : Around) (f : RegFile) (mem : List ℕ) → length map ≡ 8192 → Holds map x.env.starts →
    DoesIn x r f mem st mem st' (λ m. pushing m m.pc (jumping x.env target)) t

abbrev pub Returns : Run → (map st : List ℕ) → Turn → Type 0
Returns r map st t =
    (x : Around) (f : RegFile) (mem : List ℕ) → length map ≡ 8192 → Holds map x.env.starts →
    DoesIn x r f mem st mem st (λ m. popping m (jumping x.env)) t

abbrev pub Jumps : Jump → Run → (regs map st st' : List ℕ) → Turn → Type 0
Jumps o r regs map st st' t =
    (x : Around) (mem : List ℕ) → length map ≡ 8192 → Holds map x.env.starts → DoesIn x r (file regs) mem st mem st' (jump_of x.env o) t
