-- What a step leaves of the keys, and that these are the keys at its rule's end. Assumes nothing.
use Rattle.std.specs.Prelude.{◌≡◌, Bool, ℕ, eqb, length, Option, Some, None}
use Rattle.std.proofs.Math.Path.{refl}
use Rattle.std.proofs.Math.Bool.{true, false}
use mathlib.Core.List.{List, [], ◌∷◌}
use Rattle.words.specs.Choice.{pick, both}
use Rattle.isa.specs.declared.instr.Instr.{Instr}
use Rattle.state.specs.Regs.{reg}
use Rattle.state.specs.Memory.{inside}
use Rattle.replies.specs.declared.reply.Reply.{Reply}
use Rattle.keys.specs.Known as known
use Rattle.keys.specs.Known.{Keys}
use Rattle.keys.specs.Steps.{loaded, stored, keyed, authorised}
use Rattle.machine.specs.Machine.{Env, Machine, replies_to, bare}
use Rattle.machine.specs.Rules.{Rule, next, left_by}
use Rattle.machine.specs.MoveRules.{popping_from, move_of}
use Rattle.machine.specs.JumpRules.{jumping, jump_of}
use Rattle.machine.specs.StorageRules.{key_at, loading, storing, access_of}
use Rattle.machine.specs.PostRules.{sending, emitting, post_of}
use Rattle.machine.specs.CryptoRules.{replied, asking_of, check_of, base_of, authorising, tainting, hash_of}
use Rattle.machine.specs.Turns.{act_of}
use Rattle.machine.specs.Grants.{Grant, grant_of, grant_after, grant_by}
use Rattle.machine.specs.declared.action.Action.{Action}
use Rattle.machine.specs.declared.action.Action.TheVariants as action
use Rattle.machine.specs.declared.action.Move.{Move}
use Rattle.machine.specs.declared.action.Move.TheVariants as move
use Rattle.machine.specs.declared.action.Jump.{Jump}
use Rattle.machine.specs.declared.action.Jump.TheVariants as jump
use Rattle.machine.specs.declared.action.Access.{Access}
use Rattle.machine.specs.declared.action.Access.TheVariants as access
use Rattle.machine.specs.declared.action.Post.{Post}
use Rattle.machine.specs.declared.action.Post.TheVariants as post
use Rattle.machine.specs.declared.action.Check.{Check}
use Rattle.machine.specs.declared.action.Check.TheVariants as check

-- ---- what is left of the keys

unfoldable pub granted : known.KeyEnv → Keys → Option Grant → Keys
granted e s None = s
granted e s (Some g) = authorised e s g.base g.key

unfoldable pub access_keys : Env → Access → Machine → Keys
access_keys e (access.SLoad d a) m = loaded e.keys m.keys (key_at m (reg m.regs a))
access_keys e (access.SStore a b) m = stored e.keys m.keys (key_at m (reg m.regs a)) (reg m.regs b)

unfoldable pub keys_after : Env → Action → Machine → Keys
keys_after e action.Halt m = m.keys
keys_after e action.Nop m = m.keys
keys_after e action.Registers m = m.keys
keys_after e (action.Moves o) m = m.keys
keys_after e (action.Jumps o) m = m.keys
keys_after e (action.Storage o) m = access_keys e o m
keys_after e (action.Posts o) m = m.keys
keys_after e (action.Hash a b c) m = granted e.keys m.keys (grant_by e a b c m)
keys_after e (action.Checks o) m = m.keys

-- ---- at the rule's end

module _ (e : Env) (m : Machine) where
  popped : (st : List ℕ) (k : ℕ → Machine → Rule) → ((v : ℕ) (p : Machine) → p.keys ≡ m.keys → (left_by (k v p)).keys ≡ m.keys) →
      (left_by (popping_from st (bare m) k)).keys ≡ m.keys
  unfolding left_by
  popped [] k f = refl
  popped (v ∷ st) k f = f v _ refl

  moved : (o : Move) → (left_by (move_of e o (bare m))).keys ≡ m.keys
  unfolding left_by move_of
  moved (move.Ldc d k) = refl
  moved (move.Push a) = refl
  moved (move.Pop d) = popped m.stack _ (λ v p q. q)
  moved (move.MLoad d a) = refl
  moved (move.MStore a b) = refl

  picked : (b : Bool) (r q : Rule) → (left_by r).keys ≡ m.keys → (left_by q).keys ≡ m.keys → (left_by (pick b r q)).keys ≡ m.keys
  picked true r q h k = h
  picked false r q h k = k

  jumped : (o : Jump) → (left_by (jump_of e o (bare m))).keys ≡ m.keys
  unfolding left_by jump_of
  jumped (jump.Jmp target) = refl
  jumped (jump.Jz a target) = picked (eqb (reg m.regs a) 0) (jumping e target (bare m)) (next (bare m)) refl refl
  jumped (jump.Jnz a target) = picked (eqb (reg m.regs a) 0) (next (bare m)) (jumping e target (bare m)) refl refl
  jumped (jump.Call target) = refl
  jumped jump.Ret = popped m.stack (jumping e) (λ v p q. q)

  posted : (o : Post) → (left_by (post_of e o (bare m))).keys ≡ m.keys
  unfolding left_by post_of sending emitting
  posted (post.Send a b c) = refl
  posted (post.Emit a b c) = refl

  answered : (rs : List Reply) → (left_by (asking_of rs (bare m) next)).keys ≡ m.keys
  unfolding left_by
  answered [] = refl
  answered (r ∷ rs) = refl

  checked : (o : Check) → (left_by (check_of e o (bare m))).keys ≡ m.keys
  unfolding left_by check_of
  checked (check.VerifyMl b) = answered m.replies
  checked (check.VerifySlh b) = answered m.replies
  checked (check.MerkleVerify b) = answered m.replies
  checked check.Addr = answered m.replies

  tainted : (base : Option ℕ) (out : ℕ) (p : Machine) → p.keys ≡ m.keys →
      (left_by (tainting e base out p)).keys ≡ granted e.keys m.keys (grant_of e.keys base out p.memory)
  unfolding left_by tainting grant_of granted authorising
  tainted None out p q = q
  tainted (Some base) out p q = go (both (keyed e.keys base) (inside (length p.memory) out 32))
    where
      go : (b : Bool) → (left_by (pick b (authorising e base (key_at p out) p) (next p))).keys ≡ granted e.keys m.keys (pick b (Some (record { base = base; key = key_at p out })) None)
      go true = rw q
      go false = q

  hashed : (base : Option ℕ) (out : ℕ) (rs : List Reply) →
      (left_by (asking_of rs (bare m) (tainting e base out))).keys ≡ granted e.keys m.keys (grant_after rs e.keys base out m.memory)
  unfolding left_by grant_after granted
  hashed base out [] = refl
  hashed base out (r ∷ rs) = tainted base out (replied r (replies_to (bare m) rs)) refl

  pub keys_left : (i : Instr) (o : Action) → (left_by (act_of e i o (bare m))).keys ≡ keys_after e o m
  unfolding left_by act_of keys_after access_keys access_of loading storing hash_of
  keys_left i action.Halt = refl
  keys_left i action.Nop = refl
  keys_left i action.Registers = refl
  keys_left i (action.Moves o) = moved o
  keys_left i (action.Jumps o) = jumped o
  keys_left i (action.Storage (access.SLoad d a)) = refl
  keys_left i (action.Storage (access.SStore a b)) = refl
  keys_left i (action.Posts o) = posted o
  keys_left i (action.Hash a b c) = hashed (base_of m.memory (reg m.regs a) (reg m.regs b)) (reg m.regs c) m.replies
  keys_left i (action.Checks o) = checked o
