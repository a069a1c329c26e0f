-- A step is that of its instruction's group. Assumes nothing.
use Rattle.std.specs.Prelude.{◌≡◌, List, ℕ, ◌≤◌, length}
use Rattle.std.proofs.Math.Path.{refl, sym}
use Rattle.std.proofs.Common.{◌∙◌, arith}
use Rattle.isa.specs.declared.instr.Instr.{Instr}
use Rattle.state.specs.Regs.{file}
use Rattle.keys.specs.Lent.{given}
use Rattle.keys.specs.Lent as tables
use Rattle.keys.specs.declared.look.TableRows.{TableRows}
use Rattle.machine.specs.Machine.{Env}
use Rattle.machine.specs.Actions.{action_of}
use Rattle.machine.specs.StorageRules.{access_of}
use Rattle.machine.specs.CryptoRules.{hash_of, check_of}
use Rattle.machine.specs.Rules.{play}
use Rattle.machine.specs.Turns.{act_of, rule_of}
use Rattle.machine.specs.Lent.{Bufs, bufs, lent_to}
use Rattle.machine.specs.Sound.{machine_of}
use Rattle.machine.specs.Does.{goes, halts, Does}
use Rattle.machine.proofs.TurnLaws.{none_put, goes_next}
use Rattle.machine.specs.declared.action.Action.{Action}
use Rattle.machine.specs.declared.action.Action.TheVariants as action
use Rattle.machine.specs.declared.action.Move.{Move}
use Rattle.machine.specs.declared.action.Jump.{Jump}
use Rattle.machine.specs.declared.action.Access.{Access}
use Rattle.machine.specs.declared.action.Post.{Post}
use Rattle.machine.specs.declared.action.Check.{Check}
use Rattle.machine.specs.declared.run.Run.{Run}
use Rattle.machine.specs.declared.turn.Turn.{Turn}
use Rattle.ops_moves.specs.Around.{Moves, Jumps}
use Rattle.ops_posts.specs.EffectRules.{Posts}
use Rattle.interp.specs.Operated.{Operates}
use Rattle.interp.specs.Ties.{GivenParts, Suits, Ready, Steps}

-- a stack holds its depth
pub stack_holds : (p : GivenParts) (r : Run) (b : Bufs) → Ready p r b → r.depth ≤ length b.stack
stack_holds p r b x = omega (arith, x.sound.depth, x.sound.sized.stack)

module _ (p : GivenParts) (i : Instr) (r : Run) (regs : List ℕ) (a : Action) (k : a ≡ action_of i) where
  steps_by : (o : Action) → a ≡ o → (b c : Bufs) (t : Turn)
      → ((e : Env) (d : ℕ) → Suits e p → Does e p.replies d (act_of e i o) r (file regs) b c t) → Steps p i r regs b c t
  unfolding rule_of
  steps_by o h b c t x e d su l so = let q : action_of i ≡ o = sym k ∙ h in rw q (x e d su l so)

  pub halt_steps : a ≡ action.Halt → (b : Bufs) → Steps p i r regs b b (halts r)
  unfolding act_of machine_of play
  halt_steps h b =
      steps_by action.Halt h b b (halts r) (λ e d su l so. record { turned = (refl, refl, record { is = rw (none_put r (file regs) l); sound = so }) })

  pub nop_steps : a ≡ action.Nop → (b : Bufs) → Steps p i r regs b b (goes r)
  unfolding act_of machine_of
  nop_steps h b = steps_by action.Nop h b b (goes r) (λ e d su l so. goes_next l refl so)

  pub register_steps : a ≡ action.Registers → (b : Bufs) (t : Turn) → Operates i r regs t → Steps p i r regs b b t
  unfolding act_of machine_of
  register_steps h b t x = steps_by action.Registers h b b t (λ e d su l so. x e p.replies d b l so)

  module _ (mem st : List ℕ) (ks : tables.KeyBufs) (log : List ℕ) (t : Turn) where
    pub move_steps : (mem' st' : List ℕ) (o : Move) → a ≡ action.Moves o → Moves o r regs p.consts mem st mem' st' t →
        Steps p i r regs (bufs mem st ks log) (bufs mem' st' ks log) t
    unfolding act_of
    move_steps mem' st' o h x =
        steps_by (action.Moves o) h (bufs mem st ks log) (bufs mem' st' ks log) t
        (λ e d su l so. x (record { env = e; replies = p.replies; above = d; keys = ks; log = log }) su.consts l so)

    pub jump_steps : (st' : List ℕ) (o : Jump) → a ≡ action.Jumps o → Jumps o r regs p.starts st st' t →
        Steps p i r regs (bufs mem st ks log) (bufs mem st' ks log) t
    unfolding act_of
    jump_steps st' o h x =
        steps_by (action.Jumps o) h (bufs mem st ks log) (bufs mem st' ks log) t
        (λ e d su l so. x (record { env = e; replies = p.replies; above = d; keys = ks; log = log }) mem su.size su.starts l so)

    pub post_steps : (log' : List ℕ) (o : Post) → a ≡ action.Posts o → Posts o r regs mem log log' t →
        Steps p i r regs (bufs mem st ks log) (bufs mem st ks log') t
    unfolding act_of
    post_steps log' o h x = steps_by (action.Posts o) h (bufs mem st ks log) (bufs mem st ks log') t (λ e d su l so. x e p.replies st d ks l so)

    pub check_steps : (mem' : List ℕ) (o : Check) → a ≡ action.Checks o
        → ((e : Env) (stack l : List ℕ) (d : ℕ) (k : tables.KeyBufs) → e.host ≡ p.host → Does e p.replies d (check_of e o) r (file regs) (bufs mem stack k l) (bufs mem' stack k l) t)
        → Steps p i r regs (bufs mem st ks log) (bufs mem' st ks log) t
    unfolding act_of
    check_steps mem' o h x = steps_by (action.Checks o) h (bufs mem st ks log) (bufs mem' st ks log) t (λ e d su l so. x e st log d ks su.host l so)

  module _ (mem st ch fe rd wr pd log : List ℕ) (t : Turn) where
    pub access_steps : (ch' fe' pd' : List ℕ) (o : Access) → a ≡ action.Storage o
        → ((e : Env) (s kr kw stack l : List ℕ) (d : ℕ) → e.keys ≡ tables.key_env_of p.lent (given p.reads p.writes kr kw p.store p.loader) → Does e s d (access_of e o) r (file regs) (lent_to mem stack ch fe rd wr pd l) (lent_to mem stack ch' fe' rd wr pd' l) t)
        → Steps p i r regs (lent_to mem st ch fe rd wr pd log) (lent_to mem st ch' fe' rd wr pd' log) t
    unfolding act_of
    access_steps ch' fe' pd' o h x =
        steps_by (action.Storage o) h (lent_to mem st ch fe rd wr pd log) (lent_to mem st ch' fe' rd wr pd' log) t
        (λ e d su l so. x e p.replies p.keyed_reads p.keyed_writes st log d su.keys l so)

    pub hash_steps : (mem' rd' wr' : List ℕ) (x y z : ℕ) → a ≡ action.Hash x y z
        → ((e : Env) (l : TableRows) (reads writes store loader c f pp stack g : List ℕ) (d : ℕ) → e.keys ≡ tables.key_env_of l (given reads writes p.keyed_reads p.keyed_writes store loader)
        → Does e p.replies d (hash_of e x y z) r (file regs) (lent_to mem stack c f rd wr pp g) (lent_to mem' stack c f rd' wr' pp g) t)
        → Steps p i r regs (lent_to mem st ch fe rd wr pd log) (lent_to mem' st ch fe rd' wr' pd log) t
    unfolding act_of
    hash_steps mem' rd' wr' x y z h w =
        steps_by (action.Hash x y z) h (lent_to mem st ch fe rd wr pd log) (lent_to mem' st ch fe rd' wr' pd log) t
        (λ e d su l so. w e p.lent p.reads p.writes p.store p.loader ch fe pd st log d su.keys l so)
