-- The bytes that a run only reads, and the environment that they are.
use Rattle.std.specs.Prelude.{◌≡◌, List, ℕ, ◌/◌, length}
use Rattle.words.specs.Bytes.{words_of}
use Rattle.tables.specs.Table.{Table}
use Rattle.starts.specs.Marks.{Holds}
use Rattle.keys.specs.Lent.{given}
use Rattle.keys.specs.Sound.{Loader}
use Rattle.keys.specs.Lent as tables
use Rattle.keys.specs.declared.look.TableRows.{TableRows}
use Rattle.machine.specs.declared.host.Host.{Host}
use Rattle.state.specs.Regs.{file}
use Rattle.isa.specs.declared.instr.Instr.{Instr}
use Rattle.machine.specs.Machine.{Env}
use Rattle.machine.specs.Actions.{action_of}
use Rattle.machine.specs.declared.action.Action.{Action}
use Rattle.machine.specs.Turns.{rule_of}
use Rattle.machine.specs.Lent.{Bufs}
use Rattle.machine.specs.Sound.{Sound}
use Rattle.machine.specs.Does.{Does}
use Rattle.machine.specs.declared.run.Run.{Run}
use Rattle.machine.specs.declared.turn.Turn.{Turn}

-- code, constants, slots, store, loader, replies and the map of starts; the rows of the tables; the host's numbers
pub record GivenParts : Type 0 where
  pub code : List ℕ
  pub consts : List ℕ
  pub reads : List ℕ
  pub writes : List ℕ
  pub keyed_reads : List ℕ
  pub keyed_writes : List ℕ
  pub store : List ℕ
  pub loader : List ℕ
  pub replies : List ℕ
  pub starts : List ℕ
  pub lent : TableRows
  pub host : Host

abbrev pub parts : (code consts reads writes keyed_reads keyed_writes store loader replies starts : List ℕ) → TableRows → Host → GivenParts
parts co cs r w kr kw st ld rp starts l h = record {
  code = co;
  consts = cs;
  reads = r;
  writes = w;
  keyed_reads = kr;
  keyed_writes = kw;
  store = st;
  loader = ld;
  replies = rp;
  starts = starts;
  lent = l;
  host = h;
}

-- these parts are this environment's
pub record Suits (e : Env) (p : GivenParts) : Type 0 where
  pub code : e.code ≡ p.code
  pub consts : e.consts ≡ words_of (length p.consts / 8) p.consts
  pub size : length p.starts ≡ 8192
  pub starts : Holds p.starts e.starts
  pub keys : e.keys ≡ tables.key_env_of p.lent (given p.reads p.writes p.keyed_reads p.keyed_writes p.store p.loader)
  pub store : Table 40 p.lent.store p.store
  pub loader : Loader p.lent.has_loader p.lent.loader p.loader
  pub host : e.host ≡ p.host

-- a state that is sound in some environment of these parts
pub record Ready (p : GivenParts) (r : Run) (b : Bufs) : Type 0 where
  pub env : Env
  pub above : ℕ
  pub suits : Suits env p
  pub sound : Sound env p.replies above r b

-- a step from registers and bytes b to bytes a: in every environment of the parts it is the rule's
abbrev pub Steps : GivenParts → Instr → Run → List ℕ → (b a : Bufs) → Turn → Type 0
Steps p i r regs b a t = (e : Env) (d : ℕ) → Suits e p → Does e p.replies d (rule_of e i) r (file regs) b a t

-- the same, of each instruction that this action is of
abbrev pub StepsAs : GivenParts → Action → Run → List ℕ → (b a : Bufs) → Turn → Type 0
StepsAs p o r regs b a t = (i : Instr) → o ≡ action_of i → Steps p i r regs b a t
