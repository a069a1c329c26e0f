-- The machine of document 01 and what a run is given (document 01, The run and Lent input).
use Rattle.std.specs.Prelude.{List, ℕ}
use Rattle.replies.specs.declared.reply.Reply.{Reply}
use Rattle.keys.specs.Known.{Keys, Rooms}
use Rattle.keys.specs.Known as known
use Rattle.effects.specs.Log.{Effect}
use Rattle.state.specs.declared.regs.RegFile.{RegFile}
use Rattle.state.specs.Regs.{set_reg}
use Rattle.machine.specs.declared.host.Host.{Host}

-- what never changes in a run: code, constants, instruction starts, slots and starting values, the limit, the host's numbers, the bytes lent
pub record Env : Type 0 where
  pub code : List ℕ
  pub consts : List ℕ
  pub starts : List ℕ
  pub keys : known.KeyEnv
  pub limit : ℕ
  pub host : Host
  pub rooms : Rooms
  pub log_room : ℕ

-- stack, effects: the newest first; posted and keyed: the two totals that 11 caps; replies: those left
pub record Machine : Type 0 where
  pub regs : RegFile
  pub memory : List ℕ
  pub stack : List ℕ
  pub pc : ℕ
  pub keys : Keys
  pub effects : List Effect
  pub posted : ℕ
  pub keyed : ℕ
  pub replies : List Reply
  pub used : ℕ
  pub fetches : ℕ

abbrev pub machine : RegFile → (memory stack : List ℕ) (pc : ℕ) → Keys → List Effect → (posted keyed : ℕ) → List Reply → (used fetches : ℕ) → Machine
machine f mem st pc ks es po kd rs u n = record {
  regs = f;
  memory = mem;
  stack = st;
  pc = pc;
  keys = ks;
  effects = es;
  posted = po;
  keyed = kd;
  replies = rs;
  used = u;
  fetches = n;
}

-- ---- a machine with one part changed

abbrev pub reg_to : Machine → (register value : ℕ) → Machine
reg_to m d v = machine (set_reg m.regs d v) m.memory m.stack m.pc m.keys m.effects m.posted m.keyed m.replies m.used m.fetches

abbrev pub regs_to : Machine → RegFile → Machine
regs_to m f = machine f m.memory m.stack m.pc m.keys m.effects m.posted m.keyed m.replies m.used m.fetches

abbrev pub memory_to : Machine → List ℕ → Machine
memory_to m mem = machine m.regs mem m.stack m.pc m.keys m.effects m.posted m.keyed m.replies m.used m.fetches

abbrev pub stack_to : Machine → List ℕ → Machine
stack_to m st = machine m.regs m.memory st m.pc m.keys m.effects m.posted m.keyed m.replies m.used m.fetches

abbrev pub pc_to : Machine → ℕ → Machine
pc_to m pc = machine m.regs m.memory m.stack pc m.keys m.effects m.posted m.keyed m.replies m.used m.fetches

abbrev pub keys_to : Machine → Keys → Machine
keys_to m ks = machine m.regs m.memory m.stack m.pc ks m.effects m.posted m.keyed m.replies m.used m.fetches

abbrev pub effects_to : Machine → List Effect → Machine
effects_to m es = machine m.regs m.memory m.stack m.pc m.keys es m.posted m.keyed m.replies m.used m.fetches

abbrev pub posted_to : Machine → ℕ → Machine
posted_to m po = machine m.regs m.memory m.stack m.pc m.keys m.effects po m.keyed m.replies m.used m.fetches

abbrev pub keyed_to : Machine → ℕ → Machine
keyed_to m kd = machine m.regs m.memory m.stack m.pc m.keys m.effects m.posted kd m.replies m.used m.fetches

abbrev pub replies_to : Machine → List Reply → Machine
replies_to m rs = machine m.regs m.memory m.stack m.pc m.keys m.effects m.posted m.keyed rs m.used m.fetches

abbrev pub used_to : Machine → ℕ → Machine
used_to m u = machine m.regs m.memory m.stack m.pc m.keys m.effects m.posted m.keyed m.replies u m.fetches

abbrev pub fetches_to : Machine → ℕ → Machine
fetches_to m n = machine m.regs m.memory m.stack m.pc m.keys m.effects m.posted m.keyed m.replies m.used n

abbrev pub metered : Machine → (used fetches : ℕ) → Machine
metered m u n = machine m.regs m.memory m.stack m.pc m.keys m.effects m.posted m.keyed m.replies u n

-- what rules see: a machine before anything is used or fetched
abbrev pub bare : Machine → Machine
bare m = metered m 0 0
