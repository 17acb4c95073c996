-- Runs that are watched: the states after each op, and the moment of each.
use Rattle.std.specs.Prelude.{◌≡◌, ℕ, List, [], ◌∷◌, length, map, sum_by, Option, Some, None, ⊤}
use Rattle.rlsf_base.specs.declared.memory.range.Range.{Range}
use Rattle.rlsf_model.specs.State.{Used, usable}
use Rattle.rlsf_blocks.specs.Blocks.{AreBlocks}
use Rattle.rlsf_trace_text.specs.declared.op.Answer.{Answer}
use Rattle.rlsf_trace_text.specs.declared.op.Op.{Op}
use Rattle.rlsf_trace_text.specs.declared.op.Op.TheVariants.{Insert, Append, Alloc, Free, FreeUnknown, Realloc, ReallocNoMove, Fill, Put, Get, Usable, Block, Trim}
use Rattle.rlsf_trace_runs.specs.Runs.{RunState, run_beginning, Does}
use Rattle.rlsf_trace_runs.specs.declared.moments.Moment.{Moment}
use Rattle.rlsf_trace_runs.specs.declared.watched.Watched.{Watched}

-- how many bytes the callers of some used blocks may use, together
abbrev pub usable_bytes : List Used → ℕ
usable_bytes used = sum_by (λ u. (usable u).len) used

-- the moment of a state: how many blocks are used, and how many of their bytes are usable
abbrev pub moment_of : RunState → Moment
moment_of s = record { live = length s.machine.used; usable = usable_bytes s.machine.used }

-- the name of the payload that an op is on, if it is on one
abbrev pub name_in : Op → Option ℕ
name_in (Insert r) = None
name_in (Append r) = None
name_in (Alloc name layout) = Some name
name_in (Free name) = Some name
name_in (FreeUnknown name) = Some name
name_in (Realloc name size) = Some name
name_in (ReallocNoMove name size) = Some name
name_in (Fill name byte) = Some name
name_in (Put name offset byte) = Some name
name_in (Get name offset) = Some name
name_in (Usable name) = Some name
name_in (Block r index) = None
name_in Trim = None

-- ops, one after another, each with one answer and the state after it
abbrev pub Passes : ℕ → ℕ → Range → RunState → List Op → List Answer → List RunState → Type 0
Passes fllen sllen memory s [] [] [] = ⊤
Passes fllen sllen memory s (op ∷ ops) (answer ∷ answers) (u ∷ us) = Does fllen sllen memory s op answer u × Passes fllen sllen memory u ops answers us
Passes fllen sllen memory s ops answers states = ⊥

-- the last one of some states, or the one before them
abbrev pub last_of : RunState → List RunState → RunState
last_of s [] = s
last_of s (u ∷ us) = last_of u us

-- A run of the ops from the beginning has these answers. The moment after each op is that of the state then. The blocks are all
-- those of the last state.
pub record IsWatched (fllen sllen : ℕ) (memory : Range) (ops : List Op) (w : Watched) : Type 0 where
  pub states : List RunState
  pub passed : Passes fllen sllen memory run_beginning ops w.answers.items states
  pub moments : w.moments.items ≡ map moment_of states
  pub blocks : AreBlocks (last_of run_beginning states).machine memory w.blocks.items
