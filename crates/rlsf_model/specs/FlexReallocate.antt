-- A used block of the reference model that asks a source for memory gets another size.
use Rattle.std.specs.Prelude.{◌≡◌, ◌≢◌, ◌⊎◌, ℕ, true, List, [], Option, Some, None}
use Rattle.rlsf_model.specs.FlexAllocate.{Asks}
use Rattle.rlsf_model.specs.FlexState.{FlexState, with_machine}
use Rattle.rlsf_model.specs.Growth.{Outcome, is_more, refused}
use Rattle.rlsf_model.specs.Note.{Note}
use Rattle.rlsf_model.specs.Reallocate.{MovesAway, Reallocates, plan}
use Rattle.rlsf_model.specs.State.{State, Used, Holds}
use Rattle.rlsf_model.specs.Terms.{Terms}

-- in the room that is there, with no note
pub record ReallocatesInRoom (sllen : ℕ) (s : FlexState) (addr size to : ℕ) (notes : List Note) (u : FlexState) : Type 0 where
  pub machine : State
  pub reallocates : Reallocates sllen s.machine addr size (Some to) machine
  pub none : notes ≡ []
  pub after : u ≡ with_machine s machine

-- into the memory that came, since the free ranges beside the block don't give it the size: the block moves there, to another address
pub record ReallocatesInMore (fllen sllen : ℕ) (t : Terms) (s : FlexState) (addr size to : ℕ) (notes : List Note) (u : FlexState) : Type 0 where
  pub block : Used
  pub holds : Holds s.machine addr block
  pub no_plan : plan s.machine block size ≡ None
  pub outcome : Outcome
  pub meanwhile : FlexState
  pub asks : Asks fllen sllen t s size block.align outcome notes meanwhile
  pub more : is_more outcome ≡ true
  pub machine : State
  pub moves : MovesAway sllen meanwhile.machine block size to machine
  pub elsewhere : to ≢ addr
  pub after : u ≡ with_machine meanwhile machine

-- there is no room beside the block, and no memory came
pub record RefusesToReallocate (fllen sllen : ℕ) (t : Terms) (s : FlexState) (addr size : ℕ) (notes : List Note) (u : FlexState) : Type 0 where
  pub block : Used
  pub holds : Holds s.machine addr block
  pub no_plan : plan s.machine block size ≡ None
  pub asks : Asks fllen sllen t s size block.align refused notes u

-- A reallocation: in the room that is there; else into memory that came for it. It is refused exactly where there is no room
-- and no memory came, and then the state is as it was.
abbrev pub FlexReallocates : ℕ → ℕ → Terms → FlexState → ℕ → ℕ → Option ℕ → List Note → FlexState → Type 0
FlexReallocates fllen sllen t s addr size None notes u = RefusesToReallocate fllen sllen t s addr size notes u
FlexReallocates fllen sllen t s addr size (Some to) notes u = ReallocatesInRoom sllen s addr size to notes u ⊎ ReallocatesInMore fllen sllen t s addr size to notes u
