-- An allocation of the reference model that asks a source for memory.
use Rattle.std.specs.Prelude.{◌≡◌, ◌⊎◌, ℕ, true, List, [], Option, Some, None}
use Rattle.rlsf_model_sizes.specs.Sizes.{pool_size_to_contain_allocation}
use Rattle.rlsf_model.specs.Allocate.{Allocates}
use Rattle.rlsf_model.specs.FlexState.{FlexState, with_machine}
use Rattle.rlsf_model.specs.Growth.{Extends, Outcome, is_more, refused}
use Rattle.rlsf_model.specs.Note.{Note}
use Rattle.rlsf_model.specs.State.{State}
use Rattle.rlsf_model.specs.Terms.{Terms}

-- the reference model has no room for a layout, and the source is asked for the pool that the allocation wants
pub record Asks (fllen sllen : ℕ) (t : Terms) (s : FlexState) (size align : ℕ) (outcome : Outcome) (notes : List Note) (u : FlexState) : Type 0 where
  pub full : Allocates sllen s.machine size align None s.machine
  pub extends : Extends fllen t s (pool_size_to_contain_allocation fllen sllen size align) outcome notes u

-- an allocation in the room that is there, with no note
pub record AllocatesInRoom (sllen : ℕ) (s : FlexState) (size align addr : ℕ) (notes : List Note) (u : FlexState) : Type 0 where
  pub machine : State
  pub allocates : Allocates sllen s.machine size align (Some addr) machine
  pub none : notes ≡ []
  pub after : u ≡ with_machine s machine

-- an allocation in the memory that came
pub record AllocatesInMore (fllen sllen : ℕ) (t : Terms) (s : FlexState) (size align addr : ℕ) (notes : List Note) (u : FlexState) : Type 0 where
  pub outcome : Outcome
  pub meanwhile : FlexState
  pub asks : Asks fllen sllen t s size align outcome notes meanwhile
  pub more : is_more outcome ≡ true
  pub machine : State
  pub allocates : Allocates sllen meanwhile.machine size align (Some addr) machine
  pub after : u ≡ with_machine meanwhile machine

-- An allocation: in the room that is there; else in memory that came for it. It is refused exactly where there is no room and
-- no memory came, and then the state is as it was.
abbrev pub FlexAllocates : ℕ → ℕ → Terms → FlexState → ℕ → ℕ → Option ℕ → List Note → FlexState → Type 0
FlexAllocates fllen sllen t s size align None notes u = Asks fllen sllen t s size align refused notes u
FlexAllocates fllen sllen t s size align (Some addr) notes u = AllocatesInRoom sllen s size align addr notes u ⊎ AllocatesInMore fllen sllen t s size align addr notes u
