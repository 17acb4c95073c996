-- The allocator as contracts see it, and the steps that its calls make.
use Rattle.std.specs.Prelude.{◌≡◌, ◌<◌, ℕ, []}
use Rattle.rlsf_model_sizes.specs.SizeClass.{IsValid}
use Rattle.rlsf_base.specs.Space.{Space, bytes_in, range_of}
use Rattle.rlsf_model.specs.Lists.{IsIn}
use Rattle.rlsf_model.specs.State.{State, Used, usable}
use Rattle.rlsf_model.specs.WellFormed.{IsWellFormed}
use Rattle.rlsf_table.specs.Table.{Table}
use Rattle.rlsf_blocks.specs.Laws.{read_from}
use Rattle.rlsf_blocks.specs.Spare.{KeepsSpare}
use Rattle.rlsf_blocks.specs.StandsFor.{contents, StandsFor}
use Rattle.rlsf_tlsf.specs.Steps.Moves.{bare}

-- its memory, its class table, and the state of the reference model that it is in
pub record Allocator : Type 0 where
  pub memory : Space
  pub table : Table
  pub state : State

-- the allocator by its fields: the bytes of payloads are those that are in the memory
abbrev pub allocator : Space → Table → State → Allocator
allocator m t s = record { memory = m; table = t; state = read_from m s }

-- the memory has the bytes of each payload
abbrev pub HasBytesOf : Space → State → Type 0
HasBytesOf m s = (u : Used) → IsIn u s.used → bytes_in m (usable u) ≡ u.bytes

-- the state is well-formed in the memory, which has the bytes of its payloads, and none at the address 0. No byte of it is out
pub record IsStanding (fllen sllen : ℕ) (m : Space) (s : State) : Type 0 where
  pub nonzero : 0 < m.start
  pub well_formed : IsWellFormed fllen sllen (range_of m) s
  pub payloads : HasBytesOf m s
  pub whole : m.out ≡ []

-- so it is with an allocator's memory and state
unfoldable pub Stands : ℕ → ℕ → Allocator → Type 0
Stands fllen sllen v = IsStanding fllen sllen v.memory v.state

-- the words in the memory and the class table encode the state
unfoldable pub IsRepresented : ℕ → ℕ → Allocator → Type 0
IsRepresented fllen sllen v = StandsFor fllen sllen (contents v.memory v.table) v.state

-- what is true of every allocator's fields: the parameters are valid, memory and table represent the state, no byte is out, and what
-- is kept of the state has no bytes
pub record IsAllocator (fl_bits sl_bits fllen sllen : ℕ) (m : Space) (t : Table) (s : State) : Type 0 where
  pub valid : IsValid fl_bits sl_bits fllen sllen
  pub stands : StandsFor fllen sllen (contents m t) (read_from m s)
  pub whole : m.out ≡ []
  pub is_bare : bare s ≡ s

-- The reference model's step leads to the state after, which is well-formed. Each byte that no block is made of, before and after, is as
-- it was.
unfoldable pub Steps : ℕ → ℕ → Allocator → Allocator → (State → Type 0) → Type 0
Steps fllen sllen before after step = step after.state × Stands fllen sllen after × KeepsSpare before.memory before.state after.memory after.state

-- the allocator is in the state, which is well-formed in its memory
pub record IsInState (fllen sllen : ℕ) (v : Allocator) (s : State) : Type 0 where
  pub state : v.state ≡ s
  pub stands : IsStanding fllen sllen v.memory s
