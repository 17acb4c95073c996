-- The core that every allocator over pools has: a memory, a class table, and what is kept of the state. What the calls on a core ensure.
use Rattle.std.specs.Prelude.{◌≡◌, ◌<◌, ◌*◌, ◌%◌, ℕ, Option, None, Some, IfSome, length, is_some, if◌then◌else◌}
use Rattle.rlsf_base.specs.declared.memory.range.Range.{Range}
use Rattle.rlsf_base.specs.OpenSpace.{IsOwned, SameOwn, StaysHere}
use Rattle.rlsf_base.specs.Range.{LiesIn}
use Rattle.rlsf_model_sizes.specs.SizeClass.{IsValid}
use Rattle.rlsf_model_sizes.specs.Sizes.{max_pool_size}
use Rattle.rlsf_base.specs.Space.{Space}
use Rattle.rlsf_model.specs.Callers.{bytes_at}
use Rattle.rlsf_model.specs.Insert.{aligned_part, cut}
use Rattle.rlsf_model.specs.State.{Holds, State, Used, usable}
use Rattle.rlsf_table.specs.Counts.{Costs}
use Rattle.rlsf_table.specs.Table.{Table}
use Rattle.rlsf_blocks.specs.Laws.{read_from}
use Rattle.rlsf_blocks.specs.Spare.{KeepsSpare}
use Rattle.rlsf_blocks.specs.StandsFor.{contents, StandsFor}
use Rattle.rlsf_tlsf.specs.Results.{IsAllocated}
use Rattle.rlsf_tlsf.specs.Steps.Moves.{bare}

-- what is true of a core
pub record IsCore (fllen sllen : ℕ) (m : Space) (t : Table) (s : State) : Type 0 where
  -- the parameters are valid
  pub valid : IsValid 128 128 fllen sllen
  -- memory and table represent the state, with the bytes of payloads that the memory has
  pub stands : StandsFor fllen sllen (contents m t) (read_from m s)
  -- what is kept of the state has no bytes of payloads
  pub is_bare : bare s ≡ s

-- what a call leaves of a core if it accesses so many words at most, and copies so many bytes
pub record LeavesCoreCopying (fllen sllen : ℕ) (m n : Space) (t : Table) (s after : State) (most copies : ℕ) : Type 0 where
  -- it is a core
  pub core : IsCore fllen sllen n t after
  -- each byte that no block is made of, before and after, is as it was
  pub spare : KeepsSpare m (read_from m s) n (read_from n after)
  -- the memory stays where it is
  pub costs : Costs m n most copies
  -- the same bytes are the memory's own
  pub own : SameOwn m n
  -- and what is here stays here
  pub here : StaysHere m n

-- if it copies no byte
abbrev pub LeavesCore : ℕ → ℕ → Space → Space → Table → State → State → ℕ → Type 0
LeavesCore fllen sllen m n t s after most = LeavesCoreCopying fllen sllen m n t s after most 0

-- at most so many words are accessed for the chunks of an inserted range
abbrev pub insert_cost : ℕ → Range → ℕ
insert_cost fllen r = 13 * length (cut (max_pool_size fllen) (aligned_part r))

-- and so many for an appended one
abbrev pub append_cost : ℕ → Range → ℕ
append_cost fllen r = if is_some (max_pool_size fllen) then insert_cost fllen r else 34

-- a used block, which begins at `block`, has the payload at the address, and the payload's bytes are the memory's own
abbrev pub IsOwnBlock : Space → State → ℕ → ℕ → Type 0
IsOwnBlock m s addr block = (u : Used) × Holds s addr u × (u.block.start ≡ block) × IsOwned m (usable u)

-- a used block has the payload at the address, with that alignment, if there is one
abbrev pub IsFound : State → ℕ → Option ℕ → Used → Type 0
IsFound s addr align u = Holds s addr u × IfSome align (λ a. u.align ≡ a)

-- some state that the memory represents has such a block
abbrev pub HasFound : Space → ℕ → Option ℕ → Type 0
HasFound m addr align = (fllen : ℕ) × (sllen : ℕ) × (t : Table) × (s : State) × (u : Used) × StandsFor fllen sllen (contents m t) s × IsFound s addr align u

-- this is true of that block in each state that the memory represents
abbrev pub AtEachFound : Space → ℕ → Option ℕ → (Used → Type 0) → Type 0
AtEachFound m addr align P = (fllen sllen : ℕ) (t : Table) (s : State) (u : Used) → StandsFor fllen sllen (contents m t) s → IsFound s addr align u → P u

-- so many words are read to find it
abbrev pub found_cost : Option ℕ → ℕ
found_cost None = 2
found_cost (Some align) = 1

-- a state has such a block, and the payload's bytes are the memory's own
abbrev pub IsOwnFound : Space → State → ℕ → Option ℕ → Type 0
IsOwnFound m s addr align = (u : Used) × IsFound s addr align u × IsOwned m (usable u)

-- the range has the bytes of a payload that was allocated for this size and alignment
pub record IsPayloadRange (n : Space) (before after : State) (size align : ℕ) (r : Range) : Type 0 where
  -- it was allocated
  pub made : IsAllocated before after size align r.start
  -- these are all its bytes
  pub long : r.len ≡ length (bytes_at after r.start)
  -- it isn't at the address 0
  pub some : 0 < r.start
  -- its address is a multiple of the alignment
  pub aligned : r.start % align ≡ 0
  -- its bytes lie in the memory
  pub lies : LiesIn r n.start (length n.bytes)
  -- and are the memory's own
  pub own : IsOwned n r
