-- A pool as contracts see it.
use Rattle.std.specs.Prelude.{◌≡◌, ◌⊎◌, ℕ, ◌+◌, ◌^◌, ◌==◌, ◌||◌, nat_le, Option, Some, None, Result, Err, if◌then◌else◌}
use Rattle.rlsf_base.specs.declared.memory.range.Range.{Range}
use Rattle.rlsf_base.specs.Range.{range_at}
use Rattle.rlsf_base.specs.Space.{range_of}
use Rattle.rlsf_model.specs.State.{State, empty}
use Rattle.rlsf_checked.specs.Answers.{append_answer, insert_answer}
use Rattle.rlsf_checked.specs.Checked.{Checked, PoolList}
use Rattle.rlsf_checked.specs.Pools.{no_pools}
use Rattle.rlsf_checked.specs.declared.error.CheckedError.{CheckedError}
use Rattle.rlsf_checked.specs.declared.error.CheckedError.TheVariants.{OutsideMemory}
use Rattle.rlsf_pool_calls.specs.declared.pool.Pool.{Pool}
use Rattle.rlsf_pool_calls.specs.declared.pool.Pool.TheVariants.{Refused, Small, Large}

-- the value of a pool
abbrev pub PoolValue : Type 0
PoolValue = Pool

-- how many classes each row has, the payloads and blocks, the addresses, and the ranges that were inserted
pub record Seen : Type 0 where
  pub classes : ℕ
  pub state : State
  pub memory : Range
  pub pools : PoolList

-- what is seen of a checked allocator
abbrev pub seen_in : ℕ → Checked → Seen
seen_in sllen v = record { classes = sllen; state = v.heap.state; memory = range_of v.heap.memory; pools = v.pools }

-- what is seen where there is no allocator: no address
abbrev pub nothing : Seen
nothing = record { classes = 0; state = empty; memory = range_at 0 0; pools = no_pools 0 }

-- what is seen of a pool
abbrev pub seen : PoolValue → Seen
seen (Refused e) = nothing
seen (Small v) = seen_in 16 v
seen (Large v) = seen_in 64 v

-- 0, or why there is no allocator
abbrev pub status_of : PoolValue → ℕ
status_of (Refused e) = e
status_of (Small v) = 0
status_of (Large v) = 0

-- what is returned for a range that is inserted, if the system has memory
abbrev pub insert_result : PoolValue → Range → Result ℕ CheckedError
insert_result (Refused e) r = Err OutsideMemory
insert_result (Small v) r = insert_answer 12 v r
insert_result (Large v) r = insert_answer 64 v r

-- and to one that is appended
abbrev pub append_result : PoolValue → Range → Result ℕ CheckedError
append_result (Refused e) r = Err OutsideMemory
append_result (Small v) r = append_answer 12 v r
append_result (Large v) r = append_answer 64 v r

-- why no pool can be made: there is no such kind, the start is no address, or the end lies past the greatest address
abbrev pub init_refusal : ℕ → ℕ → ℕ → Option ℕ
init_refusal kind start len =
    if (kind == 1) || (kind == 2) then (if start == 0 then Some 12 else if nat_le (2 ^ 64) (start + len) then Some 13 else None)
    else Some 11

-- how many classes each row of a pool of the kind has
abbrev pub classes_of_kind : ℕ → ℕ
classes_of_kind kind = if kind == 1 then 16 else 64

-- a pool of the kind, with the addresses, into which no range was inserted yet
abbrev pub fresh_pool : ℕ → ℕ → ℕ → Seen
fresh_pool kind start len = record { classes = classes_of_kind kind; state = empty; memory = range_at start len; pools = no_pools start }

-- why no pool was made; or the system is out of memory, or there is a pool that is fresh
abbrev pub IsMadeBy : Option ℕ → ℕ → ℕ → ℕ → PoolValue → Type 0
IsMadeBy (Some e) kind start len p = p ≡ Refused e
IsMadeBy None kind start len p = (p ≡ Refused 2) ⊎ ((status_of p ≡ 0) × (seen p ≡ fresh_pool kind start len))

-- what is made of a kind, a start and a length
abbrev pub IsMade : ℕ → ℕ → ℕ → PoolValue → Type 0
IsMade kind start len p = IsMadeBy (init_refusal kind start len) kind start len p

-- a pool without payloads and without a range, over the same memory
abbrev pub without_payloads : Seen → Seen
without_payloads v = record { classes = v.classes; state = empty; memory = v.memory; pools = no_pools v.memory.start }

-- what a pool becomes: its payloads and ranges are gone, and the error because of which there is none stays
pub record IsReset (before after : PoolValue) : Type 0 where
  pub status : status_of after ≡ status_of before
  pub seen : seen after ≡ without_payloads (seen before)

-- what is left of a pool that was ended: no allocator, and no error
abbrev pub ended : PoolValue
ended = Refused 0
