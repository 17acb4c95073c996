-- A payload that gets another size, and may move: what the call on a core takes and returns.
use Rattle.std.specs.Prelude.{◌≡◌, ◌<◌, ◌%◌, ◌+◌, ℕ, length}
use Rattle.rlsf_base.specs.declared.memory.range.Range.{Range}
use Rattle.rlsf_base.specs.OpenSpace.{IsHere, IsOwned}
use Rattle.rlsf_base.specs.Range.{LiesIn, range_at}
use Rattle.rlsf_base.specs.Space.{Space}
use Rattle.rlsf_model.specs.Callers.{bytes_at}
use Rattle.rlsf_model.specs.State.{Holds, State, Used, usable}
use Rattle.rlsf_tlsf.specs.Results.{IsReallocated}

-- a payload with this alignment is live at the address, and its bytes are here
abbrev pub IsHerePayload : Space → State → ℕ → ℕ → Type 0
IsHerePayload m s addr align = (u : Used) × Holds s addr u × (u.align ≡ align) × IsHere m (usable u)

-- as many bytes from an address on as a payload has
abbrev pub span : State → ℕ → ℕ → Range
span s of from = range_at from (length (bytes_at s of))

-- the payload at the address got this size. It is now at `to`, and its bytes are in the memory
pub record IsRelocated (n : Space) (before after : State) (addr size align to : ℕ) : Type 0 where
  -- it was reallocated
  pub made : IsReallocated before after addr size align to
  -- it isn't at the address 0
  pub some : 0 < to
  -- its address is a multiple of the alignment
  pub aligned : to % align ≡ 0
  -- its bytes lie in the memory, and so do 32 more
  pub lies : LiesIn (range_at to (length (bytes_at after to) + 32)) n.start (length n.bytes)
  -- they end at a multiple of 32
  pub ends : (to + length (bytes_at after to)) % 32 ≡ 0
  -- and are the memory's own
  pub own : IsOwned n (span after to to)
  -- as many bytes as it had are here
  pub here : IsHere n (span before addr to)
