-- A used block can begin where the free block before it does.
use Rattle.std.specs.Prelude.{◌≡◌, ℕ, ◌+◌, ◌≤◌, Option, None, Some, MatchOption, find, ◌-◌}
use Rattle.std.specs.Option.{option_map_or}
use Rattle.rlsf_base.specs.declared.memory.range.Range.{Range}
use Rattle.rlsf_base.specs.Range.{end_of}
use Rattle.rlsf_model.specs.Join.{ends_at, starts_at}
use Rattle.rlsf_model.specs.Lists.{IsIn, without}
use Rattle.rlsf_model.specs.Payload.{payload_of}
use Rattle.rlsf_model.specs.Reallocate.{into_previous}
use Rattle.rlsf_model.specs.State.{State, Used}
use Rattle.rlsf_model_sizes.specs.Rounding.{round32}

-- a used block of the state goes from `block` to `end`, and its payload has that alignment
pub record IsUsedBlock (s : State) (u : Used) (block end align : ℕ) : Type 0 where
  pub is_used : IsIn u s.used
  pub start : u.block.start ≡ block
  pub end_is : end_of u.block ≡ end
  pub alignment : u.align ≡ align

-- A free range is before the used block. With the block and a free range behind it, it suffices for a block of `taken` bytes. The
-- payload of `size` bytes of that block lies at `payload`
pub record FitsBefore (s : State) (u : Used) (size payload taken : ℕ) : Type 0 where
  pub previous : Range
  pub found : find (ends_at u.block.start) s.free ≡ Some previous
  pub placed : payload ≡ payload_of previous.start u.align
  pub long : taken ≡ round32 (payload - previous.start + size)
  pub fits : previous.start + taken ≤ option_map_or end_of (find (starts_at (end_of u.block)) (without (ends_at u.block.start) s.free)) (end_of u.block)

-- where the payload would lie then, and how many bytes its block would take, if they suffice
abbrev pub IsPlaceBefore : State → Used → ℕ → Option (ℕ × ℕ) → Type 0
IsPlaceBefore s u size answer = MatchOption answer (into_previous s u size ≡ None) (λ place. FitsBefore s u size place.0 place.1)
