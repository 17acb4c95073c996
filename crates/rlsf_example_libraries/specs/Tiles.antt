-- Pools whose blocks all have one length, so that they fill a chunk from its start.
use Rattle.std.specs.Prelude.{ℕ, ◌+◌, ◌*◌, ◌≤◌}
use Rattle.rlsf_base.specs.declared.memory.range.Range.{Range}
use Rattle.rlsf_model_sizes.specs.SizeClass.{Reaches, class_of}
use Rattle.rlsf_model_sizes.specs.Sizes.{request_size}
use Rattle.rlsf_model.specs.State.{State}
use Rattle.rlsf_model.specs.Uniform.{IsUniform}

-- where blocks of the length fill a chunk in one state, they do in the other
abbrev pub KeepsUniform : State → State → ℕ → Type 0
KeepsUniform s t len = (c : Range) → IsUniform len c s → IsUniform len c t

-- blocks for a layout fill a chunk, their length begins a class, and the chunk has room for n of them and one more
pub record HasTileFor (s : State) (c : Range) (size align n : ℕ) : Type 0 where
  pub uniform : IsUniform (request_size size align) c s
  pub begins : Reaches 8 (class_of 8 (request_size size align)) (request_size size align)
  pub room : (n + 1) * request_size size align + 32 ≤ c.len
