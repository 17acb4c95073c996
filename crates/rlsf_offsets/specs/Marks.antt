-- Which units have a mark, and what is true of every checked space.
use Rattle.std.specs.Prelude.{◌≡◌, ℕ, ◌≤◌, Bool, false, get_or, is_some, length}
use Rattle.rlsf_model_sizes.specs.PowerOfTwo.{IsPowerOfTwo}
use Rattle.rlsf_offsets.specs.declared.marks.Marks.{Marks}
use Rattle.rlsf_offsets.specs.Units.{Offsets, limit_of, units_at}

-- whether a unit has its mark set
abbrev pub is_marked : Marks → ℕ → Bool
is_marked m o = get_or m.marks.items o false

-- The unit is a power of two. A mark is set exactly where a live range begins. Each unit that the space can have has one
pub record IsCheckedSpace (unit : ℕ) (v : Offsets) (m : Marks) : Type 0 where
  pub power : IsPowerOfTwo unit
  pub marked : (o : ℕ) → is_marked m o ≡ is_some (units_at v o)
  pub covers : limit_of v ≤ length m.marks.items
  pub few : v.units ≤ limit_of v
