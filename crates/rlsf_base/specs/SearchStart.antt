-- Where the search for a block begins: at a row of classes and a place in it.
use Rattle.std.specs.Prelude.{◌≡◌, ℕ, ◌+◌, ◌<◌, ◌≤◌, ◌⊎◌}
use Rattle.rlsf_model_sizes.specs.SizeClass.{SizeClass, IsAtMost, Reaches, class_at}

-- a search of a row begins at one of its places, or behind them all if they are 32 or fewer
abbrev pub CanBegin : ℕ → ℕ → Type 0
CanBegin places start = (start < places) ⊎ ((start ≡ places) × (places ≤ 32))

-- the classes that reach a size are those from a row and place on
pub record IsSearchStart (fllen sllen size fl sl : ℕ) : Type 0 where
  pub row : fl < fllen
  pub place : CanBegin sllen sl
  pub reached : (d : SizeClass) → d.division < sllen → IsAtMost (class_at fl sl) d → Reaches sllen d size
  pub first : (d : SizeClass) → d.division < sllen → Reaches sllen d size → IsAtMost (class_at fl sl) d

-- no class of so many rows reaches a size
abbrev pub NoneReaches : ℕ → ℕ → ℕ → Type 0
NoneReaches fllen sllen size = (d : SizeClass) → d.division < sllen → Reaches sllen d size → 5 + fllen ≤ d.exponent
