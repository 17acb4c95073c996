-- Strings that grow.
use Rattle.std.specs.Prelude.{ℕ, ◌+◌, ◌≤◌, List, [], ◌∷◌, ◌++◌, length, Option, IsSomeAnd, nat_eq}
use Rattle.std.specs.Option.{option_map, option_and_then}
use Rattle.std.specs.Map.{lookup}
use Rattle.rlsf_base.specs.declared.memory.range.Range.{Range}

-- the strings, each its handle and its bytes, in the order of the handles; the number that the next handle has; and the memory that
-- they lie in
pub record Texts : Type 0 where
  pub strings : List (ℕ × List ℕ)
  pub next : ℕ
  pub memory : Range

-- with one more string, under a new handle
abbrev pub with_string : Texts → ℕ → List ℕ → Texts
with_string t handle bytes = record t { strings = t.strings ++ (handle, bytes) ∷ []; next = handle + 1 }

-- with this many more bytes the string is no longer than the longest may be
abbrev pub IsShortWith : Texts → ℕ → ℕ → ℕ → Type 0
IsShortWith t handle more longest = IsSomeAnd (lookup (nat_eq handle) t.strings) (λ old. length old + more ≤ longest)

-- the bytes of one string and then those of another, if both are there
abbrev pub joined_of : ℕ → ℕ → List (ℕ × List ℕ) → Option (List ℕ)
joined_of left right strings = option_and_then (λ l. option_map (λ r. l ++ r) (lookup (nat_eq right) strings)) (lookup (nat_eq left) strings)

-- the bytes are there, and no more than the longest string may have
abbrev pub IsShort : Option (List ℕ) → ℕ → Type 0
IsShort bytes longest = IsSomeAnd bytes (λ b. length b ≤ longest)
