-- A cache as its callers see it.
use Rattle.std.specs.Prelude.{ℕ, List}

-- the payloads' bytes, the oldest first, how many messages it may have, and how many bytes a message may have
pub record Shown : Type 0 where
  pub payloads : List (List ℕ)
  pub capacity : ℕ
  pub longest : ℕ

abbrev pub shown : List (List ℕ) → ℕ → ℕ → Shown
shown payloads capacity longest = record { payloads = payloads; capacity = capacity; longest = longest }
