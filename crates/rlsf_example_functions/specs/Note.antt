-- A note as its callers see it.
use Rattle.std.specs.Prelude.{ℕ, List}

-- the payload's bytes, and how many payloads are live in the pool that it is in
pub record Noted : Type 0 where
  pub bytes : List ℕ
  pub live : ℕ

-- the note with these parts
abbrev pub noted : List ℕ → ℕ → Noted
noted bytes live = record { bytes = bytes; live = live }
