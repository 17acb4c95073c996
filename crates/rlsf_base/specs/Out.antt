-- The states of the bytes of a memory: here, raw, or out.
use Rattle.std.specs.Prelude.{ℕ, zero, suc, ◌+◌, Bool, true, false, leb, ltb, ◌&&◌, List, [], ◌∷◌, if◌then◌else◌}

-- the state of a byte: here, with a value; raw, without one; or out, in a part that owns it
pub data Kept : Type 0 where
  here : Kept
  raw : Kept
  out : Kept

-- a change of a run of bytes: where it begins, how long it is, and the state that each byte has since
pub record Change : Type 0 where
  pub start : ℕ
  pub len : ℕ
  pub kept : Kept

-- whether the run of n bytes from the place i on has the place k
abbrev pub in_run : ℕ → ℕ → ℕ → Bool
in_run i n k = leb i k && ltb k (i + n)

-- the state of the byte at a place after these changes, the newest first
unfoldable pub kept_at : List Change → ℕ → Kept
kept_at [] k = here
kept_at (c ∷ cs) k = if in_run c.start c.len k then c.kept else kept_at cs k

-- whether the memory owns a byte of this state
abbrev pub is_own : Kept → Bool
is_own here = true
is_own raw = true
is_own out = false

-- whether a byte of this state is here
abbrev pub is_here : Kept → Bool
is_here here = true
is_here raw = false
is_here out = false

-- whether each of n bytes from the place i on is here
abbrev pub all_here : List Change → ℕ → ℕ → Bool
all_here cs i zero = true
all_here cs i (suc n) = is_here (kept_at cs i) && all_here cs (suc i) n
