-- Memory is inserted into the reference model: as chunks of their own, or behind a chunk that ends there.
use Rattle.std.specs.Prelude.{◌≡◌, ℕ, zero, suc, ◌+◌, ◌-◌, ◌*◌, ◌/◌, ◌≤◌, ◌<◌, List, [], ◌∷◌, ◌++◌, Option, Some, None, find, nat_le}
use Rattle.std.specs.Prelude.{if◌then◌else◌}
use Rattle.std.specs.Option.{option_map_or}
use Rattle.rlsf_base.specs.declared.memory.range.Range.{Range}
use Rattle.rlsf_base.specs.Range.{end_of, LiesIn, range_at}
use Rattle.rlsf_model_sizes.specs.Rounding.{round32}
use Rattle.rlsf_model_sizes.specs.Sizes.{max_pool_size}
use Rattle.rlsf_model.specs.Join.{join, ends_at}
use Rattle.rlsf_model.specs.Lists.{IsIn, without}
use Rattle.rlsf_model.specs.State.{State}
use Rattle.rlsf_model.specs.WellFormed.{coverage, itself}

-- from the start rounded up to a multiple of 32, the greatest multiple of 32 bytes that stays in the range
abbrev pub aligned_part : Range → Range
aligned_part r = range_at (round32 r.start) ((end_of r - round32 r.start) / 32 * 32)

-- so many chunks of one length, one behind another from an address on
abbrev pub adjacent : ℕ → ℕ → ℕ → List Range
adjacent at len zero = []
adjacent at len (suc n) = range_at at len ∷ adjacent (at + len) len n

-- a chunk of the rest, if that has 64 bytes or more
abbrev pub remainder : ℕ → ℕ → List Range
remainder at len = if nat_le 64 len then range_at at len ∷ [] else []

-- The chunks that an aligned part is cut into, in address order. If a chunk has a greatest length, they are as many chunks of that
-- length as fit, and then one of the rest
abbrev pub cut : Option ℕ → Range → List Range
cut None part = remainder part.start part.len
cut (Some most) part =
    let whole = part.len / most in
    adjacent part.start most whole ++ remainder (part.start + whole * most) (part.len - whole * most)

-- the free range of a new chunk: all but its last 32 bytes
abbrev pub body : Range → Range
body c = range_at c.start (c.len - 32)

-- the state with some more chunks, one after another, each with a free range that is then the newest; so that of the last one is the newest
abbrev pub with_chunks : List Range → State → State
with_chunks [] s = s
with_chunks (c ∷ cs) s = with_chunks cs (record { chunks = c ∷ s.chunks; used = s.used; free = body c ∷ s.free })

-- the end of the last one of adjacent chunks, or the given address where there is none
abbrev pub end_of_last : ℕ → List Range → ℕ
end_of_last at [] = at
end_of_last at (c ∷ cs) = end_of_last (end_of c) cs

-- the number of bytes from the given start to the last chunk's end, or None without a chunk
abbrev pub bytes_taken : ℕ → List Range → Option ℕ
bytes_taken start [] = None
bytes_taken start (c ∷ cs) = Some (end_of_last (end_of c) cs - start)

-- the range overlaps none of some other ranges
abbrev pub IsClear : Range → List Range → Type 0
IsClear r others = (a : ℕ) → r.start ≤ a → a < end_of r → coverage itself others a ≡ 0

-- the range overlaps none of some chunks
unfoldable pub IsUntouched : List Range → Range → Type 0
IsUntouched chunks r = IsClear r chunks

-- the range lies in the memory and overlaps none of some ranges there
pub record IsVacant (memory : Range) (taken : List Range) (r : Range) : Type 0 where
  pub lies_in : LiesIn r memory.start memory.len
  pub apart : IsClear r taken

-- the range may be inserted: it lies in the memory and overlaps no chunk
abbrev pub IsFresh : Range → State → Range → Type 0
IsFresh memory s r = IsVacant memory s.chunks r

-- the range's aligned part becomes chunks; the reply counts the skipped front too
pub record Inserts (fllen : ℕ) (s : State) (r : Range) (reply : Option ℕ) (t : State) : Type 0 where
  pub answer : reply ≡ bytes_taken r.start (cut (max_pool_size fllen) (aligned_part r))
  pub after : t ≡ with_chunks (cut (max_pool_size fllen) (aligned_part r)) s

-- the chunk c grows by n bytes: its old last 32 bytes and the new bytes but the last 32 become free
abbrev pub grown : Range → ℕ → State → State
grown c n s = record {
  chunks = range_at c.start (c.len + n) ∷ without (ends_at (end_of c)) s.chunks;
  used = s.used;
  free = join (range_at (end_of c - 32) n) s.free;
}

-- the chunk that ends at an address, if any, grows by n bytes, and nothing changes where that is 0
abbrev pub extended : ℕ → ℕ → State → State
extended at zero s = s
extended at (suc n) s = option_map_or (λ c. grown c (suc n) s) (find (ends_at at) s.chunks) s

-- the range may be appended: it is fresh, and begins where a chunk ends
pub record IsNext (memory : Range) (s : State) (r : Range) : Type 0 where
  pub fresh : IsFresh memory s r
  pub chunk : Range
  pub is_chunk : IsIn chunk s.chunks
  pub ends : end_of chunk ≡ r.start

-- The state with a range appended. If chunks have a greatest length, the range becomes chunks of its own. Otherwise the chunk that ends
-- where it begins grows by the length rounded down to a multiple of 32
abbrev pub appended : Option ℕ → Range → State → State
appended (Some most) r s = with_chunks (cut (Some most) (aligned_part r)) s
appended None r s = extended r.start (r.len / 32 * 32) s

-- the number of its bytes that are taken: those up to the end of the last of its chunks, or those by which the chunk grows
abbrev pub appended_bytes : Option ℕ → Range → ℕ
appended_bytes (Some most) r = end_of_last r.start (cut (Some most) (aligned_part r)) - r.start
appended_bytes None r = r.len / 32 * 32

-- the range is inserted behind a chunk that ends there
pub record Appends (fllen : ℕ) (s : State) (r : Range) (reply : ℕ) (t : State) : Type 0 where
  pub answer : reply ≡ appended_bytes (max_pool_size fllen) r
  pub after : t ≡ appended (max_pool_size fllen) r s
