-- What is true of every reachable state of the reference model.
use Rattle.std.specs.Prelude.{◌≡◌, ℕ, ◌+◌, ◌-◌, ◌%◌, ◌^◌, ◌<◌, ◌≤◌, ◌≢◌, ◌&&◌, List, [], ◌∷◌, length, nat_le, nat_lt}
use Rattle.std.specs.Prelude.{if◌then◌else◌}
use Rattle.rlsf_base.specs.declared.memory.range.Range.{Range}
use Rattle.rlsf_model_sizes.specs.PowerOfTwo.{IsPowerOfTwo}
use Rattle.rlsf_base.specs.Range.{end_of, LiesIn}
use Rattle.rlsf_model_sizes.specs.SizeClass.{class_of, IsValidClass}
use Rattle.rlsf_model.specs.Lists.{IsIn}
use Rattle.rlsf_model.specs.Payload.{payload_of}
use Rattle.rlsf_model.specs.State.{State, Used, between, usable}

-- 1 if the range has the address, else 0
unfoldable pub covers : Range → ℕ → ℕ
covers r a = if nat_le r.start a && nat_lt a (end_of r) then 1 else 0

-- how many elements of a list have the address in their range: the order of the list means nothing to it
abbrev pub coverage : {A : Type 0} → (A → Range) → List A → ℕ → ℕ
coverage range [] a = 0
coverage range (x ∷ xs) a = covers (range x) a + coverage range xs a

-- a range as it is
abbrev pub itself : Range → Range
itself r = r

-- the last 32 bytes of a chunk, its sentinel, which no block ever has
abbrev pub last_bytes : Range → Range
last_bytes c = between (end_of c - 32) (end_of c)

-- a range begins at a multiple of 32 and is as many bytes long
pub record IsWhole (r : Range) : Type 0 where
  pub start : r.start % 32 ≡ 0
  pub len : r.len % 32 ≡ 0

-- a chunk lies in the memory, has room for a block, and for none that is too long for the classes
pub record IsChunk (fllen sllen : ℕ) (memory c : Range) : Type 0 where
  pub whole : IsWhole c
  pub lies_in : LiesIn c memory.start memory.len
  pub has_room : 64 ≤ c.len
  pub valid : IsValidClass fllen (class_of sllen (c.len - 32))

-- a free range isn't empty, and its length has a valid class
pub record IsFree (fllen sllen : ℕ) (f : Range) : Type 0 where
  pub whole : IsWhole f
  pub some : 0 < f.len
  pub valid : IsValidClass fllen (class_of sllen f.len)

-- A used block's payload lies where an allocation puts it, and not past the block's end. Its bytes are those from there to the
-- end
pub record IsUsed (u : Used) : Type 0 where
  pub whole : IsWhole u.block
  pub power : IsPowerOfTwo u.align
  pub placed : u.payload ≡ payload_of u.block.start u.align
  pub within : u.payload ≤ end_of u.block
  pub bytes : length u.bytes ≡ (usable u).len

-- no free range ends where another begins
abbrev pub IsApart : List Range → Type 0
IsApart free = (f g : Range) → IsIn f free → IsIn g free → end_of f ≢ g.start

-- There are size classes, and every address of the memory is below 2 ^ 64. The chunks lie in the memory and don't
-- overlap. In each of them the used ranges, the free ranges and its last 32 bytes tile it: each address of a chunk
-- is in exactly one of these, and no other address is in any. No two free ranges adjoin.
pub record IsWellFormed (fllen sllen : ℕ) (memory : Range) (s : State) : Type 0 where
  pub rows : 0 < fllen
  pub row_length : 0 < sllen
  pub addressable : end_of memory < 2 ^ 64
  pub chunks : (c : Range) → IsIn c s.chunks → IsChunk fllen sllen memory c
  pub used : (u : Used) → IsIn u s.used → IsUsed u
  pub free : (f : Range) → IsIn f s.free → IsFree fllen sllen f
  pub disjoint : (a : ℕ) → coverage itself s.chunks a ≤ 1
  pub tiled : (a : ℕ) → coverage (λ u. u.block) s.used a + coverage itself s.free a + coverage last_bytes s.chunks a ≡ coverage itself s.chunks a
  pub apart : IsApart s.free
