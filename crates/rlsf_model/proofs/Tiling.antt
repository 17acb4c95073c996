-- What the tiling of a state's chunks says of its blocks.
use Rattle.std.proofs.Common.{◌≡◌, ℕ, ◌+◌, ◌-◌, ◌^◌, ◌<◌, ◌≤◌, arith, inl, inr}
use Rattle.std.proofs.lemmas.Bool.{cases_lt}
use Rattle.rlsf_base.specs.declared.memory.range.Range.{Range}
use Rattle.rlsf_base.specs.Range.{end_of}
use Rattle.rlsf_model_sizes.specs.SizeClass.{class_of, IsValidClass}
use Rattle.rlsf_base.proofs.SizeClasses.Reach.{IsValidClass-class_of}
use Rattle.rlsf_model.specs.Lists.{IsIn}
use Rattle.rlsf_model.specs.State.{State, Used}
use Rattle.rlsf_model.specs.WellFormed.{covers, coverage, itself, last_bytes, IsWhole, IsChunk, IsFree, IsUsed, IsApart, IsWellFormed}
use Rattle.rlsf_model.proofs.Coverage.{covers-inside, coverage-IsIn, coverage-some}

-- how many blocks, used or free, have an address
abbrev pub block_of : Used → Range
block_of u = u.block

abbrev pub blocks : State → ℕ → ℕ
blocks s a = coverage block_of s.used a + coverage itself s.free a

-- the chunks are disjoint, and tiled by the blocks and the chunks' last bytes
pub record IsTiled (s : State) : Type 0 where
  pub room : (c : Range) → IsIn c s.chunks → 64 ≤ c.len
  pub disjoint : (a : ℕ) → coverage itself s.chunks a ≤ 1
  pub tiled : (a : ℕ) → blocks s a + coverage last_bytes s.chunks a ≡ coverage itself s.chunks a

pub tiling_of : {fllen sllen : ℕ} {memory : Range} {s : State} → IsWellFormed fllen sllen memory s → IsTiled s
tiling_of w = record { room = λ c h. (w.chunks c h).has_room; disjoint = w.disjoint; tiled = w.tiled }

-- r is (a part of) a block
abbrev pub IsPart : State → Range → Type 0
IsPart s r = (a : ℕ) → covers r a ≤ blocks s a

-- a block lies in a chunk, before its last 32 bytes
pub record LiesInChunk (s : State) (r : Range) : Type 0 where
  pub chunk : Range
  pub is_chunk : IsIn chunk s.chunks
  pub from : chunk.start ≤ r.start
  pub to : end_of r + 32 ≤ end_of chunk

module _ (s : State) (t : IsTiled s) where
  -- a block and a chunk's last bytes have no address in common
  pub apart_from_last : (r c : Range) (a : ℕ) → IsPart s r → IsIn c s.chunks → r.start ≤ a → a < end_of r → end_of c ≤ a + 32 → a < end_of c → ⊥
  apart_from_last r c a part h low high from to =
      let room = t.room c h in
      let one = covers-inside r a low high in
      let last : covers (last_bytes c) a ≡ 1 = covers-inside (last_bytes c) a (omega arith) (omega arith) in
      omega (arith, part a, coverage-IsIn last_bytes c s.chunks a h, t.tiled a, t.disjoint a)

  pub lies_in_chunk : (r : Range) → 0 < r.len → IsPart s r → LiesInChunk s r
  lies_in_chunk r some part =
      let one : covers r r.start ≡ 1 = covers-inside r r.start (omega arith) (omega arith) in
      let (c, h, low, high) = coverage-some itself s.chunks r.start (omega (arith, part r.start, t.tiled r.start)) in
      let room = t.room c h in
      let to : end_of r + 32 ≤ end_of c = elim (cases_lt (end_of c) (end_of r + 32)) [
        | inl long ↦ elim (cases_lt r.start (end_of c - 32)) [
          | inl before ↦ absurd (apart_from_last r c (end_of c - 32) part h (omega arith) (omega arith) (omega arith) (omega arith))
          | inr behind ↦ absurd (apart_from_last r c r.start part h (omega arith) (omega arith) (omega arith) (omega arith))
        ]
        | inr fits ↦ fits
      ] in
      record { chunk = c; is_chunk = h; from = low; to = to }

  -- free ranges and used blocks are blocks
  pub IsPart-free : (f : Range) → IsIn f s.free → IsPart s f
  IsPart-free f h a = omega (arith, coverage-IsIn itself f s.free a h)

  pub IsPart-used : (u : Used) → IsIn u s.used → IsPart s u.block
  IsPart-used u h a = omega (arith, coverage-IsIn block_of u s.used a h)

  -- an address is in one block at most
  pub blocks-le : (a : ℕ) → blocks s a ≤ 1
  blocks-le a = omega (arith, t.tiled a, t.disjoint a)

  pub free-le : (a : ℕ) → coverage itself s.free a ≤ 1
  free-le a = omega (arith, blocks-le a)

  pub used-le : (a : ℕ) → coverage block_of s.used a ≤ 1
  used-le a = omega (arith, blocks-le a)

-- a length that is not above one with a valid class has one too
pub IsValidClass-le : (fllen sllen m n : ℕ) → 0 < m → m ≤ n → IsValidClass fllen (class_of sllen n) → IsValidClass fllen (class_of sllen m)
IsValidClass-le fllen sllen m n some order valid =
    let more : 0 < n = omega arith in
    (IsValidClass-class_of sllen m some fllen).1 (omega (arith, (IsValidClass-class_of sllen n more fllen).0 valid))

-- the tiling bounds the free lengths
pub IsFree-from : (fllen sllen : ℕ) (memory : Range) (s : State) → ((c : Range) → IsIn c s.chunks → IsChunk fllen sllen memory c) → IsTiled s → (f : Range)
    → IsIn f s.free → IsWhole f → 0 < f.len → IsFree fllen sllen f
IsFree-from fllen sllen memory s chunks t f h whole some =
    let within = lies_in_chunk s t f some (IsPart-free s t f h) in
    record {
      whole = whole;
      some = some;
      valid = IsValidClass-le fllen sllen f.len (within.chunk.len - 32) some (omega (arith, within.from, within.to)) (chunks within.chunk within.is_chunk).valid;
    }

-- what has to be shown of a state
pub record Fits (fllen sllen : ℕ) (memory : Range) (s : State) : Type 0 where
  pub rows : 0 < fllen
  pub row_length : 0 < sllen
  pub addressable : end_of memory < 2 ^ 64
  pub chunks : (c : Range) → IsIn c s.chunks → IsChunk fllen sllen memory c
  pub used : (u : Used) → IsIn u s.used → IsUsed u
  pub whole : (f : Range) → IsIn f s.free → IsWhole f × (0 < f.len)
  pub disjoint : (a : ℕ) → coverage itself s.chunks a ≤ 1
  pub tiled : (a : ℕ) → blocks s a + coverage last_bytes s.chunks a ≡ coverage itself s.chunks a
  pub apart : IsApart s.free

pub IsWellFormed-from : {fllen sllen : ℕ} {memory : Range} {s : State} → Fits fllen sllen memory s → IsWellFormed fllen sllen memory s
IsWellFormed-from {fllen} {sllen} {memory} {s} f =
    let t : IsTiled s = record { room = λ c h. (f.chunks c h).has_room; disjoint = f.disjoint; tiled = f.tiled } in
    record {
      rows = f.rows;
      row_length = f.row_length;
      addressable = f.addressable;
      chunks = f.chunks;
      used = f.used;
      free = λ r h. IsFree-from fllen sllen memory s f.chunks t r h (f.whole r h).0 (f.whole r h).1;
      disjoint = f.disjoint;
      tiled = f.tiled;
      apart = f.apart;
    }
