-- A used block and the free block behind it, if there is one: the span of both.
use Rattle.std.specs.Option.{option_map_or}
use Rattle.std.proofs.Common.{◌≡◌, ℕ, ◌+◌, ◌<◌, ◌≤◌, ◌-◌, List, find, length, arith, inl, inr, refl}
use Rattle.std.proofs.lemmas.Bool.{cases_lt}
use Rattle.rlsf_base.specs.declared.memory.range.Range.{Range}
use Rattle.rlsf_base.specs.Range.{end_of, range_at}
use Rattle.rlsf_base.specs.Space.{Space}
use Rattle.rlsf_base.specs.OpenSpace.{IsOwned}
use Rattle.rlsf_base.proofs.Lending.Present.{own-there}
use Rattle.rlsf_model.specs.Join.{starts_at}
use Rattle.rlsf_model.specs.Lists.{IsIn, without}
use Rattle.rlsf_model.specs.Release.{released}
use Rattle.rlsf_model.specs.State.{State, Used, between, others}
use Rattle.rlsf_model.specs.WellFormed.{covers, coverage, itself, IsFree, IsWhole}
use Rattle.rlsf_model.proofs.Changes.{coverage-others, IsIn-others}
use Rattle.rlsf_model.proofs.Coverage.{covers-inside, covers-split, coverage-IsIn, IsIn-without}
use Rattle.rlsf_model.proofs.Joins.{IsRight, right_of}
use Rattle.rlsf_model.proofs.Payloads.{IsUsed-after_start, IsUsed-some}
use Rattle.rlsf_model.proofs.Releases.{IsSound-free}
use Rattle.rlsf_model.proofs.Tiling.{block_of, blocks, blocks-le, tiling_of, IsValidClass-le, LiesInChunk, lies_in_chunk}
use Rattle.rlsf_blocks.specs.StandsFor.{contents, IsUnlent, StandsFor}
use Rattle.rlsf_blocks.specs.Steps.Join.{IsNextOut}
use Rattle.rlsf_blocks.specs.Steps.Resize.{IsSpanRoom}
use Rattle.rlsf_table.specs.Table.{Table}
use Rattle.rlsf_blocks.proofs.Words.Apart.{Has}
use Rattle.rlsf_blocks.proofs.Words.NeverOut.{here_front, own_but_front}

-- where the free block behind a used one ends, or where that ends itself
abbrev pub reach : State → Used → ℕ
reach s u = option_map_or end_of (find (starts_at (end_of u.block)) s.free) (end_of u.block)

abbrev pub span_of : State → Used → Range
span_of s u = between u.block.start (reach s u)

-- the free blocks that aren't behind it
abbrev pub staying : State → Used → List Range
staying s u = without (starts_at (end_of u.block)) s.free

module _ {fllen sllen : ℕ} {m : Space} {t : Table} {s : State} (v : StandsFor fllen sllen (contents m t) s) (u : Used) (i : IsIn u s.used) where
  some : 0 < u.block.len
  some = IsUsed-some u (v.well_formed.used u i)

  right : IsRight (end_of u.block) s.free (find (starts_at (end_of u.block)) s.free)
  right = let whole = (v.well_formed.used u i).whole in right_of (end_of u.block) s.free (omega (arith, whole.start, whole.len)) (IsSound-free v.well_formed)

  pub reach-le : end_of u.block ≤ reach s u
  reach-le = right.order

  pub end_of-span : end_of (span_of s u) ≡ reach s u
  end_of-span = omega (arith, reach-le)

  pub span-some : 0 < (span_of s u).len
  span-some = omega (arith, reach-le, some)

  pub IsWhole-span : IsWhole (span_of s u)
  IsWhole-span = let whole = (v.well_formed.used u i).whole in record { start = whole.start; len = omega (arith, whole.start, right.whole, reach-le) }

  span_parts : (a : ℕ) → covers (span_of s u) a ≡ covers u.block a + covers (between (end_of u.block) (reach s u)) a
  span_parts a =
      let order = reach-le in
      covers-split u.block.start (end_of u.block) (reach s u) a (omega arith) order (span_of s u) u.block (between (end_of u.block) (reach s u)) refl (omega arith) refl refl refl
      (omega arith)

  -- no other used block and no other free block has an address of it
  pub span_alone : (a : ℕ) → covers (span_of s u) a + coverage block_of (others u.payload s.used) a + coverage itself (staying s u) a ≤ 1
  span_alone a = omega (arith, right.cover a, span_parts a, blocks-le s (tiling_of v.well_formed) a, coverage-others v.well_formed u.payload u (i, refl) a)

  pub used_apart : (y : Used) → IsIn y (others u.payload s.used) → (a : ℕ) → Has y.block a → Has (span_of s u) a → ⊥
  used_apart y j a hy hs =
      omega (arith, span_alone a, covers-inside (span_of s u) a hs.from hs.to, covers-inside y.block a hy.from hy.to, coverage-IsIn block_of y (others u.payload s.used) a j)

  pub free_apart : (g : Range) → IsIn g (staying s u) → (a : ℕ) → Has g a → Has (span_of s u) a → ⊥
  free_apart g j a hg hs = omega (arith, span_alone a, covers-inside (span_of s u) a hs.from hs.to, covers-inside g a hg.from hg.to, coverage-IsIn itself g (staying s u) a j)

  pub was_free : (g : Range) → IsIn g (staying s u) → IsIn g s.free
  was_free g j = IsIn-without (starts_at (end_of u.block)) g s.free j

  -- it lies in a chunk
  pub home : LiesInChunk s (span_of s u)
  home = lies_in_chunk s (tiling_of v.well_formed) (span_of s u) span-some part
    where
      part : (a : ℕ) → covers (span_of s u) a ≤ blocks s a
      part a = omega (arith, right.cover a, span_parts a, coverage-others v.well_formed u.payload u (i, refl) a)

  -- and in the memory, 32 bytes or more before its end
  pub span_in_memory : (m.start ≤ u.block.start) × (reach s u + 32 ≤ m.start + length m.bytes)
  span_in_memory =
      let placed = (v.well_formed.chunks home.chunk home.is_chunk).lies_in in
      (omega (arith, home.from, placed.0), omega (arith, home.to, placed.1, end_of-span))

  pub IsFree-span : IsFree fllen sllen (span_of s u)
  IsFree-span =
      let here = home in
      let chunk = v.well_formed.chunks here.chunk here.is_chunk in
      let shorter : (span_of s u).len ≤ here.chunk.len - 32 = omega (arith, here.from, here.to, chunk.has_room) in
      record { whole = IsWhole-span; some = span-some; valid = IsValidClass-le fllen sllen (span_of s u).len (here.chunk.len - 32) span-some shorter chunk.valid }

  -- ---- which of its bytes are the memory's own, if those from an address on are, up to the used block's end

  module _ (x : ℕ) (own : IsOwned m (between x (end_of u.block))) where
    deep : (y : Used) → IsIn y (others u.payload s.used) → y.block.start + 16 ≤ y.payload
    deep y j = IsUsed-after_start y (v.well_formed.used y (IsIn-others u.payload y s.used j).0)

    -- an address that is no usable byte of another payload
    beside : (a : ℕ) → ((y : Used) → IsIn y (others u.payload s.used) → y.payload ≤ a → a < end_of y.block → ⊥) → IsUnlent (released s u) a
    beside a apart y j = grind (arith, cases_lt)

    pub IsOwned-rest : u.block.start ≤ x → IsOwned m (between x (end_of (span_of s u)))
    IsOwned-rest after a lo hi = let here = home in
        own_but_front v u i x own a (omega (arith, span_in_memory.0, after, lo)) (inr lo)
        (beside a (λ y j low high. used_apart y j a (record { from = omega (arith, deep y j, low); to = high })
        (record { from = omega (arith, after, lo); to = omega (arith, lo, hi) }))) here.chunk here.is_chunk (omega (arith, here.from, after, lo)) (omega (arith, here.to, lo, hi))

    pub IsOwned-behind_span : x ≤ end_of (span_of s u) → IsOwned m (range_at (end_of (span_of s u)) 16)
    IsOwned-behind_span fits a lo hi =
        let long = span-some in
        let here = home in
        own_but_front v u i x own a (omega (arith, span_in_memory.0, lo)) (inr (omega (arith, fits, lo)))
        (beside a (λ y j low high. elim (cases_lt y.block.start (end_of (span_of s u))) [
          | inl before ↦ used_apart y j (end_of (span_of s u) - 1) (record { from = omega arith; to = omega (arith, high, lo) })
              (record { from = omega arith; to = omega arith })
          | inr past ↦ omega (arith, hi, low, deep y j)
        ])) here.chunk here.is_chunk (omega (arith, here.from, lo)) (omega (arith, here.to, hi))

  IsOwned-front : IsOwned m (range_at u.block.start 16)
  IsOwned-front a lo hi = here_front v u i a lo (omega (arith, hi, IsUsed-after_start u (v.well_formed.used u i)))

  -- ---- the block behind it was taken out

  module _ {m1 : Space} {t1 : Table} {next : ℕ} (out : IsNextOut fllen sllen m m1 t1 s.free (end_of u.block) next) where
    pub span_len : (span_of s u).len ≡ u.block.len + next
    span_len = omega (arith, out.end)

    pub IsSpanRoom-span : (taken : ℕ) → IsOwned m (between (u.block.start + taken) (end_of u.block)) → u.block.start + taken ≤ end_of (span_of s u)
        → IsSpanRoom fllen sllen m1 t1 (staying s u) (span_of s u) taken
    IsSpanRoom-span taken own fits =
        let place = span_in_memory in
        let whole = IsWhole-span in
        let moved = out.rewrites in
        record {
          list = out.list;
          block = IsFree-span;
          some = omega (arith, v.nonzero, place.0);
          room = omega (arith, span-some, whole.len);
          lies_in = (omega (arith, place.0, moved.start), omega (arith, place.1, end_of-span, moved.start, moved.length));
          apart = λ a. omega (arith, span_alone a);
          front = own-there m m1 (range_at u.block.start 16) place.0 moved.own IsOwned-front;
          rest = own-there m m1 (between (u.block.start + taken) (end_of (span_of s u))) (omega (arith, place.0)) moved.own
              (IsOwned-rest (u.block.start + taken) own (omega arith));
          not_last = omega (arith, place.1, end_of-span, moved.start, moved.length);
          behind = own-there m m1 (range_at (end_of (span_of s u)) 16) (omega (arith, place.0)) moved.own (IsOwned-behind_span (u.block.start + taken) own fits);
        }
