-- A used block takes the front of a span that is no block's.
use Rattle.std.proofs.Common.{◌≡◌, ◌≢◌, ℕ, ◌+◌, ◌%◌, ◌<◌, ◌≤◌, ◌⊎◌, List, [], ◌∷◌, ◌++◌, cond, arith, inl, inr, sym, ◌∙◌, ap, subst}
use Rattle.std.proofs.lemmas.Bool.{le-ltb, lt-ltb}
use Rattle.rlsf_base.specs.declared.memory.range.Range.{Range}
use Rattle.rlsf_base.specs.Range.{end_of, range_at}
use Rattle.rlsf_base.specs.Space.{Space, word_at, word_range, with_word}
use Rattle.rlsf_base.specs.OpenSpace.{out_with}
use Rattle.rlsf_model.specs.Allocate.{rest_behind}
use Rattle.rlsf_model.specs.Lists.{IsIn}
use Rattle.rlsf_model.specs.State.{between}
use Rattle.rlsf_model.specs.WellFormed.{itself}
use Rattle.rlsf_model.proofs.Changes.{IsIn-rest_behind}
use Rattle.rlsf_model.proofs.Coverage.{covers-inside, coverage-IsIn}
use Rattle.rlsf_table.specs.Rewrites.{IsLink}
use Rattle.rlsf_blocks.specs.Steps.Touched.{Touched, at_link, in_hole, at_other}
use Rattle.rlsf_blocks.specs.Steps.Resize.{IsOccupied, IsSpanRoom}
use Rattle.rlsf_blocks.specs.Steps.Rest.{IsInnerRoom, IsFreeBlockBehind}
use Rattle.rlsf_table.specs.Table.{Table, HasTable}
use Rattle.rlsf_blocks.proofs.Allocate.Rests.{IsInnerRoom-part, IsInnerRoom-Rewrites}
use Rattle.rlsf_table.proofs.Tables.FreeTables.{IsFreeTable-Rewrites}
use Rattle.rlsf_table.proofs.Words.Writes.{Rewrites-trans, Rewrites-weaken}
use Rattle.rlsf_blocks.proofs.Words.Apart.{Has}
use Rattle.rlsf_blocks.proofs.Words.Frames.{sides}
use Rattle.rlsf_blocks.proofs.Words.Stays.{IsWritable-in, placed_by, placed_here}
use Rattle.rlsf_table.proofs.Words.Writing.{IsWrite, write, rewrites_of, reads_of}

-- what is left of a span behind the first bytes that are taken
abbrev pub rest_of : ℕ → ℕ → Range → Range
rest_of block taken span = between (block + taken) (end_of span)

module _ {fllen sllen : ℕ} {m : Space} {table : Table} {free : List Range} {block total taken : ℕ}
    (span : Range) (start : span.start ≡ block) (long : span.len ≡ total) (inner : IsSpanRoom fllen sllen m table free span taken)
    (part : (taken % 32 ≡ 0) × (0 < taken) × (taken ≤ total)) where
  -- the size word was written
  pub sized_from : {m1 : Space} → m1.start ≡ m.start → m1.bytes ≡ with_word m block (taken + 1) → m1.out ≡ out_with m (word_range block)
      → IsWrite m m1 block (taken + 1)
  sized_from same written out = grind (arith, IsWritable-in, placed_here, write)

  -- no free block has an address of the span
  apart : (g : Range) → IsIn g free → (a : ℕ) → Has span a → Has g a → ⊥
  apart g i a hs hg = omega (arith, inner.apart a, covers-inside span a hs.from hs.to, coverage-IsIn itself g free a i, covers-inside g a hg.from hg.to)

  begins_elsewhere : (g : Range) → IsIn g free → g.start ≢ block
  begins_elsewhere g i same =
      apart g i block (record { from = omega arith; to = omega (arith, inner.room) }) (record { from = omega arith; to = omega (arith, (inner.list.placed g i).room) })

  -- a link lies on one side of any part of the span
  link_side : (a : ℕ) → IsLink free a → (q : Range) → span.start ≤ q.start → end_of q ≤ end_of span → (end_of q ≤ a) ⊎ (a + 8 ≤ q.start)
  link_side a (g, i, at) q from to =
      let placed = inner in
      let other = inner.list.placed g i in
      let room = placed.room in
      let more = other.room in
      let inside : (g.start ≤ a) × (a + 8 ≤ end_of g) = elim at [ inl e ↦ (omega arith, omega arith) | inr e ↦ (omega arith, omega arith) ] in
      elim (sides span g (omega arith) (omega arith) (apart g i)) [ inl before ↦ inl (omega arith) | inr behind ↦ inr (omega arith) ]

  module _ {m1 : Space} (sized : IsWrite m m1 block (taken + 1)) where
    unlinked : (g : Range) → IsIn g free → ¬ (g.start ≡ block) × ¬ (g.start + 16 ≡ block) × ¬ (g.start + 24 ≡ block)
    unlinked g i = grind (arith, begins_elsewhere)

    -- ---- a rest is left

    pub IsInnerRoom-rest : taken < total → IsInnerRoom fllen sllen m1 table free (rest_of block taken span)
    IsInnerRoom-rest short = IsInnerRoom-Rewrites (rewrites_of sized) unlinked (IsInnerRoom-part span inner (block + taken) (omega arith) part.0 (omega arith))

    pub IsOccupied-rest : {n : Space} {changed : Table} → taken < total → IsFreeBlockBehind fllen sllen m1 n changed free block (rest_of block taken span)
        → IsOccupied fllen sllen m n changed free span (range_at block taken)
    IsOccupied-rest {n} {changed} short left =
        let inside = inner.lies_in in
        let moved = rewrites_of sized in
        let some : rest_behind (range_at block taken) (end_of span) ≡ rest_of block taken span ∷ [] =
        ap (λ b. cond b (rest_of block taken span ∷ []) []) (lt-ltb (end_of (range_at block taken)) (end_of span) (omega arith)) in
        record {
          rewrites = Rewrites-weaken joined (Rewrites-trans moved left.rewrites);
          size =
              left.rewrites.words span.start (omega arith) (omega (arith, moved.start, inside.0)) (early span.start (omega arith) (omega arith)) ∙ ap (word_at m1) start
              ∙ reads_of sized;
          first = left.rewrites.words (span.start + 8) (omega arith) (omega (arith, moved.start, inside.0)) (early (span.start + 8) (omega arith) (omega (arith, part.0, part.1)))
              ∙ moved.words (span.start + 8) (omega arith) (omega (arith, inside.0)) (λ e. omega arith);
          behind = left.previous ∙ sym start;
          rest =
              λ g i. subst (λ q. (word_at n q.start ≡ q.len) × (word_at n (end_of q + 8) ≡ q.start)) (sym (IsIn-rest_behind (range_at block taken) (end_of span) g i).0)
              (left.size, left.behind);
          kept =
              λ q from to. left.rewrites.bytes q (omega (arith, moved.start, inside.0)) (outside q from to)
              ∙ moved.bytes q (omega (arith, inside.0)) (λ a at. inr (omega arith));
          table = subst (λ l. HasTable fllen sllen n changed (l ++ free)) (sym some) left.table;
        }
      where
        -- what is written then lies behind the block's front, or is a link
        early : (a : ℕ) → a % 32 < 16 → a < block + taken → Touched free (rest_of block taken span) (end_of (rest_of block taken span) + 8) a → ⊥
        early a place low (at_link (g, i, inl at)) = omega (arith, (inner.list.placed g i).whole, place)
        early a place low (at_link (g, i, inr at)) = omega (arith, (inner.list.placed g i).whole, place)
        early a place low (in_hole from to) = omega arith
        early a place low (at_other at) = omega arith

        joined : (a : ℕ) → (a ≡ block) ⊎ Touched free (rest_of block taken span) (end_of (rest_of block taken span) + 8) a → Touched free span (end_of span + 8) a
        joined a (inl at) = in_hole (omega arith) (omega (arith, inner.room))
        joined a (inr (at_link l)) = at_link l
        joined a (inr (in_hole low high)) = in_hole (omega arith) (omega arith)
        joined a (inr (at_other at)) = at_other (omega arith)

        outside : (q : Range) → span.start + 16 ≤ q.start → end_of q ≤ end_of (range_at block taken) → (a : ℕ)
            → Touched free (rest_of block taken span) (end_of (rest_of block taken span) + 8) a → (end_of q ≤ a) ⊎ (a + 8 ≤ q.start)
        outside q from to a (at_link l) = link_side a l q (omega arith) (omega arith)
        outside q from to a (in_hole low high) = inl (omega arith)
        outside q from to a (at_other at) = inl (omega arith)

    -- ---- nothing is left

    -- the word behind it was written
    pub named_from : {n : Space} → n.start ≡ m1.start → n.bytes ≡ with_word m1 (block + total + 8) block → n.out ≡ out_with m1 (word_range (block + total + 8))
        → IsWrite m1 n (block + total + 8) block
    named_from same written out =
        let can =
        IsWritable-in (placed_by (rewrites_of sized)) (range_at (end_of span) 16) (omega arith, inner.not_last) inner.behind (block + total + 8)
        (omega (arith, inner.block.whole.start, inner.block.whole.len)) (omega arith) (omega arith) in
        write can same written (omega arith) out

    module _ {n : Space} (all : total ≤ taken) (named : IsWrite m1 n (block + total + 8) block) where
      pub IsOccupied-whole_span : IsOccupied fllen sllen m n table free span (range_at block taken)
      IsOccupied-whole_span =
          let inside = inner.lies_in in
          let moved = rewrites_of sized in
          let last = rewrites_of named in
          let none : rest_behind (range_at block taken) (end_of span) ≡ [] =
          ap (λ b. cond b (rest_of block taken span ∷ []) []) (le-ltb (end_of (range_at block taken)) (end_of span) (omega arith)) in
          record {
            rewrites = Rewrites-weaken joined (Rewrites-trans moved last);
            size = last.words span.start (omega arith) (omega (arith, moved.start, inside.0)) (λ e. omega arith) ∙ ap (word_at m1) start ∙ reads_of sized;
            first = last.words (span.start + 8) (omega arith) (omega (arith, moved.start, inside.0)) (λ e. omega arith)
                ∙ moved.words (span.start + 8) (omega arith) (omega (arith, inside.0)) (λ e. omega arith);
            behind = ap (word_at n) (omega (arith, part.2)) ∙ reads_of named ∙ sym start;
            rest = λ g i. absurd (subst (λ l. IsIn g l) none i);
            kept =
                λ q from to. last.bytes q (omega (arith, moved.start, inside.0)) (λ a at. inl (omega arith))
                ∙ moved.bytes q (omega (arith, inside.0)) (λ a at. inr (omega arith));
            table = subst (λ l. HasTable fllen sllen n table (l ++ free)) (sym none) (IsFreeTable-Rewrites last other (IsFreeTable-Rewrites moved unlinked inner.list)).table;
          }
        where
          joined : (a : ℕ) → (a ≡ block) ⊎ (a ≡ block + total + 8) → Touched free span (end_of span + 8) a
          joined a (inl at) = in_hole (omega arith) (omega (arith, inner.room))
          joined a (inr at) = at_other (omega arith)

          other : (g : Range) → IsIn g free → ¬ (g.start ≡ block + total + 8) × ¬ (g.start + 16 ≡ block + total + 8) × ¬ (g.start + 24 ≡ block + total + 8)
          other g i = grind arith
