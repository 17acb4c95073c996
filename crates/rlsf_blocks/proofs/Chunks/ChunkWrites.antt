-- The writes that make a chunk.
use Rattle.rlsf_base.proofs.Lending.Present.{own-there, own-inside}
use Rattle.rlsf_base.specs.OpenSpace.{out_with}
use Rattle.rlsf_base.specs.Space.{word_range, Space, word_at, with_word}
use Rattle.std.proofs.Common.{◌≡◌, ℕ, ◌+◌, ◌-◌, ◌%◌, ◌^◌, ◌<◌, ◌≤◌, ◌⊎◌, ◌∷◌, length, arith, inl, inr, ◌∙◌, ap, subst}
use Rattle.rlsf_base.specs.declared.memory.range.Range.{Range}
use Rattle.rlsf_table.specs.Rewrites.{IsLink, CanBeBlock, Rewrites}
use Rattle.rlsf_table.specs.FreeTable.{IsFreeTable, IsRoom}
use Rattle.rlsf_table.specs.Table.{Table, HasTable}
use Rattle.rlsf_table.proofs.Tables.FreeTables.{HasTable-Rewrites}
use Rattle.rlsf_table.proofs.Words.Writing.{IsWrite, write, rewrites_of, reads_of}
use Rattle.rlsf_table.proofs.Words.Writes.{before_links, Rewrites-trans, Rewrites-weaken, CanBeBlock-Rewrites}
use Rattle.rlsf_blocks.proofs.Words.Stays.{IsPlacedAs, IsWritable-in, placed_by, placed_here, placed_then}
use Rattle.rlsf_blocks.specs.Steps.Touched.{Touched, at_link, in_hole}
use Rattle.rlsf_blocks.specs.InBand.{sentinel_of}
use Rattle.rlsf_model.specs.Insert.{body}
use Rattle.rlsf_model.specs.Lists.{IsIn}
use Rattle.rlsf_model.specs.State.{State}
use Rattle.rlsf_model.specs.WellFormed.{coverage, itself}
use Rattle.rlsf_blocks.specs.Steps.Pool.{IsAdded, IsNewChunk, opened}
use Rattle.rlsf_blocks.specs.StandsFor.{contents, StandsFor}
use Rattle.rlsf_blocks.proofs.Words.Apart.{Has}
use Rattle.rlsf_blocks.proofs.Words.Frames.{free_size}
use Rattle.rlsf_blocks.proofs.RepresentedStates.FreeBlocks.{IsFreeTable-free}
use Rattle.rlsf_model.proofs.Coverage.{inside, before, behind, where_is, covers-inside, coverage-IsIn}
use Rattle.rlsf_model.proofs.Tiling.{free-le, tiling_of}

-- the memories m1 to m4 after the four writes
pub record AreWrites (m m1 m2 m3 m4 : Space) (c : Range) : Type 0 where
  pub one : IsWrite m m1 c.start (c.len - 32)
  pub two : IsWrite m1 m2 (c.start + 8) 0
  pub three : IsWrite m2 m3 (sentinel_of c) 35
  pub four : IsWrite m3 m4 (sentinel_of c + 8) c.start

pub AreWrites-from : {fllen sllen : ℕ} {m m1 m2 m3 m4 : Space} {s : State} (c : Range) (len sentinel : ℕ) → IsNewChunk fllen sllen m s c → m.start + length m.bytes < 2 ^ 64
    → len ≡ c.len - 32 → sentinel ≡ c.start + len
    → (m1.start ≡ m.start) × (m1.bytes ≡ with_word m c.start len) × (m1.out ≡ out_with m (word_range c.start))
    → (m2.start ≡ m1.start) × (m2.bytes ≡ with_word m1 (c.start + 8) 0) × (m2.out ≡ out_with m1 (word_range (c.start + 8)))
    → (m3.start ≡ m2.start) × (m3.bytes ≡ with_word m2 sentinel 35) × (m3.out ≡ out_with m2 (word_range sentinel))
    → (m4.start ≡ m3.start) × (m4.bytes ≡ with_word m3 (sentinel + 8) c.start) × (m4.out ≡ out_with m3 (word_range (sentinel + 8))) → AreWrites m m1 m2 m3 m4 c
AreWrites-from {m = m} {m1 = m1} {m2 = m2} {m3 = m3} {m4 = m4} c len sentinel new addressable len_is sentinel_is e1 e2 e3 e4 =
    let place : sentinel ≡ sentinel_of c = omega arith in
    let can = λ (l : Space) (is : IsPlacedAs m l) (a : ℕ). IsWritable-in is c new.lies_in new.own a in
    let w1 : IsWrite m m1 c.start len = write (can m (placed_here m) c.start (omega arith) (omega arith) (omega arith)) e1.0 e1.1 (omega arith) e1.2 in
    let one = placed_by (rewrites_of w1) in
    let w2 : IsWrite m1 m2 (c.start + 8) 0 = write (can m1 one (c.start + 8) (omega arith) (omega arith) (omega arith)) e2.0 e2.1 (omega arith) e2.2 in
    let two = placed_then one (placed_by (rewrites_of w2)) in
    let w3 : IsWrite m2 m3 sentinel 35 = write (can m2 two sentinel (omega arith) (omega arith) (omega arith)) e3.0 e3.1 (omega arith) e3.2 in
    let three = placed_then two (placed_by (rewrites_of w3)) in
    let w4 : IsWrite m3 m4 (sentinel + 8) c.start = write (can m3 three (sentinel + 8) (omega arith) (omega arith) (omega arith)) e4.0 e4.1 (omega arith) e4.2 in
    record {
      one = subst (λ n. IsWrite m m1 c.start n) len_is w1;
      two = w2;
      three = subst (λ a. IsWrite m2 m3 a 35) place w3;
      four = subst (λ a. IsWrite m3 m4 (a + 8) c.start) place w4;
    }

module _ {fllen sllen : ℕ} {m m1 m2 m3 m4 : Space} {table : Table} {s : State} (v : StandsFor fllen sllen (contents m table) s) (c : Range) (new : IsNewChunk fllen sllen m s c)
    (writes : AreWrites m m1 m2 m3 m4 c) where
  -- each of the four words is in the chunk
  rewrites : Rewrites m m4 (Touched s.free (opened c) (c.start + 8))
  rewrites =
      Rewrites-weaken go (Rewrites-trans (Rewrites-trans (Rewrites-trans (rewrites_of writes.one) (rewrites_of writes.two)) (rewrites_of writes.three)) (rewrites_of writes.four))
    where
      go : (a : ℕ) → ((((a ≡ c.start) ⊎ (a ≡ c.start + 8)) ⊎ (a ≡ sentinel_of c)) ⊎ (a ≡ sentinel_of c + 8)) → Touched s.free (opened c) (c.start + 8) a
      go a (inl (inl (inl at))) = in_hole (omega arith) (omega (arith, new.room))
      go a (inl (inl (inr at))) = in_hole (omega arith) (omega (arith, new.room))
      go a (inl (inr at)) = in_hole (omega arith) (omega (arith, new.room))
      go a (inr at) = in_hole (omega arith) (omega (arith, new.room))

  sized : Rewrites m m4 (λ a. (a % 32 ≡ 0) ⊎ (a % 32 ≡ 8))
  sized =
      Rewrites-weaken go (Rewrites-trans (Rewrites-trans (Rewrites-trans (rewrites_of writes.one) (rewrites_of writes.two)) (rewrites_of writes.three)) (rewrites_of writes.four))
    where
      go : (a : ℕ) → ((((a ≡ c.start) ⊎ (a ≡ c.start + 8)) ⊎ (a ≡ sentinel_of c)) ⊎ (a ≡ sentinel_of c + 8)) → (a % 32 ≡ 0) ⊎ (a % 32 ≡ 8)
      go a (inl (inl (inl at))) = inl (omega (arith, new.whole.start))
      go a (inl (inl (inr at))) = inr (omega (arith, new.whole.start))
      go a (inl (inr at)) = inl (omega (arith, new.whole.start, new.whole.len))
      go a (inr at) = inr (omega (arith, new.whole.start, new.whole.len))

  -- the table of free blocks is as it was
  free_table : IsFreeTable fllen sllen m4 table s.free
  free_table =
      let list = IsFreeTable-free v in
      record {
        table = HasTable-Rewrites sized list.placed (λ f i. (third f i, fourth f i)) list.table;
        blocks = list.blocks;
        placed = λ f i. CanBeBlock-Rewrites sized (list.placed f i);
        apart = list.apart;
        sizes =
            λ f i. free_size v.well_formed (opened c) new.whole.start (omega (arith, new.room)) (c.start + 8) (omega (arith, new.whole.start)) (omega arith)
            (omega (arith, new.room)) rewrites f i (unmet f i) ∙ list.sizes f i;
        addressable = omega (arith, list.addressable, sized.start, sized.length);
      }
    where
      third : (f : Range) → IsIn f s.free → ((f.start + 16) % 32 ≡ 0) ⊎ ((f.start + 16) % 32 ≡ 8) → ⊥
      third f i (inl at) = omega (arith, (v.well_formed.free f i).whole.start)
      third f i (inr at) = omega (arith, (v.well_formed.free f i).whole.start)

      fourth : (f : Range) → IsIn f s.free → ((f.start + 24) % 32 ≡ 0) ⊎ ((f.start + 24) % 32 ≡ 8) → ⊥
      fourth f i (inl at) = omega (arith, (v.well_formed.free f i).whole.start)
      fourth f i (inr at) = omega (arith, (v.well_formed.free f i).whole.start)

      unmet : (f : Range) → IsIn f s.free → (a : ℕ) → Has f a → Has (opened c) a → ⊥
      unmet f i a hf hc = omega (arith, new.fresh a hc.from (omega (arith, hc.to)), v.well_formed.tiled a, coverage-IsIn itself f s.free a i, covers-inside f a hf.from hf.to)

  placed_body : CanBeBlock m4 (body c)
  placed_body =
      record {
        own = own-there m m4 (body c) (omega (arith, new.lies_in)) sized.own (own-inside m c (body c) (omega arith) (omega (arith, new.room)) new.own);
        some = new.some;
        whole = new.whole.start;
        room = omega (arith, new.room);
        lies_in =
            (omega (arith, new.lies_in, sized.start), omega (arith, new.lies_in, new.room, sized.start, sized.length));
      }

  apart_body : (a : ℕ) → coverage itself (body c ∷ s.free) a ≤ 1
  apart_body a = grind (arith, where_is, inside, before, free-le, tiling_of, behind)

  -- the new block has room beside them
  pub IsRoom-body : IsRoom fllen sllen m4 table s.free (body c)
  IsRoom-body = record { list = free_table; block = new.block; placed = placed_body; apart = apart_body }

  -- and once the block is linked, the chunk is there
  module _ {n : Space} {changed : Table} (linked : HasTable fllen sllen n changed (body c ∷ s.free) × Rewrites m4 n (IsLink (body c ∷ s.free))) where
    -- a word that is no link is as the four writes left it
    kept : (a : ℕ) → (a % 32 ≡ 0) ⊎ (a % 32 ≡ 8) → c.start ≤ a → word_at n a ≡ word_at m4 a
    kept a place from = before_links (body c ∷ s.free) start linked.1 a place (omega (arith, new.lies_in, sized.start))
      where
        start : (f : Range) → IsIn f (body c ∷ s.free) → f.start % 32 ≡ 0
        start f (inl is) = omega (arith, new.whole.start, ap (λ r. r.start) is)
        start f (inr i) = (v.well_formed.free f i).whole.start

    pub IsAdded-written : IsAdded fllen sllen m n changed s.free c
    IsAdded-written =
        let whole = new.whole in
        let r34 = rewrites_of writes.four in
        let r24 = Rewrites-trans (rewrites_of writes.three) (rewrites_of writes.four) in
        let r14 = Rewrites-trans (rewrites_of writes.two) r24 in
        let inside1 : m1.start ≤ c.start = omega (arith, new.lies_in, writes.one.start) in
        let inside2 : m2.start ≤ c.start = omega (arith, writes.two.start) in
        let granule : sentinel_of c % 32 ≡ 0 = omega (arith, whole.start, whole.len) in
        record {
          rewrites = Rewrites-weaken joined (Rewrites-trans rewrites linked.1);
          size = kept c.start (inl whole.start) (omega arith) ∙ r14.words c.start (omega (arith, whole.start)) inside1 size_apart ∙ reads_of writes.one;
          first =
              kept (c.start + 8) (inr (omega (arith, whole.start))) (omega arith) ∙ r24.words (c.start + 8) (omega (arith, whole.start)) (omega (arith, inside2)) first_apart
              ∙ reads_of writes.two;
          sentinel = kept (sentinel_of c) (inl granule) (omega arith) ∙ r34.words (sentinel_of c) (omega arith) (omega arith) (λ e. omega arith) ∙ reads_of writes.three;
          previous = kept (sentinel_of c + 8) (inr (omega arith)) (omega arith) ∙ reads_of writes.four;
          table = linked.0;
        }
      where
        joined : (a : ℕ) → Touched s.free (opened c) (c.start + 8) a ⊎ IsLink (body c ∷ s.free) a → Touched s.free (opened c) (c.start + 8) a
        joined a (inl t) = t
        joined a (inr (f, inl is, inl at)) = in_hole (omega (arith, ap (λ r. r.start) is)) (omega (arith, ap (λ r. r.start) is, new.room))
        joined a (inr (f, inl is, inr at)) = in_hole (omega (arith, ap (λ r. r.start) is)) (omega (arith, ap (λ r. r.start) is, new.room))
        joined a (inr (f, inr i, at)) = at_link (f, i, at)

        size_apart : (c.start ≡ c.start + 8) ⊎ ((c.start ≡ sentinel_of c) ⊎ (c.start ≡ sentinel_of c + 8)) → ⊥
        size_apart (inl e) = omega arith
        size_apart (inr (inl e)) = omega (arith, new.room)
        size_apart (inr (inr e)) = omega arith

        first_apart : (c.start + 8 ≡ sentinel_of c) ⊎ (c.start + 8 ≡ sentinel_of c + 8) → ⊥
        first_apart (inl e) = omega (arith, new.room)
        first_apart (inr e) = omega (arith, new.room)
