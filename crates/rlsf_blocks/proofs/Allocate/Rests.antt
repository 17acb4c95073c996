-- Room for a free block among bytes that are no block's, and the writes that make one there.
use Rattle.rlsf_base.proofs.Lending.Present.{own-there, own-inside}
use Rattle.rlsf_base.specs.OpenSpace.{out_with}
use Rattle.rlsf_base.specs.Range.{range_at, end_of}
use Rattle.rlsf_base.specs.Space.{word_range, Space, word_at, with_word}
use Rattle.std.proofs.Common.{◌≡◌, ◌≢◌, ℕ, ◌+◌, ◌-◌, ◌%◌, ◌^◌, ◌<◌, ◌≤◌, ◌⊎◌, List, ◌∷◌, arith, inl, inr, refl, sym, ◌∙◌, ap, subst}
use Rattle.rlsf_base.specs.declared.memory.range.Range.{Range}
use Rattle.rlsf_table.specs.Rewrites.{IsLink, Rewrites}
use Rattle.rlsf_table.specs.FreeTable.{IsRoom}
use Rattle.rlsf_table.specs.Table.{Table, HasTable}
use Rattle.rlsf_table.proofs.Tables.FreeTables.{IsFreeTable-Rewrites}
use Rattle.rlsf_table.proofs.Words.Writes.{before_links, Rewrites-trans, Rewrites-weaken, CanBeBlock-Rewrites, Writes, Writes-none, Writes-some}
use Rattle.rlsf_table.proofs.Words.Writing.{IsWrite, write, rewrites_of, reads_of}
use Rattle.rlsf_blocks.proofs.Words.Stays.{IsWritable-in, placed_by, placed_here, placed_then}
use Rattle.rlsf_blocks.specs.Steps.Touched.{Touched, at_link, in_hole, at_other}
use Rattle.rlsf_model.specs.Lists.{IsIn}
use Rattle.rlsf_model.specs.State.{between}
use Rattle.rlsf_model.specs.WellFormed.{covers, itself}
use Rattle.rlsf_blocks.specs.Steps.Join.{IsNewFreeBlock}
use Rattle.rlsf_blocks.specs.Steps.Resize.{IsSpanRoom}
use Rattle.rlsf_blocks.specs.Steps.Rest.{IsInnerRoom, IsFreeBlockBehind}
use Rattle.rlsf_model.proofs.Coverage.{inside, before, behind, where_is, covers-inside, coverage-IsIn}
use Rattle.rlsf_model.proofs.Tiling.{IsValidClass-le}

-- a part of a range has no address that the range doesn't have
pub covers-part : (r f : Range) (a : ℕ) → f.start ≤ r.start → end_of r ≤ end_of f → covers r a ≤ covers f a
covers-part r f a from to = grind (arith, where_is, inside, covers-inside, before, behind)

-- room for a block stays room for one where no start and no link of the other free blocks was written
pub IsInnerRoom-Rewrites : {fllen sllen : ℕ} {m n : Space} {t : Table} {free : List Range} {r : Range} {at : ℕ → Type 0} → Rewrites m n at
    → ((f : Range) → IsIn f free → ¬ at f.start × ¬ at (f.start + 16) × ¬ at (f.start + 24)) → IsInnerRoom fllen sllen m t free r → IsInnerRoom fllen sllen n t free r
IsInnerRoom-Rewrites {m = m} {n = n} {r = r} rewrites other inner =
    let room = inner.room in
    record {
      room = record { list = IsFreeTable-Rewrites rewrites other room.list; block = room.block; placed = CanBeBlock-Rewrites rewrites room.placed; apart = room.apart };
      not_last = omega (arith, inner.not_last, rewrites.start, rewrites.length);
      behind = own-there m n (range_at (end_of r) 16) (omega (arith, room.placed.lies_in)) rewrites.own inner.behind;
    }

-- a range of which each byte is the memory's own is one of which any front can be taken
pub IsSpanRoom-inner : {fllen sllen : ℕ} {m : Space} {t : Table} {free : List Range} {r : Range} (taken : ℕ) → IsInnerRoom fllen sllen m t free r
    → IsSpanRoom fllen sllen m t free r taken
IsSpanRoom-inner taken inner = record {
  list = inner.room.list;
  block = inner.room.block;
  some = inner.room.placed.some;
  room = inner.room.placed.room;
  lies_in = inner.room.placed.lies_in;
  apart = inner.room.apart;
  front = λ a lo hi. inner.room.placed.own a lo (omega (arith, hi, inner.room.placed.room));
  rest = λ a lo hi. inner.room.placed.own a (omega (arith, lo)) (omega (arith, lo, hi));
  not_last = inner.not_last;
  behind = inner.behind;
}

-- what is left of it behind the front is room for a block
pub IsInnerRoom-part : {fllen sllen : ℕ} {m : Space} {t : Table} {free : List Range} {taken : ℕ} (r : Range) → IsSpanRoom fllen sllen m t free r taken → (from : ℕ)
    → from ≡ r.start + taken → taken % 32 ≡ 0 → taken < r.len → IsInnerRoom fllen sllen m t free (between from (end_of r))
IsInnerRoom-part {fllen} {sllen} {m} {taken = taken} r span from at granules short =
    let is = span.block in
    let some : 0 < end_of r - from = omega arith in
    record {
      room = record {
        list = span.list;
        block = record {
          whole = record { start = omega (arith, is.whole.start); len = omega (arith, is.whole.start, is.whole.len) };
          some = some;
          valid = IsValidClass-le fllen sllen (end_of r - from) r.len some (omega arith) is.valid;
        };
        placed = record {
          some = omega (arith, span.some);
          whole = omega (arith, is.whole.start);
          room = omega (arith, is.whole.start, is.whole.len);
          lies_in = (omega (arith, span.lies_in.0), omega (arith, span.lies_in.1));
          own = own-inside m (between (r.start + taken) (end_of r)) (between from (end_of r)) (omega arith) (omega arith) span.rest;
        };
        apart = λ a. omega (arith, span.apart a, covers-part (between from (end_of r)) r a (omega arith) (omega arith));
      };
      not_last = omega (arith, span.not_last);
      behind = own-inside m (range_at (end_of r) 16) (range_at (end_of (between from (end_of r))) 16) (omega arith) (omega arith) span.behind;
    }

-- the memories m1 to m3 after the writes: the size of the rest, the block before it, where that is wanted, and the start of the rest behind it
pub record AreLeft (named : Type 0) (m m1 m2 m3 : Space) (block : ℕ) (r : Range) : Type 0 where
  pub one : IsWrite m m1 r.start r.len
  pub two : Writes m1 m2 named (r.start + 8) block
  pub three : IsWrite m2 m3 (end_of r + 8) r.start

pub AreLeft-from : {fllen sllen : ℕ} {m m1 m2 m3 : Space} {table : Table} {free : List Range} (block len taken : ℕ) (r : Range) → IsInnerRoom fllen sllen m table free r
    → r.start ≡ block + taken → r.len + taken ≡ len → block < 2 ^ 64
    → (m1.start ≡ m.start) × (m1.bytes ≡ with_word m (block + taken) (len - taken)) × (m1.out ≡ out_with m (word_range (block + taken)))
    → (m2.start ≡ m1.start) × (m2.bytes ≡ with_word m1 (block + taken + 8) block) × (m2.out ≡ out_with m1 (word_range (block + taken + 8)))
    → (m3.start ≡ m2.start) × (m3.bytes ≡ with_word m2 (block + len + 8) (block + taken)) × (m3.out ≡ out_with m2 (word_range (block + len + 8)))
    → AreLeft (Unit {0}) m m1 m2 m3 block r
AreLeft-from {m = m} {m1 = m1} {m2 = m2} {m3 = m3} block len taken r room start_is len_is fits e1 e2 e3 =
    let start : block + taken ≡ r.start = sym start_is in
    let can1 = IsWritable-in (placed_here m) r room.room.placed.lies_in room.room.placed.own (block + taken) (omega arith) (omega arith) (omega arith) in
    let w1 : IsWrite m m1 (block + taken) (len - taken) = write can1 e1.0 e1.1 (omega arith) e1.2 in
    let one = placed_by (rewrites_of w1) in
    let can2 = IsWritable-in one r room.room.placed.lies_in room.room.placed.own (block + taken + 8) (omega arith) (omega arith) (omega arith) in
    let w2 : IsWrite m1 m2 (block + taken + 8) block = write can2 e2.0 e2.1 fits e2.2 in
    let two = placed_then one (placed_by (rewrites_of w2)) in
    let can3 = IsWritable-in two (range_at (end_of r) 16) (omega arith, room.not_last) room.behind (block + len + 8) (omega arith) (omega arith) (omega arith) in
    let w3 : IsWrite m2 m3 (block + len + 8) (block + taken) = write can3 e3.0 e3.1 (omega arith) e3.2 in
    record {
      one = subst (λ a. IsWrite m m1 a r.len) start (subst (λ n. IsWrite m m1 (block + taken) n) (omega arith) w1);
      two = subst (λ a. Writes m1 m2 (Unit {0}) (a + 8) block) start (Writes-some (Unit {0}) tt w2.placed w2.fits w2.start w2.bytes w2.out);
      three = subst (λ a. IsWrite m2 m3 (end_of r + 8) a) start (subst (λ a. IsWrite m2 m3 (a + 8) (block + taken)) (omega arith) w3);
    }

-- the word that names the block before it isn't written
pub ArePut-from : {fllen sllen : ℕ} {m m1 m2 : Space} {t : Table} {free : List Range} (block len : ℕ) (r : Range) → IsInnerRoom fllen sllen m t free r → r.start ≡ block
    → r.len ≡ len
    → (m1.start ≡ m.start) × (m1.bytes ≡ with_word m block len) × (m1.out ≡ out_with m (word_range block))
    → (m2.start ≡ m1.start) × (m2.bytes ≡ with_word m1 (block + len + 8) block) × (m2.out ≡ out_with m1 (word_range (block + len + 8))) → AreLeft ⊥ m m1 m1 m2 0 r
ArePut-from {m = m} {m1 = m1} {m2 = m2} block len r inner start length e1 e2 =
    let inside = inner.room.placed.lies_in in
    let whole = inner.room.block.whole in
    let not_last = inner.not_last in
    let addressable = inner.room.list.addressable in
    let end : block + len ≡ end_of r = omega arith in
    let large = inner.room.placed.room in
    let can1 = IsWritable-in (placed_here m) r inside inner.room.placed.own block (omega arith) (omega arith) (omega arith) in
    let w1 : IsWrite m m1 block len = write can1 e1.0 e1.1 (omega arith) e1.2 in
    let one = placed_by (rewrites_of w1) in
    let can2 = IsWritable-in one (range_at (end_of r) 16) (omega arith, inner.not_last) inner.behind (block + len + 8) (omega arith) (omega arith) (omega arith) in
    let w2 : IsWrite m1 m2 (block + len + 8) block = write can2 e2.0 e2.1 (omega arith) e2.2 in
    record {
      one = subst (λ a. IsWrite m m1 a r.len) (sym start) (subst (λ n. IsWrite m m1 block n) (sym length) w1);
      two = Writes-none m1 m1 ⊥ (r.start + 8) 0 refl (λ none. none);
      three = subst (λ a. IsWrite m1 m2 (end_of r + 8) a) (sym start) (subst (λ a. IsWrite m1 m2 (a + 8) block) end w2);
    }

module _ {fllen sllen : ℕ} {named : Type 0} {m m1 m2 m3 : Space} {table : Table} {block : ℕ} {free : List Range} (r : Range) (inner : IsInnerRoom fllen sllen m table free r)
    (writes : AreLeft named m m1 m2 m3 block r) where
  written : Rewrites m m3 (λ a. (a ≡ r.start) ⊎ ((named × (a ≡ r.start + 8)) ⊎ (a ≡ end_of r + 8)))
  written = Rewrites-trans (rewrites_of writes.one) (Rewrites-trans writes.two.rewrites (rewrites_of writes.three))

  room : IsRoom fllen sllen m table free r
  room = inner.room

  pub IsRoom-written : IsRoom fllen sllen m3 table free r
  IsRoom-written = record { list = IsFreeTable-Rewrites written other room.list; block = room.block; placed = CanBeBlock-Rewrites written room.placed; apart = room.apart }
    where
      other : (f : Range) → IsIn f free → ¬ ((f.start ≡ r.start) ⊎ ((named × (f.start ≡ r.start + 8)) ⊎ (f.start ≡ end_of r + 8)))
          × ¬ ((f.start + 16 ≡ r.start) ⊎ ((named × (f.start + 16 ≡ r.start + 8)) ⊎ (f.start + 16 ≡ end_of r + 8)))
          × ¬ ((f.start + 24 ≡ r.start) ⊎ ((named × (f.start + 24 ≡ r.start + 8)) ⊎ (f.start + 24 ≡ end_of r + 8)))
      other f i =
          let placed = room.list.placed f i in
          let apart : f.start ≢ r.start =
          λ same. omega (
            arith,
            room.apart r.start,
            covers-inside r r.start (omega arith) (omega arith),
            coverage-IsIn itself f free r.start i,
            covers-inside f r.start (omega arith) (omega (arith, placed.room)),
          ) in (
            (elim [ inl e ↦ apart e | inr (inl (_, e)) ↦ omega (arith, placed.whole) | inr (inr e) ↦ omega (arith, placed.whole) ]),
            (elim [ inl e ↦ omega (arith, placed.whole) | inr (inl (_, e)) ↦ omega (arith, placed.whole) | inr (inr e) ↦ omega (arith, placed.whole) ]),
            (elim [ inl e ↦ omega (arith, placed.whole) | inr (inl (_, e)) ↦ omega (arith, placed.whole) | inr (inr e) ↦ omega (arith, placed.whole) ]),
          )

  -- and once the rest is linked, it is a free block
  module _ {n : Space} {changed : Table} (linked : HasTable fllen sllen n changed (r ∷ free) × Rewrites m3 n (IsLink (r ∷ free))) where
    kept : (a : ℕ) → (a % 32 ≡ 0) ⊎ (a % 32 ≡ 8) → m.start ≤ a → word_at n a ≡ word_at m3 a
    kept a place from = before_links (r ∷ free) start linked.1 a place (omega (arith, written.start))
      where
        start : (f : Range) → IsIn f (r ∷ free) → f.start % 32 ≡ 0
        start f (inl is) = omega (arith, room.placed.whole, ap (λ q. q.start) is)
        start f (inr i) = (room.list.placed f i).whole

    size : word_at n r.start ≡ r.len
    size =
        let inside = room.placed.lies_in in
        let later = Rewrites-trans writes.two.rewrites (rewrites_of writes.three) in
        kept r.start (inl room.block.whole.start) inside.0 ∙ later.words r.start (omega (arith, room.block.whole.start)) (omega (arith, inside.0, writes.one.start)) apart
        ∙ reads_of writes.one
      where
        apart : (named × (r.start ≡ r.start + 8)) ⊎ (r.start ≡ end_of r + 8) → ⊥
        apart (inl (_, e)) = omega arith
        apart (inr e) = omega arith

    named_behind : word_at n (end_of r + 8) ≡ r.start
    named_behind =
        kept (end_of r + 8) (inr (omega (arith, room.block.whole.start, room.block.whole.len))) (omega (arith, room.placed.lies_in)) ∙ reads_of writes.three

    rewrites : Rewrites m n (Touched free r (end_of r + 8))
    rewrites = Rewrites-weaken joined (Rewrites-trans written linked.1)
      where
        joined : (a : ℕ) → ((a ≡ r.start) ⊎ ((named × (a ≡ r.start + 8)) ⊎ (a ≡ end_of r + 8))) ⊎ IsLink (r ∷ free) a → Touched free r (end_of r + 8) a
        joined a (inl (inl e)) = in_hole (omega arith) (omega (arith, room.placed.room))
        joined a (inl (inr (inl (_, e)))) = in_hole (omega arith) (omega (arith, room.placed.room))
        joined a (inl (inr (inr e))) = at_other e
        joined a (inr (f, inl is, inl at)) = in_hole (omega (arith, ap (λ q. q.start) is)) (omega (arith, ap (λ q. q.start) is, room.placed.room))
        joined a (inr (f, inl is, inr at)) = in_hole (omega (arith, ap (λ q. q.start) is)) (omega (arith, ap (λ q. q.start) is, room.placed.room))
        joined a (inr (f, inr i, at)) = at_link (f, i, at)

    -- whose second word names the block before it
    pub IsFreeBlockBehind-written : named → IsFreeBlockBehind fllen sllen m n changed free block r
    IsFreeBlockBehind-written holds =
        let last = rewrites_of writes.three in
        record {
          rewrites = rewrites;
          size = size;
          previous = kept (r.start + 8) (inr (omega arith)) (omega arith) ∙ last.words (r.start + 8) (omega arith) (omega arith) (λ e. omega arith) ∙ writes.two.reads holds;
          behind = named_behind;
          table = linked.0;
        }

    -- or is as it was
    pub IsNewFreeBlock-written : ¬ named → IsNewFreeBlock fllen sllen m n changed free r
    IsNewFreeBlock-written none = record {
      rewrites = rewrites;
      size = size;
      first = kept (r.start + 8) (inr (omega arith)) (omega arith) ∙ written.words (r.start + 8) (omega arith) (omega arith) apart;
      behind = named_behind;
      table = linked.0;
    }
      where
        apart : (r.start + 8 ≡ r.start) ⊎ ((named × (r.start + 8 ≡ r.start + 8)) ⊎ (r.start + 8 ≡ end_of r + 8)) → ⊥
        apart (inl e) = omega arith
        apart (inr (inl (holds, e))) = none holds
        apart (inr (inr e)) = omega (arith, room.placed.room)
