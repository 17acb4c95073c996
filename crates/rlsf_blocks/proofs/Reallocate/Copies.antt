-- Bytes were copied to a place inside a hole that is no block's: the free blocks are as they were.
use Rattle.std.proofs.Common.{◌≡◌, ℕ, ◌+◌, ◌-◌, ◌%◌, ◌≤◌, ◌<◌, ◌⊎◌, List, length, take, drop, arith, inl, inr, sym, subst, ◌∙◌, ap}
use Rattle.std.proofs.lemmas.Bool.{cases_lt}
use Rattle.rlsf_base.specs.declared.memory.range.Range.{Range}
use Rattle.rlsf_base.specs.Range.{end_of, range_at, LiesIn}
use Rattle.rlsf_base.specs.Space.{Space, byte_range, bytes_in, with_bytes}
use Rattle.rlsf_base.specs.OpenSpace.{IsOwned, out_with}
use Rattle.rlsf_base.proofs.Lending.Copied.{length-with_bytes, bytes_in-with_bytes, word_at-with_bytes, out_at-copied, none-copied, is_own-copied, here-copied}
use Rattle.rlsf_base.proofs.Lending.Whole.{none-with}
use Rattle.rlsf_base.proofs.Lending.Present.{own-inside}
use Rattle.rlsf_model.specs.Lists.{IsIn}
use Rattle.rlsf_model.specs.WellFormed.{itself}
use Rattle.rlsf_model.proofs.Coverage.{covers-inside, coverage-IsIn}
use Rattle.rlsf_table.specs.Counts.{Costs}
use Rattle.rlsf_table.specs.Rewrites.{Rewrites}
use Rattle.rlsf_blocks.specs.Steps.Rest.{IsInnerRoom}
use Rattle.rlsf_table.specs.Table.{Table}
use Rattle.rlsf_blocks.proofs.Allocate.Rests.{IsInnerRoom-Rewrites}

-- the word at the address lies in the hole
abbrev pub IsInside : Range → ℕ → Type 0
IsInside hole a = (hole.start ≤ a) × (a + 8 ≤ end_of hole)

-- the bytes of a range were copied to an address in the hole, where they end in it too
pub record IsCopied (m n : Space) (hole from : Range) (to : ℕ) : Type 0 where
  pub placed : LiesIn from m.start (length m.bytes)
  pub low : hole.start ≤ to
  pub high : to + from.len ≤ end_of hole
  pub start : n.start ≡ m.start
  pub bytes : n.bytes ≡ with_bytes m to (bytes_in m from)
  pub out : n.out ≡ out_with m (range_at to from.len)

module _ {fllen sllen : ℕ} {m : Space} {t : Table} {free : List Range} (hole : Range) (inner : IsInnerRoom fllen sllen m t free hole) {n : Space} (from : Range) (to : ℕ)
    (copied : IsCopied m n hole from to) where
  -- what was written lies in the memory
  pub LiesIn-copied : (m.start ≤ to) × (to + from.len ≤ m.start + length m.bytes)
  LiesIn-copied = let inside = inner.room.placed.lies_in in (omega (arith, inside.0, copied.low), omega (arith, inside.1, copied.high))

  -- and is the memory's own
  pub IsOwned-there : IsOwned m (range_at to from.len)
  IsOwned-there = own-inside m hole (range_at to from.len) copied.low copied.high inner.room.placed.own

  pub Rewrites-copied : Rewrites m n (IsInside hole)
  Rewrites-copied = record {
    start = copied.start;
    length = length-with_bytes m n from to copied.placed LiesIn-copied copied.start copied.bytes copied.out;
    none = none-copied m n from to copied.placed LiesIn-copied copied.start copied.bytes copied.out;
    own = is_own-copied m n from to copied.placed LiesIn-copied copied.start copied.bytes copied.out IsOwned-there;
    here = here-copied m n from to copied.placed LiesIn-copied copied.start copied.bytes copied.out;
    kept = λ a inside apart. out_at-copied m n from to copied.placed LiesIn-copied copied.start copied.bytes copied.out a inside (byte_side a apart);
    words = λ a whole inside other. word_at-with_bytes m n from to copied.placed LiesIn-copied copied.start copied.bytes copied.out a inside (word_side a whole other);
    bytes = λ r inside apart. elim (cases_lt 0 r.len) [
      | inl some ↦ bytes_in-with_bytes m n from to copied.placed LiesIn-copied copied.start copied.bytes copied.out r inside (side r some apart)
      | inr none ↦ let empty : r.len ≡ 0 = omega arith in
          ap (λ k. take k (drop (r.start - n.start) n.bytes)) empty ∙ sym (ap (λ k. take k (drop (r.start - m.start) m.bytes)) empty)
    ];
  }
    where
      word_side : (a : ℕ) → a % 8 ≡ 0 → (IsInside hole a → ⊥) → (a + 8 ≤ to) ⊎ (to + from.len ≤ a)
      word_side a whole other = grind (arith, cases_lt, other)

      -- a range that none of the hole's words touches lies before the hole or behind it
      side : (r : Range) → 0 < r.len → ((a : ℕ) → IsInside hole a → (end_of r ≤ a) ⊎ (a + 8 ≤ r.start)) → (end_of r ≤ to) ⊎ (to + from.len ≤ r.start)
      side r some apart = elim (apart hole.start (omega arith, omega (arith, inner.room.placed.room))) [
        | inl before ↦ inl (omega (arith, copied.low))
        | inr low ↦ elim (apart (end_of hole - 8) (omega (arith, inner.room.placed.room), omega (arith, inner.room.placed.room))) [
          | inr behind ↦ inr (omega (arith, copied.high, inner.room.placed.room))
          | inl high ↦ elim (apart r.start (omega arith, omega (arith, inner.room.placed.room))) [ inl none ↦ absurd (omega arith) | inr none ↦ absurd (omega arith) ]
        ]
      ]

      byte_side : (a : ℕ) → ((b : ℕ) → IsInside hole b → (a < b) ⊎ (b + 8 ≤ a)) → (a < to) ⊎ (to + from.len ≤ a)
      byte_side a apart =
          elim (side (byte_range a) (omega arith) (λ b i. elim (apart b i) [ inl before ↦ inl (omega (arith, before)) | inr behind ↦ inr (omega (arith, behind)) ])) [
            | inl before ↦ inl (omega (arith, before))
            | inr behind ↦ inr (omega (arith, behind))
          ]

  -- the hole is room for a block as before
  pub IsInnerRoom-copied : IsInnerRoom fllen sllen n t free hole
  IsInnerRoom-copied = IsInnerRoom-Rewrites Rewrites-copied other inner
    where
      none : (f : Range) → IsIn f free → (k : ℕ) → k + 8 ≤ 32 → IsInside hole (f.start + k) → ⊥
      none f i k early (low, high) =
          let placed = inner.room.list.placed f i in
          let a = f.start + k in
          omega (arith, inner.room.apart a, covers-inside hole a low (omega arith), coverage-IsIn itself f free a i, covers-inside f a (omega arith) (omega (arith, placed.room)))

      other : (f : Range) → IsIn f free → ¬ IsInside hole f.start × ¬ IsInside hole (f.start + 16) × ¬ IsInside hole (f.start + 24)
      other f i = ((λ (low, high). none f i 0 (omega arith) (omega arith, omega arith)), none f i 16 (omega arith), none f i 24 (omega arith))

-- what a copy costs
pub Costs-copied : (m n : Space) (r : Range) → n.start ≡ m.start → length n.bytes ≡ length m.bytes → n.touches ≡ m.touches → n.copied ≡ m.copied + r.len
    → n.view ≡ m.view → n.out ≡ out_with m r → Costs m n 0 r.len
Costs-copied m n r start len touches copied view out =
    record { start = start; length = len; touches = omega (arith, touches); grow = omega (arith, touches); copied = copied; view = view; none = none-with m n r out }

-- the same number of copied bytes
pub Costs-moving : {m n : Space} {most a b : ℕ} → a ≡ b → Costs m n most a → Costs m n most b
Costs-moving {m} {n} {most} same costs = subst (Costs m n most) same costs

-- no more bytes were copied than that
pub copied-costs : {m n : Space} {most a b : ℕ} → Costs m n most a → a ≡ b → n.copied ≤ m.copied + b
copied-costs costs same = omega (arith, costs.copied, same)
