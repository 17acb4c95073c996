-- The totals and the lists of blocks that come one behind another.
use Rattle.std.proofs.Common.{◌≡◌, ℕ, ◌+◌, ◌-◌, ◌*◌, ◌≤◌, cond, not, List, [], ◌∷◌, ◌++◌, length, take, drop, arith, refl, sym, ◌∙◌, ap}
use Rattle.std.proofs.Common.{inl, inr}
use Rattle.std.proofs.lemmas.Bool.{cases_lt}
use Rattle.std.proofs.lemmas.List.{append-nil, append_assoc, drop-drop, length-append, map-append, take-append-le, take_all}
use Rattle.std.proofs.lemmas.List.Elements.{filter-append}
use Rattle.std.proofs.lemmas.List.Sums.{sum_by-append, sum_by-cons}
use Rattle.std.proofs.Math.Seq.{drop-append-add, take-append-add}
use Rattle.std.specs.Prelude.{max, nat_le}
use Rattle.rlsf_base.specs.Range.{end_of}
use Rattle.rlsf_blocks.specs.Blocks.{Block, IsInOrder}
use Rattle.rlsf_blocks.specs.declared.totals.Totals.{Totals}
use Rattle.rlsf_blocks.specs.Listing.{IsListingOf, all_from, all_numbers, numbers_of}
use Rattle.rlsf_blocks.specs.Totals.{AreTotalsOf, free_of, greatest, total, used_of}
use Rattle.rlsf_model.specs.Lists.{IsIn}
use Rattle.rlsf_model.proofs.Coverage.{by_test}

-- ---- totals

greatest-append : (ns ms : List ℕ) → greatest (ns ++ ms) ≡ max (greatest ns) (greatest ms)
greatest-append [] ms = omega arith
greatest-append (n ∷ ns) ms = omega (arith, greatest-append ns ms)

pub joined_totals : (bs cs : List Block) (t u w : Totals) → AreTotalsOf bs t → AreTotalsOf cs u → w.payloads ≡ t.payloads + u.payloads → w.used ≡ t.used + u.used
    → w.free ≡ t.free + u.free → w.longest ≡ max t.longest u.longest → AreTotalsOf (bs ++ cs) w
joined_totals bs cs t u w first second payloads used free longest = grind (arith, filter-append, not, length-append, sum_by-append, greatest-append, map-append)

total_more : (b : Block) (bs : List Block) → total (used_of (b ∷ bs)) + total (free_of (b ∷ bs)) ≡ b.range.len + (total (used_of bs) + total (free_of bs))
total_more b bs = by_test b.is_occupied
    (λ e. omega (
      arith,
      ap (λ k. total (cond k (b ∷ used_of bs) (used_of bs))) e,
      ap (λ k. total (cond (not k) (b ∷ free_of bs) (free_of bs))) e,
      sum_by-cons (λ (c : Block). c.range.len) b (used_of bs),
    ))
    (λ e. omega (
      arith,
      ap (λ k. total (cond k (b ∷ used_of bs) (used_of bs))) e,
      ap (λ k. total (cond (not k) (b ∷ free_of bs) (free_of bs))) e,
      sum_by-cons (λ (c : Block). c.range.len) b (free_of bs),
    ))

pub total-append : (bs cs : List Block) → total (used_of (bs ++ cs)) + total (free_of (bs ++ cs))
    ≡ total (used_of bs) + total (free_of bs) + (total (used_of cs) + total (free_of cs))
total-append bs cs = grind (arith, filter-append, not, sum_by-append)

-- blocks in order between two addresses have no more bytes than lie there
pub total-le : (bs : List Block) (low high : ℕ) → low ≤ high → IsInOrder bs → ((b : Block) → IsIn b bs → (low ≤ b.range.start) × (end_of b.range ≤ high))
    → low + (total (used_of bs) + total (free_of bs)) ≤ high
total-le [] low high order sorted within = omega (arith, order)
total-le (b ∷ bs) low high order (first, rest) within =
    let (from, to) = within b (inl refl) in
    omega (arith, total_more b bs, from, total-le bs (end_of b.range) high to rest (λ c i. (first c i, (within c (inr i)).1)))

-- ---- lists

numbers-append : (bs cs : List Block) → all_numbers (bs ++ cs) ≡ all_numbers bs ++ all_numbers cs
numbers-append [] cs = refl
numbers-append (b ∷ bs) cs = ap (λ l. numbers_of b ++ l) (numbers-append bs cs) ∙ sym (append_assoc (numbers_of b) (all_numbers bs) (all_numbers cs))

numbers-length : (bs : List Block) → length (all_numbers bs) ≡ 3 * length bs
numbers-length [] = refl
numbers-length (b ∷ bs) = omega (arith, numbers-length bs)

pub all_from-append : (from : ℕ) (bs cs : List Block) → all_from from (bs ++ cs) ≡ all_from from bs ++ all_from from cs
all_from-append from bs cs = filter-append (λ (b : Block). nat_le from b.range.start) bs cs

-- the list is as long as the numbers that were passed
pub listing_fits : (bs : List Block) (was now : List ℕ) (n : ℕ) → IsListingOf bs was n now → 3 * n ≤ length now
listing_fits bs was now n is = omega (arith, is.count, is.len)

-- blocks listed behind those that are listed
pub joined_listing : (bs cs : List Block) (was mid rest now : List ℕ) (n k : ℕ) → IsListingOf bs was n mid → IsListingOf cs (drop (3 * n) mid) k rest
    → now ≡ take (3 * n) mid ++ rest → length (take (3 * n) mid) ≡ 3 * n → length (drop (3 * n) mid) ≡ length mid - 3 * n → IsListingOf (bs ++ cs) was (n + k) now
joined_listing bs cs was mid rest now n k first second is front back = record {
  count = omega (arith, first.count, second.count, first.len, back, length-append bs cs);
  len = omega (arith, ap (λ (l : List ℕ). length l) is, length-append (take (3 * n) mid) rest, front, second.len, back, first.len, listing_fits bs was mid n first);
  listed = ap (take (3 * (n + k))) is ∙ ap (λ i. take i (take (3 * n) mid ++ rest)) seam ∙ take-append-add (take (3 * n) mid) rest (3 * k)
      ∙ ap (λ l. take (3 * n) mid ++ l) second.listed ∙ ap (λ l. l ++ take (3 * k) (all_numbers cs)) first.listed ∙ joined;
  rest = ap (drop (3 * (n + k))) is ∙ ap (λ i. drop i (take (3 * n) mid ++ rest)) seam ∙ drop-append-add (take (3 * n) mid) rest (3 * k) ∙ second.rest
      ∙ ap (drop (3 * k)) first.rest ∙ drop-drop (3 * k) (3 * n) was ∙ ap (λ i. drop i was) (omega arith);
}
  where
    seam : 3 * (n + k) ≡ length (take (3 * n) mid) + 3 * k
    seam = omega (arith, front)

    joined : take (3 * n) (all_numbers bs) ++ take (3 * k) (all_numbers cs) ≡ take (3 * (n + k)) (all_numbers (bs ++ cs))
    joined = elim (cases_lt n (length bs)) [
      | inl full ↦
          let none : k ≡ 0 = omega (arith, full, first.count, second.count, back, first.len) in
          let same : 3 * (n + k) ≡ 3 * n = omega (arith, none) in
          let short = take-append-le (3 * n) (all_numbers bs) (all_numbers cs) (omega (arith, full, numbers-length bs)) in
          sym (ap (λ i. take i (all_numbers (bs ++ cs))) same ∙ ap (take (3 * n)) (numbers-append bs cs) ∙ short
          ∙ sym (ap (λ i. take (3 * n) (all_numbers bs) ++ take (3 * i) (all_numbers cs)) none ∙ append-nil (take (3 * n) (all_numbers bs))))
      | inr all ↦
          let long : 3 * n ≡ length (all_numbers bs) = omega (arith, all, first.count, numbers-length bs) in
          let same : 3 * (n + k) ≡ length (all_numbers bs) + 3 * k = omega (arith, long) in
          ap (λ l. l ++ take (3 * k) (all_numbers cs)) (ap (λ i. take i (all_numbers bs)) long ∙ take_all (length (all_numbers bs)) (all_numbers bs) (omega arith))
          ∙ sym (take-append-add (all_numbers bs) (all_numbers cs) (3 * k)) ∙ ap (λ i. take i (all_numbers bs ++ all_numbers cs)) (sym same)
          ∙ ap (take (3 * (n + k))) (sym (numbers-append bs cs))
    ]
