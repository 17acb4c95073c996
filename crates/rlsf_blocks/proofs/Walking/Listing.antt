-- What was listed of the blocks that were passed.
use Rattle.std.proofs.Common.{◌≡◌, ℕ, ◌+◌, ◌*◌, ◌/◌, ◌≤◌, cond, List, [], ◌∷◌, ◌++◌, length, take, drop, arith, refl, sym, ◌∙◌, ap}
use Rattle.std.proofs.lemmas.Bool.{le-leb}
use Rattle.std.proofs.lemmas.List.{append_assoc, drop-drop}
use Rattle.std.proofs.Math.Seq.{take-add}
use Rattle.std.specs.List.{splice}
use Rattle.rlsf_base.proofs.Words.Splices.{length-splice, splice-after, splice-before, splice-inside}
use Rattle.rlsf_blocks.specs.Blocks.{Block}
use Rattle.rlsf_blocks.specs.Listing.{IsListingOf, all_from, all_numbers, numbers_of}

-- some of the blocks from an address on were listed, and others are left
pub record IsListed (from : ℕ) (was now : List ℕ) (count : ℕ) (left all : List Block) : Type 0 where
  pub len : length now ≡ length was
  pub few : count ≤ length was / 3
  pub counted : count + length (all_from from left) ≡ length (all_from from all)
  pub listed : take (3 * count) now ++ all_numbers (all_from from left) ≡ all_numbers (all_from from all)
  pub rest : drop (3 * count) now ≡ drop (3 * count) was

all_from-cons : (from : ℕ) (b : Block) (bs : List Block) → from ≤ b.range.start → all_from from (b ∷ bs) ≡ b ∷ all_from from bs
all_from-cons from b bs high = ap (λ k. cond k (b ∷ all_from from bs) (all_from from bs)) (le-leb from b.range.start high)

module _ {from : ℕ} {was now : List ℕ} {count : ℕ} {b : Block} {bs all : List Block} (is : IsListed from was now count (b ∷ bs) all) where
  pub has_place : (count ≡ length was / 3 → ⊥) → 3 * count + 3 ≤ length now
  has_place room = omega (arith, is.len, is.few, room)

  pub put : (next : List ℕ) → from ≤ b.range.start → 3 * count + 3 ≤ length now → next ≡ splice now (3 * count) (3 * count + 3) (numbers_of b)
      → IsListed from was next (count + 1) bs all
  put next high fits written = record {
    len = ap (λ (l : List ℕ). length l) written ∙ length-splice now (numbers_of b) (3 * count) 3 fits refl ∙ is.len;
    few = omega (arith, fits, is.len);
    counted = omega (arith, is.counted, ap (λ (l : List Block). length l) cons);
    listed = ap (λ l. l ++ all_numbers (all_from from bs)) front
        ∙ append_assoc (take (3 * count) now) (numbers_of b) (all_numbers (all_from from bs))
        ∙ ap (λ l. take (3 * count) now ++ all_numbers l) (sym cons)
        ∙ is.listed;
    rest = ap (λ n. drop n next) three ∙ ap (drop (3 * count + 3)) written ∙ splice-after now (numbers_of b) (3 * count) 3 fits refl (3 * count + 3) (omega arith)
        ∙ sym (drop-drop 3 (3 * count) now) ∙ ap (drop 3) is.rest ∙ drop-drop 3 (3 * count) was ∙ ap (λ n. drop n was) (sym three);
  }
    where
      cons : all_from from (b ∷ bs) ≡ b ∷ all_from from bs
      cons = all_from-cons from b bs high

      three : 3 * (count + 1) ≡ 3 * count + 3
      three = omega arith

      front : take (3 * (count + 1)) next ≡ take (3 * count) now ++ numbers_of b
      front = ap (λ n. take n next) three ∙ ap (take (3 * count + 3)) written ∙ take-add (3 * count) 3 (splice now (3 * count) (3 * count + 3) (numbers_of b))
          ∙ ap (λ l. l ++ take 3 (drop (3 * count) (splice now (3 * count) (3 * count + 3) (numbers_of b))))
          (splice-before now (numbers_of b) (3 * count) 3 fits refl 0 (3 * count) (omega arith))
          ∙ ap (λ l. take (3 * count) now ++ l) (splice-inside now (numbers_of b) (3 * count) 3 fits refl)

-- where there is no block, none is listed
pub no_listing : (from : ℕ) (was : List ℕ) → IsListingOf (all_from from []) was 0 was
no_listing from was = record { count = omega arith; len = refl; listed = refl; rest = refl }
