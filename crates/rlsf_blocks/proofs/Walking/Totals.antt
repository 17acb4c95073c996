-- The totals with one block more.
use Rattle.std.proofs.Common.{◌≡◌, ℕ, ◌+◌, ◌≤◌, Bool, true, false, cond, not, List, ◌∷◌, length, map, arith, refl, ap, inl}
use Rattle.std.proofs.lemmas.List.Sums.{sum_by-cons}
use Rattle.std.specs.Prelude.{max}
use Rattle.rlsf_blocks.specs.Blocks.{Block, IsInOrder}
use Rattle.rlsf_model.specs.Lists.{IsIn}
use Rattle.rlsf_blocks.specs.declared.totals.Totals.{Totals}
use Rattle.rlsf_blocks.specs.Totals.{counted, free_of, greatest, total, used_of}

-- what was counted of some blocks, and the blocks that are left of them
pub record IsCounted (s : Totals) (left all : List Block) : Type 0 where
  pub payloads : s.payloads + length (used_of left) ≡ length (used_of all)
  pub used : s.used + total (used_of left) ≡ total (used_of all)
  pub free : s.free + total (free_of left) ≡ total (free_of all)
  pub longest : max s.longest (greatest (map (λ (b : Block). b.range.len) (free_of left))) ≡ greatest (map (λ (b : Block). b.range.len) (free_of all))
  pub behind : (b : Block) → IsIn b left → s.used + s.free ≤ b.range.start
  pub in_order : IsInOrder left
  pub few : s.payloads ≤ s.used

pub used_cons : (b : Block) (bs : List Block) → b.is_occupied ≡ true → used_of (b ∷ bs) ≡ b ∷ used_of bs
used_cons b bs e = ap (λ k. cond k (b ∷ used_of bs) (used_of bs)) e

pub used_skip : (b : Block) (bs : List Block) → b.is_occupied ≡ false → used_of (b ∷ bs) ≡ used_of bs
used_skip b bs e = ap (λ k. cond k (b ∷ used_of bs) (used_of bs)) e

pub free_cons : (b : Block) (bs : List Block) → b.is_occupied ≡ false → free_of (b ∷ bs) ≡ b ∷ free_of bs
free_cons b bs e = ap (λ k. cond (not k) (b ∷ free_of bs) (free_of bs)) e

pub free_skip : (b : Block) (bs : List Block) → b.is_occupied ≡ true → free_of (b ∷ bs) ≡ free_of bs
free_skip b bs e = ap (λ k. cond (not k) (b ∷ free_of bs) (free_of bs)) e

pub total_cons : (b : Block) (bs : List Block) → total (b ∷ bs) ≡ b.range.len + total bs
total_cons b bs = sum_by-cons (λ (c : Block). c.range.len) b bs

max_max : (a b c : ℕ) → max (max a b) c ≡ max a (max b c)
max_max a b c = omega arith

-- one block more is counted
module _ (s : Totals) (b : Block) (bs all : List Block) (is : IsCounted s (b ∷ bs) all) where
  pub below : s.used + s.free ≤ b.range.start
  below = is.behind b (inl refl)

  abbrev when : Bool → Totals
  when k =
      cond k (record { payloads = s.payloads + 1; used = s.used + b.range.len; free = s.free; longest = s.longest })
      (record { payloads = s.payloads; used = s.used; free = s.free + b.range.len; longest = max s.longest b.range.len })

  by_use : (k : Bool) → b.is_occupied ≡ k → (when k).payloads ≤ (when k).used → IsCounted (when k) bs all
  by_use h1 e few = grind (arith, used_cons, total_cons, free_skip, below, used_skip, free_cons, max_max)

  pub one_more : (counted s b).payloads ≤ (counted s b).used → IsCounted (counted s b) bs all
  one_more few = by_use b.is_occupied refl few
