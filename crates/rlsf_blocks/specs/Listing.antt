-- Lists of blocks as numbers.
use Rattle.std.specs.Prelude.{◌≡◌, ℕ, ◌*◌, ◌/◌, List, [], ◌∷◌, ◌++◌, length, filter, take, drop, min, nat_le, if◌then◌else◌}
use Rattle.rlsf_blocks.specs.Blocks.{Block}

-- the blocks that begin at an address or behind it
abbrev pub all_from : ℕ → List Block → List Block
all_from from bs = filter (λ b. nat_le from b.range.start) bs

-- a block as three numbers: where it begins, its length, and 1 if it is used, else 0
abbrev pub numbers_of : Block → List ℕ
numbers_of b = b.range.start ∷ b.range.len ∷ (if b.is_occupied then 1 else 0) ∷ []

-- the numbers of some blocks, one after another
abbrev pub all_numbers : List Block → List ℕ
all_numbers [] = []
all_numbers (b ∷ bs) = numbers_of b ++ all_numbers bs

-- as many blocks are listed as there is room for, and the numbers behind theirs stay
pub record IsListingOf (bs : List Block) (was : List ℕ) (n : ℕ) (now : List ℕ) : Type 0 where
  pub count : n ≡ min (length bs) (length was / 3)
  pub len : length now ≡ length was
  pub listed : take (3 * n) now ≡ take (3 * n) (all_numbers bs)
  pub rest : drop (3 * n) now ≡ drop (3 * n) was
