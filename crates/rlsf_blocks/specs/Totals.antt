-- The totals of blocks.
use Rattle.std.specs.Prelude.{◌≡◌, ℕ, ◌+◌, List, [], ◌∷◌, length, filter, map, max, not, if◌then◌else◌}
use Rattle.std.specs.List.{sum_by}
use Rattle.rlsf_blocks.specs.Blocks.{Block}
use Rattle.rlsf_blocks.specs.declared.totals.Totals.{Totals}

-- the used blocks
abbrev pub used_of : List Block → List Block
used_of bs = filter (λ b. b.is_occupied) bs

-- the free blocks
abbrev pub free_of : List Block → List Block
free_of bs = filter (λ b. not b.is_occupied) bs

-- the bytes of blocks together
abbrev pub total : List Block → ℕ
total bs = sum_by (λ b. b.range.len) bs

-- the greatest of some numbers, or 0
abbrev pub greatest : List ℕ → ℕ
greatest [] = 0
greatest (n ∷ ns) = max n (greatest ns)

-- the totals of some blocks
pub record AreTotalsOf (bs : List Block) (t : Totals) : Type 0 where
  pub payloads : t.payloads ≡ length (used_of bs)
  pub used : t.used ≡ total (used_of bs)
  pub free : t.free ≡ total (free_of bs)
  pub longest : t.longest ≡ greatest (map (λ b. b.range.len) (free_of bs))

-- the totals with one block more
abbrev pub counted : Totals → Block → Totals
counted t b =
    if b.is_occupied then record { payloads = t.payloads + 1; used = t.used + b.range.len; free = t.free; longest = t.longest }
    else record { payloads = t.payloads; used = t.used; free = t.free + b.range.len; longest = max t.longest b.range.len }
