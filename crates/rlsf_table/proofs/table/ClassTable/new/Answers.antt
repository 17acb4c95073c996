-- The table of no blocks has no bit set, and its heads are 0.
use Rattle.std.proofs.Common.{arith, refl, ◌∙◌, ap}
use Rattle.rlsf_int.specs.Bits.{bit, bit-zero}
use Rattle.rlsf_table.proofs.Tables.Empty.{HasPlaces-empty, HasTable-empty}
use Rattle.rlsf_table.proofs.Tables.Rows.{row_words-at, row_words-length}
use Rattle.rlsf_table.proofs.table.ClassTable.new.Goals as goal

pub invariant_of-result : goal.invariant_of-result
invariant_of-result g c = HasPlaces-empty g.row.FLLEN g.row.SLLEN

pub returns : goal.returns
returns g c m =
    HasTable-empty _ (λ i. ap (λ n. bit n i) (c.new.ensures 0 (omega arith)) ∙ bit-zero i) (row_words-length g.row.FLLEN g.row.SLLEN _ _)
    (λ i within. row_words-at g.row.FLLEN g.row.SLLEN _ _ i within ∙ c.new-2.ensures i within) refl m
