-- A new value represents the empty state.
use Rattle.std.proofs.Common.{ℕ, ◌+◌, ◌^◌, ◌<◌, [], length}
use Rattle.rlsf_base.specs.Space.{Space, range_of}
use Rattle.rlsf_model_sizes.specs.SizeClass.{IsValid}
use Rattle.rlsf_model.specs.State.{empty}
use Rattle.rlsf_table.specs.Table.{Table, HasTable}
use Rattle.rlsf_table.proofs.Tables.RowLengths.{row_length-bounds}
use Rattle.rlsf_blocks.specs.StandsFor.{contents, StandsFor}
use Rattle.rlsf_model.proofs.Steps.{empty_is_well_formed}

pub StandsFor-empty : {fl_bits sl_bits fllen sllen : ℕ} {m : Space} {t : Table} → IsValid fl_bits sl_bits fllen sllen → (0 < m.start) × (m.start + length m.bytes < 2 ^ 64)
    → HasTable fllen sllen m t [] → StandsFor fllen sllen (contents m t) empty
StandsFor-empty {fllen = fllen} {sllen = sllen} {m = m} valid bounds table = record {
  nonzero = bounds.0;
  well_formed = empty_is_well_formed fllen sllen (range_of m) valid.some_rows (row_length-bounds sllen valid.power_of_two).0 bounds.1;
  sizes = record { used = λ u i. absurd i; free = λ f i. absurd i; sentinel = λ c i. absurd i };
  previous = record { used = λ u i. absurd i; free = λ f i. absurd i; first = λ c i. absurd i };
  payloads = record { bytes = λ u i. absurd i; pad = λ u i. absurd i };
  table = table;
  own = λ a from unlent c i. absurd i;
}
