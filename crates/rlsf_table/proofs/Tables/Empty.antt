-- The class table of no free ranges.
use Rattle.std.proofs.Common.{◌≡◌, ℕ, ◌<◌, false, [], length, slice_index, slice_index_or, replicate, ◌∙◌, ap}
use Rattle.std.proofs.lemmas.List.{length-replicate, get_or-replicate}
use Rattle.rlsf_base.specs.Space.{Space}
use Rattle.rlsf_int.specs.Bits.{bit, bit-zero}
use Rattle.rlsf_table.specs.Table.{Table, HasPlaces, HasTable}

-- each row of heads is as long as it is made
pub HasPlaces-empty : (fllen sllen : ℕ) → HasPlaces fllen sllen (replicate fllen (replicate sllen 0))
HasPlaces-empty fllen sllen i within = ap length (get_or-replicate fllen i (replicate sllen 0) [] within) ∙ length-replicate sllen 0

module _ {fllen sllen : ℕ} (t : Table) (no_row : (i : ℕ) → bit t.first_level i ≡ false) (rows : length t.second_level ≡ fllen)
    (no_place : (i : ℕ) → i < fllen → slice_index t.second_level i ≡ 0) (no_head : t.heads ≡ replicate fllen (replicate sllen 0)) where
  -- no bit of it is set, and each head is 0
  pub HasTable-empty : (m : Space) → HasTable fllen sllen m t []
  HasTable-empty m = record {
    bits = record {
      rows = rows;
      first = no_row;
      second = λ i k within. ap (λ n. bit n k) (no_place i within) ∙ bit-zero k;
    };
    lists = record {
      rows = ap length no_head ∙ length-replicate fllen (replicate sllen 0);
      places = λ i within. ap length (ap (λ l. slice_index_or l i []) no_head) ∙ HasPlaces-empty fllen sllen i within;
      links =
          λ i k within within_row. ap (λ l. slice_index (slice_index_or l i []) k) no_head ∙ ap (λ l. slice_index l k) (get_or-replicate fllen i (replicate sllen 0) [] within)
          ∙ get_or-replicate sllen k 0 0 within_row;
    };
  }
