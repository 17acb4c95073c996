use Rattle.rlsf_base.proofs.SizeMaps.Laws.{mapped_is_first_reaching, unmapped_is_enough, unmapped_begins_its_class, unreached_is_not_unmapped, longest_block_has_a_class}
use Rattle.rlsf_base.proofs.SizeMaps.Laws.{pool_is_one_chunk, pool_contains_its_allocation}
use Rattle.rlsf_base.proofs.classes.laws.Goals as goal

pub returns : goal.returns
returns c = record {
  first = mapped_is_first_reaching;
  enough = unmapped_is_enough;
  begins = unmapped_begins_its_class;
  unreached = unreached_is_not_unmapped;
  longest = longest_block_has_a_class;
  one_chunk = pool_is_one_chunk;
  contained = pool_contains_its_allocation;
}
