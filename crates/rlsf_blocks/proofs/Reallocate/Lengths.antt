-- Where the free block ends that begins at an address, by the word there.
use Rattle.std.specs.Option.{option_map_or}
use Rattle.std.proofs.Common.{◌≡◌, ℕ, ◌+◌, ◌%◌, List, find, arith}
use Rattle.rlsf_base.specs.declared.memory.range.Range.{Range}
use Rattle.rlsf_base.specs.Space.{Space, word_at}
use Rattle.rlsf_base.specs.Range.{end_of}
use Rattle.rlsf_table.specs.FreeTable.{IsFreeTable}
use Rattle.rlsf_blocks.specs.Steps.Join.{IsMarked}
use Rattle.rlsf_table.specs.Table.{Table}
use Rattle.rlsf_model.specs.Join.{starts_at}
use Rattle.rlsf_blocks.proofs.Deallocate.TakenIfFree.{block_there}
use Rattle.rlsf_table.proofs.FreeLists.Found.{find-start, find-no_start}

module _ {fllen sllen : ℕ} {m : Space} {t : Table} {block : ℕ} {free : List Range} (list : IsFreeTable fllen sllen m t free)
    (marked : IsMarked m free block) {size : ℕ} (is : size ≡ word_at m block) where
  -- the word is the length of a free block
  pub end_free : size % 2 ≡ 0 → block + size ≡ option_map_or end_of (find (starts_at block) free) block
  end_free even = grind (arith, block_there, find-start)

  -- no free block begins there
  pub end_used : size % 2 ≡ 1 → block + 0 ≡ option_map_or end_of (find (starts_at block) free) block
  end_used odd = grind (arith, find-no_start)
