-- The bit of a row is set if and only if the row has a free block.
use Rattle.rlsf_blocks.proofs.RepresentedStates.Readers.{rows_of-first_level}
use Rattle.rlsf_heap.proofs.heap.Heap.fl_bitmap.Goals as goal

pub returns : goal.returns
returns g c = rw (← c.self.view_is)
    (rows_of-first_level g.row.FLLEN g.row.SLLEN _ _ c.self.invariant.stands _ c.fl_bitmap.ensures.within c.fl_bitmap.ensures.past)
