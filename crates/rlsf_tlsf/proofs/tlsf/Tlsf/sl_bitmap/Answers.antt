-- The bit of a class is set if and only if the class has a free block.
use Rattle.rlsf_blocks.proofs.RepresentedStates.Readers.{places_of-row}
use Rattle.rlsf_tlsf.proofs.tlsf.Tlsf.sl_bitmap.Goals as goal

pub returns : goal.returns
returns g c = rw (← c.self.view_is)
    (λ sl. places_of-row g.row.FLLEN g.row.SLLEN _ _ c.self.invariant.stands c.args.fl c.requires _ c.sl_bitmap.ensures.within c.sl_bitmap.ensures.past sl)
