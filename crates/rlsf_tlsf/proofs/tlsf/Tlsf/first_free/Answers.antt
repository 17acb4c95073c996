-- The head of a class's list is the address of its newest block.
use Rattle.rlsf_blocks.proofs.RepresentedStates.Readers.{newest_of-head}
use Rattle.rlsf_tlsf.proofs.tlsf.Tlsf.first_free.Goals as goal

pub returns : goal.returns
returns g c = rw (← c.self.view_is) (newest_of-head g.row.FLLEN g.row.SLLEN _ _ c.self.invariant.stands
    c.args.fl c.requires.0 c.args.sl c.requires.1 c.new.result c.newest.result c.newest.ensures c.new.ensures)
