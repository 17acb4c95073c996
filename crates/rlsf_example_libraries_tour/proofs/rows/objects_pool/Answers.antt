use Rattle.std.proofs.Common.{sym}
use Rattle.rlsf_example_libraries_tour.proofs.ObjectPools.{objects_have_room}
use Rattle.rlsf_example_libraries_tour.proofs.rows.objects_pool.Goals as goal

pub pool_of-requires-clause-room : goal.pool_of-requires-clause-room
pool_of-requires-clause-room g c =
    objects_have_room g.row.FLLEN g.row.SLLEN c.args.count c.args.size c.in_ok-len.len c.in_ok-len.asked c.requires.power_of_two (sym c.in_ok-len.ensures)
