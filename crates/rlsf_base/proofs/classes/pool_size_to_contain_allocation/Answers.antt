use Rattle.std.proofs.Common.{arith}
use Rattle.rlsf_base.proofs.SizeMaps.Laws.{pool_fits}
use Rattle.rlsf_base.proofs.classes.pool_size_to_contain_allocation.Goals as goal

pub overflow_add-result : goal.overflow_add-result
overflow_add-result g c =
    omega (arith, pool_fits g.row.FLLEN g.row.SLLEN c.request_size.result c.in_ok-least.least c.requires.parameters.power_of_two c.request_size.ensures.size c.in_ok-least.ensures)
