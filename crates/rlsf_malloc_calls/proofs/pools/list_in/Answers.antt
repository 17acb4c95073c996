use Rattle.std.proofs.Common.{refl}
use Rattle.rlsf_malloc_calls.proofs.pools.list_in.Goals as goal

pub returns : goal.returns
returns g c = ((c.iter_blocks.result, c.iter_blocks.ensures.blocks, c.list.ensures), refl)
