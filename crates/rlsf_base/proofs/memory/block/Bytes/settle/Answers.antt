use Rattle.std.proofs.Common.{◌∙◌, arith, sym}
use Rattle.rlsf_base.proofs.Changes.{none-out}
use Rattle.rlsf_base.proofs.memory.block.Bytes.settle.Goals as goal

pub recount-requires : goal.recount-requires
recount-requires c k hi = c.requires k (omega arith) (omega (arith, hi)) ∙ sym (none-out k)
