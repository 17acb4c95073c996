use Rattle.std.proofs.Common.{[]}
use Rattle.rlsf_base.proofs.memory.block.Bytes.settle.Given as goal

abbrev pub ghost-recount : goal.ghost-recount
ghost-recount a = []
