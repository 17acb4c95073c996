use Rattle.std.proofs.Common.{◌-◌}
use Rattle.rlsf_base.specs.Changes.{came_back}
use Rattle.rlsf_base.proofs.memory.open_memory.OpenMemory.copy_within.Given as goal

abbrev pub ghost-copy_bytes : goal.ghost-copy_bytes
ghost-copy_bytes a = came_back (a.to - a.bytes.now.skip) a.len a.bytes.now.out
