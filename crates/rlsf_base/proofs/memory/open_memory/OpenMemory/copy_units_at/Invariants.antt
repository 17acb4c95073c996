use Rattle.std.proofs.Common.{◌-◌}
use Rattle.rlsf_base.specs.Changes.{came_back}
use Rattle.rlsf_base.proofs.memory.open_memory.OpenMemory.copy_units_at.Given as goal

abbrev pub ghost-copy_units : goal.ghost-copy_units
ghost-copy_units a = came_back (a.to - a.bytes.now.skip) a.len a.bytes.now.out
