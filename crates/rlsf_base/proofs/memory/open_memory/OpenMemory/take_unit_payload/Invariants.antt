use Rattle.std.proofs.Common.{length}
use Rattle.rlsf_base.proofs.memory.open_memory.OpenMemory.take_unit_payload.Given as goal

abbrev pub ghost-take_units : goal.ghost-take_units
ghost-take_units a = (a.self.now.skip, length a.self.now.bytes)
