use Rattle.rlsf_base.proofs.memory.part.Part.into_unit_payload.Given as goal

abbrev pub ghost-take_units : goal.ghost-take_units
ghost-take_units a = a.self.now.of
