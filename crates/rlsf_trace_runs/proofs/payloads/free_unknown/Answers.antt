use Rattle.std.proofs.Common.{refl, sym, ◌∙◌, rules}
use Rattle.rlsf_trace_runs.proofs.Named.{unnamed}
use Rattle.rlsf_trace_runs.proofs.NamedPayloads.{freed_by, LeadsOn-nothing, room_left}
use Rattle.rlsf_trace_text.specs.declared.op.Answer.TheVariants.{Refused}
use Rattle.rlsf_trace_text.specs.declared.op.Op.TheVariants.{FreeUnknown}
use Rattle.rlsf_trace_text.specs.declared.op.TraceError.TheVariants.{UnknownName}
use Rattle.rlsf_trace_runs.proofs.payloads.free_unknown.Goals as goal

pub returns-in_default : goal.returns-in_default
returns-in_default g c = record {
  does = λ s at.
      LeadsOn-nothing at (FreeUnknown c.args.name) (Refused UnknownName) (unnamed at.named c.args.name (sym c.payload_of.ensures.value ∙ c.in_default.is), refl);
  room = λ ops room. room_left c.args.tables.now ops room;
  place = search rules;
}

pub returns : goal.returns
returns g c = record {
  does = λ s at.
      freed_by at c.deallocate_unknown_align.new.self c.deallocate_unknown_align.ensures.frame.place c.args.name c.in-Some.payload (sym c.payload_of.ensures.value ∙ c.in-Some.is)
      c.deallocate_unknown_align.ensures.step c.take_name.ensures.pools c.take_name.ensures.names;
  room = c.take_name.ensures.room;
  place = search rules;
}
