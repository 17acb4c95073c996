use Rattle.rlsf_trace_runs.proofs.NamedPayloads.{found_live}
use Rattle.rlsf_trace_runs.proofs.payloads.payload_of.Goals as goal

pub returns : goal.returns
returns g c = record {
  value = c.payload.ensures;
  live = let (_, at) = c.requires in found_live at c.args.name c.payload.result c.payload.ensures;
}
