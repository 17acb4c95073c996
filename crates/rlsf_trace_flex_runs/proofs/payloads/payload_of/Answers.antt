use Rattle.std.proofs.Common.{◌∙◌}
use Rattle.rlsf_trace_flex_runs.proofs.NamedPayloads.{found_live}
use Rattle.rlsf_trace_flex_runs.proofs.payloads.payload_of.Goals as goal

pub returns : goal.returns
returns g c = record {
  value = c.copied.ensures ∙ c.get.ensures.value;
  live = found_live c.requires c.args.name c.copied.result (c.copied.ensures ∙ c.get.ensures.value);
}
