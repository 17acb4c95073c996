use Rattle.std.proofs.Common.{rules}
use Rattle.rlsf_checked.proofs.checked.CheckedTlsf.blocks.Goals as goal

pub returns : goal.returns
returns g c = record {
  blocks = search rules;
  runs = search rules;
}
