use Rattle.std.proofs.Common.{ap, sym}
use Rattle.rlsf_offsets.specs.Checked.{len_or}
use Rattle.rlsf_offsets.proofs.Live.{none_at}
use Rattle.rlsf_offsets.proofs.checked.CheckedOffsets.len.Goals as goal

pub returns-then-not-is_live : goal.returns-then-not-is_live
returns-then-not-is_live g c = sym (ap len_or (none_at _ c.if-not-is_live.ensures))
