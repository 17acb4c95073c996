use Rattle.std.proofs.Common.{rules}
use Rattle.rlsf_checked.proofs.checked.CheckedTlsf.usable_size.Goals as goal

pub returns : goal.returns
returns g c = search rules
