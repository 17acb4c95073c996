use Rattle.std.proofs.Common.{sym}
use Rattle.rlsf_partitions.proofs.Lists.{vacant_here}
use Rattle.rlsf_partitions.proofs.partitions.vacant_in.Goals as goal

pub returns-in-Some : goal.returns-in-Some
returns-in-Some c = vacant_here c.args.partitions.now c.args.size c.in-Some.place c.vacant_at.result (sym c.in-Some.ensures.place) c.vacant_at.ensures
