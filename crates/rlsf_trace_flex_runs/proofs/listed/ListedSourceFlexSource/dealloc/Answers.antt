use Rattle.std.proofs.Common.{◌++◌}
use Rattle.rlsf_trace_flex_runs.proofs.HandedOut.{gone_range, remembering}
use Rattle.rlsf_trace_flex_runs.proofs.listed.ListedSourceFlexSource.dealloc.Goals as goal

pub returns-clause-owes : goal.returns-clause-owes
returns-clause-owes c before after may =
    remembering c.args.self.now c.remember.new.self _ c.remember.ensures (before ++ after) (gone_range c.args.self.now c.args.range before after may)
