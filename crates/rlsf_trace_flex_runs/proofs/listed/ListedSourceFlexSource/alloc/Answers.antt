use Rattle.rlsf_trace_flex_runs.proofs.HandedOut.{answered}
use Rattle.rlsf_trace_flex_runs.proofs.Remembered.{remembers_range}
use Rattle.rlsf_trace_flex_runs.proofs.listed.ListedSourceFlexSource.alloc.Goals as goal

pub returns-clause-leads : goal.returns-clause-leads
returns-clause-leads c = remembers_range c.args.self.now c.given-given.new.self c.remember.new.self c.args.min_size c.given-given.result c.given-given.ensures c.remember.ensures

pub returns-clause-owes : goal.returns-clause-owes
returns-clause-owes c = answered c.args.self.now c.given-given.new.self c.remember.new.self _ c.args.min_size c.given-given.result c.given-given.ensures c.remember.ensures
