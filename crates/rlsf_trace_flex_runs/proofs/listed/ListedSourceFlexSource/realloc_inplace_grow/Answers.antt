use Rattle.rlsf_trace_flex_runs.proofs.HandedOut.{answered_growth}
use Rattle.rlsf_trace_flex_runs.proofs.Remembered.{remembers_growth}
use Rattle.rlsf_trace_flex_runs.proofs.listed.ListedSourceFlexSource.realloc_inplace_grow.Goals as goal

pub returns-clause-leads : goal.returns-clause-leads
returns-clause-leads c =
    remembers_growth c.args.self.now c.grown-grown.new.self c.remember.new.self c.args.range c.args.min_new_len c.grown-grown.result c.grown-grown.ensures c.remember.ensures

pub returns-clause-owes : goal.returns-clause-owes
returns-clause-owes c =
    answered_growth c.args.self.now c.grown-grown.new.self c.remember.new.self _ c.args.range c.args.min_new_len c.grown-grown.result c.requires.longer c.grown-grown.ensures
    c.remember.ensures
