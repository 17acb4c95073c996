use Rattle.std.proofs.Common.{true≢false, arith}
use Rattle.rlsf_blocks.proofs.Consistency.Walked.{LiesInPool-at, LiesInPool-none}
use Rattle.rlsf_blocks.proofs.consistency_check.words.lies_in_pool.Goals as goal

pub loop-k-preserved : goal.loop-k-preserved
loop-k-preserved c = grind (arith, true≢false, c.lies_in.ensures.1, c.if-lies_in.false)

pub returns-then-lies_in : goal.returns-then-lies_in
returns-then-lies_in c = grind (arith, LiesInPool-at, c.loop-k-test.true, c.lies_in.ensures.0, c.if-lies_in.true)

pub returns : goal.returns
returns c = grind (arith, true≢false, LiesInPool-none, c.loop-k-test.false)
