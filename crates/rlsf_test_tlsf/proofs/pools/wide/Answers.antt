use Rattle.rlsf_base.specs.Range.{range_at}
use Rattle.rlsf_test_tlsf.proofs.Rows.{TakesRow-unasked}
use Rattle.rlsf_test_tlsf.proofs.pools.wide.Goals as goal

pub returns : goal.returns
returns g c = TakesRow-unasked 12 16 c.new-tlsf.result c.insert_free_block.new.self (range_at 4096 c.args.len) c.insert_free_block.ensures.step
