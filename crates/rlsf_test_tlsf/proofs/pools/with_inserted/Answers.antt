use Rattle.rlsf_test_tlsf.proofs.Rows.{TakesRow-asked}
use Rattle.rlsf_test_tlsf.proofs.pools.with_inserted.Goals as goal

pub returns : goal.returns
returns g c = TakesRow-asked g.row.FLLEN g.row.SLLEN c.new-tlsf.result c.insert_free_block_ptr.new.self c.args.pool _ c.insert_free_block_ptr.ensures.step
