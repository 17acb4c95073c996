use Rattle.std.proofs.Common.{refl, arith}
use Rattle.rlsf_base.specs.Range.{range_at}
use Rattle.rlsf_test_tlsf.proofs.OneChunk.{cut-one}
use Rattle.rlsf_test_tlsf.proofs.FirstChunk.{chunks-first, used-first}
use Rattle.rlsf_test_tlsf.proofs.removals.with_chunk.Goals as goal

pub returns : goal.returns
returns g c = (
  chunks-first 8 8 c.new-tlsf.result c.insert_free_block.new.self (range_at 4096 256) c.new-tlsf.ensures.state refl refl (cut-one 8 256 (omega arith) (omega arith) (omega arith))
      c.insert_free_block.ensures.step,
  used-first 8 8 c.new-tlsf.result c.insert_free_block.new.self (range_at 4096 256) c.new-tlsf.ensures.state c.insert_free_block.ensures.step,
)
