use Rattle.std.proofs.Common.{Some, subst, true≢false, sym}
use Rattle.rlsf_model.specs.NoMove.{ReallocatesWithoutMove}
use Rattle.rlsf_blocks.specs.Laws.{read_from}
use Rattle.rlsf_tlsf.proofs.core_calls.resizing.resize_block_in.Goals as goal

-- the payload has another size
pub returns-in-Some : goal.returns-in-Some
returns-in-Some g c =
    let e = c.in-Some.ensures in
    let s = read_from c.args.memory.now c.args.state.now.state in
    let t = read_from c.resize_block_to.new.memory c.resize_block_to.new.state.state in
    record {
      left = e.left;
      step = subst (λ a. ReallocatesWithoutMove s c.args.addr c.args.layout.size (Some a) t) e.result.0 e.step;
      result = λ yes. e.result.1;
      kept = e.kept;
      bounds = e.bounds;
      refused = λ no. absurd (true≢false no);
    }

-- the bytes don't suffice
pub returns-in-None : goal.returns-in-None
returns-in-None g c =
    let e = c.in-None.ensures in
    record {
      left = e.left;
      step = e.step;
      result = λ yes. absurd (true≢false (sym yes));
      kept = e.kept;
      bounds = e.bounds;
      refused = λ no. e.refused;
    }
