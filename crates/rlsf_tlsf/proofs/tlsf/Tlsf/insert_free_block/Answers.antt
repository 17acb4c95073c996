use Rattle.std.proofs.Common.{◌∙◌, ap}
use Rattle.rlsf_base.specs.Addr.{reply}
use Rattle.rlsf_model.specs.Insert.{bytes_taken}
use Rattle.rlsf_tlsf.specs.Allocator.{Steps}
use Rattle.rlsf_tlsf.proofs.Replied.{where_none}
use Rattle.rlsf_tlsf.proofs.tlsf.Tlsf.insert_free_block.Goals as goal

pub returns : goal.returns
unfolding Steps
returns g c =
    let did = c.insert_free_block_ptr.ensures in
    let (step, stands, spare) = did.step in
    record {
      step = ((reply c.insert_free_block_ptr.result, step), stands, spare);
      result = did.result;
      bounds = did.bounds;
      refused = λ none. where_none _ c.insert_free_block_ptr.result (step.answer ∙ ap (bytes_taken c.args.range.start) none) did.refused;
      frame = did.frame;
      touches = did.touches;
    }
