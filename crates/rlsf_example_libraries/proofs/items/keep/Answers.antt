use Rattle.std.proofs.Common.{rules, []}
use Rattle.rlsf_example_libraries.proofs.items.keep.Goals as goal
use Rattle.rlsf_blocks.proofs.Refused.{err_always}

pub returns-then-is_err : goal.returns-then-is_err
returns-then-is_err c = record {
  kept = search rules;
  new = search rules;
  given_back = err_always c.add-added.result (λ before p has at aligned. c.remove.ensures.removed before [] p has at aligned);
  refused = search rules;
  uniform = search rules;
  place = search rules;
}
