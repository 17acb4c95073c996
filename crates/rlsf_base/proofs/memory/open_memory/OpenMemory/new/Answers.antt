use Rattle.std.proofs.Common.{rules, ◌+◌, ◌*◌, ◌-◌, ◌%◌, ap, ◌∙◌}
use Rattle.rlsf_base.specs.Out.{is_own, kept_at}
use Rattle.rlsf_base.specs.Steps.Block.{start_of}
use Rattle.rlsf_base.proofs.Changes.{none-out}
use Rattle.rlsf_base.proofs.memory.open_memory.OpenMemory.new.Goals as goal

pub returns-in-Some-clause-memory : goal.returns-in-Some-clause-memory
returns-in-Some-clause-memory c = record {
  start = search rules;
  bytes = search rules;
  counts = search rules;
  out = search rules;
  here = λ a lo hi.
      let k = a - start_of c.wrapping_neg.result (c.args.len * 32 + c.args.start % 16) in
      (λ i. kept_at (c.in-Some.ensures.bytes.4 i) k) ∙ none-out k;
  own = λ k. ap is_own ((λ i. kept_at (c.in-Some.ensures.bytes.4 i) k) ∙ none-out k);
  units = search rules;
}
