use Rattle.rlsf_malloc_calls.proofs.Outcomes.{all_out_settled}
use Rattle.std.proofs.Common.{subst, sym}
use Rattle.rlsf_base.specs.Space.{Space}
use Rattle.rlsf_heap.specs.Settled.{IsSettled}
use Rattle.rlsf_malloc_calls.proofs.calls.over.Goals as goal

pub returns : goal.returns
returns g c =
    let e = c.over_lent.ensures in record {
      memory = e.memory.0;
      home = e.memory.1;
      state = e.state;
      untouched = e.untouched;
      ready = subst (λ (m : Space). IsSettled m) (sym e.memory.0) (all_out_settled c.args.memory c.requires.1);
      lent = e.lent;
    }
