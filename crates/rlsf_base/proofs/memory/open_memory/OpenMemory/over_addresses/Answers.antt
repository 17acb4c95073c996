use Rattle.std.proofs.Common.{◌≡◌, ◌-◌, ◌∙◌, List, [], ap, arith, length}
use Rattle.rlsf_base.specs.Out.{Change, kept_at}
use Rattle.rlsf_base.proofs.RawBlock.Units.{left-out}
use Rattle.rlsf_base.proofs.memory.open_memory.OpenMemory.over_addresses.Goals as goal

pub returns-clause-away : goal.returns-clause-away
returns-clause-away c =
    let long : length c.over.result.bytes ≡ c.args.len = ap length c.over.ensures.bytes ∙ c.adopt_none-bytes.ensures.2 in
    λ a lo hi. ap (λ (cs : List Change). kept_at cs (a - c.over.result.start)) (c.over.ensures.out ∙ c.adopt_none-bytes.ensures.3)
    ∙ left-out [] 0 c.args.len (a - c.over.result.start) (omega arith) (omega (arith, lo, hi, long))
