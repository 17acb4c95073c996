use Rattle.std.proofs.Common.{arith}
use Rattle.rlsf_flex.proofs.InnerAllocator.{flex_stood_at}
use Rattle.rlsf_flex.proofs.flex.FlexTlsf.memory_ref.Goals as goal

pub memory_ref-requires : goal.memory_ref-requires
memory_ref-requires g c = omega arith

pub returns : goal.returns
returns g c = rw (← c.self.view_is) (record {
  memory = c.memory_ref.ensures.memory;
  stands = flex_stood_at c.self.invariant.stands;
  represented = c.memory_ref.ensures.represented;
})
