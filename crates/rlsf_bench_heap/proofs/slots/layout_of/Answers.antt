use Rattle.std.proofs.Common.{arith, sym, subst}
use Rattle.rlsf_base.specs.Layout.{IsLayout}
use Rattle.rlsf_bench_heap.proofs.Alignments.{IsLayout-slot}
use Rattle.rlsf_bench_heap.proofs.slots.layout_of.Goals as goal

pub from_size_align_unchecked-requires : goal.from_size_align_unchecked-requires
from_size_align_unchecked-requires c = subst (IsLayout _) (sym c.alignment_of.ensures) (IsLayout-slot c.args.slot _ (omega arith))
