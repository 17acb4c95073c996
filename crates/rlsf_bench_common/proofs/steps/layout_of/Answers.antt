use Rattle.std.proofs.Common.{arith, sym, subst}
use Rattle.rlsf_base.specs.Layout.{IsLayout}
use Rattle.rlsf_bench_common.proofs.Alignments.{IsLayout-slot}
use Rattle.rlsf_bench_common.proofs.steps.layout_of.Goals as goal

pub from_size_align_unchecked-requires : goal.from_size_align_unchecked-requires
from_size_align_unchecked-requires g c =
    subst (IsLayout _) (sym c.alignment_of.ensures) (IsLayout-slot g.row.ALIGNS c.args.slot _ c.requires.alignments.0 c.requires.alignments.1 (omega (arith, c.requires.size)))
