use Rattle.rlsf_base.proofs.Numbers.Masked.{align_up-fits, align_up-masked}
use Rattle.rlsf_base.proofs.rounding.next_aligned.Goals as goal

pub overflow_add-result : goal.overflow_add-result
overflow_add-result c = record { fits = align_up-fits c.args.n c.args.align c.requires.power c.ranges.align.fits c.requires.fits }

pub returns : goal.returns
returns c =
    let fits = align_up-fits c.args.n c.args.align c.requires.power c.ranges.align.fits c.requires.fits in
    record { value = align_up-masked c.args.n c.args.align c.requires.power c.ranges.align.fits fits }
