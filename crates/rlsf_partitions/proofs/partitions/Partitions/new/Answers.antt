use Rattle.std.proofs.Common.{◌≡◌, Err, IsErrAnd, ap, refl, subst, sym}
use Rattle.rlsf_base.specs.declared.memory.MemoryError.TheVariants.{TooLong}
use Rattle.rlsf_partitions.proofs.Lists.{next_fresh, next_possible, possible_get}
use Rattle.rlsf_partitions.proofs.partitions.Partitions.new.Goals as goal

pub loop-index-preserved : goal.loop-index-preserved
loop-index-preserved c =
    let sizes = c.args.sizes.now in
    let i = c.loop-index.index in
    let pair = c.pair_at.result in (
      next_fresh sizes i pair c.loop-index.partitions.items c.add.new.partitions.items c.pair_at.ensures c.loop-index.invariant.0 c.in_ok-add.ensures.added,
      next_possible sizes i pair c.pair_at.ensures c.loop-index.invariant.1 (c.in_ok-add.ensures.possible refl),
    )

pub returns-in_err-add-clause-too_long : goal.returns-in_err-add-clause-too_long
returns-in_err-add-clause-too_long c = λ refused all.
    let error = c.in_err-add.field-0.0 in
    let same : TooLong ≡ error = subst (λ r. IsErrAnd r (λ e. e ≡ error)) refused c.from_residual.ensures.1 in
    c.in_err-add.ensures.too_long (ap Err (sym same)) (possible_get c.args.sizes.now c.loop-index.index c.pair_at.result c.pair_at.ensures all)
