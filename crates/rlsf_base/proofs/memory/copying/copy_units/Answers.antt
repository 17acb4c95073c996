use Rattle.std.proofs.Common.{◌≡◌, ◌+◌, ◌≤◌, ◌∙◌, ap, arith, subst, sym}
use Rattle.rlsf_base.specs.Out.{kept_at}
use Rattle.rlsf_base.specs.Steps.Fronts.{HasCopied}
use Rattle.rlsf_base.proofs.RawBlock.CopiedUnits.{next-here, next-own, one_further}
use Rattle.rlsf_base.proofs.memory.copying.copy_units.Goals as goal

pub copy_unit-requires : goal.copy_unit-requires
copy_unit-requires g c =
    let d = c.args.bytes.now in let b = c.loop-index.bytes in let i = c.loop-index.index in let is = c.loop-index.invariant in
    let lies = c.requires.0 in let kept = c.requires.1.0 in
    let room : i + 16 ≤ c.args.len = omega (arith, is.0, is.1, c.loop-index-test.true, c.pairs_of-pairs.ensures.rest) in (
      lies.0 ∙ sym is.2.0.0,
      next-here d c.args.from c.args.to c.args.len lies.1 lies.2 kept.0 kept.1 b i room is.2,
      next-own d c.args.from c.args.to c.args.len lies.1 lies.2 kept.0 kept.1 b i room is.2,
    )

pub copy_unit-requires-in-loop-index : goal.copy_unit-requires-in-loop-index
copy_unit-requires-in-loop-index g c =
    let d = c.args.bytes.now in let b = c.loop-index.bytes in let i = c.loop-index.index in let is = c.loop-index.invariant in
    let lies = c.requires.0 in let kept = c.requires.1.0 in let m = c.copy_unit.new.bytes in
    let room : i + 16 ≤ c.args.len = omega (arith, is.0, is.1, c.loop-index-test.true, c.pairs_of-pairs.ensures.rest) in
    let more : i + 16 + 16 ≤ c.args.len = omega (arith, is.0, is.1, c.loop-index-test.true, c.pairs_of-pairs.ensures.rest) in
    let half : HasCopied d m c.args.from c.args.to (i + 16) =
    one_further d c.args.from c.args.to c.args.len lies.1 lies.2 kept.0 kept.1 b i room is.2 m c.requires.1.1.0.1 c.copy_unit.ensures in (
      lies.0 ∙ sym half.0.0,
      next-here d c.args.from c.args.to c.args.len lies.1 lies.2 kept.0 kept.1 m (i + 16) more half,
      next-own d c.args.from c.args.to c.args.len lies.1 lies.2 kept.0 kept.1 m (i + 16) more half,
    )

pub loop-index-preserved : goal.loop-index-preserved
loop-index-preserved g c =
    let d = c.args.bytes.now in let b = c.loop-index.bytes in let i = c.loop-index.index in let is = c.loop-index.invariant in
    let lies = c.requires.0 in let kept = c.requires.1.0 in let m = c.copy_unit.new.bytes in let n = c.copy_unit-in-loop-index.new.bytes in
    let room : i + 16 ≤ c.args.len = omega (arith, is.0, is.1, c.loop-index-test.true, c.pairs_of-pairs.ensures.rest) in
    let more : i + 16 + 16 ≤ c.args.len = omega (arith, is.0, is.1, c.loop-index-test.true, c.pairs_of-pairs.ensures.rest) in
    let half : HasCopied d m c.args.from c.args.to (i + 16) =
    one_further d c.args.from c.args.to c.args.len lies.1 lies.2 kept.0 kept.1 b i room is.2 m c.requires.1.1.0.1 c.copy_unit.ensures in
    let within : i + 16 + 16 ≤ c.pairs_of-pairs.result = omega (arith, is.0, is.1, c.loop-index-test.true) in (
      within,
      omega (arith, is.0, is.1, within),
      one_further d c.args.from c.args.to c.args.len lies.1 lies.2 kept.0 kept.1 m (i + 16) more half n c.requires.1.1.0.1 c.copy_unit-in-loop-index.ensures,
    )

-- ---- the last unit, if their number is odd

pub copy_unit-requires-2 : goal.copy_unit-requires-2
copy_unit-requires-2 g c =
    let d = c.args.bytes.now in let b = c.loop-index.bytes in let p = c.pairs_of-pairs.result in
    let lies = c.requires.0 in let kept = c.requires.1.0 in
    let last : p + 16 ≡ c.args.len = omega (arith, c.pairs_of-pairs.ensures.rest, c.if-pairs-len.false) in
    let so_far : HasCopied d b c.args.from c.args.to p = subst (HasCopied d b c.args.from c.args.to) c.loop-index-test.false c.loop-index.invariant.2 in (
      lies.0 ∙ sym so_far.0.0,
      next-here d c.args.from c.args.to c.args.len lies.1 lies.2 kept.0 kept.1 b p (omega (arith, last)) so_far,
      next-own d c.args.from c.args.to c.args.len lies.1 lies.2 kept.0 kept.1 b p (omega (arith, last)) so_far,
    )

pub recount-requires-2 : goal.recount-requires-2
recount-requires-2 g c =
    let d = c.args.bytes.now in let b = c.loop-index.bytes in let p = c.pairs_of-pairs.result in
    let lies = c.requires.0 in let kept = c.requires.1.0 in
    let last : p + 16 ≡ c.args.len = omega (arith, c.pairs_of-pairs.ensures.rest, c.if-pairs-len.false) in
    let so_far : HasCopied d b c.args.from c.args.to p = subst (HasCopied d b c.args.from c.args.to) c.loop-index-test.false c.loop-index.invariant.2 in
    let m = c.copy_unit-2.new.bytes in
    let all : HasCopied d m c.args.from c.args.to c.args.len =
    subst (HasCopied d m c.args.from c.args.to) last
    (one_further d c.args.from c.args.to c.args.len lies.1 lies.2 kept.0 kept.1 b p (omega (arith, last)) so_far m c.requires.1.1.0.1 c.copy_unit-2.ensures) in
    λ k below. all.1 k ∙ ap (λ cs. kept_at cs k) (sym c.requires.1.1.1)

pub returns : goal.returns
returns g c =
    let d = c.args.bytes.now in let b = c.loop-index.bytes in let p = c.pairs_of-pairs.result in
    let lies = c.requires.0 in let kept = c.requires.1.0 in
    let last : p + 16 ≡ c.args.len = omega (arith, c.pairs_of-pairs.ensures.rest, c.if-pairs-len.false) in
    let so_far : HasCopied d b c.args.from c.args.to p = subst (HasCopied d b c.args.from c.args.to) c.loop-index-test.false c.loop-index.invariant.2 in
    let m = c.copy_unit-2.new.bytes in
    let all : HasCopied d m c.args.from c.args.to c.args.len =
    subst (HasCopied d m c.args.from c.args.to) last
    (one_further d c.args.from c.args.to c.args.len lies.1 lies.2 kept.0 kept.1 b p (omega (arith, last)) so_far m c.requires.1.1.0.1 c.copy_unit-2.ensures) in
    let e = c.recount-2.ensures in
    ((e.0.0 ∙ all.0.0, e.0.1 ∙ all.0.1, e.0.2 ∙ all.0.2, e.0.3 ∙ all.0.3, e.0.4 ∙ all.0.4), e.1)
