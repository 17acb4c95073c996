use Rattle.std.proofs.Common.{◌≤◌, length, ap, ◌∙◌, arith}
use Rattle.rlsf_base.specs.Out.{kept_at}
use Rattle.rlsf_base.specs.Piece.{Piece}
use Rattle.rlsf_base.proofs.Changes.{none-out}
use Rattle.rlsf_base.proofs.Pieces.{can_fill, filled}
use Rattle.rlsf_base.proofs.RawBlock.Fills.{long_filled}
use Rattle.rlsf_base.proofs.memory.part.Part.fill_from.Goals as goal

pub fill_bytes_from-requires-clause-own : goal.fill_bytes_from-requires-clause-own
fill_bytes_from-requires-clause-own c = can_fill c.self.invariant c.place-place.ensures

pub invariant_of-self : goal.invariant_of-self
invariant_of-self c =
    let p = c.self.inside in
    let small : p.range.len ≤ length p.bytes.bytes = omega (arith, c.self.invariant.whole.0) in
    let behind : c.args.from ≤ p.range.len = omega (arith, c.requires.place, c.self.invariant.whole.0, ap (λ (q : Piece). length q.bytes) c.self.view_is) in
    filled c.self.invariant c.fill_bytes_from.ensures (long_filled p.bytes.bytes c.args.from p.range.len c.args.value behind small)

pub returns-clause-full : goal.returns-clause-full
returns-clause-full c k lo hi = ap (λ cs. kept_at cs k) c.fill_bytes_from.ensures.1 ∙ none-out k
