use Rattle.std.proofs.Common.{◌∙◌, ap}
use Rattle.std.proofs.lemmas.List.{length-replicate}
use Rattle.rlsf_base.specs.Out.{kept_at}
use Rattle.rlsf_base.proofs.Changes.{none-out}
use Rattle.rlsf_base.proofs.Pieces.{can_fill, filled}
use Rattle.rlsf_base.proofs.memory.part.Part.fill.Goals as goal

pub fill_bytes-requires : goal.fill_bytes-requires
fill_bytes-requires c = can_fill c.self.invariant c.place-place.ensures

pub invariant_of-self : goal.invariant_of-self
invariant_of-self c = filled c.self.invariant c.fill_bytes.ensures (length-replicate c.self.inside.range.len c.args.value)

pub returns-clause-full : goal.returns-clause-full
returns-clause-full c k lo hi = ap (λ cs. kept_at cs k) c.fill_bytes.ensures.1 ∙ none-out k
