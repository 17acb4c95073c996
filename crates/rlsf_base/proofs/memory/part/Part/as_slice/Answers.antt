use Rattle.std.proofs.Common.{◌∙◌, ap, arith, length}
use Rattle.rlsf_base.specs.Out.{kept_at}
use Rattle.rlsf_base.specs.Piece.{Piece}
use Rattle.rlsf_base.proofs.memory.part.Part.as_slice.Goals as goal

pub slice-requires : goal.slice-requires
slice-requires c = (
  c.self.invariant.place.0,
  (
    (omega arith, omega arith),
    λ k lo hi. ap (λ (q : Piece). kept_at q.out k) c.self.view_is
        ∙ c.requires k (omega arith) (omega (arith, hi, ap (λ (q : Piece). length q.bytes) c.self.view_is, c.self.invariant.whole.0)),
  ),
)
