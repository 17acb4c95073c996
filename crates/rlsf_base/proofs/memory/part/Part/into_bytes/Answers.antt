use Rattle.std.proofs.Common.{length, ap, sym, ◌∙◌, subst}
use Rattle.rlsf_base.specs.declared.memory.range.Range.{Range}
use Rattle.rlsf_base.specs.declared.memory.view.View.{View}
use Rattle.rlsf_base.specs.Piece.{Piece, IsPiece, home_from}
use Rattle.rlsf_base.specs.Range.{range_at}
use Rattle.rlsf_base.proofs.memory.part.Part.into_bytes.Goals as goal

pub returns : goal.returns
returns c =
    let is = c.self.view_is in let v = c.self.invariant in
    let long = sym v.whole.0 ∙ ap (λ (q : Piece). length q.bytes) is in (
      subst (λ (u : View × Range). IsPiece u.0 u.1 c.self.inside.bytes) (λ i. ((is i).home.view, range_at (is i).start (long i))) v,
      sym (λ i. home_from (is i).home.view c.self.inside.bytes.of) ∙ ap (λ (q : Piece). q.home) is,
      ap (λ (q : Piece). q.bytes) is,
      ap (λ (q : Piece). q.out) is,
    )
