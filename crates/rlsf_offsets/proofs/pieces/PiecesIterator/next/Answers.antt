use Rattle.std.proofs.Common.{inl, inr, refl, subst, sym}
use Rattle.rlsf_model.specs.Lists.{IsIn}
use Rattle.rlsf_offsets.proofs.pieces.PiecesIterator.next.Goals as goal

pub piece_of-requires : goal.piece_of-requires
piece_of-requires g c = let b = c.in_ok-block.block in c.self.invariant b (subst (IsIn b) (sym c.in_ok-block.ensures.steps) (inl refl))

pub invariant_of-self-2 : goal.invariant_of-self-2
invariant_of-self-2 g c = λ b i. c.self.invariant b (subst (IsIn b) (sym c.in_ok-block.ensures.steps) (inr i))
