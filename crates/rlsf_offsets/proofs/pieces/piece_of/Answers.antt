use Rattle.rlsf_offsets.specs.Iteration.{piece_of}
use Rattle.rlsf_offsets.proofs.pieces.piece_of.Goals as goal

pub returns : goal.returns
returns g c = λ i. piece_of g.row.UNIT (record { range = c.as_ptr-range.ensures i; is_occupied = c.is_occupied.ensures i })
