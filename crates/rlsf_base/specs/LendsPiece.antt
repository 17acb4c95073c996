-- What a part ends as, once a `&mut` to its bytes has ended.
use Rattle.std.specs.Prelude.{ℕ, List, length}
use Rattle.std.specs.Borrow.{Fml, MutBor, Array, Lends, u8}
use Rattle.rlsf_base.specs.contracts.memory.part.Part as part
use Rattle.rlsf_base.specs.Lends.{refilled}
use Rattle.rlsf_base.specs.Piece.{Piece}

-- a part with the bytes w, which are cut to its length, or filled up from the old ones
unfoldable pub lent_piece : Piece → List ℕ → Piece
lent_piece p w = record { home = p.home; start = p.start; bytes = refilled p.bytes 0 (length p.bytes) w; out = p.out }

-- the part ends with the bytes that r leaves, and else as it was
abbrev pub LendsPiece : MutBor Piece → MutBor (List ℕ) → Fml
LendsPiece p r = Lends part.the_row (Array u8 0) p r (lent_piece p.now)
