-- Bytes that a caller who holds a pointer lends to a heap, or gets back.
use Rattle.std.specs.Prelude.{ℕ, zero, suc}
use base.Fml.{Fml, ftrue}
use Rattle.rlsf_base.specs.Piece.{Piece, piece_owns}

-- the bytes of a part that begins at an address; at the address 0, which says that there is none, nothing
abbrev pub owns_from : ℕ → Piece → Fml
owns_from zero p = ftrue
owns_from (suc n) p = piece_owns p

-- the bytes of a part, or nothing if its address is 0
abbrev pub owns_loan : Piece → Fml
owns_loan p = owns_from p.start p
