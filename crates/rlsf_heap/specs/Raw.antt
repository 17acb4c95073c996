-- What a payload owns.
use Rattle.std.specs.Prelude.{ℕ, length}
use base.Fml.{Fml, fex, fsep}
use Rattle.rlsf_base.specs.Ledger.{extent, ticket_owns}
use Rattle.rlsf_base.specs.Piece.{CanCome, Piece, piece_owns}
use Rattle.rlsf_heap.specs.Heap.{PayloadView, payload_range}

-- the bytes of a payload
abbrev pub bytes_of : PayloadView → Piece
bytes_of p = record { home = p.identity.home; start = p.start; bytes = p.bytes; out = p.out }

-- its bytes can be a part of its memory again
abbrev pub CanComeBack : PayloadView → Type 0
CanComeBack p = CanCome (bytes_of p) p.identity.home.view (payload_range p)

-- what a payload owns: its bytes, of which it is known that they can be a part again, and a ticket for them of its heap's ledger
abbrev pub payload_owns : PayloadView → Fml
payload_owns p = fex (ℕ × CanComeBack p) (λ x. fsep (piece_owns (bytes_of p)) (ticket_owns p.identity.ledger x.0 (extent p.start (length p.bytes) p.align)))
