-- The owners of a memory's parts, a ticket and a view as machine values: each determines what it is passed as. Assumes `Logic`.
use Rattle.std.proofs.Common.{List, [], ◌∷◌}
use mir.Val.{Val}
use denote.Laws.{Tells, Is}
use Rattle.rlsf_base.proofs.RawBlock.PointerValues.{view_val}
use Rattle.rlsf_base.proofs.RawBlock.Values.{mark_val}
use Rattle.rlsf_base.proofs.memory.block.Bytes.TheLaws.{lowers as bytes_lowers}
use Rattle.rlsf_base.proofs.memory.block.Units.TheLaws.{lowers as units_lowers}
use Rattle.rlsf_base.proofs.memory.ledger.Ticket.TheLaws.{lowers as ticket_lowers}
use Rattle.rlsf_base.proofs.memory.view.View.TheLaws.{lowers as view_lowers}
use Rattle.rlsf_base.specs.contracts.memory.block.Bytes as bytes_type
use Rattle.rlsf_base.specs.contracts.memory.block.Units as units_type
use Rattle.rlsf_base.specs.contracts.memory.ledger.Ticket as ticket_type
use Rattle.rlsf_base.specs.contracts.memory.view.View as view_type

abbrev pub bytes_vals : (bytes_type.the_row).Denot → List Val
bytes_vals d = mark_val ∷ []

pub bytes_Tells : Tells bytes_type.the_row (Is bytes_type.the_row) bytes_vals
bytes_Tells = bytes_lowers.val_is

abbrev pub units_vals : (units_type.the_row).Denot → List Val
units_vals u = mark_val ∷ []

pub units_Tells : Tells units_type.the_row (Is units_type.the_row) units_vals
units_Tells = units_lowers.val_is

abbrev pub ticket_vals : (ticket_type.the_row).Denot → List Val
ticket_vals d = mark_val ∷ []

pub ticket_Tells : Tells ticket_type.the_row (Is ticket_type.the_row) ticket_vals
ticket_Tells = ticket_lowers.val_is

abbrev pub view_vals : (view_type.the_row).Denot → List Val
view_vals v = view_val v.base.ptr v.shift ∷ []

pub view_Tells : Tells view_type.the_row (Is view_type.the_row) view_vals
view_Tells = view_lowers.val_is
