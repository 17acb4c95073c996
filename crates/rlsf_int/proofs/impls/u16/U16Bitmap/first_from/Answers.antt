use Rattle.rlsf_int.proofs.impls.u16.U16Bitmap.first_from.Goals as goal

pub returns : goal.returns
returns c = c.bit_scan_forward.ensures
