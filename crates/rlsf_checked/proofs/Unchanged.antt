-- What every call keeps, of an allocator that is as it was.
use Rattle.std.proofs.Common.{ℕ, Err, arith, refl}
use Rattle.rlsf_tlsf.specs.Allocator.{Allocator}
use Rattle.rlsf_tlsf.specs.Results.{KeepsFrameOfPools}
use Rattle.rlsf_checked.specs.Checked.{Checked}
use Rattle.rlsf_checked.specs.Results.{KeepsCheckedFrameMoving, RefusesUnchanged}
use Rattle.rlsf_checked.specs.declared.error.CheckedError.{CheckedError}

pub frame_unchanged : (v : Allocator) → KeepsFrameOfPools v v
frame_unchanged v = record { aligns = refl; bytes = refl; count = refl; place = (refl, refl, refl, λ none. none); grow = omega arith; copied = refl }

pub frame_moving_unchanged : (addr : ℕ) (c : Checked) → KeepsCheckedFrameMoving addr c c
frame_moving_unchanged addr c =
    record { count = refl; chunks = refl; pools = refl; place = (refl, refl, refl, λ none. none); grow = omega arith; copied = omega arith; grow_copied = omega arith }

-- and what is said of its errors
pub refusing : {A answers : Type 0} {v : Checked} {e : CheckedError} → answers → RefusesUnchanged {A = A} v v answers (Err e)
refusing answer = record { answer = answer; same = refl; pools = refl; bytes = refl }
