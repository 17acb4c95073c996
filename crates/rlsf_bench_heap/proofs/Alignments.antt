-- The layouts of slots.
use Rattle.std.proofs.Common.{ℕ, ◌%◌, ◌^◌, ◌<◌, ◌≤◌, arith, lit<}
use Rattle.std.proofs.Math.Nat.{mod-lt}
use Rattle.std.proofs.Math.Pow.{pow_mono}
use Rattle.rlsf_base.specs.Layout.{IsLayout}
use Rattle.rlsf_base.proofs.Numbers.PowersOfTwo.{IsPowerOfTwo-pow}

-- a small size is that of a layout with the alignment of a slot
pub IsLayout-slot : (slot size : ℕ) → size < 512 → IsLayout size (2 ^ (slot % 7))
IsLayout-slot slot size small =
    let place : slot % 7 < 7 = mod-lt slot (lit< tt) in
    let exponent : slot % 7 ≤ 62 = omega (arith, place) in
    let most : 2 ^ (slot % 7) ≤ 2 ^ 62 = pow_mono exponent in
    record { aligned = IsPowerOfTwo-pow (slot % 7); fits = omega (arith, most, small) }
