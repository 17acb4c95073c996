-- The alignments of slots.
use Rattle.std.proofs.Common.{ℕ, ◌%◌, ◌^◌, ◌<◌, ◌≤◌, arith}
use Rattle.std.proofs.Math.Nat.{mod-lt}
use Rattle.std.proofs.Math.Pow.{pow_mono}
use Rattle.rlsf_base.specs.Layout.{IsLayout}
use Rattle.rlsf_base.proofs.Numbers.PowersOfTwo.{IsPowerOfTwo-pow}
use Rattle.rlsf_bench_common.specs.Runs.{alignment_of}

-- a small size is that of a layout with the alignment of a slot, if there are fewer than 64
pub IsLayout-slot : (aligns slot size : ℕ) → 0 < aligns → aligns < 64 → size < 2 ^ 16 → IsLayout size (alignment_of aligns slot)
IsLayout-slot aligns slot size some few small =
    let place : slot % aligns < aligns = mod-lt slot some in
    let exponent : slot % aligns ≤ 62 = omega (arith, place, few) in
    let most : 2 ^ (slot % aligns) ≤ 2 ^ 62 = pow_mono exponent in
    record { aligned = IsPowerOfTwo-pow (slot % aligns); fits = omega (arith, most, small) }
