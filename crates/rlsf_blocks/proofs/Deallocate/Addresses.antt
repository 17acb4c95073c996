-- Where the block of a payload begins, by its alignment.
use Rattle.rlsf_blocks.proofs.Words.NeverOut.{front_word}
use Rattle.std.proofs.Common.{◌≡◌, ℕ, ◌+◌, ◌-◌, ◌^◌, ◌<◌, ◌≤◌, arith, sym, ◌∙◌, ap}
use Rattle.rlsf_base.specs.Space.{Space, word_at}
use Rattle.rlsf_base.specs.OpenSpace.{IsReadable}
use Rattle.rlsf_base.proofs.Numbers.PowersOfTwo.{IsPowerOfTwo-le}
use Rattle.rlsf_table.specs.Table.{Table}
use Rattle.rlsf_blocks.specs.StandsFor.{contents, StandsFor}
use Rattle.rlsf_model.specs.Lists.{IsIn}
use Rattle.rlsf_model.specs.State.{State, Used}
use Rattle.rlsf_model.proofs.Payloads.{payload_of-le, IsUsed-aligned, IsUsed-after_start}
use Rattle.rlsf_blocks.proofs.Words.Apart.{used_in_memory}
use Rattle.rlsf_model.proofs.RangeLengths.{wide_whole}

module _ {fllen sllen : ℕ} {m : Space} {t : Table} {s : State} (v : StandsFor fllen sllen (contents m t) s) (u : Used) (i : IsIn u s.used) {payload align : ℕ}
    (at : u.payload ≡ payload) (is : u.align ≡ align) where
  pub narrow_start : align < 32 → u.block.start + 16 ≡ payload
  narrow_start narrow =
      let used = v.well_formed.used u i in
      let below : u.align < 2 ^ 5 = omega arith in
      let few = IsPowerOfTwo-le u.align 4 used.power below in
      omega (arith, used.placed, payload_of-le u.block.start u.align used.whole.start used.power, IsUsed-after_start u used)

  pub wide_start : 32 ≤ align → word_at m (payload - 8) ≡ u.block.start
  wide_start wide = ap (λ p. word_at m (p - 8)) (sym at) ∙ v.payloads.pad u i (omega arith)

  -- the word before the payload lies in the memory
  pub IsReadable-before : 32 ≤ align → IsReadable m (payload - 8)
  IsReadable-before wide =
      let used = v.well_formed.used u i in
      let granule = wide_whole u.payload u.align used.power (omega arith) (IsUsed-aligned u used) in
      let after_start = IsUsed-after_start u used in
      let bound : word_at m (payload - 8) < 2 ^ 64 = omega (arith, wide_start wide, (used_in_memory v.well_formed u i).1, v.well_formed.addressable, used.within) in
      front_word v u i (payload - 8) (omega (arith, granule, at)) (omega (arith, at, after_start)) (omega (arith, at, after_start)) bound
