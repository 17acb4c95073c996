-- A chunk that has held one long payload has room for many short ones.
use Rattle.std.proofs.Common.{◌≡◌, ℕ, length, arith, sym, ◌∙◌, ap, subst}
use Rattle.rlsf_base.specs.declared.memory.range.Range.{Range}
use Rattle.rlsf_model_sizes.specs.SizeClass.{IsValid}
use Rattle.rlsf_flex.specs.Results.{SizesFreedRoom}
use Rattle.rlsf_model.specs.Callers.{bytes_at}
use Rattle.rlsf_model.specs.Lists.{IsIn}
use Rattle.rlsf_model.specs.Release.{Deallocates}
use Rattle.rlsf_model.specs.State.{State, usable}
use Rattle.rlsf_model.specs.WellFormed.{IsWellFormed}
use Rattle.rlsf_model.proofs.CallerWords.{bytes_at-held}
use Rattle.rlsf_model.proofs.Chunks.{chunks-deallocated}
use Rattle.rlsf_model.proofs.Payloads.{IsUsed-after_start, IsUsed-some}
use Rattle.rlsf_model.proofs.SizedWords.{count_gone, sized_chunk}
use Rattle.rlsf_model.proofs.Tiling.{IsPart-used, lies_in_chunk, tiling_of}

-- the payload that is deallocated was the only one, and its chunk has 16 bytes before its bytes and 32 behind them
pub sized_behind : (fl_bits sl_bits fllen sllen : ℕ) (memory : Range) (s t : State) → IsValid fl_bits sl_bits fllen sllen → IsWellFormed fllen sllen memory s → (addr : ℕ)
    → Deallocates s addr t → SizesFreedRoom fllen sllen s t addr
sized_behind fl_bits sl_bits fllen sllen memory s t valid w addr step count size align len told long one =
    let u = step.block in
    let used = w.used u step.holds.0 in
    let home = lies_in_chunk s (tiling_of w) u.block (IsUsed-some u used) (IsPart-used s (tiling_of w) u step.holds.0) in
    let bytes : length (bytes_at s addr) ≡ (usable u).len = ap length (bytes_at-held w addr u step.holds) ∙ used.bytes in
    sized_chunk fl_bits sl_bits fllen sllen count size align len t home.chunk valid told (subst (IsIn home.chunk) (sym (chunks-deallocated s t addr step)) home.is_chunk)
    (omega (arith, home.from, home.to, bytes, IsUsed-after_start u used, used.within, long)) (omega (arith, count_gone w t addr (u, step.holds) step, one))
