-- The contiguous chunks that a pool becomes.
use Rattle.std.proofs.Common.{◌≡◌, ℕ, ◌+◌, Option, Some, None, IfSome, subst}
use Rattle.rlsf_base.specs.declared.memory.range.Range.{Range}
use Rattle.rlsf_model_sizes.specs.Rounding.{round32}
use Rattle.rlsf_model_sizes.specs.Sizes.{max_pool_size}
use Rattle.rlsf_model.specs.ChunkRows.{IsRow}
use Rattle.rlsf_model.specs.Insert.{aligned_part, bytes_taken, cut, Inserts}
use Rattle.rlsf_model.specs.State.{State, between}
use Rattle.rlsf_model.proofs.ChunkRows.{IsRow-inserted}
use Rattle.rlsf_tlsf.specs.Allocator.{Allocator, Steps}
use Rattle.rlsf_tlsf.proofs.Arrivals.{opened}
use Rattle.rlsf_test_tlsf.specs.Rows.{TakesRow}

TakesRow-inserts : (fllen : ℕ) (s t : State) (r : Range) (taken : Option ℕ) → Inserts fllen s r taken t → TakesRow fllen r t
TakesRow-inserts fllen s t r taken step = go (bytes_taken r.start (cut (max_pool_size fllen) (aligned_part r))) step.answer
  where
    go : (o : Option ℕ) → taken ≡ o → IfSome o (λ len. IsRow t (between (round32 r.start) (r.start + len)))
    go None e = tt
    go (Some len) e = IsRow-inserted fllen s t r len (subst (λ o. Inserts fllen s r o t) e step)

-- an insert, whether its caller asks how many bytes were taken or not
pub TakesRow-asked : (fllen sllen : ℕ) (before after : Allocator) (r : Range) (taken : Option ℕ) → Steps fllen sllen before after (Inserts fllen before.state r taken)
    → TakesRow fllen r after.state
TakesRow-asked fllen sllen before after r taken step =
    TakesRow-inserts fllen before.state after.state r taken (opened fllen sllen before after (Inserts fllen before.state r taken) step).0

pub TakesRow-unasked : (fllen sllen : ℕ) (before after : Allocator) (r : Range)
    → Steps fllen sllen before after (λ t. (taken : Option ℕ) × Inserts fllen before.state r taken t) → TakesRow fllen r after.state
TakesRow-unasked fllen sllen before after r step =
    let did = (opened fllen sllen before after (λ t. (taken : Option ℕ) × Inserts fllen before.state r taken t) step).0 in
    TakesRow-inserts fllen before.state after.state r did.0 did.1
