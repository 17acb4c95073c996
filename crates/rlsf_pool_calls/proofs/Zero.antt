-- No payload lives at 0.
use Rattle.std.proofs.Common.{◌≡◌, ℕ, Option, Some, None, arith, refl}
use Rattle.rlsf_model.specs.Callers.{align_at}
use Rattle.rlsf_model.proofs.CallerWords.{align_at-live}
use Rattle.rlsf_tlsf.specs.Allocator.{Allocator, Stands}
use Rattle.rlsf_model.proofs.Payloads.{IsUsed-after_start}

pub none_at_zero : (fllen sllen : ℕ) (v : Allocator) → Stands fllen sllen v → align_at v.state 0 ≡ None
unfolding Stands
none_at_zero fllen sllen v stands = go (align_at v.state 0) refl
  where
    go : (o : Option ℕ) → align_at v.state 0 ≡ o → o ≡ None
    go None e = refl
    go (Some align) e = let (u, held, _) = align_at-live v.state 0 align e in absurd (omega (arith, IsUsed-after_start u (stands.well_formed.used u held.0), held.1))
