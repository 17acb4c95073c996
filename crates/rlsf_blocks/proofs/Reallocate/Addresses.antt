-- The address that a reallocation returns isn't 0.
use Rattle.std.proofs.Common.{◌≡◌, ◌≢◌, ℕ, zero, suc, Option, Some, None, arith, inl, refl, subst, sym}
use Rattle.rlsf_base.specs.Addr.{reply_of}
use Rattle.rlsf_model.proofs.Payloads.{IsUsed-after_start, payload_of-after}
use Rattle.rlsf_model.proofs.Names.{moved}
use Rattle.rlsf_model.specs.Lists.{IsIn}
use Rattle.rlsf_model.specs.Reallocate.{Plan, ReallocatesBy}
use Rattle.rlsf_model.specs.State.{State, Used}
use Rattle.rlsf_model.specs.WellFormed.{IsUsed}

-- an address that isn't 0 is a reply
pub some_reply : (n : ℕ) → n ≢ 0 → Some n ≡ reply_of n
some_reply zero some = absurd (some refl)
some_reply (suc n) some = refl

-- a payload lies behind its block's header
pub address_some : (sllen : ℕ) (s t : State) (u : Used) (size addr : ℕ) (p : Option Plan) → ((v : Used) → IsIn v t.used → IsUsed v)
    → ReallocatesBy sllen s u size p (Some addr) t → addr ≢ 0
address_some sllen s t u size addr (Some p) used by =
    let w = moved u p by.bytes in
    let after = IsUsed-after_start w (used w (subst (λ (x : State). IsIn w x.used) (sym by.after) (inl refl))) in
    λ none. omega (arith, none, by.answer, after)
address_some sllen s t u size addr None used by = λ none. omega (arith, none, by.allocated.answer, payload_of-after by.allocated.range.start u.align)
