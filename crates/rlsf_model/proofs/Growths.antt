-- Memory that comes leaves the used blocks.
use Rattle.std.proofs.Common.{◌≡◌, ℕ, Some, ap, subst, sym}
use Rattle.rlsf_model.specs.FlexState.{FlexState}
use Rattle.rlsf_model.specs.Growth.{Outcome, refused, growth_came, range_came, TakesIn}
use Rattle.rlsf_model.specs.Lists.{IsIn}
use Rattle.rlsf_model.specs.State.{State, Used, Holds}
use Rattle.rlsf_model.specs.Terms.{Terms}
use Rattle.rlsf_model.proofs.Chunks.{used-appended, used-inserted}
use Rattle.rlsf_model.proofs.Names.{behind}

-- with the same used blocks, an address has the same block
pub Holds-same : (s t : State) (addr : ℕ) (u : Used) → t.used ≡ s.used → Holds s addr u → Holds t addr u
Holds-same s t addr u same (is_used, at) = (subst (IsIn u) (sym same) is_used, at)

pub used-taken : (fllen : ℕ) (t : Terms) (s u : FlexState) (outcome : Outcome) → TakesIn fllen t s outcome u → u.machine.used ≡ s.machine.used
used-taken fllen t s u refused step = ap (λ (x : FlexState). x.machine.used) step
used-taken fllen t s u (range_came r) (len, inserted, pools, kept) = used-inserted fllen s.machine u.machine r (Some len) inserted
used-taken fllen t s u (growth_came len) (k, taken, was_kept, appended, pools, kept) = used-appended fllen s.machine u.machine (behind k len) taken appended
