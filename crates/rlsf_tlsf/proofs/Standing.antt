-- The state that an allocator is in, by a name of its own.
use Rattle.std.proofs.Common.{◌≡◌, ℕ, [], Some, IsSome, refl, sym, subst}
use Rattle.rlsf_base.specs.Space.{Space}
use Rattle.rlsf_model.specs.Callers.{align_at, bytes_at}
use Rattle.rlsf_model.specs.Run.{IsSomeLive}
use Rattle.rlsf_model.specs.State.{State, Used, Holds, IsLive}
use Rattle.rlsf_model.proofs.CallerWords.{align_at-held, bytes_at-held}
use Rattle.rlsf_table.specs.Table.{Table}
use Rattle.rlsf_blocks.specs.Spare.{KeepsSpare}
use Rattle.rlsf_blocks.specs.StandsFor.{contents, StandsFor}
use Rattle.rlsf_tlsf.specs.Allocator.{Allocator, IsInState, IsStanding, Stands, Steps}

-- a represented state is well-formed in the memory
pub represented : {fllen sllen : ℕ} {m : Space} {x : Table} {s : State} → StandsFor fllen sllen (contents m x) s → m.out ≡ [] → IsStanding fllen sllen m s
represented v whole = record { nonzero = v.nonzero; well_formed = v.well_formed; payloads = v.payloads.bytes; whole = whole }

-- an allocator is in its state
pub in_state : (fllen sllen : ℕ) (v : Allocator) → Stands fllen sllen v → IsInState fllen sllen v v.state
unfolding Stands
in_state fllen sllen v is = record { state = refl; stands = is }

module _ {fllen sllen : ℕ} {v : Allocator} {s : State} (is : IsInState fllen sllen v s) where
  -- what a call says of the allocator's state is true of that state
  pub at_state : (P : State → Type 0) → P v.state → P s
  at_state P = subst P is.state

  -- and what is known of that state is true of the allocator's
  pub of_state : (P : State → Type 0) → P s → P v.state
  of_state P = subst P (sym is.state)

  -- a step from the allocator's state is one from that state
  pub stepped : (after : Allocator) (step : State → State → Type 0) → Steps fllen sllen v after (step v.state)
      → (t : State) × step s t × IsInState fllen sllen after t × KeepsSpare v.memory s after.memory t
  unfolding Steps Stands
  stepped after step (did, stands, spare) = (
    after.state,
    subst (λ x. step x after.state) is.state did,
    record { state = refl; stands = stands },
    subst (λ x. KeepsSpare v.memory x after.memory after.state) is.state spare,
  )

  -- the alignment and the bytes of a payload of that state
  pub align_in : (addr : ℕ) (u : Used) → Holds s addr u → align_at v.state addr ≡ Some u.align
  align_in addr u held = of_state (λ x. align_at x addr ≡ Some u.align) (align_at-held is.stands.well_formed addr u held)

  pub bytes_in : (addr : ℕ) (u : Used) → Holds s addr u → bytes_at v.state addr ≡ u.bytes
  bytes_in addr u held = of_state (λ x. bytes_at x addr ≡ u.bytes) (bytes_at-held is.stands.well_formed addr u held)

  pub live_in : (addr align : ℕ) → IsLive s addr align → align_at v.state addr ≡ Some align
  live_in addr align (u, held, same) = subst (λ a. align_at v.state addr ≡ Some a) same (align_in addr u held)

  pub some_live_in : (addr : ℕ) → IsSomeLive s addr → IsSome (align_at v.state addr)
  some_live_in addr (u, held) = subst IsSome (sym (align_in addr u held)) refl
