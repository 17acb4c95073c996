-- The payloads that the slots hold.
use Rattle.std.specs.Prelude.{◌≡◌, ℕ, List, Option, None, Some, slice_index_or}
use Rattle.rlsf_base.specs.Addr.{at}
use Rattle.rlsf_bench_threads.specs.declared.global_steps.Payload.{Payload}
use Rattle.rlsf_model.specs.Callers.{align_at}
use Rattle.rlsf_model.specs.State.{State}

-- a slot has this payload
abbrev pub HasPayload : List (Option Payload) → ℕ → Payload → Type 0
HasPayload slots i p = slice_index_or slots i None ≡ Some p

-- each is live in the state, with its alignment, and in no other slot
pub record AreSlotsLive (s : State) (slots : List (Option Payload)) : Type 0 where
  pub live : (i : ℕ) (p : Payload) → HasPayload slots i p → align_at s (at p.addr) ≡ Some p.layout.align
  pub one : (i j : ℕ) (p q : Payload) → HasPayload slots i p → HasPayload slots j q → at p.addr ≡ at q.addr → i ≡ j
