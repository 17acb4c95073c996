-- A used block gets another size without moving its payload, or the call is refused.
use Rattle.std.specs.Prelude.{◌≡◌, ℕ, Option, Some, None}
use Rattle.std.specs.Option.{option_or}
use Rattle.rlsf_model.specs.Reallocate.{Plan, Replans, in_place, into_next}
use Rattle.rlsf_model.specs.State.{State, Used, Holds}

-- the plans that leave the payload where it is: in place, or else into the next range
abbrev pub unmoved_plan : State → Used → ℕ → Option Plan
unmoved_plan s u size = option_or (in_place s u size) (into_next s u size)

-- by the plan, if there is one; else it is refused, and nothing changes
abbrev pub ReallocatesUnmovedBy : State → Used → Option Plan → Option ℕ → State → Type 0
ReallocatesUnmovedBy s u (Some p) None t = ⊥
ReallocatesUnmovedBy s u (Some p) (Some addr) t = Replans s u p addr t
ReallocatesUnmovedBy s u None None t = t ≡ s
ReallocatesUnmovedBy s u None (Some addr) t = ⊥

-- the used block at the address gets another size without a move
pub record ReallocatesWithoutMove (s : State) (addr size : ℕ) (reply : Option ℕ) (t : State) : Type 0 where
  pub block : Used
  pub holds : Holds s addr block
  pub step : ReallocatesUnmovedBy s block (unmoved_plan s block size) reply t
