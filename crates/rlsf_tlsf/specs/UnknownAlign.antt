-- A reallocation by a caller that does not know the alignment of the payload.
use Rattle.std.specs.Prelude.{ℕ, Option, None, Some}
use Rattle.rlsf_model.specs.NoMove.{unmoved_plan}
use Rattle.rlsf_model.specs.Reallocate.{Plan, ReallocatesBy}
use Rattle.rlsf_model.specs.State.{State, Used, Holds}

-- by the plan that leaves the payload where it is, if there is one, and its alignment stays. Else it moves elsewhere, as a payload of the alignment
-- that is passed does; this is refused exactly where an allocation is, and then nothing changes
abbrev pub ResizesBy : ℕ → State → Used → ℕ → ℕ → Option Plan → Option ℕ → State → Type 0
ResizesBy sllen s u size align (Some p) reply t = ReallocatesBy sllen s u size (Some p) reply t
ResizesBy sllen s u size align None reply t = ReallocatesBy sllen s (record u { align = align }) size None reply t

-- the used block at the address gets another size
pub record ReallocatesAnyAlign (sllen : ℕ) (s : State) (addr size align : ℕ) (reply : Option ℕ) (t : State) : Type 0 where
  pub block : Used
  pub holds : Holds s addr block
  pub step : ResizesBy sllen s block size align (unmoved_plan s block size) reply t
