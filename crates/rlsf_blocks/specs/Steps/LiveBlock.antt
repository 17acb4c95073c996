-- The block of a live payload, in the states that a memory represents.
use Rattle.std.specs.Prelude.{◌≡◌, ℕ}
use Rattle.rlsf_base.specs.Space.{Space}
use Rattle.rlsf_model.specs.Run.{IsSomeLive}
use Rattle.rlsf_model.specs.State.{State, Used, Holds}
use Rattle.rlsf_blocks.specs.StandsFor.{Contents, StandsFor}

-- some represented state has a payload at the address
abbrev pub IsLiveIn : Space → ℕ → Type 0
IsLiveIn m addr = (fllen : ℕ) × (sllen : ℕ) × (v : Contents) × (s : State) × (v.memory ≡ m) × StandsFor fllen sllen v s × IsSomeLive s addr

-- in each state that the memory represents, this is true of the used block whose caller has the address
abbrev pub AtEachBlock : Space → ℕ → (Used → Type 0) → Type 0
AtEachBlock m addr P = (fllen sllen : ℕ) (v : Contents) (s : State) (u : Used) → v.memory ≡ m → StandsFor fllen sllen v s → Holds s addr u → P u

-- the used block whose caller has the address, with that alignment, begins at `block`
abbrev pub IsBlockOf : State → ℕ → ℕ → ℕ → Type 0
IsBlockOf s addr align block = (u : Used) × Holds s addr u × (u.align ≡ align) × (u.block.start ≡ block)
