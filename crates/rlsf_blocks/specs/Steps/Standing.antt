-- The states that a memory and its class table represent, before a call and after it.
use Rattle.std.specs.Prelude.{◌≡◌, ℕ}
use Rattle.rlsf_base.specs.Space.{Space}
use Rattle.rlsf_table.specs.Table.{Table}
use Rattle.rlsf_blocks.specs.Spare.{KeepsSpare}
use Rattle.rlsf_blocks.specs.StandsFor.{contents, StandsFor}
use Rattle.rlsf_model.specs.Lists.{IsIn}
use Rattle.rlsf_model.specs.State.{State, Used}

-- this is true of each state that memory and table represent
abbrev pub InEach : ℕ → ℕ → Space → Table → (State → Type 0) → Type 0
InEach fllen sllen m t P = (s : State) → StandsFor fllen sllen (contents m t) s → P s

-- this is true of the used block at the address, in each state that memory and table represent
abbrev pub AtEachUsed : ℕ → ℕ → Space → Table → ℕ → (State → Used → Type 0) → Type 0
AtEachUsed fllen sllen m t block P = (s : State) (u : Used) → StandsFor fllen sllen (contents m t) s → IsIn u s.used → u.block.start ≡ block → P s u

-- memory and table represent the state after, and each byte that no block is made of, before and after, is as it was
abbrev pub StandsAfter : ℕ → ℕ → Space → Space → Table → State → State → Type 0
StandsAfter fllen sllen m n t before after = StandsFor fllen sllen (contents n t) after × KeepsSpare m before n after

-- a step of the reference model leads to such a state
abbrev pub StepsTo : ℕ → ℕ → Space → Space → Table → State → (State → Type 0) → Type 0
StepsTo fllen sllen m n t before step = (after : State) × step after × StandsFor fllen sllen (contents n t) after × KeepsSpare m before n after
