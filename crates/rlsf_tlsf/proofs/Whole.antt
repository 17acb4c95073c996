-- An allocator is a core, and nothing is out of its memory: so it is after a call on the core.
use Rattle.std.proofs.Common.{[], ◌≡◌, ℕ, ◌≤◌}
use Rattle.rlsf_base.specs.Space.{Space}
use Rattle.rlsf_model.specs.State.{State}
use Rattle.rlsf_table.specs.Table.{Table}
use Rattle.rlsf_table.proofs.Costs.{SamePlace-costs, copied_none}
use Rattle.rlsf_table.proofs.Parameters.{IsValid-widest}
use Rattle.rlsf_blocks.specs.Laws.{read_from}
use Rattle.rlsf_tlsf.specs.Allocator.{allocator, IsAllocator, Stands, Steps}
use Rattle.rlsf_tlsf.specs.Cores.{IsCore, LeavesCore, LeavesCoreCopying}
use Rattle.rlsf_tlsf.specs.Results.{KeepsFrame}
use Rattle.rlsf_tlsf.specs.declared.tlsf.Tlsf.TheInside.{Inside}
use Rattle.rlsf_tlsf.proofs.Opened.{IsAllocator-opened}
use Rattle.rlsf_tlsf.proofs.Standing.{represented}

module _ {fl_bits sl_bits fllen sllen : ℕ} {m : Space} {x : Table} {j : State} (is : IsAllocator fl_bits sl_bits fllen sllen m x j) where
  pub core_of : fl_bits ≤ 128 → IsCore fllen sllen m x j
  core_of limit = record { valid = IsValid-widest limit is.valid; stands = is.stands; is_bare = is.is_bare }

  module _ {n : Space} {y : Table} {k : State} {most copies : ℕ} (left : LeavesCoreCopying fllen sllen m n y j k most copies) where
    pub none_left : n.out ≡ []
    none_left = left.costs.none is.whole

    pub IsAllocator-left : IsAllocator fl_bits sl_bits fllen sllen n y k
    IsAllocator-left = record { valid = is.valid; stands = left.core.stands; whole = none_left; is_bare = left.core.is_bare }

    pub Steps-left : (step : State → Type 0) → step (read_from n k) → Steps fllen sllen (allocator m x j) (allocator n y k) step
    unfolding Steps Stands
    Steps-left step did = (did, represented left.core.stands none_left, left.spare)

  pub frame-left : {n : Space} {y : Table} {k : State} {most : ℕ} (left : LeavesCore fllen sllen m n y j k most)
      → (read_from n k).chunks ≡ (read_from m j).chunks → KeepsFrame (allocator m x j) (allocator n y k)
  frame-left left chunks = record { chunks = chunks; place = SamePlace-costs left.costs; grow = left.costs.grow; copied = copied_none left.costs }

-- the same of an opened allocator
module _ {FL SL : Type 0} {FLLEN SLLEN : ℕ} {i j : Inside FL SL FLLEN SLLEN} (same : j ≡ i) {fl_bits sl_bits fllen sllen : ℕ}
    (is : IsAllocator fl_bits sl_bits fllen sllen i.memory i.table i.state.state) where
  pub core_again : fl_bits ≤ 128 → IsCore fllen sllen j.memory j.table j.state.state
  core_again = core_of (IsAllocator-opened same is)

  module _ {n : Space} {y : Table} {k : State} {most copies : ℕ} (left : LeavesCoreCopying fllen sllen j.memory n y j.state.state k most copies) where
    pub none_again : n.out ≡ []
    none_again = none_left (IsAllocator-opened same is) left

    pub allocator_again : IsAllocator fl_bits sl_bits fllen sllen n y k
    allocator_again = IsAllocator-left (IsAllocator-opened same is) left
