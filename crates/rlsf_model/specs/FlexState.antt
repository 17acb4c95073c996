-- The state of the reference model that asks a source for memory.
use Rattle.std.specs.Prelude.{◌≡◌, ℕ, List, [], Option, None}
use Rattle.rlsf_base.specs.declared.memory.range.Range.{Range}
use Rattle.rlsf_model.specs.State as state

-- the newest range of the source, and how many bytes there are from its start to the end of its last chunk
pub record KeptPool : Type 0 where
  pub range : Range
  pub len : ℕ

-- the reference model's state, the ranges that are outstanding at the source with the newest first, and the kept pool, if any
pub record FlexState : Type 0 where
  pub machine : state.State
  pub pools : List Range
  pub kept : Option KeptPool

-- nothing was asked for yet
abbrev pub flex_empty : FlexState
flex_empty = record { machine = state.empty; pools = []; kept = None }

-- with another state of the reference model
abbrev pub with_machine : FlexState → state.State → FlexState
with_machine s m = record { machine = m; pools = s.pools; kept = s.kept }

-- Two states have the same ranges and the same kept pool. Their states of the reference model are equal up to bytes and the order of
-- chunks and of used blocks
pub record AreFlexSimilar (s t : FlexState) : Type 0 where
  pub machine : state.AreSimilar s.machine t.machine
  pub pools : s.pools ≡ t.pools
  pub kept : s.kept ≡ t.kept
