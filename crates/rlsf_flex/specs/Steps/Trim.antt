-- What the parts of a trim leave.
use Rattle.std.specs.Prelude.{◌≡◌, ℕ, ◌^◌, ◌<◌, ◌≤◌, List, [], ◌∷◌, ◌++◌, length, map}
use Rattle.rlsf_base.specs.declared.memory.range.Range.{Range}
use Rattle.rlsf_base.specs.Range.{end_of}
use Rattle.rlsf_base.specs.Space.{SamePlace}
use Rattle.rlsf_blocks.specs.Spare.{KeepsSpare}
use Rattle.rlsf_flex.specs.StandsFor.{FlexContents, FlexStandsFor}
use Rattle.rlsf_model.specs.Callers.{align_at, bytes_at}
use Rattle.rlsf_model.specs.Lists.{IsIn}
use Rattle.rlsf_model.specs.Note.{Note, LeadsBy, dealloc}
use Rattle.rlsf_model.specs.Remove.{IsIdle, removed}
use Rattle.rlsf_model.specs.Sized.{live_count}
use Rattle.rlsf_model.specs.Terms.{Terms}
use Rattle.rlsf_model.specs.Trim.{all_removed}
use Rattle.rlsf_tlsf.specs.Allocator.{Allocator}

-- the range has room for a chunk, and ends below 2^64
abbrev pub HasRoomForChunk : Range → Type 0
HasRoomForChunk r = (64 ≤ r.len) × (end_of r < 2 ^ 64)

-- every payload stays, and nothing is copied
pub record LeavesPayloads (before after : Allocator) : Type 0 where
  -- as many are live
  pub live : live_count after.state ≡ live_count before.state
  -- with their alignments
  pub aligns : align_at after.state ≡ align_at before.state
  -- and their bytes
  pub bytes : bytes_at after.state ≡ bytes_at before.state
  -- word accesses are only added
  pub grow : before.memory.touches ≤ after.memory.touches
  -- no byte is copied
  pub copied : after.memory.copied ≡ before.memory.copied

-- the ranges except for the newest
abbrev pub older : List Range → List Range
older [] = []
older (r ∷ ranges) = ranges

module _ {S : Type 0} (fllen sllen : ℕ) (terms : S → Terms) (owes : S → List Range → Type 0) (leads : S → Note → S → Type 0) (before after : FlexContents S) where
  -- the newest range, which held no used block, was returned with its chunks and free ranges, and the parts represent the state after
  pub record GaveNewest : Type 0 where
    pub newest : Range
    pub rest : List Range
    pub split : before.state.pools ≡ newest ∷ rest
    pub idle : IsIdle before.state.machine newest
    pub led : leads before.source (dealloc newest) after.source
    pub machine : after.state.machine ≡ removed newest before.state.machine
    pub pools : after.state.pools ≡ rest
    pub place : SamePlace before.memory after.memory
    pub spare : KeepsSpare before.memory before.state.machine after.memory after.state.machine
    pub stands : FlexStandsFor fllen sllen terms owes after

  -- so did so many ranges, the newest first
  pub record GaveBack (count : ℕ) : Type 0 where
    pub gone : List Range
    pub split : before.state.pools ≡ gone ++ after.state.pools
    pub idle : (r : Range) → IsIn r gone → IsIdle before.state.machine r
    pub counted : count ≡ length gone
    pub led : LeadsBy leads before.source (map dealloc gone) after.source
    pub machine : after.state.machine ≡ all_removed gone before.state.machine
    pub place : SamePlace before.memory after.memory
    pub spare : KeepsSpare before.memory before.state.machine after.memory after.state.machine
    pub stands : FlexStandsFor fllen sllen terms owes after
