-- The reference model that asks a source for memory, on literals: what it replies, what it asks, and the blocks, the free ranges and the ranges of the source that it has then.
use Rattle.std.proofs.Common.{◌≡◌, ℕ, Bool, true, false, List, [], ◌∷◌, Option, Some, None, refl}
use Rattle.rlsf_base.specs.declared.memory.range.Range.{Range}
use Rattle.rlsf_base.specs.Range.{range_at}
use Rattle.rlsf_model.specs.End.{notes_at_end}
use Rattle.rlsf_model.specs.FlexAllocate.{FlexAllocates}
use Rattle.rlsf_model.specs.FlexRun.{FlexEvent}
use Rattle.rlsf_model.specs.FlexState.{FlexState, KeptPool, flex_empty}
use Rattle.rlsf_model.specs.Growth.{Outcome, refused, growth_came, range_came}
use Rattle.rlsf_model.specs.Note.{Note, alloc, grow, dealloc}
use Rattle.rlsf_model.specs.Run.{Event, allocate}
use Rattle.rlsf_model.specs.Terms.{Terms}
use Rattle.rlsf_model.proofs.Examples.{Block, block, seen}
use Rattle.rlsf_model.proofs.FlexExamples.{Attempt}
use Rattle.rlsf_model.proofs.TrimExamples.{Move, allocates, RunsWith, RunsWith-all, all_moved_by, all_moved_to, may_move_all}

-- a call with its reply, and what was asked or returned for it
abbrev pub call : Event → List Note → FlexEvent
call event notes = record { event = event; notes = notes }

-- These calls with their replies and notes lead from the empty state to a state. It has these used blocks, the newest first, these free
-- ranges and these ranges of the source, of which this is kept. At the end the source is passed these ranges
pub record GivesWith (fllen sllen : ℕ) (t : Terms) (calls : List FlexEvent) (used : List Block) (free pools : List Range) (kept : Option KeptPool)
    (at_end : List Note) : Type 0 where
  pub after : FlexState
  pub run : RunsWith fllen sllen t flex_empty calls after
  pub used_is : seen after.machine.used ≡ used
  pub free_is : after.machine.free ≡ free
  pub pools_are : after.pools ≡ pools
  pub kept_is : after.kept ≡ kept
  pub end_is : notes_at_end t after.pools ≡ at_end

-- what calls give, computed
pub gives_with : (fllen sllen : ℕ) (t : Terms) (moves : List Move) → may_move_all fllen sllen t flex_empty moves ≡ true
    → GivesWith fllen sllen t (all_moved_by fllen sllen t flex_empty moves) (seen (all_moved_to fllen sllen t flex_empty moves).machine.used)
    (all_moved_to fllen sllen t flex_empty moves).machine.free
    (all_moved_to fllen sllen t flex_empty moves).pools (all_moved_to fllen sllen t flex_empty moves).kept (notes_at_end t (all_moved_to fllen sllen t flex_empty moves).pools)
gives_with fllen sllen t moves may =
    record {
      after = all_moved_to fllen sllen t flex_empty moves;
      run = RunsWith-all fllen sllen t flex_empty moves may;
      used_is = refl;
      free_is = refl;
      pools_are = refl;
      kept_is = refl;
      end_is = refl;
    }

-- an allocation of so many bytes at any address, for which so much comes if there is no room
abbrev pub attempt : ℕ → Outcome → Attempt
attempt size outcome = record { size = size; align = 1; outcome = outcome }

-- a source of one range that grows, at an odd start
abbrev pub one_growing_range : Terms
one_growing_range = record { space = range_at 4097 4096; dealloc = false; grow = true; contiguous = true; min_align = 1 }

-- what is asked leaves room for the start to be rounded; the bytes of a growth become a chunk of their own
growth_is_a_chunk : GivesWith 12 16 one_growing_range
    (call (allocate 1 1 (Some 4144)) (alloc 96 (Some (range_at 4097 96)) ∷ []) ∷ call (allocate 1 1 (Some 4208)) (grow (range_at 4097 96) 159 (Some 159) ∷ []) ∷ [])
    (block 4192 32 4208 ∷ block 4128 32 4144 ∷ [])
    ([])
    (range_at 4097 159 ∷ [])
    (Some (record { range = range_at 4097 159; len = 159 }))
    ([])
growth_is_a_chunk = gives_with 12 16 one_growing_range (allocates (attempt 1 (range_came (range_at 4097 96))) ∷ allocates (attempt 1 (growth_came 159)) ∷ []) refl

-- where chunks have no greatest length, the chunk grows
growth_joins_the_chunk : GivesWith 59 8 one_growing_range
    (call (allocate 1 1 (Some 4144)) (alloc 96 (Some (range_at 4097 96)) ∷ []) ∷ call (allocate 1 1 (Some 4176)) (grow (range_at 4097 96) 159 (Some 159) ∷ []) ∷ [])
    (block 4160 32 4176 ∷ block 4128 32 4144 ∷ [])
    (range_at 4192 32 ∷ [])
    (range_at 4097 159 ∷ [])
    (Some (record { range = range_at 4097 159; len = 159 }))
    ([])
growth_joins_the_chunk = gives_with 59 8 one_growing_range (allocates (attempt 1 (range_came (range_at 4097 96))) ∷ allocates (attempt 1 (growth_came 159)) ∷ []) refl

-- a source that takes its ranges back and gives multiples of 1024 bytes at such addresses
abbrev pub pages : Terms
pages = record { space = range_at 4096 4096; dealloc = true; grow = false; contiguous = false; min_align = 1024 }

-- it isn't asked for growth, and the ranges are returned, the newest first
ranges_go_back : GivesWith 8 8 pages
    (call (allocate 1 1 (Some 4112)) (alloc 64 (Some (range_at 4096 1024)) ∷ []) ∷ call (allocate 2000 1 (Some 5136)) (alloc 2080 (Some (range_at 5120 3072)) ∷ []) ∷ [])
    (block 5120 2016 5136 ∷ block 4096 32 4112 ∷ [])
    (range_at 7136 1024 ∷ range_at 4128 960 ∷ [])
    (range_at 5120 3072 ∷ range_at 4096 1024 ∷ [])
    (Some (record { range = range_at 5120 3072; len = 3072 }))
    (dealloc (range_at 5120 3072) ∷ dealloc (range_at 4096 1024) ∷ [])
ranges_go_back = gives_with 8 8 pages (allocates (attempt 1 (range_came (range_at 4096 1024))) ∷ allocates (attempt 2000 (range_came (range_at 5120 3072))) ∷ []) refl

-- a source that grows its ranges and takes them back
abbrev pub growing_and_taking_back : Terms
growing_and_taking_back = record { space = range_at 4097 4096; dealloc = true; grow = true; contiguous = false; min_align = 1 }

-- a range is returned once, as long as it grew
grown_range_goes_back : GivesWith 8 8 growing_and_taking_back
    (call (allocate 1 1 (Some 4144)) (alloc 96 (Some (range_at 4097 96)) ∷ []) ∷ call (allocate 1 1 (Some 4208)) (grow (range_at 4097 96) 159 (Some 159) ∷ []) ∷ [])
    (block 4192 32 4208 ∷ block 4128 32 4144 ∷ [])
    ([])
    (range_at 4097 159 ∷ [])
    (Some (record { range = range_at 4097 159; len = 159 }))
    (dealloc (range_at 4097 159) ∷ [])
grown_range_goes_back = gives_with 8 8 growing_and_taking_back (allocates (attempt 1 (range_came (range_at 4097 96))) ∷ allocates (attempt 1 (growth_came 159)) ∷ []) refl

-- no pool of 8 rows of 8 classes serves 8000 bytes, and no source is asked for one
too_long_to_ask : (t : Terms) → FlexAllocates 8 8 t flex_empty 8000 1 None [] flex_empty
too_long_to_ask t = record { full = (refl, refl); extends = record { possible = tt; asked = refl; after = refl } }

-- a source that gives nothing, whatever it is able to, is asked once
nothing_comes : (space : Range) (takes_back grows is_contiguous : Bool)
    → FlexAllocates 8 8 (record { space = space; dealloc = takes_back; grow = grows; contiguous = is_contiguous; min_align = 1 }) flex_empty 1 1 None
    (alloc 96 None ∷ []) flex_empty
nothing_comes space takes_back grows is_contiguous = record { full = (refl, refl); extends = record { possible = tt; asked = refl; after = refl } }

-- a source of 64 bytes that grows its range, which is the only one or not
abbrev small_space : Bool → Terms
small_space is_contiguous = record { space = range_at 4096 64; dealloc = false; grow = true; contiguous = is_contiguous; min_align = 32 }

-- where growth of the only range is refused, no other is asked for
only_range_cannot_grow : GivesWith 8 8 (small_space true)
    (call (allocate 1 1 (Some 4112)) (alloc 64 (Some (range_at 4096 64)) ∷ []) ∷ call (allocate 1 1 None) (grow (range_at 4096 64) 128 None ∷ []) ∷ [])
    (block 4096 32 4112 ∷ [])
    ([])
    (range_at 4096 64 ∷ [])
    (Some (record { range = range_at 4096 64; len = 64 }))
    ([])
only_range_cannot_grow = gives_with 8 8 (small_space true) (allocates (attempt 1 (range_came (range_at 4096 64))) ∷ allocates (attempt 1 refused) ∷ []) refl

-- else a range is asked for then
neither_growth_nor_range : GivesWith 8 8 (small_space false)
    (call (allocate 1 1 (Some 4112)) (alloc 64 (Some (range_at 4096 64)) ∷ []) ∷ call (allocate 1 1 None) (grow (range_at 4096 64) 128 None ∷ alloc 64 None ∷ []) ∷ [])
    (block 4096 32 4112 ∷ [])
    ([])
    (range_at 4096 64 ∷ [])
    (Some (record { range = range_at 4096 64; len = 64 }))
    ([])
neither_growth_nor_range = gives_with 8 8 (small_space false) (allocates (attempt 1 (range_came (range_at 4096 64))) ∷ allocates (attempt 1 refused) ∷ []) refl

-- a source that takes its ranges back, and gives more than is asked
abbrev generous : Terms
generous = record { space = range_at 4096 4096; dealloc = true; grow = false; contiguous = false; min_align = 32 }

-- the room that came beside what was asked serves the next allocation, for which nothing is asked
more_than_asked : GivesWith 8 8 generous
    (call (allocate 1 1 (Some 4112)) (alloc 64 (Some (range_at 4096 101)) ∷ []) ∷ call (allocate 1 1 (Some 4144)) []
    ∷ call (allocate 1 1 (Some 4240)) (alloc 64 (Some (range_at 4224 101)) ∷ []) ∷ [])
    (block 4224 32 4240 ∷ block 4128 32 4144 ∷ block 4096 32 4112 ∷ [])
    (range_at 4256 32 ∷ [])
    (range_at 4224 101 ∷ range_at 4096 101 ∷ [])
    (Some (record { range = range_at 4224 101; len = 96 }))
    (dealloc (range_at 4224 101) ∷ dealloc (range_at 4096 101) ∷ [])
more_than_asked =
    gives_with 8 8 generous (allocates (attempt 1 (range_came (range_at 4096 101))) ∷ allocates (attempt 1 refused)
    ∷ allocates (attempt 1 (range_came (range_at 4224 101))) ∷ []) refl
