-- The reference model that asks a source for memory and returns it, on literals: its replies, its questions, the ranges that it
-- returns, and its state after them.
use Rattle.std.proofs.Common.{true, false, [], ◌∷◌, Some, None, refl}
use Rattle.rlsf_base.specs.Range.{range_at}
use Rattle.rlsf_model.specs.Growth.{refused, growth_came, range_came}
use Rattle.rlsf_model.specs.Note.{alloc, grow, dealloc}
use Rattle.rlsf_model.specs.Run.{allocate, deallocate, trim}
use Rattle.rlsf_model.specs.Terms.{Terms}
use Rattle.rlsf_model.proofs.Examples.{block}
use Rattle.rlsf_model.proofs.Worked.FlexRows.{GivesWith, attempt, call, gives_with, growing_and_taking_back, pages}
use Rattle.rlsf_model.proofs.TrimExamples.{allocates, frees, gives_back}

-- each range is returned once it holds no block, the newest first, and nothing is left for the end
ranges_go_back_by_trims : GivesWith 8 8 pages
    (call (allocate 1 1 (Some 4112)) (alloc 64 (Some (range_at 4096 1024)) ∷ [])
    ∷ call (allocate 2000 1 (Some 5136)) (alloc 2080 (Some (range_at 5120 3072)) ∷ [])
    ∷ call (trim 0) []
    ∷ call (deallocate 5136) []
    ∷ call (trim 1) (dealloc (range_at 5120 3072) ∷ [])
    ∷ call (deallocate 4112) []
    ∷ call (trim 1) (dealloc (range_at 4096 1024) ∷ [])
    ∷ [])
    ([])
    ([])
    ([])
    None
    ([])
ranges_go_back_by_trims =
    gives_with 8 8 pages (allocates (attempt 1 (range_came (range_at 4096 1024))) ∷ allocates (attempt 2000 (range_came (range_at 5120 3072))) ∷ gives_back 0
    ∷ frees 5136 ∷ gives_back 1 ∷ frees 4112 ∷ gives_back 1 ∷ []) refl

-- a range that grew is returned as long as it grew, once none of its chunks holds a block
grown_range_goes_back_by_a_trim : GivesWith 8 8 growing_and_taking_back
    (call (allocate 1 1 (Some 4144)) (alloc 96 (Some (range_at 4097 96)) ∷ [])
    ∷ call (allocate 1 1 (Some 4208)) (grow (range_at 4097 96) 159 (Some 159) ∷ [])
    ∷ call (deallocate 4208) []
    ∷ call (trim 0) []
    ∷ call (deallocate 4144) []
    ∷ call (trim 1) (dealloc (range_at 4097 159) ∷ [])
    ∷ [])
    ([])
    ([])
    ([])
    None
    ([])
grown_range_goes_back_by_a_trim = gives_with 8 8 growing_and_taking_back (allocates (attempt 1 (range_came (range_at 4097 96))) ∷ allocates (attempt 1 (growth_came 159))
    ∷ frees 4208 ∷ gives_back 0 ∷ frees 4144 ∷ gives_back 1 ∷ []) refl

-- a source that grows its ranges and takes them back, each at a multiple of 32
abbrev aligned_ranges : Terms
aligned_ranges = record { space = range_at 4096 8192; dealloc = true; grow = true; contiguous = false; min_align = 32 }

-- the range before is kept then, up to its last chunk, and is the one that is asked to grow
older_range_grows_after_a_trim : GivesWith 8 8 aligned_ranges
    (call (allocate 1 1 (Some 4112)) (alloc 64 (Some (range_at 4096 101)) ∷ [])
    ∷ call (allocate 1 1 (Some 4144)) []
    ∷ call (allocate 1 1 (Some 8208)) (grow (range_at 4096 101) 160 None ∷ alloc 64 (Some (range_at 8192 101)) ∷ [])
    ∷ call (deallocate 8208) []
    ∷ call (trim 1) (dealloc (range_at 8192 101) ∷ [])
    ∷ call (allocate 1 1 (Some 4208)) (grow (range_at 4096 101) 160 (Some 160) ∷ [])
    ∷ [])
    (block 4192 32 4208 ∷ block 4128 32 4144 ∷ block 4096 32 4112 ∷ [])
    ([])
    (range_at 4096 160 ∷ [])
    (Some (record { range = range_at 4096 160; len = 160 }))
    (dealloc (range_at 4096 160) ∷ [])
older_range_grows_after_a_trim =
    gives_with 8 8 aligned_ranges
    (allocates (attempt 1 (range_came (range_at 4096 101))) ∷ allocates (attempt 1 refused) ∷ allocates (attempt 1 (range_came (range_at 8192 101)))
    ∷ frees 8208 ∷ gives_back 1 ∷ allocates (attempt 1 (growth_came 160)) ∷ []) refl
