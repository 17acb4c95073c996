-- The words that contracts over the allocator cite.
pub use Rattle.rlsf_base.specs.declared.memory.layout.Layout.{Layout}
pub use Rattle.rlsf_base.specs.declared.memory.range.Range.{Range}
pub use Rattle.rlsf_base.specs.Addr.{at, reply}
pub use Rattle.rlsf_base.specs.ClassLaws.{LongestBlockHasAClass, MappedIsFirstReaching, PoolContainsItsAllocation, PoolIsOneChunk, UnmappedBeginsItsClass, UnmappedIsEnough}
pub use Rattle.rlsf_base.specs.ClassLaws.{UnreachedIsNotUnmapped}
pub use Rattle.rlsf_base.specs.Range.{AreApart, LiesIn, end_of, range_at}
pub use Rattle.rlsf_model_sizes.specs.SizeClass.{IsValid}
pub use Rattle.rlsf_model_sizes.specs.Sizes.{request_size}
pub use Rattle.rlsf_base.specs.Space.{SamePlace, Space, range_of}
pub use Rattle.rlsf_model.specs.Allocate.{Allocates}
pub use Rattle.rlsf_model.specs.Callers.{align_at, bytes_at}
pub use Rattle.rlsf_model.specs.ChunkRows.{IsRow}
pub use Rattle.rlsf_model.specs.Insert.{Appends, Inserts, IsNext, IsUntouched}
pub use Rattle.rlsf_model.specs.NoMove.{ReallocatesWithoutMove}
pub use Rattle.rlsf_model.specs.Reallocate.{Keeps, Reallocates}
pub use Rattle.rlsf_model.specs.Release.{Deallocates}
pub use Rattle.rlsf_model.specs.Remove.{IsIdle, Removes}
pub use Rattle.rlsf_model.specs.Run.{Fills}
pub use Rattle.rlsf_model.specs.Sized.{IsSizedFor, IsSizedForBudget, live_bytes, live_count}
pub use Rattle.rlsf_model.specs.State.{State, Used, empty, Holds}
pub use Rattle.rlsf_blocks.specs.Blocks.{walked}
pub use Rattle.rlsf_blocks.specs.Spare.{IsSpareWord, KeepsSpare}
pub use Rattle.rlsf_tlsf.specs.Allocator.{Allocator, IsInState, Stands, Steps}
pub use Rattle.rlsf_tlsf.specs.Bounds.{HasRoom, IfWithinBounds, IfWithinBudget, KeepsAllBounds, KeepsBounds, KeepsBoundsAnyAlign, KeepsBudgets, TakesRoom, TakesRoomAgain}
pub use Rattle.rlsf_tlsf.specs.Results.{IsAllocated, IsAppended, IsDeallocated, IsFilled, IsInserted, IsReallocated, IsReallocatedAnyAlign, IsRemoved, IsResized}
pub use Rattle.rlsf_tlsf.specs.Results.{IsUnchanged, KeepsFrame, KeepsFrameCopying, KeepsFrameInPlace, KeepsFrameMoving, KeepsFrameOfPools}
pub use Rattle.rlsf_tlsf.specs.Sizing.{SizesPool, SizesPoolForBudget}
-- those that contracts over an allocator with a source cite
pub use Rattle.rlsf_model.specs.FlexAllocate.{FlexAllocates}
pub use Rattle.rlsf_model.specs.FlexReallocate.{FlexReallocates}
pub use Rattle.rlsf_model.specs.FlexState.{FlexState, KeptPool}
pub use Rattle.rlsf_model.specs.Note.{Note, LeadsBy}
pub use Rattle.rlsf_model.specs.Terms.{IsGiven, IsGrown, Terms}
pub use Rattle.rlsf_flex.specs.Laws.{FlexStatesAreWellFormed, FlexWordsReadNoPayload}
pub use Rattle.rlsf_flex.specs.Outside.{IsOutside, KeepsOutside, NothingGoesBack, ever_owed}
pub use Rattle.rlsf_flex.specs.Results.{IsUnchangedButSource, KeepsFlexFrame, KeepsFlexFrameAlone, KeepsFlexFrameCopying, KeepsFlexFrameInPlace}
pub use Rattle.rlsf_flex.specs.Results.{KeepsFlexFrameMoving, KeepsFlexFrameOfTrim, SizesFreedRoom, SucceedsUnasked}
pub use Rattle.rlsf_flex.specs.StandsFor.{FlexContents, FlexStands, FlexSteps, StepsAlone}
