-- The definitions that contracts over the allocator behind the lock cite, from this crate and those below it.
pub use Rattle.rlsf_base.specs.Addr.{at, reply}
pub use Rattle.rlsf_base.specs.Range.{end_of, range_at}
pub use Rattle.rlsf_model_global.specs.Heap.{HasLayout, HaveSamePlacement, Heap, beginning, content_at, layout_at}
pub use Rattle.rlsf_model_global.specs.History.{IsHistory, LeadsTo, Names, Step}
pub use Rattle.rlsf_model_global.specs.Left.{HasByte, Serves, in_both}
pub use Rattle.rlsf_model_global.specs.Moves.{HeapReallocates, HeapReallocatesAs, HeapReallocatesThere}
pub use Rattle.rlsf_model_global.specs.Standing.{IsHeap}
pub use Rattle.rlsf_model_global.specs.Steps.{HeapAllocates, HeapDeallocates, HeapDeallocatesAs, HeapReads, HeapUsable, HeapWrites}
pub use Rattle.rlsf_global.specs.Kept.{KeepsFirst}
pub use Rattle.rlsf_global.specs.LiveRows.{HasCodes}
pub use Rattle.rlsf_global.specs.Locked.{LockedContents, LockedStands, flex_of}
pub use Rattle.rlsf_global.specs.Memory.{BoundsOnResize, CopiesOnResize, IfUnasked, KeepsMemory}
pub use Rattle.rlsf_global.specs.Refusals.{RefusesOnlyBy}
pub use Rattle.rlsf_global.specs.Results.{HeapAllocated, HeapDeallocated, HeapMoved, HeapReallocated, HeapResized, HeapWritten, IsLockedUnchanged, IsLockedUntouched}
pub use Rattle.rlsf_global.specs.Results.{KeepsBookWriting, KeepsLocked, KeepsLockedMoving, KeepsLockedResizing, KeepsLockedWriting, ReservesCodes}
-- of the journal
pub use Rattle.rlsf_global.specs.Journal.Close.{Agree, AreComplete, LacksOne, is_strange}
pub use Rattle.rlsf_global.specs.Journal.Entries.{IsReplyTo, entries_of, receipts_of}
pub use Rattle.rlsf_global.specs.Journal.Memory.{Copies, IfUntried, IsBounded, LeavesMemory}
pub use Rattle.rlsf_global.specs.Journal.Passes.{AreFirst, PassContents, Receipted}
pub use Rattle.rlsf_global.specs.Journal.Replay.{BookContents, IsReplay, IsRun, LeadsOrRefused}
unfoldable pub use Rattle.rlsf_global.specs.Journal.Replay.{BookStands}
