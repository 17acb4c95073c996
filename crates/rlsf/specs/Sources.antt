-- What a source of one's own cites, and the definitions and the lemmas of a source that hands its space out from a cursor on.
pub use Rattle.rlsf_base.specs.declared.memory.range.Range.{Range}
pub use Rattle.rlsf_model_sizes.specs.PowerOfTwo.{IsPowerOfTwo}
pub use Rattle.rlsf_base.specs.Range.{LiesIn, end_of, range_at}
pub use Rattle.rlsf_model_sizes.specs.Rounding.{round32}
pub use Rattle.rlsf_model.specs.Insert.{IsClear, IsVacant}
pub use Rattle.rlsf_model.specs.Lists.{IsIn}
pub use Rattle.rlsf_model.specs.Note.{Note, LeadsBy, alloc, dealloc, grow}
pub use Rattle.rlsf_model.specs.Terms.{IsGiven, IsGrown, OwesGrown, Terms, with_len}
pub use Rattle.rlsf_model.specs.WellFormed.{coverage, covers, itself}
-- of a source that hands its space out from a cursor on
pub use Rattle.rlsf_flex.specs.Bump.{Bump, BumpLeads, BumpOwes, IsBump, Provides, bump_in, bump_terms}
pub use Rattle.rlsf_flex.proofs.BumpRanges.{bump_end, bump_gives, bump_grows, bump_owes_none, bump_takes}
-- of the source of whole pages
pub use Rattle.rlsf_model_global.specs.Cursor.{PageCursor, PageLeads, first_page, page_cursor, pages, terms_of}
pub use Rattle.rlsf_model_global.specs.Pages.{IsPageCursor, MayOwe}
-- of ranges that go in and out of a list
pub use Rattle.rlsf_model.proofs.Between.{IsIn-between, coverage-between}
pub use Rattle.rlsf_model.proofs.Coverage.{IsIn-append, IsIn-append_left, IsIn-append_right, coverage-append, covers-before, covers-behind, inside, before, behind, where_is}
-- of allocators of single allocations
pub use Rattle.rlsf_flex.specs.Heap.{Allocation, HeapLeads, HeapNote, HeapOwes, IsAllocationIn, OwesAllocated, allocate, allocation_at, bytes_of_allocation, deallocate, heap_terms}
