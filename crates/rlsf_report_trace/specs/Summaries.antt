-- The numbers that a report prints of a run, from the moment after each op and the blocks at the end.
use Rattle.std.specs.Prelude.{ℕ, ◌-◌, List, length, slice_index_or, sum_by, max, if◌then◌else◌, not}
use Rattle.std.specs.List.{fold, count_by}
use Rattle.rlsf_blocks.specs.Blocks.{Block}
use Rattle.rlsf_trace_runs.specs.declared.moments.Moment.{Moment}

-- what the allocator held after the last op, or nothing without an op
abbrev pub last_moment : List Moment → Moment
last_moment moments = slice_index_or moments (length moments - 1) (record { live = 0; usable = 0 })

-- how many payloads were live at most
abbrev pub most_live : List Moment → ℕ
most_live moments = fold (λ most m. max most m.live) 0 moments

-- how many of their bytes were usable at most
abbrev pub most_usable : List Moment → ℕ
most_usable moments = fold (λ most m. max most m.usable) 0 moments

-- the bytes of the used blocks together
abbrev pub occupied_bytes : List Block → ℕ
occupied_bytes blocks = sum_by (λ b. if b.is_occupied then b.range.len else 0) blocks

-- the bytes of the free blocks together
abbrev pub free_bytes : List Block → ℕ
free_bytes blocks = sum_by (λ b. if b.is_occupied then 0 else b.range.len) blocks

-- how many blocks are free
abbrev pub free_count : List Block → ℕ
free_count blocks = count_by (λ b. not b.is_occupied) blocks

-- the bytes of the longest free block, or 0 where none is free
abbrev pub longest_free : List Block → ℕ
longest_free blocks = fold (λ most b. if b.is_occupied then most else max most b.range.len) 0 blocks
