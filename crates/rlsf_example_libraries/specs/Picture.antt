-- The picture of blocks: a line of text for each of them.
use Rattle.std.specs.Prelude.{ℕ, ◌*◌, List, [], ◌∷◌, ◌++◌, codes, if◌then◌else◌}
use Rattle.std.specs.Fmt.{decimal}
use Rattle.std.specs.Int.{div_ceil}
use Rattle.std.specs.List.{flat_map, repeat, sum_by}
use Rattle.rlsf_base.specs.Range.{end_of}
use Rattle.rlsf_blocks.specs.Blocks.{Block}

-- the bytes of all blocks together
abbrev pub total_size : List Block → ℕ
total_size bs = sum_by (λ b. b.range.len) bs

-- a block's bar, of # if it is used, else of dots: its part of a bar of `width` for `total` bytes, rounded up
abbrev pub bar_of : ℕ → ℕ → Block → List ℕ
bar_of width total b = repeat (div_ceil (b.range.len * width) total) (if b.is_occupied then codes "#" else codes ".")

-- a block's line: where it begins and ends, whether it is used, its bar, and LF
abbrev pub line_of : ℕ → ℕ → Block → List ℕ
line_of width total b = decimal b.range.start ++ codes ".." ++ decimal (end_of b.range) ++ (if b.is_occupied then codes " used " else codes " free ") ++ bar_of width total b
    ++ 10 ∷ []

-- the line of each block, in their order
abbrev pub picture_of : ℕ → List Block → List ℕ
picture_of width bs = flat_map (line_of width (total_size bs)) bs
