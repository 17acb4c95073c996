use Rattle.std.proofs.Common.{◌≡◌, string_bytes, take}
use Rattle.std.specs.List.{flat_map}
use Rattle.rlsf_example_libraries.specs.Picture.{line_of}
use Rattle.rlsf_example_libraries.proofs.drawing.lines.Given as goal

-- the text has the lines of the blocks so far
abbrev pub invariant-loop-block : goal.invariant-loop-block
invariant-loop-block l = string_bytes l.text ≡ flat_map (line_of l.width l.total) (take l.block-index l.blocks)
