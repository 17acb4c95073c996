-- The lines of a text.
use Rattle.std.specs.Prelude.{ℕ, List, [], ◌∷◌, length, ◌==◌, if◌then◌else◌}
use Rattle.std.specs.List.{slice_split}
use Rattle.std.specs.Option.{option_map_or}
use Rattle.rlsf_trace_text.specs.declared.lines.Lines.{Lines}

-- the parts of a text, without the last one if that is empty
abbrev pub without_empty_last : List (List ℕ) → List (List ℕ)
without_empty_last [] = []
without_empty_last (part ∷ []) = if length part == 0 then [] else part ∷ []
without_empty_last (part ∷ next ∷ parts) = part ∷ without_empty_last (next ∷ parts)

-- a text is cut at each LF; what follows the last LF is a line if it is not empty
unfoldable pub lines : List ℕ → List (List ℕ)
lines text = without_empty_last (slice_split (λ b. b == 10) text)

-- the first line; there is one in each text, if need be an empty one
abbrev pub first_line : List (List ℕ) → List ℕ
first_line [] = []
first_line (line ∷ others) = line

-- the lines that are still to come
abbrev pub lines_left : Lines → List (List ℕ)
lines_left l = option_map_or (λ rest. lines rest.now) l.rest []
