-- The words of a line.
use Rattle.std.specs.Prelude.{ℕ, List, [], ◌∷◌, Result, Ok, Err, ◌==◌}
use Rattle.std.specs.List.{slice_split}
use Rattle.std.specs.Option.{option_map_or}
use Rattle.rlsf_trace_text.specs.declared.fault.Fault.{Fault}
use Rattle.rlsf_trace_text.specs.declared.fault.Fault.TheVariants.{FieldCount}
use Rattle.rlsf_trace_text.specs.declared.words.Words.{Words}

-- a line is cut at each single space, and an empty word is a word
unfoldable pub words : List ℕ → List (List ℕ)
words line = slice_split (λ b. b == 32) line

-- one word, and no more
abbrev pub exactly_one : List (List ℕ) → Result (List ℕ) Fault
exactly_one (a ∷ []) = Ok a
exactly_one fields = Err FieldCount

-- two words, and no more
abbrev pub exactly_two : List (List ℕ) → Result (List ℕ × List ℕ) Fault
exactly_two (a ∷ b ∷ []) = Ok (a, b)
exactly_two fields = Err FieldCount

-- three words, and no more
abbrev pub exactly_three : List (List ℕ) → Result (List ℕ × List ℕ × List ℕ) Fault
exactly_three (a ∷ b ∷ c ∷ []) = Ok (a, b, c)
exactly_three fields = Err FieldCount

-- the words that are still to come
abbrev pub words_left : Words → List (List ℕ)
words_left w = option_map_or (λ rest. words rest.now) w.rest []
