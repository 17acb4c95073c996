-- How a text falls into lines.
use Rattle.std.proofs.Common.{◌≡◌, ℕ, ◌+◌, ◌-◌, ◌^◌, ◌<◌, ◌≤◌, Bool, true, false, not, cond, eqb, List, [], ◌∷◌, length, take, drop, Option}
use Rattle.std.proofs.Common.{Some, None, refl, sym, ap, ◌∙◌, arith, ltb}
use Rattle.std.specs.Prelude.{◌==◌, IfNone, MatchOption}
use Rattle.std.specs.Borrow.{Bor}
use Rattle.std.specs.Option.{option_map_or}
use Rattle.std.specs.List.{slice_split, onto_first, position, position_or_len}
use Rattle.std.proofs.lemmas.Bool.{ltb-true, ltb-false, ne_eqb, cond-false}
use Rattle.std.proofs.lemmas.List.{take_all, length-drop}
use Rattle.std.proofs.lemmas.List.Splits.{slice_split_first}
use Rattle.std.proofs.lemmas.Option.{cond_some}
use Rattle.rlsf_trace_text.specs.Lines.{without_empty_last, lines}

-- the first part ends at the first place that passes
pub slice_split-at : (p : ℕ → Bool) (xs : List ℕ) (place : ℕ) → Some place ≡ position p xs
    → slice_split p xs ≡ take place xs ∷ slice_split p (take (length xs - (place + 1)) (drop (place + 1) xs))
slice_split-at p xs place e =
    let found = cond_some (ltb (position_or_len p xs) (length xs)) (position_or_len p xs) place (sym e) in
    let inside : position_or_len p xs < length xs = ltb-true _ _ found.0 in
    let all : take (length xs - (place + 1)) (drop (place + 1) xs) ≡ drop (place + 1) xs = take_all _ _ (omega (arith, length-drop (place + 1) xs)) in
    rw (all, ← found.1) (slice_split_first p xs 0 inside)

-- a list without such a place is one part
slice_split-whole : (p : ℕ → Bool) (xs : List ℕ) → length xs ≤ position_or_len p xs → slice_split p xs ≡ xs ∷ []
slice_split-whole p [] none = refl
slice_split-whole p (x ∷ xs) none = by_test (p x) none (slice_split-whole p xs)
  where
    by_test : (t : Bool) → length (x ∷ xs) ≤ cond (not t) (1 + position_or_len p xs) 0 → (length xs ≤ position_or_len p xs → slice_split p xs ≡ xs ∷ [])
        → cond t ([] ∷ slice_split p xs) (onto_first x (slice_split p xs)) ≡ (x ∷ xs) ∷ []
    by_test true none more = absurd (omega arith)
    by_test false none more = ap (onto_first x) (more (omega arith))

pub slice_split-none : (p : ℕ → Bool) (xs : List ℕ) → None ≡ position p xs → slice_split p xs ≡ xs ∷ []
slice_split-none p xs e = slice_split-whole p xs (ltb-false _ _ (cond_none (ltb (position_or_len p xs) (length xs)) (position_or_len p xs) e))
  where
    cond_none : (t : Bool) (n : ℕ) → None ≡ cond t (Some n) None → t ≡ false
    cond_none true n e = absurd cc
    cond_none false n e = refl

-- there is always a first part
slice_split-cons : (p : ℕ → Bool) (xs : List ℕ) → (part : List ℕ) × (parts : List (List ℕ)) × (slice_split p xs ≡ part ∷ parts)
slice_split-cons p [] = ([], [], refl)
slice_split-cons p (x ∷ xs) = by_test (p x) (slice_split p xs) (slice_split-cons p xs)
  where
    by_test : (t : Bool) (rest : List (List ℕ)) → (part : List ℕ) × (parts : List (List ℕ)) × (rest ≡ part ∷ parts)
        → (part : List ℕ) × (parts : List (List ℕ)) × (cond t ([] ∷ rest) (onto_first x rest) ≡ part ∷ parts)
    by_test true rest h = ([], rest, refl)
    by_test false rest h = (x ∷ h.0, h.1, ap (onto_first x) h.2)

abbrev is_lf : ℕ → Bool
is_lf b = b == 10

-- the first line, and the lines of what follows it
pub lines_step : (text line : List ℕ) (after : Option (Bor (List ℕ))) → 0 < length text
    → slice_split is_lf text ≡ line ∷ option_map_or (λ rest. slice_split is_lf rest.now) after [] → IfNone after (line ≡ text)
    → lines text ≡ line ∷ option_map_or (λ rest. lines rest.now) after []
unfolding lines
lines_step text line (Some rest) some parts whole =
    let more = slice_split-cons is_lf rest.now in
    ap without_empty_last parts ∙ rw more.2 refl
lines_step [] line None some parts whole = absurd (omega arith)
lines_step (b ∷ bs) line None some parts whole =
    let one : slice_split is_lf (b ∷ bs) ≡ (b ∷ bs) ∷ [] = parts ∙ ap (λ (l : List ℕ). l ∷ []) whole in
    ap without_empty_last one ∙ cond-false _ _ _ (ne_eqb (length (b ∷ bs)) 0 (λ none. omega arith)) ∙ ap (λ (l : List ℕ). l ∷ []) (sym whole)

-- each line has a byte of its own, be it its LF
pub length-lines : (text : List ℕ) → length (lines text) ≤ length text
unfolding lines
length-lines [] = omega arith
length-lines (b ∷ bs) = by_test (is_lf b) (slice_split is_lf bs) (slice_split-cons is_lf bs) (length-lines bs)
  where
    by_parts : (part : List ℕ) (parts : List (List ℕ)) → length (without_empty_last (part ∷ parts)) ≤ length bs
        → length (without_empty_last ((b ∷ part) ∷ parts)) ≤ length (b ∷ bs)
    by_parts part [] fewer = rw (cond-false (eqb (length (b ∷ part)) 0) [] ((b ∷ part) ∷ []) (ne_eqb (length (b ∷ part)) 0 (λ none. omega arith))) (omega arith)
    by_parts part (next ∷ parts) fewer = omega arith

    by_test : (t : Bool) (rest : List (List ℕ)) → (part : List ℕ) × (parts : List (List ℕ)) × (rest ≡ part ∷ parts) → length (without_empty_last rest) ≤ length bs
        → length (without_empty_last (cond t ([] ∷ rest) (onto_first b rest))) ≤ length (b ∷ bs)
    by_test true rest h fewer = rw h.2 (omega (arith, rw h.2 at fewer))
    by_test false rest h fewer = rw h.2 (by_parts h.0 h.1 (rw h.2 at fewer))

pub lines_empty : (text : List ℕ) → length text ≡ 0 → lines text ≡ []
unfolding lines
lines_empty [] none = refl
lines_empty (b ∷ bs) none = absurd (omega arith)

-- a text's lines, as they are taken one by one
pub ruleset lines_taken = (lines_step, lines_empty)

-- the lines after the first are fewer than all, if there are any
pub lines_fewer : (all others : List (List ℕ)) (first : Option (Bor (List ℕ))) → MatchOption first ((all ≡ []) × (others ≡ [])) (λ line. all ≡ line.now ∷ others)
    → length all < 2 ^ 64 → 1 + length others < 2 ^ 64
lines_fewer all others (Some line) step few = omega (arith, ap length step)
lines_fewer all others None step few = omega (arith, ap length step.1)

-- how many lines there are
pub ruleset lines_counted = (arith, length-lines, lines_fewer)

-- the parts of a text before and after a place
pub ruleset parts_cut = (slice_split-at, slice_split-none)
