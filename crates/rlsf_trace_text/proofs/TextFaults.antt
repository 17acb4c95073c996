-- The faults of a text are those of its lines.
use Rattle.std.proofs.Common.{◌≡◌, ℕ, ◌+◌, ◌<◌, Bool, true, false, cond, List, [], ◌∷◌, map, Option, Some, None, Result, Ok, Err, inl, inr, arith}
use Rattle.std.specs.Prelude.{IfErr, ◌⊎◌}
use Rattle.std.specs.List.{enumerate_from}
use Rattle.std.proofs.lemmas.Result.{IfErr-at_err}
use Rattle.rlsf_trace_text.specs.declared.fault.Fault.{Fault}
use Rattle.rlsf_trace_text.specs.declared.fault.ReplayFault.{ReplayFault}
use Rattle.rlsf_trace_text.specs.declared.parse.Trace.{Trace}
use Rattle.rlsf_trace_text.specs.Faults.{out_of_memory, IsOfText, IsOfLine}
use Rattle.rlsf_trace_text.specs.Lines.{lines, first_line}
use Rattle.rlsf_trace_text.specs.Numbers.{number_of, byte_of}
use Rattle.rlsf_trace_text.specs.Reading.{layout_of, one_number, two_numbers, three_numbers, insert_in, append_in, alloc_in, free_in, free_unknown_in, realloc_in}
use Rattle.rlsf_trace_text.specs.Reading.{realloc_no_move_in, fill_in, put_in, get_in, usable_in, block_in, command_in, header_in, commands_in, trace_in, trace_text}
use Rattle.rlsf_trace_text.specs.FallibleSteps.{◌>>=◌, or_fault, at_line, all_or_fault, ReadsAsOrRefused}
use Rattle.rlsf_trace_text.specs.Words.{words, exactly_one, exactly_two, exactly_three}
use Rattle.rlsf_trace_text.proofs.Commands.{commands_from}

-- a step, and one that goes on, have no other faults than these
step : {A B E : Type 0} (P : E → Type 0) (r : Result A E) (f : A → Result B E) → IfErr r P → ((x : A) → IfErr (f x) P) → IfErr (r >>= f) P
step P (Ok x) f first next = next x
step P (Err e) f first next = first

choice : {A E : Type 0} (P : E → Type 0) (t : Bool) (r s : Result A E) → IfErr r P → IfErr s P → IfErr (cond t r s) P
choice P true r s first second = first
choice P false r s first second = second

or_fault-faults : {A : Type 0} (f : Fault) (o : Option A) → IsOfText f → IfErr (or_fault f o) IsOfText
or_fault-faults f (Some x) kind = tt
or_fault-faults f None kind = kind

exactly_one-faults : (fields : List (List ℕ)) → IfErr (exactly_one fields) IsOfText
exactly_one-faults [] = tt
exactly_one-faults (a ∷ []) = tt
exactly_one-faults (a ∷ b ∷ fields) = tt

exactly_two-faults : (fields : List (List ℕ)) → IfErr (exactly_two fields) IsOfText
exactly_two-faults [] = tt
exactly_two-faults (a ∷ []) = tt
exactly_two-faults (a ∷ b ∷ []) = tt
exactly_two-faults (a ∷ b ∷ c ∷ fields) = tt

exactly_three-faults : (fields : List (List ℕ)) → IfErr (exactly_three fields) IsOfText
exactly_three-faults [] = tt
exactly_three-faults (a ∷ []) = tt
exactly_three-faults (a ∷ b ∷ []) = tt
exactly_three-faults (a ∷ b ∷ c ∷ []) = tt
exactly_three-faults (a ∷ b ∷ c ∷ d ∷ fields) = tt

number_of-faults : (word : List ℕ) → IfErr (number_of word) IsOfText
unfolding number_of
number_of-faults word = search (choice, or_fault-faults)

byte_of-faults : (value : ℕ) → IfErr (byte_of value) IsOfText
unfolding byte_of
byte_of-faults value = search choice

layout_of-faults : (size align : ℕ) → IfErr (layout_of size align) IsOfText
unfolding layout_of
layout_of-faults size align = search choice

one_number-faults : (fields : List (List ℕ)) → IfErr (one_number fields) IsOfText
unfolding one_number
one_number-faults fields = search (step, exactly_one-faults, number_of-faults)

two_numbers-faults : (fields : List (List ℕ)) → IfErr (two_numbers fields) IsOfText
unfolding two_numbers
two_numbers-faults fields = search (step, exactly_two-faults, number_of-faults)

three_numbers-faults : (fields : List (List ℕ)) → IfErr (three_numbers fields) IsOfText
unfolding three_numbers
three_numbers-faults fields = search (step, exactly_three-faults, number_of-faults) depth 9

insert_in-faults : (fields : List (List ℕ)) → IfErr (insert_in fields) IsOfText
unfolding insert_in
insert_in-faults fields = search (step, two_numbers-faults)

append_in-faults : (fields : List (List ℕ)) → IfErr (append_in fields) IsOfText
unfolding append_in
append_in-faults fields = search (step, two_numbers-faults)

alloc_in-faults : (fields : List (List ℕ)) → IfErr (alloc_in fields) IsOfText
unfolding alloc_in
alloc_in-faults fields = search (step, three_numbers-faults, layout_of-faults)

free_in-faults : (fields : List (List ℕ)) → IfErr (free_in fields) IsOfText
unfolding free_in
free_in-faults fields = search (step, one_number-faults)

free_unknown_in-faults : (fields : List (List ℕ)) → IfErr (free_unknown_in fields) IsOfText
unfolding free_unknown_in
free_unknown_in-faults fields = search (step, one_number-faults)

realloc_in-faults : (fields : List (List ℕ)) → IfErr (realloc_in fields) IsOfText
unfolding realloc_in
realloc_in-faults fields = search (step, two_numbers-faults)

realloc_no_move_in-faults : (fields : List (List ℕ)) → IfErr (realloc_no_move_in fields) IsOfText
unfolding realloc_no_move_in
realloc_no_move_in-faults fields = search (step, two_numbers-faults)

fill_in-faults : (fields : List (List ℕ)) → IfErr (fill_in fields) IsOfText
unfolding fill_in
fill_in-faults fields = search (step, two_numbers-faults, byte_of-faults)

put_in-faults : (fields : List (List ℕ)) → IfErr (put_in fields) IsOfText
unfolding put_in
put_in-faults fields = search (step, three_numbers-faults, byte_of-faults)

get_in-faults : (fields : List (List ℕ)) → IfErr (get_in fields) IsOfText
unfolding get_in
get_in-faults fields = search (step, two_numbers-faults)

usable_in-faults : (fields : List (List ℕ)) → IfErr (usable_in fields) IsOfText
unfolding usable_in
usable_in-faults fields = search (step, one_number-faults)

block_in-faults : (fields : List (List ℕ)) → IfErr (block_in fields) IsOfText
unfolding block_in
block_in-faults fields = search (step, three_numbers-faults)

command_in-faults : (line : List (List ℕ)) → IfErr (command_in line) IsOfText
unfolding command_in
command_in-faults [] = tt
command_in-faults (name ∷ fields) =
    search (
      choice,
      insert_in-faults,
      append_in-faults,
      alloc_in-faults,
      free_in-faults,
      free_unknown_in-faults,
      realloc_in-faults,
      realloc_no_move_in-faults,
      fill_in-faults,
      put_in-faults,
      get_in-faults,
      usable_in-faults,
      block_in-faults,
    ) depth 15

header_in-faults : (fields : List (List ℕ)) → IfErr (header_in fields) IsOfText
unfolding header_in
header_in-faults fields = search (step, choice, exactly_three-faults, or_fault-faults, number_of-faults) depth 9

at_line-faults : {A : Type 0} (n : ℕ) (r : Result A Fault) → 0 < n → IfErr r IsOfText → IfErr (at_line n r) IsOfLine
at_line-faults n (Ok x) numbered kind = tt
at_line-faults n (Err f) numbered kind = record { numbered = numbered; of_text = kind }

all_or_fault-cons : {A : Type 0} (P : ReplayFault → Type 0) (r : Result A ReplayFault) (others : List (Result A ReplayFault)) → IfErr r P → IfErr (all_or_fault others) P
    → IfErr (all_or_fault (r ∷ others)) P
all_or_fault-cons P (Ok x) others first rest = step P (all_or_fault others) (λ xs. Ok (x ∷ xs)) rest (λ xs. tt)
all_or_fault-cons P (Err f) others first rest = first

commands_from-faults : (n : ℕ) (others : List (List ℕ)) → 0 < n → IfErr (commands_from n others) IsOfLine
commands_from-faults n [] numbered = tt
commands_from-faults n (line ∷ others) numbered =
    all_or_fault-cons IsOfLine (at_line n (command_in (words line))) (map (λ (p : ℕ × List ℕ). at_line p.0 (command_in (words p.1))) (enumerate_from (n + 1) others))
    (at_line-faults n (command_in (words line)) numbered (command_in-faults (words line))) (commands_from-faults (n + 1) others (omega arith))

commands_in-faults : (others : List (List ℕ)) → IfErr (commands_in others) IsOfLine
unfolding commands_in
commands_in-faults others = commands_from-faults 2 others (omega arith)

trace_in-faults : (text : List ℕ) → IfErr (trace_in text) IsOfLine
unfolding trace_in
trace_in-faults text =
    let first : IfErr (at_line 1 (header_in (words (first_line (lines text))))) IsOfLine = at_line-faults 1 _ (omega arith) (header_in-faults (words (first_line (lines text)))) in
    search (step, first, commands_in-faults)

trace_in-fault : (text : List ℕ) (f : ReplayFault) → trace_in text ≡ Err f → IsOfLine f
trace_in-fault text f e = IfErr-at_err IsOfLine e (trace_in-faults text)

-- the result of reading, or a refusal
pub fault_of_line : (text : List ℕ) (r : Result Trace ReplayFault) → ReadsAsOrRefused trace_text r (trace_in text) → IfErr r (λ f. IsOfLine f ⊎ (f ≡ out_of_memory))
fault_of_line text (Ok t) read = tt
fault_of_line text (Err f) (inl read) = inl (trace_in-fault text f read)
fault_of_line text (Err f) (inr refused) = inr refused
