-- Steps that may fail, of which the first fault counts.
use Rattle.std.specs.Prelude.{◌≡◌, ℕ, List, [], ◌∷◌, Option, Some, None, Result, Ok, Err, ◌⊎◌}
use Rattle.rlsf_trace_text.specs.declared.fault.Fault.{Fault}
use Rattle.rlsf_trace_text.specs.declared.fault.ReplayFault.{ReplayFault}
use Rattle.rlsf_trace_text.specs.Faults.{out_of_memory}

-- a step, and one that goes on with its value; a fault ends both
infixl 10 ◌>>=◌
abbrev pub ◌>>=◌ : {A B E : Type 0} → Result A E → (A → Result B E) → Result B E
(Ok x) >>= f = f x
(Err e) >>= f = Err e

-- a value that has to be there
abbrev pub or_fault : {A : Type 0} → Fault → Option A → Result A Fault
or_fault f (Some x) = Ok x
or_fault f None = Err f

-- a fault of a line, with the number of the line
abbrev pub at_line : {A : Type 0} → ℕ → Result A Fault → Result A ReplayFault
at_line n (Ok x) = Ok x
at_line n (Err f) = Err (record { line = n; fault = f })

-- all the values, or the first fault
abbrev pub all_or_fault : {A : Type 0} → List (Result A ReplayFault) → Result (List A) ReplayFault
all_or_fault [] = Ok []
all_or_fault ((Ok x) ∷ others) = all_or_fault others >>= λ xs. Ok (x ∷ xs)
all_or_fault ((Err f) ∷ others) = Err f

-- what a function returned, seen by view, is the result of reading
abbrev pub ReadsAs : {X Y E : Type 0} → (X → Y) → Result X E → Result Y E → Type 0
ReadsAs view (Ok x) read = read ≡ Ok (view x)
ReadsAs view (Err f) read = read ≡ Err f

-- what a function returned, seen by view, is the result of reading, unless the system is out of memory
abbrev pub ReadsAsOrRefused : {X Y : Type 0} → (X → Y) → Result X ReplayFault → Result Y ReplayFault → Type 0
ReadsAsOrRefused view (Ok x) read = read ≡ Ok (view x)
ReadsAsOrRefused view (Err f) read = (read ≡ Err f) ⊎ (f ≡ out_of_memory)
