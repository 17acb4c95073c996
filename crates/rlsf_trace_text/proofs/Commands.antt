-- Reading the lines after the first, one by one.
use Rattle.std.proofs.Common.{◌≡◌, ℕ, List, [], ◌++◌, map, Result, Ok, Err, refl}
use Rattle.std.specs.List.{enumerate_from}
use Rattle.rlsf_trace_text.specs.declared.fault.ReplayFault.{ReplayFault}
use Rattle.rlsf_trace_text.specs.Commands.{Command}
use Rattle.rlsf_trace_text.specs.FallibleSteps.{◌>>=◌, at_line, all_or_fault}
use Rattle.rlsf_trace_text.specs.Words.{words}
use Rattle.rlsf_trace_text.specs.Reading.{command_in, commands_in}

-- what the lines from this number on ask for
abbrev pub commands_from : ℕ → List (List ℕ) → Result (List Command) ReplayFault
commands_from number lines = all_or_fault (map (λ line. at_line line.0 (command_in (words line.1))) (enumerate_from number lines))

-- the commands of earlier lines, with those of the lines from this number on behind them
abbrev pub commands_behind : List Command → ℕ → List (List ℕ) → Result (List Command) ReplayFault
commands_behind front number lines = commands_from number lines >>= λ commands. Ok (front ++ commands)

-- all the lines after the first
pub commands_behind_all : (lines : List (List ℕ)) → commands_behind [] 2 lines ≡ commands_in lines
unfolding commands_in
commands_behind_all lines = by_read (commands_from 2 lines)
  where
    by_read : (read : Result (List Command) ReplayFault) → (read >>= λ xs. Ok ([] ++ xs)) ≡ read
    by_read (Ok xs) = refl
    by_read (Err f) = refl
