-- What an op changes: the payload that it is on, and no other.
use Rattle.std.specs.Prelude.{◌≡◌, ℕ, Option, Some, None}
use Rattle.rlsf_base.specs.Space.{range_of}
use Rattle.rlsf_model.specs.State.{Used, usable}
use Rattle.rlsf_tlsf.specs.Allocator.{Allocator}
use Rattle.rlsf_trace_text.specs.declared.op.Answer.{Answer}
use Rattle.rlsf_trace_text.specs.declared.op.Op.{Op}
use Rattle.rlsf_trace_runs.specs.declared.tables.Tables.{Tables}
use Rattle.rlsf_trace_runs.specs.Runs.{Does, Owns, RunState}
use Rattle.rlsf_trace_runs.specs.Steps.Tables.{IsAt}
use Rattle.rlsf_trace_runs.specs.declared.moments.Moment.{Moment}
use Rattle.rlsf_trace_runs.specs.Moments.{moment_of}

-- so many payloads are live, of one that may be
abbrev pub live_in : Option ℕ → ℕ
live_in None = 0
live_in (Some bytes) = 1

-- so many bytes are usable, of a payload that may be live
abbrev pub usable_or_zero : Option ℕ → ℕ
usable_or_zero None = 0
usable_or_zero (Some bytes) = bytes

-- a live payload has the name and this many usable bytes; or no number is given, and no live payload has it
abbrev pub MeasuresName : RunState → ℕ → Option ℕ → Type 0
MeasuresName s name None = s.named name ≡ None
MeasuresName s name (Some bytes) = (u : Used) × Owns s name u × (bytes ≡ (usable u).len)

-- so of the payload that is named, if one is
abbrev pub Measures : RunState → Option ℕ → Option ℕ → Type 0
Measures s None told = told ≡ None
Measures s (Some name) told = MeasuresName s name told

-- An op and its answer lead from this state of the run to that of the allocator and the tables. If the moment before was that of
-- its state, the moment after is that of the new state.
abbrev pub LeadsWatched : ℕ → ℕ → Allocator → RunState → Op → Moment → Answer → Moment → Allocator → Tables → Type 0
LeadsWatched fllen sllen v s op moment answer after w new = (t : RunState)
    × Does fllen sllen (range_of v.memory) s op answer t × IsAt fllen sllen w new t × (moment ≡ moment_of s → after ≡ moment_of t)
