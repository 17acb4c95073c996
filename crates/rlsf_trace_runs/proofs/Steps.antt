-- One op, and the moments before and after it.
use mathlib.Core.Path.{ap₂}
use Rattle.std.proofs.Common.{◌≡◌, ℕ, ◌+◌, length, Option, arith, ap, subst}
use Rattle.rlsf_base.specs.Range.{range_at}
use Rattle.rlsf_base.specs.Space.{range_of, SamePlace}
use Rattle.rlsf_model.specs.WellFormed.{IsWellFormed}
use Rattle.rlsf_trace_text.specs.declared.op.Answer.{Answer}
use Rattle.rlsf_trace_text.specs.declared.op.Op.{Op}
use Rattle.rlsf_tlsf.specs.Allocator.{Allocator}
use Rattle.rlsf_trace_runs.specs.declared.tables.Tables.{Tables}
use Rattle.rlsf_trace_runs.specs.Runs.{Does, RunState}
use Rattle.rlsf_trace_runs.specs.Steps.Tables.{IsAt}
use Rattle.rlsf_trace_runs.specs.declared.moments.Moment.{Moment}
use Rattle.rlsf_trace_runs.specs.Moments.{moment_of, name_in, usable_bytes}
use Rattle.rlsf_trace_runs.specs.Steps.Changes.{live_in, Measures, usable_or_zero}
use Rattle.rlsf_trace_runs.proofs.Ops.{live-balanced, usable-balanced}

module _ {fllen sllen : ℕ} {v w : Allocator} {tables new : Tables} (s t : RunState) (at : IsAt fllen sllen v tables s) (then : IsAt fllen sllen w new t)
    (place : SamePlace v.memory w.memory)
    (op : Op) (answer : Answer) (does : Does fllen sllen (range_of v.memory) s op answer t) (before after : Option ℕ) (was : Measures s (name_in op) before)
    (is : Measures t (name_in op) after) (moment : Moment) (now : moment ≡ moment_of s) where
  whole : IsWellFormed fllen sllen (range_of v.memory) t.machine
  whole = subst (λ r. IsWellFormed fllen sllen r t.machine) (ap₂ range_at place.0 place.1) then.stands.stands.well_formed

  -- both counts are those before, less what the payload had, and more what it has
  pub live-after : length t.machine.used + live_in before ≡ moment.live + live_in after
  live-after = omega (arith, live-balanced s t at.stands.stands.well_formed whole op answer does before after was is, ap (λ (x : Moment). x.live) now)

  pub usable-after : usable_bytes t.machine.used + usable_or_zero before ≡ moment.usable + usable_or_zero after
  usable-after = omega (arith, usable-balanced s t at.stands.stands.well_formed whole op answer does before after was is, ap (λ (x : Moment). x.usable) now)

  -- so what has these counts is the moment of the state after it
  pub moment-after : (told : Moment) → told.live + live_in before ≡ moment.live + live_in after → told.usable + usable_or_zero before ≡ moment.usable + usable_or_zero after
      → told ≡ moment_of t
  moment-after told live usable =
      let lives : told.live ≡ length t.machine.used = omega (arith, live, live-after) in
      let bytes : told.usable ≡ usable_bytes t.machine.used = omega (arith, usable, usable-after) in
      ap₂ make lives bytes
    where
      make : ℕ → ℕ → Moment
      make x y = record { live = x; usable = y }
