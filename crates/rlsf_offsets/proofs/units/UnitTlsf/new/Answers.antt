use Rattle.std.proofs.Common.{ℕ, ap, arith, inl, refl, subst, true≢false}
use Rattle.std.specs.Prelude.{is_ok}
use Rattle.rlsf_offsets.specs.Units.{IsFreeRun}
use Rattle.rlsf_offsets.proofs.Rooms.{fresh_run}
use Rattle.rlsf_offsets.proofs.units.UnitTlsf.new.Goals as goal

pub returns-then-most-gt-MOST : goal.returns-then-most-gt-MOST
returns-then-most-gt-MOST c = record {
  too_long = (λ e. c.if-most-gt-MOST.true, λ far. refl);
  refused = inl refl;
  units = tt;
  empty = tt;
  free = tt;
  sized = tt;
}

pub returns : goal.returns
returns c =
    let e = c.over.ensures in record {
      too_long = (λ long. absurd (true≢false (ap is_ok long)), λ far. absurd (omega (arith, c.if-most-gt-MOST.false, far)));
      refused = tt;
      units = e.units;
      empty = e.empty;
      free = subst (λ (n : ℕ). IsFreeRun c.over.result 0 n) e.units.0 (fresh_run c.over.result e.empty);
      sized = e.sized;
    }
