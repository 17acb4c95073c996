use Rattle.std.proofs.Common.{ap, true≢false}
use Rattle.std.specs.Prelude.{is_ok}
use Rattle.rlsf_base.proofs.Numbers.PowersOfTwo.{IsPowerOfTwo-positive}
use Rattle.rlsf_offsets.proofs.Bytes.{len_at-empty}
use Rattle.rlsf_offsets.proofs.offsets.OffsetTlsf.with_limit.Goals as goal

pub returns : goal.returns
returns g c =
    let e = c.in_ok-inner.ensures in
    rw (← c.greater-most.ensures.value) (record {
      too_long = (λ long. absurd (true≢false (ap is_ok long)), λ far. absurd (true≢false (ap is_ok (e.too_long.1 far))));
      refused = tt;
      units = e.units;
      empty = len_at-empty g.row.UNIT (IsPowerOfTwo-positive g.row.UNIT c.requires) c.in_ok-inner.inner e.empty;
      free = e.free;
      sized = e.sized;
    })
