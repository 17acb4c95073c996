use Rattle.std.proofs.Common.{refl}
use Rattle.rlsf_malloc_calls.proofs.calls.usable.Goals as goal

pub returns-then-addr-eq0 : goal.returns-then-addr-eq0
returns-then-addr-eq0 g c = record { usable = λ some. absurd (some c.if-addr-eq0.true); none = λ e. refl; payload = refl; same = refl }

pub returns : goal.returns
returns g c =
    let did = c.usable_thin-number.ensures in record {
      usable = λ some. did.len;
      none = λ e. absurd (c.if-addr-eq0.false e);
      payload = did.payload.1;
      same = did.same;
    }
