use Rattle.std.proofs.Common.{refl}
use Rattle.rlsf_malloc_calls.proofs.resizing.resize_in_place.Goals as goal

pub returns-then-addr-eq0 : goal.returns-then-addr-eq0
returns-then-addr-eq0 g c = record { nothing = λ e. (refl, refl, refl); resized = λ some. absurd (some c.if-addr-eq0.true) }

pub returns : goal.returns
returns g c = record { nothing = λ e. absurd (c.if-addr-eq0.false e); resized = λ some. c.resize_there.ensures }
