use Rattle.std.proofs.Common.{rules, IsSome, refl, subst}
use Rattle.rlsf_checked.proofs.checked.CheckedTlsf.payload.Goals as goal

pub returns : goal.returns
returns g c = record {
  when = (λ _. subst IsSome c.in-Some.ensures.value refl, λ _. refl);
  refused = search rules;
  value = rw (← c.self.view_is) c.payload.ensures;
}
