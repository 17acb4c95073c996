use Rattle.std.proofs.Common.{length, replicate, refl, sym, ◌∙◌, ap, subst, rules}
use Rattle.rlsf_model.specs.Run.{Fills}
use Rattle.rlsf_tlsf.proofs.Standing.{bytes_in, stepped}
use Rattle.rlsf_trace_runs.specs.Names.{address}
use Rattle.rlsf_trace_runs.specs.Runs.{run_with_machine}
use Rattle.rlsf_trace_runs.proofs.NamedPayloads.{IsAt-filled, owned, LeadsOn-nothing}
use Rattle.rlsf_trace_text.specs.declared.op.Answer.TheVariants.{Refused}
use Rattle.rlsf_trace_text.specs.declared.op.Op.TheVariants.{Fill}
use Rattle.rlsf_trace_text.specs.declared.op.TraceError.TheVariants.{UnknownName}
use Rattle.rlsf_trace_runs.proofs.Named.{unnamed}
use Rattle.rlsf_trace_runs.proofs.payloads.fill.Goals as goal

pub returns-in_default : goal.returns-in_default
returns-in_default g c = record {
  does = λ s at.
      LeadsOn-nothing at (Fill c.args.name c.args.byte) (Refused UnknownName) (unnamed at.named c.args.name (sym c.payload_of.ensures.value ∙ c.in_default.is), refl);
  place = search rules;
}

pub returns : goal.returns
returns g c = record {
  does = λ s at.
      let p = c.in-Some.payload in
      let w = c.fill.new.self in
      let (u, owns, holds, long) = owned at c.args.name p (sym c.payload_of.ensures.value ∙ c.in-Some.is) in
      let (t, step, stands, keeps) = stepped at.stands _ (λ x. Fills x (address p) w) (c.payload_mut.ensures.meaning w c.fill.ensures.len) in
      let whole = ap length (c.payload_mut.ensures.value ∙ bytes_in at.stands (address p) u holds) ∙ long in
      let bytes = c.fill.ensures.after (λ y e. e) ∙ ap (λ n. replicate n c.args.byte) whole in
      let fills = subst (λ l. Fills s.machine u.payload l t) bytes (subst (λ a. Fills s.machine a w t) (sym holds.1) step) in
      (run_with_machine s t, (u, owns, t, fills, refl), IsAt-filled at (c.payload_mut.ensures.rest w).1 t stands (address p) w step, keeps);
  place = (c.payload_mut.ensures.rest c.fill.new.self).1;
}
