use Rattle.std.proofs.Common.{length, slice_set, arith, refl, sym, ◌∙◌, ap, subst, rules}
use Rattle.std.proofs.lemmas.List.{length-set}
use Rattle.rlsf_model.specs.Run.{Fills}
use Rattle.rlsf_trace_text.specs.declared.op.Answer.TheVariants.{Refused}
use Rattle.rlsf_trace_text.specs.declared.op.Op.TheVariants.{Put}
use Rattle.rlsf_trace_text.specs.declared.op.TraceError.TheVariants.{BadOffset, UnknownName}
use Rattle.rlsf_tlsf.proofs.Standing.{bytes_in, stepped}
use Rattle.rlsf_trace_runs.specs.Names.{address}
use Rattle.rlsf_trace_runs.specs.Runs.{run_with_machine}
use Rattle.rlsf_trace_runs.proofs.NamedPayloads.{IsAt-filled, LeadsOn-nothing, owned}
use Rattle.rlsf_trace_runs.proofs.Named.{unnamed}
use Rattle.rlsf_trace_runs.proofs.payloads.put.Goals as goal

pub returns-then-offset-payload : goal.returns-then-offset-payload
returns-then-offset-payload g c = record {
  does = λ s at.
      let (u, owns, holds, long) = owned at c.args.name c.in-Some.payload (sym c.payload_of.ensures.value ∙ c.in-Some.is) in
      let bytes = c.payload.ensures ∙ bytes_in at.stands (address c.in-Some.payload) u holds in
      LeadsOn-nothing at (Put c.args.name c.args.offset c.args.byte) (Refused BadOffset) ((u, owns, omega (arith, c.if-offset-payload.true, ap length bytes, long)), refl);
  place = search rules;
}

pub bounds-payload_mut-offset : goal.bounds-payload_mut-offset
bounds-payload_mut-offset g c =
    let (s, at) = c.requires in
    let (u, owns, holds, long) = owned at c.args.name c.in-Some.payload (sym c.payload_of.ensures.value ∙ c.in-Some.is) in
    let bytes = c.payload.ensures ∙ bytes_in at.stands (address c.in-Some.payload) u holds in
    omega (arith, c.if-offset-payload.false, ap length bytes, long, ap length (c.payload_mut.ensures.value ∙ bytes_in at.stands (address c.in-Some.payload) u holds))

pub returns-in_default : goal.returns-in_default
returns-in_default g c = record {
  does = λ s at.
      LeadsOn-nothing at (Put c.args.name c.args.offset c.args.byte) (Refused UnknownName) (unnamed at.named c.args.name (sym c.payload_of.ensures.value ∙ c.in_default.is), refl);
  place = search rules;
}

pub returns : goal.returns
returns g c = record {
  does = λ s at.
      let p = c.in-Some.payload in
      let w = slice_set c.payload_mut.result.now c.args.offset c.args.byte in
      let (u, owns, holds, long) = owned at c.args.name p (sym c.payload_of.ensures.value ∙ c.in-Some.is) in
      let bytes = c.payload.ensures ∙ bytes_in at.stands (address c.in-Some.payload) u holds in
      let lent = c.payload_mut.ensures.value ∙ bytes_in at.stands (address p) u holds in
      let (t, step, stands, keeps) =
      stepped at.stands _ (λ x. Fills x (address p) w) (c.payload_mut.ensures.meaning w (length-set c.payload_mut.result.now c.args.offset c.args.byte)) in
      let fills =
      subst (λ a. Fills s.machine a (slice_set u.bytes c.args.offset c.args.byte) t) (sym holds.1)
      (subst (λ l. Fills s.machine (address p) (slice_set l c.args.offset c.args.byte) t) lent step) in (
        run_with_machine s t,
        (u, owns, omega (arith, c.if-offset-payload.false, ap length bytes, long), t, fills, refl),
        IsAt-filled at (c.payload_mut.ensures.rest w).1 t stands (address p) w step,
        keeps,
      );
  place = (c.payload_mut.ensures.rest (slice_set c.payload_mut.result.now c.args.offset c.args.byte)).1;
}
