use Rattle.std.proofs.Common.{arith, refl, sym, ◌∙◌}
use Rattle.std.proofs.lemmas.Bool.{false≢true}
use Rattle.rlsf_trace_runs.specs.Names.{address}
use Rattle.rlsf_trace_runs.proofs.Named.{unnamed}
use Rattle.rlsf_trace_text.specs.declared.op.Op.TheVariants.{Free, FreeUnknown}
use Rattle.rlsf_trace_flex_runs.proofs.NamedPayloads.{freed, LeadsOn-nothing}
use Rattle.rlsf_trace_flex_runs.proofs.payloads.free.Goals as goal

pub returns-in_default : goal.returns-in_default
returns-in_default g c = record {
  told = λ _.
      let none = sym c.payload_of.ensures.value ∙ c.in_default.is in
      LeadsOn-nothing c.requires _ _ refl (refl, _, (unnamed c.requires.are_named c.args.name none, refl), refl, refl);
  untold = λ _.
      let none = sym c.payload_of.ensures.value ∙ c.in_default.is in
      LeadsOn-nothing c.requires _ _ refl (refl, _, (unnamed c.requires.are_named c.args.name none, refl), refl, refl);
  room = λ ops more. omega (arith, more);
}

pub returns-then-tells_align : goal.returns-then-tells_align
returns-then-tells_align g c = record {
  told = λ _.
      freed c.requires c.deallocate.ensures.frame.source c.deallocate.ensures.frame.place (Free c.args.name) c.args.name c.in-Some.payload
      (sym c.payload_of.ensures.value ∙ c.in-Some.is)
      (address c.in-Some.payload, refl) (λ r frees. (refl, r, frees, refl, refl)) c.deallocate.ensures.step c.remove.ensures.updates.0;
  untold = λ no. absurd (false≢true (sym no ∙ c.if-tells_align.true));
  room = λ ops more. omega (arith, more, c.remove.ensures.spare);
}

pub returns : goal.returns
returns g c = record {
  told = λ yes. absurd (false≢true (sym c.if-tells_align.false ∙ yes));
  untold = λ _.
      freed c.requires c.deallocate_unknown_align.ensures.frame.source c.deallocate_unknown_align.ensures.frame.place (FreeUnknown c.args.name) c.args.name c.in-Some.payload
      (sym c.payload_of.ensures.value ∙ c.in-Some.is)
      (address c.in-Some.payload, refl) (λ r frees. (refl, r, frees, refl, refl)) c.deallocate_unknown_align.ensures.step c.remove.ensures.updates.0;
  room = λ ops more. omega (arith, more, c.remove.ensures.spare);
}
