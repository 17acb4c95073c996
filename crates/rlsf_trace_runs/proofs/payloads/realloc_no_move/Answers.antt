use Rattle.std.proofs.Common.{refl, sym, ◌∙◌, subst, rules, true≢false}
use Rattle.rlsf_base.specs.Addr.{reply}
use Rattle.rlsf_base.specs.Layout.{IsLayout}
use Rattle.rlsf_model.specs.NoMove.{ReallocatesWithoutMove}
use Rattle.rlsf_tlsf.proofs.Standing.{stepped}
use Rattle.rlsf_trace_runs.specs.Names.{address}
use Rattle.rlsf_trace_runs.proofs.Named.{owned_live, unnamed}
use Rattle.rlsf_trace_runs.proofs.NamedPayloads.{IsAt-aligned, LeadsOn-nothing}
use Rattle.rlsf_trace_text.specs.declared.op.Answer.TheVariants.{Refused}
use Rattle.rlsf_trace_text.specs.declared.op.Op.TheVariants.{ReallocNoMove}
use Rattle.rlsf_trace_text.specs.declared.op.TraceError.TheVariants.{BadLayout, UnknownName}
use Rattle.rlsf_trace_runs.proofs.payloads.realloc_no_move.Goals as goal

pub returns-in_default : goal.returns-in_default
returns-in_default g c = record {
  does = λ s at.
      LeadsOn-nothing at (ReallocNoMove c.args.name c.args.size) (Refused UnknownName) (unnamed at.named c.args.name (sym c.payload_of.ensures.value ∙ c.in_default.is), refl);
  place = search rules;
}

pub returns : goal.returns
returns g c = record {
  does = λ s at.
      let p = c.in-Some.payload in
      let there = sym c.payload_of.ensures.value ∙ c.in-Some.is in
      let said = reply c.reallocate_no_move.result in
      let (size, _) = c.in-Ok.ensures.layout in
      let (t, did, stands, keeps) =
      stepped at.stands c.reallocate_no_move.new.self (λ x. ReallocatesWithoutMove x (address p) c.in-Ok.layout.size said) c.reallocate_no_move.ensures.step in
      let step = subst (λ n. ReallocatesWithoutMove s.machine (address p) n said t) size did in
      let (u, owns, holds, its) = owned_live at.named c.args.name p there in
      let valid = subst (IsLayout c.args.size) (sym its) (c.in-Ok.ensures.succeeds.0 refl) in (
        _,
        (u, owns, valid, t, subst (λ a. ReallocatesWithoutMove s.machine a c.args.size said t) (sym holds.1) step, refl),
        IsAt-aligned at c.reallocate_no_move.ensures.frame.place t stands c.reallocate_no_move.ensures.frame.chunks c.reallocate_no_move.ensures.frame.aligns,
        keeps,
      );
  place = search rules;
}

pub returns-in_default-from_size_align : goal.returns-in_default-from_size_align
returns-in_default-from_size_align g c = record {
  does = λ s at.
      let p = c.in-Some.payload in
      let (u, owns, holds, its) = owned_live at.named c.args.name p (sym c.payload_of.ensures.value ∙ c.in-Some.is) in
      LeadsOn-nothing at (ReallocNoMove c.args.name c.args.size) (Refused BadLayout)
      ((u, owns, λ valid. true≢false (sym (c.in_default-from_size_align.ensures.succeeds.1 (subst (IsLayout c.args.size) its valid)))), refl);
  place = search rules;
}
