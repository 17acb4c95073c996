use Rattle.std.proofs.Common.{arith, true≢false, refl, sym, ◌∙◌, subst}
use Rattle.rlsf_base.specs.Layout.{IsLayout}
use Rattle.rlsf_trace_runs.proofs.Named.{owned_live, unnamed}
use Rattle.rlsf_trace_flex_runs.proofs.NamedPayloads.{LeadsOn-nothing}
use Rattle.rlsf_trace_flex_runs.proofs.PlacedPayloads.{not_reallocated, of_ok, reallocated}
use Rattle.rlsf_trace_flex_runs.proofs.payloads.realloc.Goals as goal

pub returns-in_default : goal.returns-in_default
returns-in_default g c = record {
  does =
      let at = c.requires.state in
      LeadsOn-nothing at _ _ refl (refl, _, (unnamed at.are_named c.args.name (sym c.payload_of.ensures.value ∙ c.in_default.is), refl), refl, refl);
  room = λ ops more. omega (arith, more);
}

pub returns-in_default-from_size_align : goal.returns-in_default-from_size_align
returns-in_default-from_size_align g c = record {
  does =
      let at = c.requires.state in
      let (u, owns, _, aligned) = owned_live at.are_named c.args.name c.in-Some.old (sym c.payload_of.ensures.value ∙ c.in-Some.is) in
      LeadsOn-nothing at _ _ refl
      (refl, _, ((u, owns, λ valid. true≢false (sym (c.in_default-from_size_align.ensures.succeeds.1 (subst (IsLayout c.args.size) aligned valid)))), refl), refl, refl);
  room = λ ops more. omega (arith, more);
}

pub returns-in-Some-placed : goal.returns-in-Some-placed
returns-in-Some-placed g c = record {
  does =
      let (size, align) = c.in-Ok.ensures.layout in
      let added = of_ok c.insert.result (c.insert.ensures.succeeds c.requires.room) c.insert.ensures.updates in
      reallocated c.requires.state c.args.name c.args.size c.in-Some.old _ c.in-Some-placed.addr size
      (sym c.payload_of.ensures.value ∙ c.in-Some.is) (c.in-Ok.ensures.succeeds.0 refl) refl refl c.in-Some-placed.ensures.step added.0;
  room = λ ops more. omega (arith, more, c.insert.ensures.spare);
}

pub returns-in_default-placed : goal.returns-in_default-placed
returns-in_default-placed g c = record {
  does =
      let (size, align) = c.in-Ok.ensures.layout in
      not_reallocated c.requires.state c.args.name c.args.size c.in-Some.old c.reallocate-placed.result size (sym c.payload_of.ensures.value ∙ c.in-Some.is)
      (c.in-Ok.ensures.succeeds.0 refl) c.in_default-placed.is c.reallocate-placed.ensures.step;
  room = λ ops more. omega (arith, more);
}
