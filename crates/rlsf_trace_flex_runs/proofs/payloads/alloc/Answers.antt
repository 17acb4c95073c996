use Rattle.std.proofs.Common.{IsSome, arith, refl, sym, ◌∙◌, subst}
use Rattle.rlsf_trace_runs.specs.Names.{address}
use Rattle.rlsf_trace_runs.proofs.NamedPayloads.{none_is, some_is}
use Rattle.rlsf_trace_flex_runs.proofs.NamedPayloads.{LeadsOn-nothing}
use Rattle.rlsf_trace_flex_runs.proofs.PlacedPayloads.{allocated, not_allocated, of_ok}
use Rattle.rlsf_trace_flex_runs.proofs.payloads.alloc.Goals as goal

pub returns-then-contains_key : goal.returns-then-contains_key
returns-then-contains_key g c = record {
  does =
      let at = c.requires.state in
      let taken = subst IsSome (at.are_named.names c.args.name) (some_is address _ (sym c.contains_key.ensures ∙ c.if-contains_key.true)) in
      LeadsOn-nothing at _ _ refl (refl, _, (taken, refl), refl, refl);
  room = λ ops more. omega (arith, more);
}

pub returns-in-Some : goal.returns-in-Some
returns-in-Some g c = record {
  does =
      let free = none_is _ (sym c.contains_key.ensures ∙ c.if-contains_key.false) in
      let added = of_ok c.insert.result (c.insert.ensures.succeeds c.requires.room) c.insert.ensures.updates in
      allocated c.requires.state c.args.name c.args.layout c.in-Some.addr _ free refl c.align-align.ensures.value c.in-Some.ensures.step added.0;
  room = λ ops more. omega (arith, more, c.insert.ensures.spare);
}

pub returns-in_default : goal.returns-in_default
returns-in_default g c = record {
  does =
      let free = none_is _ (sym c.contains_key.ensures ∙ c.if-contains_key.false) in
      not_allocated c.requires.state c.args.name c.args.layout c.allocate-placed.result c.in_default.is free c.allocate-placed.ensures.step;
  room = λ ops more. omega (arith, more);
}
