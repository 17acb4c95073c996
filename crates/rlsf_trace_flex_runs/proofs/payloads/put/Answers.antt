use Rattle.std.proofs.Common.{length, slice_set, arith, refl, sym, ◌∙◌, ap, subst}
use Rattle.std.proofs.lemmas.List.{length-set}
use Rattle.rlsf_trace_flex_runs.specs.FlexRuns.{without_source}
use Rattle.rlsf_trace_flex_runs.specs.Steps.Names.{run_of}
use Rattle.rlsf_model.specs.Run.{Fills}
use Rattle.rlsf_trace_runs.specs.Names.{address}
use Rattle.rlsf_trace_runs.specs.Runs.{run_with_machine}
use Rattle.rlsf_trace_runs.proofs.Named.{unnamed}
use Rattle.rlsf_trace_text.specs.declared.op.Op.TheVariants.{Put}
use Rattle.rlsf_trace_flex_runs.proofs.NamedPayloads.{filled, LeadsOn-nothing, owned}
use Rattle.rlsf_trace_flex_runs.proofs.payloads.put.Goals as goal

pub returns-in_default : goal.returns-in_default
returns-in_default g c =
    LeadsOn-nothing c.requires _ _ refl (refl, _, (unnamed c.requires.are_named c.args.name (sym c.payload_of.ensures.value ∙ c.in_default.is), refl), refl, refl)

pub returns-then-offset-allocation_usable_size : goal.returns-then-offset-allocation_usable_size
returns-then-offset-allocation_usable_size g c =
    let (u, owns, holds, its, long) = owned c.requires c.args.name c.in-Some.payload (sym c.payload_of.ensures.value ∙ c.in-Some.is) in
    LeadsOn-nothing c.requires _ _ refl
    (refl, _, ((u, owns, omega (arith, c.if-offset-allocation_usable_size.true, c.allocation_usable_size.ensures, ap length its, long)), refl), refl, refl)

pub bounds-payload_mut-offset : goal.bounds-payload_mut-offset
bounds-payload_mut-offset g c =
    omega (arith, c.if-offset-allocation_usable_size.false, c.allocation_usable_size.ensures, ap length c.payload_mut.ensures.value)

pub returns : goal.returns
returns g c =
    let p = c.in-Some.payload in
    let w = slice_set c.payload_mut.result.now c.args.offset c.args.byte in
    let s = run_of c.args.flex.now c.args.names.now in
    let (u, owns, holds, its, long) = owned c.requires c.args.name p (sym c.payload_of.ensures.value ∙ c.in-Some.is) in
    let lent = c.payload_mut.ensures.value ∙ its in
    let rest = c.payload_mut.ensures.rest w in
    filled c.requires rest.2 rest.3 (Put c.args.name c.args.offset c.args.byte) (address p) w (address p, w, refl) (λ m step.
    let fills =
    subst (λ a. Fills s.flex.machine a (slice_set u.bytes c.args.offset c.args.byte) m) (sym holds.1)
    (subst (λ l. Fills s.flex.machine (address p) (slice_set l c.args.offset c.args.byte) m) lent step) in (
      refl,
      run_with_machine (without_source s) m,
      (u, owns, omega (arith, c.if-offset-allocation_usable_size.false, c.allocation_usable_size.ensures, ap length its, long), m, fills, refl),
      refl,
      refl,
    )) (c.payload_mut.ensures.meaning w (length-set c.payload_mut.result.now c.args.offset c.args.byte))
