use Rattle.std.proofs.Common.{length, replicate, refl, sym, ◌∙◌, ap, subst}
use Rattle.rlsf_trace_flex_runs.specs.FlexRuns.{without_source}
use Rattle.rlsf_trace_flex_runs.specs.Steps.Names.{run_of}
use Rattle.rlsf_model.specs.Run.{Fills}
use Rattle.rlsf_trace_runs.specs.Names.{address}
use Rattle.rlsf_trace_runs.specs.Runs.{run_with_machine}
use Rattle.rlsf_trace_runs.proofs.Named.{unnamed}
use Rattle.rlsf_trace_text.specs.declared.op.Op.TheVariants.{Fill}
use Rattle.rlsf_trace_flex_runs.proofs.NamedPayloads.{filled, LeadsOn-nothing, owned}
use Rattle.rlsf_trace_flex_runs.proofs.payloads.fill.Goals as goal

pub returns-in_default : goal.returns-in_default
returns-in_default g c =
    LeadsOn-nothing c.requires _ _ refl (refl, _, (unnamed c.requires.are_named c.args.name (sym c.payload_of.ensures.value ∙ c.in_default.is), refl), refl, refl)

pub returns : goal.returns
returns g c =
    let p = c.in-Some.payload in
    let w = c.fill.new.self in
    let s = run_of c.args.flex.now c.args.names.now in
    let (u, owns, holds, its, long) = owned c.requires c.args.name p (sym c.payload_of.ensures.value ∙ c.in-Some.is) in
    let bytes = c.fill.ensures.after (λ y e. e) ∙ ap (λ n. replicate n c.args.byte) (ap length (c.payload_mut.ensures.value ∙ its) ∙ long) in
    let rest = c.payload_mut.ensures.rest w in
    filled c.requires rest.2 rest.3 (Fill c.args.name c.args.byte) (address p) w (address p, w, refl) (λ m step. (
      refl,
      run_with_machine (without_source s) m,
      (u, owns, m, subst (λ l. Fills s.flex.machine u.payload l m) bytes (subst (λ a. Fills s.flex.machine a w m) (sym holds.1) step), refl),
      refl,
      refl,
    )) (c.payload_mut.ensures.meaning w c.fill.ensures.len)
