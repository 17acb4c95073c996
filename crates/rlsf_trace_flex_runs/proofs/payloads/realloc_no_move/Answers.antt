use Rattle.std.proofs.Common.{true≢false, refl, sym, ◌∙◌, subst}
use Rattle.rlsf_base.specs.Addr.{reply}
use Rattle.rlsf_base.specs.Layout.{IsLayout}
use Rattle.rlsf_flex.specs.StandsFor.{StepsAlone}
use Rattle.rlsf_model.specs.NoMove.{ReallocatesWithoutMove}
use Rattle.rlsf_trace_runs.specs.Names.{address}
use Rattle.rlsf_trace_runs.proofs.Named.{owned_live, unnamed}
use Rattle.rlsf_trace_flex_runs.proofs.NamedPayloads.{LeadsOn-nothing, unmoved}
use Rattle.rlsf_trace_flex_runs.proofs.payloads.realloc_no_move.Goals as goal

pub returns-in_default : goal.returns-in_default
returns-in_default g c =
    LeadsOn-nothing c.requires _ _ refl (refl, _, (unnamed c.requires.are_named c.args.name (sym c.payload_of.ensures.value ∙ c.in_default.is), refl), refl, refl)

pub returns-in_default-from_size_align : goal.returns-in_default-from_size_align
returns-in_default-from_size_align g c =
    let (u, owns, _, aligned) = owned_live c.requires.are_named c.args.name c.in-Some.payload (sym c.payload_of.ensures.value ∙ c.in-Some.is) in
    LeadsOn-nothing c.requires _ _ refl
    (refl, _, ((u, owns, λ valid. true≢false (sym (c.in_default-from_size_align.ensures.succeeds.1 (subst (IsLayout c.args.size) aligned valid)))), refl), refl, refl)

pub returns : goal.returns
returns g c =
    let p = c.in-Some.payload in
    let (size, align) = c.in-Ok.ensures.layout in
    let w = c.reallocate_no_move.new.self in
    let alone =
    subst (λ n. StepsAlone g.row.FLLEN g.row.SLLEN g.S.FlexSource.terms g.S.FlexSource.owes c.args.flex.now w
    (ReallocatesWithoutMove c.args.flex.now.state.machine (address p) n (reply c.reallocate_no_move.result)))
    size c.reallocate_no_move.ensures.step in
    unmoved c.requires c.reallocate_no_move.ensures.frame.source c.reallocate_no_move.ensures.frame.place c.args.name c.args.size p c.reallocate_no_move.result
    (sym c.payload_of.ensures.value ∙ c.in-Some.is) (c.in-Ok.ensures.succeeds.0 refl) alone c.reallocate_no_move.ensures.frame.aligns
