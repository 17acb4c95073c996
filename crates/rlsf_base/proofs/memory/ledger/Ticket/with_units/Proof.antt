-- Shows that `with_units` puts the room of the units behind the kept bytes and the ticket together. Assumes `Logic`.
use Rattle.std.proofs.Common.{◌≡◌, ℕ, ◌+◌, ◌-◌, ◌*◌, ◌/◌, ◌≤◌, [], ◌∷◌, refl, sym, ◌∙◌, arith, w64}
use base.Fraction.{full_share}
use base.Logic.{never, id⊢}
use base.Fml.{ftrue, fat, froom}
use contract.Monad.{fact}
use contract.Running.{tables}
use types.Kit.{‵, raw, ◌⊛◌, at_ret, ◌$◌, ◌∵◌, !, qed, move, keep, drop, use0, split, join, rewrite, suffices, fsplit, fjoin, done}
use types.Part.{whole, sub, agg}
use types.Run.{stop, fld, of_opd, bin, no_more, and_then, first, blocks, exec, returns, enter}
use types.ByLocal.{alloc_all, pass_all, free_all, look_at, get, get_in, sets, sets_last, take_at, give_at, env}
use denote.RattleType.{owns}
use denote.Param.{layout}
use denote.RawPtr.{Ptr, block_ptr, in_a_block}
use denote.Plain.{uint_vals, uint_Tells}
use denote.Signature.{types_at}
use denote.Steps.{nothing, heard}
use denote.Triple.Walked.{Stays, walk_of, ends_at}
use Rattle.core.proofs.mem.Facts.{says_two}
use Rattle.core.proofs.alloc.Shapes.{after}
use Rattle.std.proofs.raw_atomic.Walks.{proved}
use Rattle.rlsf_base.specs.OpenSpace.{Home, place_in}
use Rattle.rlsf_base.specs.Piece.{home_from}
use Rattle.rlsf_base.specs.Ledger.{extent, ticket_owns}
use Rattle.rlsf_base.specs.Steps.Ownership.{units_ty, units_own}
use Rattle.rlsf_base.specs.UnitPayload.{AreCompleteUnits, IsUnitPointer, pointer_to}
use Rattle.rlsf_base.proofs.RawBlock.OwnerValues.{ticket_vals, ticket_Tells, units_vals, units_Tells, view_vals, view_Tells}
use Rattle.rlsf_base.proofs.RawBlock.Parts.{placed_in_block}
use Rattle.rlsf_base.proofs.RawBlock.PointerValues.{spot_val, spot_own, spot_made, view_val, view_fits}
use Rattle.rlsf_base.proofs.RawBlock.Values.{mark_val}
use Rattle.rlsf_base.proofs.RawBlock.Dropped.{all_dropped, all_go}
use Rattle.rlsf_base.specs.contracts.memory.view.View as view_type
use Rattle.rlsf_base.specs.contracts.memory.unit_payload.UnitPayload as payload_type
use Rattle.rlsf_base.specs.contracts.memory.ledger.Ticket.with_units as f
use Rattle.rlsf_base.proofs.memory.ledger.Ticket.with_units.Statement.{statement}
use Rattle.rlsf_base.proofs.memory.ledger.Ticket.with_units.Code as code

pub with_units_spec : {M : Type 1} → statement M
with_units_spec 𝓤 𝓛 𝓜 𝓡 wired =
    let stayed : Stays f.ended.signature.params f.ended.kept = all_dropped f.ended.signature.params f.ended.kept in
    let c = f.clauses 𝓛 𝓜.mem 𝓡.returns in let W = walk_of 𝓛 f.ended stayed c in let 𝓣 = tables 𝓤 𝓛.H 𝓜 𝓡 𝓡.env in
    proved 𝓛 f.ended stayed c 𝓜 𝓡
    (all_go 𝓛 0 f.ended.signature.params f.ended.kept ((λ κs x w. tt), ((λ κs x w. tt), ((λ κs x w. tt), ((λ κs x w. tt), ((λ κs x w. tt), tt))))))
    f.Key.name code.function (code.unfolded 𝓤 𝓛.H 𝓜 𝓡 wired)
    (λ κs. (ticket_vals, (view_vals, (uint_vals w64, (uint_vals w64, (units_vals, tt))))))
    (λ κs. (ticket_Tells, (view_Tells, (uint_Tells w64, (uint_Tells w64, (units_Tells, tt)))))) (λ κs qs bounds a g are.
    let t = a.0 in let view = a.1.0 in let place = a.1.1.0 in let len = a.1.1.1.0 in let run = a.1.1.1.1.0 in let home : Home = home_from view run.of in
    let kept : ℕ = len - run.count * 16 in
    let Run : Type 0 = (run.at ≡ view.base.ptr) × (run.first * 16 + run.count * 16 ≡ place + len) × (run.count * 16 ≤ len) in
    let Shown : Type 0 = (t.len ≡ len) × (t.align ≡ 16) × (place ≡ place_in view t.addr) in
    let Lies : Type 0 = IsUnitPointer home (pointer_to view t.addr) t.addr t.len in
    let y : W.Ghost = ((κs, qs, bounds, a, (mark_val ∷ [], (view_vals view, (uint_vals w64 place, (uint_vals w64 len, (mark_val ∷ [], tt)))))), g) in
    qed 𝓛 ((‵ ftrue ⊛ ‵ (owns (types_at f.signature.params κs) a y.0.4)) ∷ (raw (fact 𝓤 Run) ⊛ raw (fact 𝓤 Shown) ⊛ raw (fact 𝓤 Lies)) ∷ []) ∵
    move ! (1 ∷ []) $ split ! $ heard ! Run (λ is. split ! $ heard ! Shown (λ shown. heard ! Lies (λ lies.
    split ! $ drop ! $ fsplit ! $ fsplit ! $ drop ! $ move ! (1 ∷ []) $ fsplit ! $ drop ! $ fsplit ! $ drop ! $ fsplit ! $ drop ! $ fsplit ! $ fsplit ! $ keep ! (1 ∷ 3 ∷ []) $
    -- [the units' room; the ticket]
    enter ! _ _ _ _ _ $ alloc_all !
    (λ l. pass_all ! refl ((tt, (tt, tt)), (view_fits view are.1.0, ((tt, record { fits = are.1.1.0.1 }), ((tt, record { fits = are.1.1.1.0.1 }), ((tt, (tt, tt)), tt))))) $
    in_a_block ! run.at (λ p. units_own p run.first run.count) (id⊢ 𝓤 (never 𝓤)) (λ b o e.
    take_at ! 2 $ rewrite ! 0 (λ (p : Ptr). ‵ (fat full_share (layout view_type.the_row) (l 2) 0 (view_val p view.shift))) (sym is.0 ∙ e) refl $ give_at ! 2 $
    first ! $ blocks ! $ sets_last ! (bin ! (get_in ! (fld ! refl (fld ! refl (stop !))) (sub ! 0 refl (sub ! 0 refl (whole !)))) (get ! refl) tt) refl (tt, tt) $
    exec ! 𝓣.C 𝓣.Λ (env code.Mir.locals l) (after 1 (code.function).body) (at_ret _ (W.post y)) $ sets ! (of_opd ! (get ! refl)) refl (tt, tt) $
    sets ! (agg ! (and_then ! (get ! refl) (and_then ! (get ! refl) (no_more !)))) refl (tt, (tt, (record { fits = are.1.1.1.0.1 }, tt))) $
    returns ! (look_at ! 0 refl) $ free_all ! refl $
    let p : Ptr = block_ptr b (place + o) in
    let many : run.count ≡ (len - kept) / 16 = omega (arith, is.2) in
    let within : AreCompleteUnits kept len = (omega arith, omega (arith, lies.aligned.1, shown.0, is.2)) in let there : run.first * 16 + o ≡ place + o + kept =
    omega (arith, is.1, is.2) in
    let placed : IsUnitPointer home p t.addr len = placed_in_block view home b o t.addr place len t.len (sym is.0 ∙ e) shown.2 shown.0 lies in
    let x : (payload_type.the_row).Denot =
    record { ptr = p; len = len; home = home; name = t.name; key = t.key; start = t.addr; kept = kept; placed = placed; within = within } in
    rewrite ! 0 (λ (u : ℕ × ℕ). ‵ (froom (units_ty u.0) b u.1)) {x = ((len - kept) / 16, place + o + kept)} {y = (run.count, run.first * 16 + o)} (λ i. (many i, there i)) refl $
    move ! (1 ∷ []) $ rewrite ! 0 (λ (u : ℕ × ℕ). ‵ (ticket_owns t.name t.key (extent t.addr u.0 u.1))) {x = (len, 16)} {y = (t.len, t.align)}
    (λ i. (shown.0 i, shown.1 i)) refl $ fjoin ! $
    use0 𝓛 (‵ (spot_own p len (spot_val p len ∷ []))) (spot_made 𝓛 p len are.1.1.1.0.1) $ fjoin ! $
    suffices ! _ (ends_at 𝓛 f.ended stayed c y (spot_val p len) x (tt, (tt, (tt, (tt, (tt, tt))))) (tt, (tt, (tt, (tt, (tt, tt)))))) $ says_two !
    ((refl, refl, refl, refl), (refl, refl)) $
    nothing ! $ nothing ! $ join ! $ nothing ! $ join ! $ nothing ! $ join ! $ nothing ! $ join ! $ nothing ! $ join ! $ nothing ! $ done !))))))
