-- Shows that `into_parts` parts the room of the units behind the kept bytes from the ticket. Assumes `Logic`.
use Rattle.std.proofs.Common.{◌≡◌, ℕ, ◌+◌, ◌-◌, ◌*◌, ◌/◌, ◌%◌, ◌^◌, ◌<◌, ◌≤◌, List, [], ◌∷◌, refl, sym, ap, ◌∙◌, arith, w64}
use base.Fraction.{full_share}
use base.Logic.{never, id⊢}
use contract.Monad.{fact}
use contract.Running.{tables}
use mir.Val.{Val}
use base.Fml.{ftrue, fat, froom}
use types.Kit.{‵, raw, ◌⊛◌, at_ret, ◌$◌, ◌∵◌, !, qed, move, keep, drop, use0, use3, split, join, rewrite, suffices, fsplit, fjoin, done}
use types.Part.{whole, sub, agg}
use types.Run.{stop, fld, of_opd, bin, no_more, and_then, first, blocks, exec, returns, enter}
use types.ByLocal.{alloc_all, pass_all, free_all, look_at, get, get_in, sets, sets_last, take_at, give_at, env}
use denote.Param.{layout}
use denote.Plain.{uint_vals, uint_Tells}
use denote.RattleType.{RattleType, owns}
use denote.RawPtr.{Ptr, block_ptr, in_a_block, room_for, ◌+ₚ◌}
use denote.Laws.{Tells, Is}
use denote.Signature.{types_at}
use denote.Steps.{nothing, heard}
use denote.Struct.Tuple.{Tuple}
use denote.Triple.Walked.{says, Stays, walk_of, ends_at}
use Rattle.core.proofs.alloc.Shapes.{after}
use Rattle.std.proofs.raw_atomic.Walks.{proved}
use Rattle.rlsf_base.specs.OpenSpace.{place_in}
use Rattle.rlsf_base.specs.Steps.Ownership.{units_ty, units_own}
use Rattle.rlsf_base.proofs.RawBlock.PointerValues.{spot_val, spot_own, spot_told, spot_made, spot_typed}
use Rattle.rlsf_base.proofs.RawBlock.Values.{mark_val, mark_own, mark_made, three_val, three_of}
use Rattle.rlsf_base.proofs.memory.unit_payload.UnitPayload.TheLaws.{lowers}
use Rattle.rlsf_base.proofs.RawBlock.Dropped.{all_dropped, all_go}
use Rattle.rlsf_base.specs.contracts.memory.block.Units as units_type
use Rattle.rlsf_base.specs.contracts.memory.ledger.Ticket as ticket_type
use Rattle.rlsf_base.specs.contracts.memory.unit_payload.Spot as spot_type
use Rattle.rlsf_base.specs.contracts.memory.unit_payload.UnitPayload as payload_type
use Rattle.rlsf_base.specs.contracts.memory.unit_payload.UnitPayload.into_parts as f
use Rattle.rlsf_base.proofs.memory.unit_payload.UnitPayload.into_parts.Statement.{statement}
use Rattle.rlsf_base.proofs.memory.unit_payload.UnitPayload.into_parts.Code as code

abbrev payload_vals : (payload_type.the_row).Denot → List Val
payload_vals d = spot_val d.ptr d.len ∷ []

payload_Tells : Tells payload_type.the_row (Is payload_type.the_row) payload_vals
payload_Tells = lowers.val_is

pub into_parts_spec : {M : Type 1} → statement M
into_parts_spec 𝓤 𝓛 𝓜 𝓡 wired =
    let stayed : Stays f.ended.signature.params f.ended.kept = all_dropped f.ended.signature.params f.ended.kept in
    let c = f.clauses 𝓛 𝓜.mem 𝓡.returns in let W = walk_of 𝓛 f.ended stayed c in let 𝓣 = tables 𝓤 𝓛.H 𝓜 𝓡 𝓡.env in
    proved 𝓛 f.ended stayed c 𝓜 𝓡
    (all_go 𝓛 0 f.ended.signature.params f.ended.kept ((λ κs x w. tt), ((λ κs x w. tt), tt)))
    f.Key.name code.function (code.unfolded 𝓤 𝓛.H 𝓜 𝓡 wired)
    (λ κs. (payload_vals, (uint_vals w64, tt))) (λ κs. (payload_Tells, (uint_Tells w64, tt))) (λ κs qs bounds a g are.
    let d = a.0 in let len = d.len in let kept = a.1.0 in
    let y : W.Ghost = ((κs, qs, bounds, a, (spot_val d.ptr len ∷ [], (uint_vals w64 kept, tt))), g) in
    let fits : len < 2 ^ 64 = (spot_told d.ptr len (spot_val d.ptr len ∷ []) are.0.0).1 in
    let at : Ptr = d.home.view.base.ptr in let place : ℕ = place_in d.home.view d.start in let count : ℕ = (len - d.kept) / 16 in
    qed 𝓛 ((‵ ftrue ⊛ ‵ (owns (types_at f.signature.params κs) a y.0.4)) ∷ raw (fact 𝓤 (kept ≡ d.kept)) ∷ []) ∵
    move ! (1 ∷ []) $ heard ! (kept ≡ d.kept) (λ asked.
    split ! $ drop ! $ fsplit ! $ fsplit ! $ drop ! $ fsplit ! $ keep ! (1 ∷ 0 ∷ []) $
    -- [the room; the ticket]
    rewrite ! 0 (λ (p : Ptr). ‵ (room_for (units_ty count) (p +ₚ d.kept))) d.placed.at refl $
    in_a_block ! at (λ p. room_for (units_ty count) ((p +ₚ place) +ₚ d.kept)) (id⊢ 𝓤 (never 𝓤)) (λ b o e.
    let here : d.ptr ≡ block_ptr b (o + place) = d.placed.at ∙ ap (λ (q : Ptr). q +ₚ place) e in
    enter ! _ _ _ _ _ $ alloc_all ! (λ l. pass_all ! refl (spot_typed d.ptr len fits, ((tt, record { fits = are.1.0.1 }), tt)) $
    take_at ! 1 $ rewrite ! 0 (λ (p : Ptr). ‵ (fat full_share (layout payload_type.the_row) (l 1) 0 (spot_val p len))) here refl $ give_at ! 1 $
    sets ! (of_opd ! (get_in ! (fld ! refl (stop !)) (sub ! 0 refl (whole !)))) refl (tt, tt) $
    sets ! (of_opd ! (get_in ! (fld ! refl (stop !)) (sub ! 1 refl (whole !)))) refl (tt, record { fits = fits }) $
    first ! $ blocks ! $ sets_last ! (bin ! (get ! refl) (get ! refl) tt) refl (tt, tt) $
    exec ! 𝓣.C 𝓣.Λ (env code.Mir.locals l) (after 3 (code.function).body) (at_ret _ (W.post y)) $ sets ! (of_opd ! (get ! refl)) refl (tt, tt) $
    sets ! (agg ! (and_then ! (get ! refl) (and_then ! (get ! refl) (no_more !)))) refl (tt, (tt, (record { fits = fits }, tt))) $
    sets ! (agg ! (no_more !)) refl (tt, tt) $ sets ! (agg ! (and_then ! (get ! refl) (no_more !))) refl (tt, (tt, tt)) $
    sets ! (agg ! (no_more !)) refl (tt, tt) $ sets ! (agg ! (and_then ! (get ! refl) (no_more !))) refl (tt, (tt, tt)) $
    sets ! (agg ! (and_then ! (get ! refl) (and_then ! (get ! refl) (and_then ! (get ! refl) (no_more !))))) refl
    (tt, ((tt, (record { fits = fits }, tt)), ((tt, tt), ((tt, tt), tt)))) $
    returns ! (look_at ! 0 refl) $ free_all ! refl $
    let grid : d.home.view.shift % 16 ≡ 0 = d.placed.grid in let aligned : d.start % 16 ≡ 0 = d.placed.aligned.0 in let units : len % 16 ≡ 0 = d.placed.aligned.1 in
    let parted : d.kept % 16 ≡ 0 = d.within.1 in let short : d.kept ≤ len = d.within.0 in
    let first : ℕ = (place + d.kept) / 16 in
    let whole_place : first * 16 ≡ place + d.kept = omega (arith, grid, aligned, parted) in let whole_len : count * 16 + d.kept ≡ len = omega (arith, units, parted, short) in
    let p : Ptr = block_ptr b (kept + (o + place)) in
    let pointed : p ≡ at +ₚ first * 16 = ap (λ (k : ℕ). block_ptr b k) (let e' : kept + (o + place) ≡ o + first * 16 = omega (arith, whole_place, asked) in e')
    ∙ sym (ap (λ (q : Ptr). q +ₚ first * 16) e) in
    let spot : (spot_type.the_row).Denot = record { ptr = p; len = len } in
    let run : (units_type.the_row).Denot = record { mark = record {}; at = at; first = first; count = count; of = (0, 0) } in
    let ticket : (ticket_type.the_row).Denot = record { mark = record {}; name = d.name; key = d.key; addr = d.start; len = len; align = 16 } in
    let v : Val = three_val (spot_val p len) mark_val mark_val in let Three : RattleType = Tuple (spot_type.the_row ∷ units_type.the_row ∷ ticket_type.the_row ∷ []) in
    move ! (1 ∷ []) $ use0 𝓛 (‵ (mark_own (mark_val ∷ []))) (mark_made 𝓛) $ fjoin ! $
    move ! (1 ∷ []) $ rewrite ! 0 (λ (k : ℕ). ‵ (froom (units_ty count) b k)) {x = first * 16 + o} {y = o + place + d.kept}
    (let e' : o + place + d.kept ≡ first * 16 + o = omega (arith, whole_place) in e') refl $
    rewrite ! 0 (λ (q : Ptr). ‵ (units_own q first count)) (sym e) refl $
    use0 𝓛 (‵ (mark_own (mark_val ∷ []))) (mark_made 𝓛) $ fjoin ! $ use0 𝓛 (‵ (spot_own p len (spot_val p len ∷ []))) (spot_made 𝓛 p len fits) $
    use3 𝓛 (‵ (Three.own_val (spot, run, ticket) (v ∷ [])))
    (three_of 𝓛 spot_type.the_row units_type.the_row ticket_type.the_row spot run ticket (spot_val p len) mark_val mark_val) $
    suffices ! _ (ends_at 𝓛 f.ended stayed c y v (spot, run, ticket) (tt, (tt, tt)) (tt, (tt, tt))) $ says !
    ((pointed, refl), (refl, whole_place, whole_len), (refl, refl, refl, refl, refl)) $
    nothing ! $ nothing ! $ join ! $ nothing ! $ join ! $ nothing ! $ done !))))
