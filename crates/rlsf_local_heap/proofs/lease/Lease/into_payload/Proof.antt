-- Shows that `into_payload` makes the units of the room again, and puts them beside the ticket. Assumes `Logic`.
use Rattle.std.proofs.Common.{◌≡◌, ℕ, ◌/◌, ◌^◌, ◌<◌, List, [], ◌∷◌, refl, sym, ap, subst, ◌∙◌, arith}
use mir.Val.{Val}
use base.Logic.{never, id⊢, emp}
use base.Fml.{Fml, ftrue, froom}
use contract.Monad.{fact, fact_i}
use contract.Running.{tables}
use types.Kit.{‵, raw, ◌⊛◌, some, later, ◌$◌, ◌∵◌, !, qed, move, keep, drop, use0, use1, use2, split, join, fsplit, fjoin, feq_l, pick, await, rewrite, suffices, done}
use types.Part.{whole, sub, agg}
use types.Run.{stop, fld, of_opd, no_more, and_then, returns, enter}
use types.ByLocal.{alloc_all, pass_all, free_all, look_at, get, get_in, sets, lands_as}
use denote.Laws.{Is, shows}
use denote.RattleType.{owns}
use denote.RawPtr.{Ptr, RawPtr, in_a_block, room_for, ◌+ₚ◌}
use denote.Signature.{types_at}
use denote.Steps.{nothing, heard, peeks, only}
use denote.Triple.Call.{calls_at}
use denote.Triple.Clauses.{lasts}
use denote.Triple.Spec.{triple_of}
use denote.Triple.Table.{framed}
use denote.Triple.Walked.{walk_of, says, ends_at}
use Rattle.std.proofs.raw_atomic.Walks.{proved}
use Rattle.rlsf_base.specs.Changes.{IsOwn}
use Rattle.rlsf_base.specs.RawParts.{LiesAtBlock}
use Rattle.rlsf_base.specs.OpenSpace.{place_in}
use Rattle.rlsf_base.specs.UnitPayload.{IsUnitPointer}
use Rattle.rlsf_base.specs.Steps.Ownership.{room_at, units_ty}
use Rattle.rlsf_base.proofs.RawBlock.PointerValues.{room-complete, spot_val, spot_own, spot_told, spot_made, spot_typed, ptr_typed, unmoved}
use Rattle.rlsf_base.specs.contracts.memory.unit_payload.UnitPayload as payload_type
use Rattle.rlsf_base.specs.contracts.memory.block.RawParts as parts_type
use Rattle.rlsf_base.proofs.memory.block.RawParts.TheLaws as parts_laws
use Rattle.rlsf_base.proofs.memory.block.RawParts.TheLaws.{lowers as parts_lowers}
use Rattle.rlsf_base.specs.contracts.memory.block.RawParts.release_room as g
use Rattle.rlsf_base.proofs.memory.block.RawParts.release_room.Met.{met as release_met}
use Rattle.rlsf_local_heap.proofs.lease.Lease.TheLaws.{lowers as lease_lowers}
use Rattle.rlsf_heap.proofs.ThinValues.{dropped, all_go}
use Rattle.rlsf_local_heap.proofs.SmallerUnits.{units-returned}
use Rattle.rlsf_local_heap.specs.contracts.lease.Lease.into_payload as f
use Rattle.rlsf_local_heap.proofs.lease.Lease.into_payload.Statement.{statement}
use Rattle.rlsf_local_heap.proofs.lease.Lease.into_payload.Code as code

pub into_payload_spec : {M : Type 1} → statement M
into_payload_spec 𝓤 𝓛 𝓜 𝓡 wired =
    let stayed = dropped f.ended.signature.params f.ended.kept in let c = f.clauses 𝓛 𝓜.mem 𝓡.returns in let W = walk_of 𝓛 f.ended stayed c in
    proved 𝓛 f.ended stayed c 𝓜 𝓡 (all_go 𝓛 0 f.ended.signature.params f.ended.kept ((λ κs x w. tt), ((λ κs x w. tt), tt)))
    f.Key.name code.function (code.unfolded 𝓤 𝓛.H 𝓜 𝓡 wired)
    (λ κs. ((λ d. spot_val d.ptr d.len ∷ []), ((λ r. parts_lowers.lowered r ∷ []), tt))) (λ κs. (lease_lowers.val_is, (parts_lowers.val_is, tt)))
    (λ κs qs bounds a none are.
    let d = a.0 in let parts = a.1.0 in let len = d.len in
    let vss : List Val × (List Val × Unit {0}) = (spot_val d.ptr len ∷ [], (parts_lowers.lowered parts ∷ [], tt)) in
    let y : W.Ghost = ((κs, qs, bounds, a, vss), none) in
    let fits : len < 2 ^ 64 = (spot_told d.ptr len (spot_val d.ptr len ∷ []) are.0.0).1 in
    let Block : Type 0 = LiesAtBlock parts in
    let Based : Type 0 = parts.base.ptr ≡ d.memory.view.base.ptr +ₚ place_in d.memory.view d.memory.start in
    let Place : Type 0 = (parts.start ≡ d.memory.start) × (parts.len ≡ d.memory.len) in
    let Own : Type 0 = IsOwn parts.bytes.out 0 parts.len in
    qed 𝓛 ((‵ ftrue ⊛ ‵ (owns (types_at f.signature.params κs) a vss))
    ∷ (raw (fact 𝓤 Block) ⊛ (raw (fact 𝓤 Based) ⊛ (raw (fact 𝓤 Place) ⊛ raw (fact 𝓤 Own)))) ∷ []) ∵
    move ! (1 ∷ []) $ split ! $ heard ! Block (λ block. split ! $ heard ! Based (λ based. split ! $ heard ! Place (λ place. heard ! Own (λ own.
    split ! $ drop ! $ fsplit ! $ fsplit ! $ drop ! $ move ! (1 ∷ []) $ fsplit ! $ keep ! (0 ∷ 2 ∷ []) $
    -- [the parts; the ticket]
    peeks ! parts_type.the_row (Is parts_type.the_row) (shows 𝓛 parts_type.the_row) parts (parts_lowers.lowered parts ∷ [])
    (λ is. let typed = ((parts_laws.the_row_laws.lawful 𝓛).typed parts _ is).0 in
    enter ! _ _ _ _ _ $ alloc_all ! (λ l. pass_all ! refl (spot_typed d.ptr len fits, (typed, tt)) $
    sets ! (of_opd ! (get_in ! (fld ! refl (stop !)) (sub ! 1 refl (whole !)))) refl (tt, record { fits = fits }) $
    sets ! (of_opd ! (get ! refl)) refl typed $
    let G = triple_of 𝓛 g.signature (g.spec 𝓛 𝓜.mem 𝓡.returns) in
    let z : G.Ghost = ((tt, tt, tt, (parts, tt), (parts_lowers.lowered parts ∷ [], tt)), tt) in
    nothing ! $ move ! (1 ∷ 0 ∷ []) $ join ! $ nothing ! $ join ! $ use0 𝓛 (raw (fact 𝓤 Own)) (fact_i 𝓤 Own (emp 𝓤) own) $
    use0 𝓛 (raw (fact 𝓤 Block)) (fact_i 𝓤 Block (emp 𝓤) block) $ join ! $ move ! (1 ∷ 0 ∷ []) $
    use2 𝓛 (raw (G.pre z)) (id⊢ 𝓤 _) $
    calls_at ! (framed 𝓤 𝓛.H 𝓜 (tables 𝓤 𝓛.H 𝓜 𝓡 𝓡.env)) G
    (release_met 𝓤 𝓛 𝓜 𝓡 (code.calls-rlsf_base::memory::block::RawParts::release_room 𝓡.env wired)) z (and_then ! (get ! refl) (no_more !)) (λ v.
    use1 𝓛 (later (some (λ (q : Ptr). (‵ ftrue ⊛ ‵ (RawPtr.own_val q (v ∷ []))) ⊛ some
    (λ (ws : (Unit {0} × (Unit {0} × (Unit {0} × (Unit {0} × Unit {0})))) × Unit {0}). ‵ (lasts g.ended z.0.0 z.0.3 ws) ⊛
    (‵ (room_at q parts.start parts.len) ⊛ raw (fact 𝓤 (q ≡ parts.base.ptr))))))) (id⊢ 𝓤 _) $
    await ! tt $ pick ! (λ q. split ! $ split ! $ drop ! $ feq_l ! (λ e. lands_as ! (ap only e) refl (ptr_typed q) $
    pick ! (λ ws. split ! $ drop ! $ split ! $ move ! (1 ∷ []) $ heard ! (q ≡ parts.base.ptr) (λ there.
    -- [the room; the ticket]
    sets ! (agg ! (and_then ! (get ! refl) (and_then ! (get ! refl) (no_more !)))) refl (spot_typed q len fits) $
    returns ! (look_at ! 0 refl) $ free_all ! refl $
    let same : parts.len ≡ len = place.1 ∙ d.leased.long in
    let pointed : d.ptr ≡ q = sym (there ∙ based ∙ (λ i. d.leased.at i +ₚ d.leased.first i) ∙ unmoved d.ptr) in
    let placed : IsUnitPointer d.home q d.start len = subst (λ (u : Ptr). IsUnitPointer d.home u d.start len) pointed d.placed in
    let x : (payload_type.the_row).Denot =
    record { ptr = q; len = len; home = d.home; name = d.name; key = d.key; start = d.start; kept = 0; placed = placed; within = (omega arith, refl) } in
    rewrite ! 0 (λ (u : ℕ × ℕ). ‵ (room_at q u.0 u.1)) {x = (d.memory.start, len)} {y = (parts.start, parts.len)} (λ i. (place.0 i, same i)) refl $
    in_a_block ! q (λ (u : Ptr). room_at u d.memory.start len) (id⊢ 𝓤 (never 𝓤)) (λ b o at.
    use1 𝓛 (‵ (froom (units_ty (len / 16)) b o)) (units-returned 𝓛 b o d.memory.start len d.leased.aligned d.placed.aligned.1) $
    rewrite ! 0 (λ (u : Ptr). ‵ (room_for (units_ty (len / 16)) u)) (sym at) refl $
    rewrite ! 0 (λ (F : Fml). ‵ F) (sym (room-complete q len 0 refl)) refl $ move ! (1 ∷ 0 ∷ []) $ fjoin ! $
    use0 𝓛 (‵ (spot_own q len (spot_val q len ∷ []))) (spot_made 𝓛 q len fits) $ fjoin ! $
    suffices ! _ (ends_at 𝓛 f.ended stayed c y (spot_val q len) x (tt, ((tt, (tt, (tt, (tt, tt)))), tt)) (tt, (tt, tt))) $ says ! ((refl, refl), refl, sym d.leased.long) $
    nothing ! $ nothing ! $ join ! $ nothing ! $ join ! $ nothing ! $ done !)))))))))))))
