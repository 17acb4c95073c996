-- Shows that `with` puts the places of a block and the units behind them together. Assumes `Logic`.
use Rattle.std.proofs.Common.{◌≡◌, ℕ, ◌+◌, ◌-◌, ◌*◌, ◌/◌, ◌^◌, ◌<◌, ◌≤◌, List, [], ◌∷◌, ◌++◌, refl, sym, ap, subst, ◌∙◌, w64}
use mir.Syntax.{Ty, Fn, Args, a_type}
use mir.Val.{Val, vint}
use mir.MapTy.{inst_fn}
use base.Fraction.{full_share}
use base.Logic.{SProp, emp, never, id⊢}
use base.Fml.{Lft, Share, ftrue, fsep, fex, froom, flft}
use prog.Memory.{size}
use prog.Wp.{WpFn}
use contract.BorrowLft.{◌⊑◌}
use contract.Monad.{fact, fact_i}
use contract.Running.{tables}
use types.Kit.{‵, raw, ◌⊛◌, prop, ◌$◌, ◌∵◌, !, qed, by, move, keep, drop, use0, use3, split, split3, join, rewrite, regoal, fsplit, fsplit3, fjoin, fjoin3, fpack}
use types.Part.{whole, sub, agg}
use types.Run.{stop, fld, of_opd, no_more, and_then, returns, enter}
use types.ByLocal.{alloc_all, pass_all, free_all, look_at, get, get_in, sets}
use denote.RattleType.{RattleType, owns}
use denote.RawPtr.{Ptr, block_ptr, in_a_block, room_for, ◌+ₚ◌, lies_at}
use denote.Param.{param, layout, layouts}
use denote.Signature.{types_at}
use denote.Steps.{nothing, heard}
use denote.Triple.Walked.{walk_of}
use denote.Array.{Array}
use Rattle.core.proofs.ptr.Rows.{El}
use Rattle.std.proofs.raw_atomic.Walks.{proved_at, leaves}
use Rattle.rlsf_base.specs.Ledger.{extent, ticket_owns}
use Rattle.rlsf_base.specs.Steps.Ownership.{units_ty}
use Rattle.rlsf_base.specs.UnitPayload.{IsUnitPointer}
use Rattle.rlsf_base.proofs.RawBlock.PointerValues.{spot_val, spot_told}
use Rattle.rlsf_heap.specs.Heap.{Identity}
use Rattle.rlsf_heap.specs.Units.{identity_of, payload_len}
use Rattle.rlsf_local_heap.specs.Ownership.{block_beside}
use Rattle.rlsf_local_heap.proofs.SmallerUnits.{array_len, block_size, block_type, stretched, list_val, list_own, list_told, list_made}
use Rattle.rlsf_heap.proofs.ThinValues.{dropped, all_go}
use Rattle.rlsf_local_heap.specs.contracts.buffer.Buffer as buffer
use Rattle.rlsf_local_heap.specs.contracts.buffer.Seats.with.{ended, clauses}
use Rattle.rlsf_local_heap.specs.contracts.buffer.Seats.with.Key.{name as #self}
use Rattle.rlsf_local_heap.proofs.buffer.Seats.with.Statement.{statement}
use Rattle.rlsf_local_heap.proofs.buffer.Seats.with.Code as compiled

pub with_spec : {M : Type 1} → statement M
with_spec 𝓤 𝓛 𝓜 𝓡 wired T L =
    let H = 𝓛.H in let En₀ = ended T in let c = clauses T 𝓛 𝓜.mem 𝓡.returns in let stays = dropped En₀.signature.params En₀.kept in
    let args : Args = layouts (a_type ∷ []) (T, tt) in let fn : Fn = inst_fn args compiled.function in
    let C = (tables 𝓤 H 𝓜 𝓡 𝓡.env).C in let Λ = (tables 𝓤 H 𝓜 𝓡 𝓡.env).Λ in
    proved_at 𝓛 En₀ stays c 𝓜 𝓡 (all_go 𝓛 1 En₀.signature.params En₀.kept ((λ κs x f. tt), ((λ κs x f. tt), ((λ κs x f. tt), tt))))
    (#self args) fn (compiled.unfolded 𝓤 H 𝓜 𝓡 wired (T, tt)) (λ z are.
    let Post : Val → SProp 𝓤 = (walk_of 𝓛 En₀ stays c).post z in let a = z.0.3 in let vss = z.0.4 in
    let κ : Lft = z.0.0.0 in let q : Share = z.0.1.0 in
    let R : RattleType = param 0 T in let E : El = record { row = T; laws = L } in let s = size (layout T) in
    let x = a.0 in let xs = x.items in let len = x.len in let small = x.cap in
    let t = a.1.0 in
    let cap = a.1.1.0 in
    let h : Identity = identity_of t in
    let u : Ty = block_type E cap in
    let m = array_len E cap in
    let k = array_len E small in
    let Place : Type 0 = (t.ptr ≡ x.ptr) × (t.len ≡ payload_len (cap * s)) × (t.kept ≡ payload_len (small * s)) in
    let Sizes : Type 0 = (len ≤ small) × (small ≤ cap) × (cap * s < 2 ^ 63) in
    let Token = λ (h : Identity) (u : Ty) (p : Ptr) (j k : ℕ). fex (IsUnitPointer h.home p j (payload_len (size u)) × (size u < 2 ^ 63))
    (λ _. fsep (ticket_owns h.ledger k (extent j (payload_len (size u)) 16)) (block_beside u p)) in
    qed 𝓛 (((‵ (flft κ q) ⊛ ‵ ftrue) ⊛ ‵ (owns (types_at En₀.signature.params z.0.0) a vss))
    ∷ (raw (fact 𝓤 (κ ⊑ T.lives)) ⊛ raw (fact 𝓤 Place) ⊛ raw (fact 𝓤 Sizes)) ∷ []) ∵
    move ! (1 ∷ []) $ split3 ! $ heard ! (κ ⊑ T.lives) (λ lives. heard ! Place (λ asked. heard ! Sizes (λ sizes. split ! $ split ! $ move ! (1 ∷ []) $ drop ! $ move ! (1 ∷ []) $
    fsplit ! $ fsplit ! $ drop ! $ fsplit3 ! $ move ! (3 ∷ []) $ fsplit ! $ fsplit ! $ drop ! $ fsplit ! $ move ! (5 ∷ []) $
    -- [what is beside; the ticket; the units; no more; the values; the places; κ's]
    in_a_block ! x.ptr (λ p. block_beside (block_type E small) p) (id⊢ 𝓤 (never 𝓤)) (λ b o e. let p : Ptr = block_ptr b o in
    let long : t.len ≡ m = asked.1 ∙ ap payload_len (sym (block_size E cap)) in let kept : t.kept ≡ k = asked.2 ∙ ap payload_len (sym (block_size E small)) in
    let at : t.ptr ≡ p = asked.0 ∙ e in
    rewrite ! 2 (λ (v : Ptr × ℕ × ℕ). ‵ (room_for (units_ty ((v.1 - v.2) / 16)) (v.0 +ₚ v.2))) (λ i. (at i, long i, kept i)) refl $
    rewrite ! 1 (λ (j : ℕ). ‵ (ticket_owns h.ledger t.key (extent t.start j 16))) long refl $
    rewrite ! 5 (λ (r : Ptr). ‵ (room_for (block_type E (small - len)) (r +ₚ len * s))) e refl $
    rewrite ! 4 (λ (r : Ptr). ‵ (lies_at (Array R len) full_share r xs)) e refl $ move ! (5 ∷ 0 ∷ 2 ∷ []) $
    use3 𝓛 (‵ (froom (block_type E (cap - len)) b (o + len * s)) ⊛ ‵ (block_beside u p)) (stretched E 𝓛 len small cap b o sizes.0 sizes.1) $ split ! $
    -- [the places; what is beside; the ticket; no more; the values; κ's]
    move ! (2 ∷ 1 ∷ []) $ fjoin ! $
    let placed : IsUnitPointer h.home p t.start m = subst (λ (v : Ptr × ℕ). IsUnitPointer h.home v.0 t.start v.1) (λ i. (at i, long i)) t.placed in
    let short : size u < 2 ^ 63 = subst (λ (j : ℕ). j < 2 ^ 63) (sym (block_size E cap)) sizes.2 in
    fpack ! (IsUnitPointer h.home p t.start m × (size u < 2 ^ 63)) (λ _. fsep (ticket_owns h.ledger t.key (extent t.start m 16)) (block_beside u p)) (placed, short) $
    fpack ! ℕ (λ i. Token h u p t.start i) t.key $ fpack ! ℕ (λ j. fex ℕ (λ i. Token h u p j i)) t.start $
    -- [the token; the places; no more; the values; κ's]
    move ! (3 ∷ 1 ∷ 0 ∷ []) $ fjoin3 ! $ keep ! (0 ∷ 2 ∷ []) $
    let told : vss.0 ≡ list_val p ∷ [] = (list_told x.ptr vss.0 are.0.0).0 ∙ ap (λ (r : Ptr). list_val r ∷ []) e in
    let other = spot_told t.ptr t.len vss.1.0 are.1.0.0 in
    regoal ! (λ (us : List Val). prop (WpFn 𝓤 H C Λ fn us Post)) (λ i. told i ++ ((other.0 ∙ ap (λ (r : Ptr). spot_val r t.len ∷ []) at) i ++ (are.1.1.0.0 i ++ []))) refl $
    enter ! C Λ fn (list_val p ∷ spot_val p t.len ∷ vint w64 cap ∷ []) Post $
    alloc_all ! (λ l. pass_all ! refl ((tt, (tt, (tt, tt))), ((tt, (tt, (record { fits = other.1 }, tt))), ((tt, record { fits = are.1.1.0.1 }), tt))) $
    sets ! (of_opd ! (get_in ! (fld ! refl (stop !)) (sub ! 0 refl (whole !)))) refl (tt, tt) $
    sets ! (of_opd ! (get_in ! (fld ! refl (stop !)) (sub ! 1 refl (whole !)))) refl (tt, tt) $
    sets ! (agg ! (and_then ! (get ! refl) (and_then ! (get ! refl) (no_more !)))) refl (tt, (tt, (tt, tt))) $
    returns ! (look_at ! 0 refl) $ free_all ! refl $
    let y : (buffer.the_row R).Denot = record { ptr = p; marker = record {}; heap = h; len = len; cap = cap; items = xs } in
    use0 𝓛 (‵ (list_own p (list_val p ∷ []))) (list_made 𝓛 p tt) $ fjoin ! $
    let Made : Type 0 = (p ≡ x.ptr) × (h ≡ h) × (len ≡ len) × (cap ≡ cap) × (xs ≡ xs) in
    nothing ! $ move ! (2 ∷ 0 ∷ []) $ join ! $ move ! (1 ∷ 0 ∷ []) $ use0 𝓛 (raw (fact 𝓤 Made)) (fact_i 𝓤 Made (emp 𝓤) (sym e, refl, refl, refl, refl)) $
    nothing ! $ nothing ! $ fjoin ! $ nothing ! $ fjoin ! $ nothing ! $ fjoin ! $ move ! (3 ∷ 0 ∷ 2 ∷ 1 ∷ []) $
    by ! (leaves 𝓛 En₀ stays c z (list_val p) y (tt, (tt, (tt, tt))) (tt, (tt, (tt, tt))))))))))
