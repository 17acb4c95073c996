-- Shows that `move_to` moves the values, and puts the old block's places and the units behind them together. Assumes `Logic`.
use Rattle.std.proofs.Common.{◌≡◌, ℕ, ◌+◌, ◌-◌, ◌*◌, ◌/◌, ◌^◌, ◌<◌, ◌≤◌, List, [], ◌∷◌, ◌++◌, refl, sym, ap, subst, ◌∙◌, arith, w64}
use mir.Syntax.{Ty, Fn, Args, a_type, place, ty_array}
use mir.Val.{Val, vint, vunit}
use mir.MapTy.{inst_fn}
use base.Fraction.{full_share}
use base.Logic.{SProp, emp, never, id⊢}
use base.Fml.{Fml, Lft, Share, ftrue, fsep, fex, froom, flft}
use prog.Memory.{size}
use prog.Wp.{Env, WpFn}
use contract.BorrowLft.{◌⊑◌}
use contract.Monad.{fact, fact_i}
use contract.Running.{tables}
use types.Kit.{‵, raw, ◌⊛◌, given, later, prop, settles, at_ret, ◌$◌, ◌∵◌, !, qed, by, move, keep, drop, use0, use1, use2, use3, split, split3, join}
use types.Kit.{learn, rewrite, regoal, fsplit, fsplit3, fjoin, fjoin3, fpick, fpack, await}
use types.Part.{whole, sub, agg}
use types.Run.{stop, fld, of_opd, no_more, and_then, first, blocks, exec, returns, enter}
use types.ByLocal.{alloc_all, pass_all, free_all, look_at, get, get_in, sets, lands_last, env}
use denote.RattleType.{RattleType, owns}
use denote.RawPtr.{Ptr, block_ptr, in_a_block, room_for, ◌+ₚ◌, lies_at}
use denote.Memory.{part_at}
use denote.Param.{param, layout, layouts}
use denote.Signature.{types_at}
use denote.Steps.{nothing, heard}
use denote.Struct.Tuple.{Tuple}
use denote.Triple.Call.{calls_at_last}
use denote.Triple.Walked.{walk_of}
use denote.Array.{Array}
use Rattle.core.proofs.alloc.Shapes.{after}
use Rattle.core.proofs.atomic.Steps.{fm}
use Rattle.core.proofs.ptr.Rows.{El, times_below}
use Rattle.core.proofs.alloc.Moves.{Copies, at_copies, Copies-goes, Copies-gives}
use Rattle.core.proofs.ptr.copy_nonoverlapping.Met as callee
use Rattle.std.proofs.raw_atomic.Walks.{proved_at, leaves}
use Rattle.std.specs.Allocator.{block_with_items}
use Rattle.rlsf_base.specs.Ledger.{extent, ticket_owns}
use Rattle.rlsf_base.specs.Steps.Ownership.{units_ty}
use Rattle.rlsf_base.specs.UnitPayload.{IsUnitPointer}
use Rattle.rlsf_base.specs.contracts.memory.unit_payload.UnitPayload as payload_type
use Rattle.rlsf_base.proofs.RawBlock.PointerValues.{room-complete, spot_val, spot_own, spot_told, spot_made}
use Rattle.rlsf_base.proofs.RawBlock.Values.{two_val, two_of}
use Rattle.rlsf_base.proofs.RawBlock.Walks.{then_runs, out_of_block}
use Rattle.rlsf_heap.specs.Heap.{Identity}
use Rattle.rlsf_heap.specs.Units.{IsCompleteOf, identity_of, payload_len}
use Rattle.rlsf_local_heap.specs.Ownership.{block_beside, block_token}
use Rattle.rlsf_local_heap.proofs.SmallerUnits.{handed, returned, array_len, block_size, block_type, emptied, parted, holds, whole as in_units, list_val, list_own, list_told}
use Rattle.rlsf_local_heap.proofs.SmallerUnits.{list_made}
use Rattle.rlsf_heap.proofs.ThinValues.{dropped, all_go}
use Rattle.rlsf_local_heap.specs.contracts.buffer.Buffer as buffer
use Rattle.rlsf_local_heap.specs.contracts.buffer.Buffer.move_to.{ended, clauses}
use Rattle.rlsf_local_heap.specs.contracts.buffer.Buffer.move_to.Key.{name as #self}
use Rattle.rlsf_local_heap.proofs.buffer.Buffer.move_to.Statement.{statement}
use Rattle.rlsf_local_heap.proofs.buffer.Buffer.move_to.Code as compiled

pub move_to_spec : {M : Type 1} → statement M
move_to_spec 𝓤 𝓛 𝓜 𝓡 wired T L =
    let H = 𝓛.H in let En₀ = ended T in let c = clauses T 𝓛 𝓜.mem 𝓡.returns in let stays = dropped En₀.signature.params En₀.kept in
    let args : Args = layouts (a_type ∷ []) (T, tt) in let fn : Fn = inst_fn args compiled.function in
    let C = (tables 𝓤 H 𝓜 𝓡 𝓡.env).C in let Λ = (tables 𝓤 H 𝓜 𝓡 𝓡.env).Λ in
    proved_at 𝓛 En₀ stays c 𝓜 𝓡 (all_go 𝓛 1 En₀.signature.params En₀.kept ((λ κs x f. tt), ((λ κs x f. tt), ((λ κs x f. tt), ((λ κs x f. tt), ((λ κs x f. tt), tt))))))
    (#self args) fn (compiled.unfolded 𝓤 H 𝓜 𝓡 wired (T, tt)) (λ z are.
    let Post : Val → SProp 𝓤 = (walk_of 𝓛 En₀ stays c).post z in let a = z.0.3 in let vss = z.0.4 in
    let κ : Lft = z.0.0.0 in let q : Share = z.0.1.0 in
    let R : RattleType = param 0 T in let E : El = record { row = T; laws = L } in let τ : Ty = layout T in let s = size τ in
    let x = a.0 in let xs = x.items in let cap = x.cap in
    let w = a.1.0 in
    let len = a.1.1.0 in
    let full = a.1.1.1.0 in
    let cap' = a.1.1.1.1.0 in
    let h : Identity = x.heap in
    let h' : Identity = identity_of w in
    let u : Ty = block_type E cap in
    let u' : Ty = block_type E cap' in
    let m = array_len E cap in
    let m' = array_len E cap' in
    let Long : Type 0 = (w.len ≡ payload_len (cap' * s)) × (w.kept ≡ 0) in
    let Sizes : Type 0 = (len ≡ x.len) × (len ≤ cap') × (len ≤ cap) × (cap' * s < 2 ^ 63) × (full ≡ payload_len (cap * s)) in
    let Token = λ (g : Identity) (v : Ty) (p : Ptr) (j k : ℕ). fex (IsUnitPointer g.home p j (payload_len (size v)) × (size v < 2 ^ 63))
    (λ _. fsep (ticket_owns g.ledger k (extent j (payload_len (size v)) 16)) (block_beside v p)) in
    qed 𝓛 (((‵ (flft κ q) ⊛ ‵ ftrue) ⊛ ‵ (owns (types_at En₀.signature.params z.0.0) a vss))
    ∷ (raw (fact 𝓤 (κ ⊑ T.lives)) ⊛ raw (fact 𝓤 Long) ⊛ raw (fact 𝓤 Sizes)) ∷ []) ∵
    move ! (1 ∷ []) $ split3 ! $ heard ! (κ ⊑ T.lives) (λ lives. heard ! Long (λ asked. heard ! Sizes (λ sizes. split ! $ split ! $ move ! (1 ∷ []) $ drop ! $ move ! (1 ∷ []) $
    fsplit ! $ fsplit ! $ drop ! $ rewrite ! 0 (λ (j : ℕ). ‵ (block_with_items (block_token h) R x.ptr j cap xs)) (sym sizes.0) refl $
    fsplit3 ! $ move ! (2 ∷ []) $ fpick ! (λ start. fpick ! (λ key. fpick ! (λ is. fsplit ! $ move ! (1 ∷ []) $
    -- [what is beside; the ticket; the values; the places; the payload and the numbers; κ's]
    in_a_block ! x.ptr (λ p. block_beside u p) (id⊢ 𝓤 (never 𝓤)) (λ b o e. let old : Ptr = block_ptr b o in
    rewrite ! 3 (λ (r : Ptr). ‵ (room_for (block_type E (cap - len)) (r +ₚ len * s))) e refl $
    rewrite ! 2 (λ (r : Ptr). ‵ (lies_at (Array R len) full_share r xs)) e refl $ move ! (4 ∷ []) $
    fsplit ! $ fsplit ! $ drop ! $ fsplit ! $ move ! (1 ∷ []) $
    -- [the new units; their ticket; the numbers; what is beside; the ticket; the values; the places; κ's]
    rewrite ! 0 (λ (F : Fml). ‵ F) (room-complete w.ptr w.len w.kept asked.1) refl $
    in_a_block ! w.ptr (λ p. room_for (units_ty (w.len / 16)) p) (id⊢ 𝓤 (never 𝓤)) (λ b' o' e'. let new : Ptr = block_ptr b' o' in
    let long : w.len ≡ m' = asked.0 ∙ ap payload_len (sym (block_size E cap')) in
    let as_long : m ≡ full = ap payload_len (block_size E cap) ∙ sym sizes.4 in
    rewrite ! 0 (λ (j : ℕ). ‵ (froom (units_ty (j / 16)) b' o')) long refl $
    rewrite ! 1 (λ (j : ℕ). ‵ (ticket_owns w.name w.key (extent w.start j 16))) long refl $
    use1 𝓛 (‵ (froom u' b' o') ⊛ ‵ (block_beside u' new)) (handed 𝓛 u' b' o' m' (holds (size u')) (in_units (size u'))) $ split ! $
    use1 𝓛 (‵ (froom (ty_array τ len) b' o') ⊛ ‵ (froom (block_type E (cap' - len)) b' (o' + len * s))) (parted E 𝓛 len cap' b' o' sizes.1) $ split ! $
    -- [new room for the values; the other new places; what is beside; the new ticket; the numbers; beside the old; its ticket; the values; the old places; κ's]
    let told : vss.0 ≡ list_val old ∷ [] = (list_told x.ptr vss.0 are.0.0).0 ∙ ap (λ (r : Ptr). list_val r ∷ []) e in
    let other = spot_told w.ptr w.len vss.1.0 are.1.0.0 in
    regoal ! (λ (us : List Val). prop (WpFn 𝓤 H C Λ fn us Post))
    (λ i. told i ++ ((other.0 ∙ ap (λ (r : Ptr). spot_val r w.len ∷ []) e') i ++ (are.1.1.0.0 i ++ (are.1.1.1.0.0 i ++ (are.1.1.1.1.0.0 i ++ []))))) refl $
    enter ! C Λ fn (list_val old ∷ spot_val new w.len ∷ vint w64 len ∷ vint w64 full ∷ vint w64 cap' ∷ []) Post $
    alloc_all ! (λ l. pass_all ! refl (
      (tt, (tt, (tt, tt))),
      (
        (tt, (tt, (record { fits = other.1 }, tt))),
        (
          (tt, record { fits = are.1.1.0.1 }),
          ((tt, record { fits = are.1.1.1.0.1 }), ((tt, record { fits = are.1.1.1.1.0.1 }), tt)),
        ),
      ),
    ) $ let En : Env 𝓤 𝓛.H = env fn.locals l in
    move ! (7 ∷ 0 ∷ 9 ∷ []) $
    sets ! (of_opd ! (get_in ! (fld ! refl (stop !)) (sub ! 0 refl (whole !)))) refl (tt, tt) $
    sets ! (of_opd ! (get_in ! (fld ! refl (stop !)) (sub ! 1 refl (whole !)))) refl (tt, tt) $
    sets ! (of_opd ! (get_in ! (fld ! refl (stop !)) (sub ! 0 refl (whole !)))) refl (tt, tt) $
    sets ! (of_opd ! (get ! refl)) refl (tt, tt) $
    first ! $ blocks ! $
    let y = at_copies T 𝓛 𝓜.mem 𝓡.returns κ q b o b' o' len xs in
    use3 𝓛 (raw ((Copies T 𝓛 𝓜.mem 𝓡.returns).pre y))
    (Copies-goes T 𝓛 𝓜.mem 𝓡.returns κ q b o b' o' len xs lives are.1.1.0.1 (times_below len cap' s (2 ^ 63) sizes.1 sizes.3)) $
    calls_at_last ! (fm 𝓛 𝓜 𝓡) (Copies T 𝓛 𝓜.mem 𝓡.returns) (callee.met 𝓤 𝓛 𝓜 𝓡 (compiled.calls-core::ptr::copy_nonoverlapping 𝓡.env wired) T L) y
    (and_then ! (get ! refl) (and_then ! (get ! refl) (and_then ! (get ! refl) (no_more !)))) (λ v'.
    use1 𝓛 (later (given (v' ≡ vunit) (‵ (part_at (Array R len) full_share xs b' o') ⊛ ‵ (froom (ty_array τ len) b o) ⊛ ‵ (flft κ q))))
    (Copies-gives T 𝓛 𝓜.mem 𝓡.returns κ q b o b' o' len xs v') $
    await ! tt $ learn ! (λ ev. split3 ! $
    regoal ! (λ (v'' : Val). settles En (place 11 []) v'' (out_of_block 𝓛 (then_runs 𝓛 C Λ En (after 5 fn.body) (at_ret En Post)))) (ev) refl $ lands_last ! refl (tt, tt) $
    exec ! C Λ En (after 5 fn.body) (at_ret En Post) $
    sets ! (of_opd ! (get ! refl)) refl (tt, tt) $
    sets ! (agg ! (and_then ! (get ! refl) (and_then ! (get ! refl) (no_more !)))) refl (tt, (tt, (record { fits = are.1.1.1.0.1 }, tt))) $
    sets ! (agg ! (and_then ! (get ! refl) (and_then ! (get ! refl) (no_more !)))) refl (tt, (tt, (tt, tt))) $
    sets ! (of_opd ! (get ! refl)) refl (tt, (tt, (record { fits = are.1.1.1.0.1 }, tt))) $
    sets ! (agg ! (and_then ! (get ! refl) (and_then ! (get ! refl) (no_more !)))) refl (tt, ((tt, (tt, tt)), ((tt, (record { fits = are.1.1.1.0.1 }, tt)), tt))) $
    -- [the values; old room for them; κ's; the other new places; what is beside; the new ticket; the numbers; beside the old; its ticket; the old places]
    move ! (1 ∷ 9 ∷ []) $ use2 𝓛 (‵ (froom u b o)) (emptied E 𝓛 len cap b o sizes.2) $ move ! (0 ∷ 7 ∷ []) $
    use2 𝓛 (‵ (froom (units_ty (m / 16)) b o)) (returned 𝓛 u b o m (holds (size u)) (in_units (size u))) $
    -- [the old units; the values; κ's; the other new places; what is beside; the new ticket; the numbers; the old ticket]
    returns ! (look_at ! 0 refl) $ free_all ! refl $
    rewrite ! 0 (λ (j : ℕ). ‵ (froom (units_ty (j / 16)) b o)) as_long refl $
    rewrite ! 0 (λ (F : Fml). ‵ F) (sym (room-complete old full 0 refl)) refl $ move ! (7 ∷ []) $
    rewrite ! 0 (λ (j : ℕ). ‵ (ticket_owns h.ledger key (extent start j 16))) as_long refl $ fjoin ! $
    use0 𝓛 (‵ (spot_own old full (spot_val old full ∷ []))) (spot_made 𝓛 old full are.1.1.1.0.1) $ fjoin ! $
    -- [the old payload; the values; κ's; the other new places; what is beside; the new ticket; the numbers]
    move ! (5 ∷ 4 ∷ []) $ fjoin ! $
    let placed' : IsUnitPointer h'.home new w.start m' = subst (λ (v : Ptr × ℕ). IsUnitPointer h'.home v.0 w.start v.1) (λ i. (e' i, long i)) w.placed in
    let short : size u' < 2 ^ 63 = subst (λ (j : ℕ). j < 2 ^ 63) (sym (block_size E cap')) sizes.3 in
    fpack ! (IsUnitPointer h'.home new w.start m' × (size u' < 2 ^ 63)) (λ _. fsep (ticket_owns h'.ledger w.key (extent w.start m' 16)) (block_beside u' new)) (placed', short) $
    fpack ! ℕ (λ i. Token h' u' new w.start i) w.key $ fpack ! ℕ (λ j. fex ℕ (λ i. Token h' u' new j i)) w.start $
    -- [the new token; the old payload; the values; κ's; the other new places; the numbers]
    move ! (2 ∷ 4 ∷ 0 ∷ []) $ fjoin3 ! $ use0 𝓛 (‵ (list_own new (list_val new ∷ []))) (list_made 𝓛 new tt) $ fjoin ! $
    let placed : IsUnitPointer h.home old start full = subst (λ (v : Ptr × ℕ). IsUnitPointer h.home v.0 start v.1) (λ i. (e i, as_long i)) is.0 in
    let r : (buffer.the_row R).Denot = record { ptr = new; marker = record {}; heap = h'; len = len; cap = cap'; items = xs } in
    let back : (payload_type.the_row).Denot =
    record { ptr = old; len = full; home = h.home; name = h.ledger; key = key; start = start; kept = 0; placed = placed; within = (omega arith, refl) } in
    let v : Val = two_val (list_val new) (spot_val old full) in
    use2 𝓛 (‵ ((Tuple (buffer.the_row R ∷ payload_type.the_row ∷ [])).own_val (r, back) (v ∷ [])))
    (two_of 𝓛 (buffer.the_row R) payload_type.the_row r back (list_val new) (spot_val old full)) $ keep ! (0 ∷ 1 ∷ []) $
    let Made : Type 0 = (h' ≡ h') × (len ≡ len) × (cap' ≡ cap') × (xs ≡ xs) × IsCompleteOf back h in
    nothing ! $ move ! (2 ∷ 0 ∷ []) $ join ! $ move ! (1 ∷ 0 ∷ []) $ use0 𝓛 (raw (fact 𝓤 Made)) (fact_i 𝓤 Made (emp 𝓤) (refl, refl, refl, refl, (refl, refl))) $
    nothing ! $ nothing ! $ fjoin ! $ nothing ! $ fjoin ! $ nothing ! $ fjoin ! $ nothing ! $ fjoin ! $ nothing ! $ fjoin ! $ move ! (3 ∷ 0 ∷ 2 ∷ 1 ∷ []) $
    by ! (leaves 𝓛 En₀ stays c z v (r, back) (tt, (tt, (tt, (tt, (tt, tt))))) (tt, (tt, (tt, (tt, (tt, tt))))))))))))))))))
