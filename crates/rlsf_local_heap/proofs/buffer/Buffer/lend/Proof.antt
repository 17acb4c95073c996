-- Shows that `lend` parts the last units of a block from its first places. Assumes `Logic`.
use Rattle.std.proofs.Common.{◌≡◌, ℕ, ◌+◌, ◌-◌, ◌*◌, ◌/◌, ◌^◌, ◌<◌, ◌≤◌, List, [], ◌∷◌, ◌++◌, refl, sym, ap, subst, ◌∙◌, w64}
use mir.Syntax.{Ty, Fn, Args, a_type}
use mir.Val.{Val, vint}
use mir.MapTy.{inst_fn}
use base.Fraction.{full_share}
use base.Logic.{SProp, emp, never, id⊢}
use base.Fml.{Lft, Share, ftrue, froom, flft}
use prog.Memory.{size}
use prog.Wp.{WpFn}
use contract.BorrowLft.{◌⊑◌}
use contract.Monad.{fact, fact_i}
use contract.Running.{tables}
use types.Kit.{‵, raw, ◌⊛◌, prop, ◌$◌, ◌∵◌, !, qed, by, move, keep, drop, use0, use2, split, split3, join, rewrite, regoal, fsplit, fsplit3, fjoin, fjoin3, fpick}
use types.Part.{whole, sub, agg}
use types.Run.{stop, fld, of_opd, no_more, and_then, returns, enter}
use types.ByLocal.{alloc_all, pass_all, free_all, look_at, get, get_in, sets}
use denote.RattleType.{RattleType, owns}
use denote.RawPtr.{Ptr, block_ptr, in_a_block, room_for, ◌+ₚ◌, lies_at}
use denote.Param.{param, layout, layouts}
use denote.Signature.{types_at}
use denote.Steps.{nothing, heard}
use denote.Struct.Tuple.{Tuple}
use denote.Triple.Walked.{walk_of}
use denote.Array.{Array}
use Rattle.core.proofs.ptr.Rows.{El}
use Rattle.std.proofs.raw_atomic.Walks.{proved_at, leaves}
use Rattle.rlsf_base.specs.Ledger.{extent, ticket_owns}
use Rattle.rlsf_base.specs.Steps.Ownership.{units_ty}
use Rattle.rlsf_base.specs.UnitPayload.{AreCompleteUnits, IsUnitPointer}
use Rattle.rlsf_base.specs.contracts.memory.unit_payload.UnitPayload as payload_type
use Rattle.rlsf_base.proofs.RawBlock.PointerValues.{spot_val, spot_own, spot_made}
use Rattle.rlsf_base.proofs.RawBlock.Values.{two_val, two_of}
use Rattle.rlsf_heap.specs.Heap.{Identity}
use Rattle.rlsf_heap.specs.Units.{payload_len}
use Rattle.rlsf_local_heap.specs.Ownership.{block_beside}
use Rattle.rlsf_local_heap.proofs.SmallerUnits.{array_len, block_size, block_type, lengthens, shortened, whole as in_units, list_val, list_own, list_told, list_made}
use Rattle.rlsf_heap.proofs.ThinValues.{dropped, all_go}
use Rattle.rlsf_local_heap.specs.contracts.buffer.Seats as seats
use Rattle.rlsf_local_heap.specs.contracts.buffer.Buffer.lend.{ended, clauses}
use Rattle.rlsf_local_heap.specs.contracts.buffer.Buffer.lend.Key.{name as #self}
use Rattle.rlsf_local_heap.proofs.buffer.Buffer.lend.Statement.{statement}
use Rattle.rlsf_local_heap.proofs.buffer.Buffer.lend.Code as compiled

pub lend_spec : {M : Type 1} → statement M
lend_spec 𝓤 𝓛 𝓜 𝓡 wired T L =
    let H = 𝓛.H in let En₀ = ended T in let c = clauses T 𝓛 𝓜.mem 𝓡.returns in let stays = dropped En₀.signature.params En₀.kept in
    let args : Args = layouts (a_type ∷ []) (T, tt) in let fn : Fn = inst_fn args compiled.function in
    let C = (tables 𝓤 H 𝓜 𝓡 𝓡.env).C in let Λ = (tables 𝓤 H 𝓜 𝓡 𝓡.env).Λ in
    proved_at 𝓛 En₀ stays c 𝓜 𝓡 (all_go 𝓛 1 En₀.signature.params En₀.kept ((λ κs x f. tt), ((λ κs x f. tt), ((λ κs x f. tt), tt))))
    (#self args) fn (compiled.unfolded 𝓤 H 𝓜 𝓡 wired (T, tt)) (λ z are.
    let Post : Val → SProp 𝓤 = (walk_of 𝓛 En₀ stays c).post z in let a = z.0.3 in let vss = z.0.4 in
    let κ : Lft = z.0.0.0 in let q : Share = z.0.1.0 in
    let R : RattleType = param 0 T in let E : El = record { row = T; laws = L } in let s = size (layout T) in
    let x = a.0 in let xs = x.items in let len = x.len in let cap = x.cap in
    let full = a.1.0 in
    let small = a.1.1.0 in
    let h : Identity = x.heap in
    let u : Ty = block_type E cap in
    let m = array_len E cap in
    let k = array_len E small in
    let Asked : Type 0 = (full ≡ payload_len (cap * s)) × (len ≤ small) × (small ≤ cap) in
    qed 𝓛 (((‵ (flft κ q) ⊛ ‵ ftrue) ⊛ ‵ (owns (types_at En₀.signature.params z.0.0) a vss)) ∷ (raw (fact 𝓤 (κ ⊑ T.lives)) ⊛ raw (fact 𝓤 Asked)) ∷ []) ∵
    move ! (1 ∷ []) $ split ! $ heard ! (κ ⊑ T.lives) (λ lives. heard ! Asked (λ asked. split ! $ split ! $ move ! (1 ∷ []) $ drop ! $ move ! (1 ∷ []) $
    fsplit ! $ fsplit ! $ drop ! $ fsplit3 ! $ move ! (2 ∷ []) $ fpick ! (λ start. fpick ! (λ key. fpick ! (λ is. fsplit ! $ move ! (1 ∷ []) $
    -- [what is beside; the ticket; the values; the other places; no more; κ's]
    in_a_block ! x.ptr (λ p. block_beside u p) (id⊢ 𝓤 (never 𝓤)) (λ b o e. let p : Ptr = block_ptr b o in
    rewrite ! 3 (λ (r : Ptr). ‵ (room_for (block_type E (cap - len)) (r +ₚ len * s))) e refl $
    rewrite ! 2 (λ (r : Ptr). ‵ (lies_at (Array R len) full_share r xs)) e refl $ move ! (3 ∷ 0 ∷ []) $
    use2 𝓛 (‵ (froom (block_type E (small - len)) b (o + len * s)) ⊛ (‵ (block_beside (block_type E small) p) ⊛ ‵ (froom (units_ty ((m - k) / 16)) b (o + k))))
    (shortened E 𝓛 len small cap b o asked.1 asked.2) $ split3 ! $
    -- [the places; what is beside; the units; the ticket; the values; no more; κ's]
    let told : vss.0 ≡ list_val p ∷ [] = (list_told x.ptr vss.0 are.0.0).0 ∙ ap (λ (r : Ptr). list_val r ∷ []) e in
    let as_long : m ≡ full = ap payload_len (block_size E cap) ∙ sym asked.0 in
    let fits : full < 2 ^ 64 = are.1.0.1 in
    keep ! (0 ∷ 1 ∷ 2 ∷ 3 ∷ 4 ∷ 6 ∷ []) $
    regoal ! (λ (us : List Val). prop (WpFn 𝓤 H C Λ fn us Post)) (λ i. told i ++ (are.1.0.0 i ++ (are.1.1.0.0 i ++ []))) refl $
    enter ! C Λ fn (list_val p ∷ vint w64 full ∷ vint w64 small ∷ []) Post $
    alloc_all ! (λ l. pass_all ! refl ((tt, (tt, (tt, tt))), ((tt, record { fits = are.1.0.1 }), ((tt, record { fits = are.1.1.0.1 }), tt))) $
    sets ! (of_opd ! (get_in ! (fld ! refl (stop !)) (sub ! 0 refl (whole !)))) refl (tt, tt) $
    sets ! (of_opd ! (get_in ! (fld ! refl (stop !)) (sub ! 1 refl (whole !)))) refl (tt, tt) $
    sets ! (of_opd ! (get ! refl)) refl (tt, tt) $
    sets ! (agg ! (and_then ! (get ! refl) (and_then ! (get ! refl) (no_more !)))) refl (tt, (tt, (record { fits = fits }, tt))) $
    sets ! (agg ! (and_then ! (get ! refl) (and_then ! (get ! refl) (no_more !)))) refl (tt, (tt, (tt, tt))) $
    sets ! (of_opd ! (get ! refl)) refl (tt, (tt, (record { fits = fits }, tt))) $
    sets ! (agg ! (and_then ! (get ! refl) (and_then ! (get ! refl) (no_more !)))) refl (tt, ((tt, (tt, tt)), ((tt, (record { fits = fits }, tt)), tt))) $
    returns ! (look_at ! 0 refl) $ free_all ! refl $
    let placed : IsUnitPointer h.home p start full = subst (λ (v : Ptr × ℕ). IsUnitPointer h.home v.0 start v.1) (λ i. (e i, as_long i)) is.0 in
    let within : AreCompleteUnits k full = (subst (λ (j : ℕ). k ≤ j) as_long (lengthens E 𝓛 len small cap b o asked.1 asked.2), in_units (size (block_type E small))) in
    let y : (seats.the_row R).Denot = record { ptr = p; marker = record {}; len = len; cap = small; items = xs } in
    let t : (payload_type.the_row).Denot =
    record { ptr = p; len = full; home = h.home; name = h.ledger; key = key; start = start; kept = k; placed = placed; within = within } in
    let v : Val = two_val (list_val p) (spot_val p full) in
    -- [the places; what is beside; the units; the ticket; the values; κ's]
    move ! (2 ∷ []) $ rewrite ! 0 (λ (j : ℕ). ‵ (froom (units_ty ((j - k) / 16)) b (o + k))) as_long refl $ move ! (3 ∷ []) $
    rewrite ! 0 (λ (j : ℕ). ‵ (ticket_owns h.ledger key (extent start j 16))) as_long refl $ fjoin ! $
    use0 𝓛 (‵ (spot_own p full (spot_val p full ∷ []))) (spot_made 𝓛 p full fits) $ fjoin ! $
    -- [the payload; the places; what is beside; the values; κ's]
    move ! (3 ∷ 1 ∷ 2 ∷ []) $ fjoin3 ! $ use0 𝓛 (‵ (list_own p (list_val p ∷ []))) (list_made 𝓛 p tt) $ fjoin ! $
    use2 𝓛 (‵ ((Tuple (seats.the_row R ∷ payload_type.the_row ∷ [])).own_val (y, t) (v ∷ [])))
    (two_of 𝓛 (seats.the_row R) payload_type.the_row y t (list_val p) (spot_val p full)) $
    let Made : Type 0 = (p ≡ x.ptr) × (len ≡ len) × (small ≡ small) × (xs ≡ xs) × (h ≡ h) × (p ≡ x.ptr) × (full ≡ full) × (k ≡ payload_len (small * s)) in
    nothing ! $ move ! (2 ∷ 0 ∷ []) $ join ! $ move ! (1 ∷ 0 ∷ []) $
    use0 𝓛 (raw (fact 𝓤 Made)) (fact_i 𝓤 Made (emp 𝓤) (sym e, refl, refl, refl, refl, sym e, refl, ap payload_len (block_size E small))) $
    nothing ! $ nothing ! $ fjoin ! $ nothing ! $ fjoin ! $ nothing ! $ fjoin ! $ move ! (3 ∷ 0 ∷ 2 ∷ 1 ∷ []) $
    by ! (leaves 𝓛 En₀ stays c z v (y, t) (tt, (tt, (tt, tt))) (tt, (tt, (tt, tt))))))))))))
