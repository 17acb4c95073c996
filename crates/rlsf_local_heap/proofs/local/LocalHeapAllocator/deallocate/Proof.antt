-- Shows that `deallocate` turns the room into the payload's units again, and gives the payload to the heap. Assumes `Logic`.
use Rattle.std.proofs.Common.{◌≡◌, ℕ, ◌^◌, ◌<◌, ◌/◌, List, [], ◌∷◌, ◌++◌, refl, sym, ap, subst, ◌∙◌, arith, w64}
use mir.Syntax.{Ty, Fn, Args, a_type, dcons, dnil}
use mir.MapTy.{inst_fn}
use mir.Val.{Val, vint, vptr, vunit}
use base.Logic.{SProp, emp, id⊢, never}
use base.Fml.{Fml, ftrue, froom}
use contract.BorrowLft.{◌⊑◌}
use prog.Memory.{size, align, capped}
use prog.Capped.{capped_is}
use prog.Wp.{Env, WpFn}
use contract.Monad.{fact, fact_i}
use contract.Running.{tables}
use types.Kit.{‵, raw, ◌⊛◌, some, later, prop, ◌$◌, ◌∵◌, !, qed, by, move, keep, drop, use0, use1, use2, split, split3, join, pick, rewrite, regoal, fsplit}
use types.Kit.{fjoin, fpick, feq_l, feq_i, flt_i, await}
use types.Part.{agg}
use types.Run.{unit_lit, of_opd, no_more, and_then, returns, enter}
use types.ByLocal.{alloc_all, pass_all, free_all, look_at, get, sets, lands_as, env}
use denote.RattleType.{owns}
use denote.Builtin.{usize, unit}
use denote.RawPtr.{Ptr, block_ptr, ptr_val, room_for, in_a_block}
use denote.Param.{bounded}
use denote.Signature.{types_at}
use denote.Steps.{nothing, only, heard}
use denote.Triple.Entry.{alive}
use denote.Triple.Spec.{triple_of}
use denote.Triple.Call.{calls_at}
use denote.Triple.Clauses.{Lasts, lasts}
use denote.Triple.Walked.{walk_of}
use Rattle.core.proofs.atomic.Steps.{fm}
use Rattle.std.proofs.raw_atomic.Walks.{proved_at, leaves}
use Rattle.rlsf_base.specs.Steps.Ownership.{units_ty}
use Rattle.rlsf_base.specs.UnitPayload.{IsUnitPointer}
use Rattle.rlsf_base.specs.contracts.memory.unit_payload.UnitPayload as payload
use Rattle.rlsf_base.proofs.RawBlock.PointerValues.{room-complete, spot_val, spot_own, spot_made}
use Rattle.rlsf_heap.specs.Heap.{Identity}
use Rattle.rlsf_heap.specs.Units.{IsCompleteOf, payload_len}
use Rattle.rlsf_heap.specs.contracts.unit_payload_len as sizer
use Rattle.rlsf_heap.proofs.unit_payload_len.Met.{met as sizes}
use Rattle.rlsf_local_heap.specs.Ownership.{block_beside, block_token}
use Rattle.rlsf_local_heap.proofs.SmallerUnits.{returned, holds, whole}
use Rattle.rlsf_local_heap.specs.contracts.local.LocalHeap.give as callee
use Rattle.rlsf_local_heap.proofs.local.LocalHeap.give.Met.{met as gives}
use Rattle.rlsf_heap.proofs.ThinValues.{dropped, all_go}
use Rattle.rlsf_local_heap.specs.contracts.local.LocalHeapAllocator.deallocate.{ended, clauses}
use Rattle.rlsf_local_heap.specs.contracts.local.LocalHeapAllocator.deallocate.Key.{name as #self}
use Rattle.rlsf_local_heap.proofs.local.LocalHeapAllocator.deallocate.Statement.{statement}
use Rattle.rlsf_local_heap.proofs.local.LocalHeapAllocator.deallocate.Code as compiled

pub deallocate_spec : {M : Type 1} → statement M
deallocate_spec 𝓤 𝓛 𝓜 𝓡 wired T L gU dU gI dI dd mU mI md =
    let H = 𝓛.H in
    let args : Args = bounded (a_type ∷ []) (T, tt) (dcons dU (dcons dI (dcons dd dnil))) in
    let En₀ = ended T gU dU gI dI dd in
    let c = clauses T gU dU gI dI dd 𝓛 𝓜.mem 𝓡.returns in
    let fn : Fn = inst_fn args compiled.function in
    let stays = dropped En₀.signature.params En₀.kept in
    let C = (tables 𝓤 H 𝓜 𝓡 𝓡.env).C in
    let Λ = (tables 𝓤 H 𝓜 𝓡 𝓡.env).Λ in
    proved_at 𝓛 En₀ stays c 𝓜 𝓡 (all_go 𝓛 2 En₀.signature.params En₀.kept ((λ κs x f. tt), ((λ κs x f. tt), ((λ κs x f. tt), ((λ κs x f. tt), tt))))) (#self args) fn
    (compiled.unfolded 𝓤 H 𝓜 𝓡 wired (T, tt) dU dI dd) (λ z are.
    let Post : Val → SProp 𝓤 = (walk_of 𝓛 En₀ stays c).post z in
    let a = z.0.3 in
    let vss = z.0.4 in
    let r : Identity = a.0.now.slot.heap in
    let τ : Ty = z.1 in
    let from = a.1.0 in
    let n = a.1.1.0 in
    let al = a.1.1.1.0 in
    let m = payload_len (size τ) in
    let me : Val = vptr a.0.ref_ptr.0 a.0.ref_ptr.1 in
    let k₀ = triple_of 𝓛 sizer.signature (sizer.spec 𝓛 𝓜.mem 𝓡.returns) in
    let y₀ : k₀.Ghost = ((tt, tt, tt, (n, tt), (vint w64 n ∷ [], tt)), tt) in
    let k = triple_of 𝓛 (callee.signature T gU dU gI dI dd) (callee.spec T gU dU gI dI dd 𝓛 𝓜.mem 𝓡.returns) in
    let gave = callee.ended T gU dU gI dI dd in
    let Asked : Type 0 = (capped (size τ) ≡ n) × (capped (align τ) ≡ al) in
    let Lives : Type 0 = z.0.0.1.0 ⊑ T.lives in
    qed 𝓛 ((raw (alive 𝓛 En₀.signature z.0.0 z.0.1) ⊛ ‵ (owns (types_at En₀.signature.params z.0.0) a vss))
    ∷ (raw (fact 𝓤 Lives) ⊛ (raw (fact 𝓤 Asked) ⊛ (‵ (room_for τ from) ⊛ ‵ (block_token r τ from)))) ∷ []) ∵
    move ! (1 ∷ []) $ split ! $ heard ! Lives (λ lives. split3 ! $ heard ! Asked (λ asked.
    move ! (1 ∷ []) $ fpick !
    (λ start. fpick ! (λ key. fpick ! (λ is. fsplit ! $ move ! (2 ∷ 1 ∷ []) $ in_a_block ! from (λ p. room_for τ p) (id⊢ 𝓤 (never 𝓤)) (λ b o e.
    rewrite ! 1 (λ (p : Ptr). ‵ (block_beside τ p)) e refl $
    use2 𝓛 (‵ (froom (units_ty (m / 16)) b o)) (returned 𝓛 τ b o m (holds (size τ)) (whole (size τ))) $
    rewrite ! 0 (λ (F : Fml). ‵ F) (sym (room-complete (block_ptr b o) m 0 refl)) refl $
    move ! (1 ∷ 0 ∷ []) $ fjoin ! $
    let p : Ptr = block_ptr b o in let short : size τ < 2 ^ 63 = is.1 in let same : size τ ≡ n = sym (capped_is (size τ) (omega arith)) ∙ asked.0 in
    let placed : IsUnitPointer r.home p start m = subst (λ (u : Ptr). IsUnitPointer r.home u start m) e is.0 in
    move ! (1 ∷ []) $ split ! $ move ! (1 ∷ []) $ fsplit ! $ fsplit ! $ keep ! (4 ∷ 1 ∷ 3 ∷ []) $
    regoal ! (λ (us : List Val). prop (WpFn 𝓤 H C Λ fn us Post))
    (λ i. are.0.0 i ++ ((are.1.0 ∙ ap (λ (u : Ptr). ptr_val u ∷ []) e) i ++ (are.1.1.0.0 i ++ (are.1.1.1.0.0 i ++ [])))) refl $
    enter ! C Λ fn (me ∷ vptr b o ∷ vint w64 n ∷ vint w64 al ∷ []) Post $
    alloc_all ! (λ l. pass_all ! refl ((tt, tt), ((tt, tt), ((tt, record { fits = are.1.1.0.1 }), ((tt, record { fits = are.1.1.1.0.1 }), tt)))) $
    let En : Env 𝓤 𝓛.H = env fn.locals l in
    use0 𝓛 (raw (fact 𝓤 (n < 2 ^ 63))) (fact_i 𝓤 (n < 2 ^ 63) (emp 𝓤) (omega arith)) $ nothing ! $ flt_i ! n (2 ^ 64) are.1.1.0.1 $
    feq_i ! (List Val) (vint w64 n ∷ []) (vint w64 n ∷ []) refl $ fjoin ! $ fjoin ! $ nothing ! $ join ! $ join ! $ use1 𝓛 (raw (k₀.pre y₀)) (id⊢ 𝓤 _) $
    calls_at ! (fm 𝓛 𝓜 𝓡) k₀ (sizes 𝓤 𝓛 𝓜 𝓡 (compiled.calls-rlsf_heap::unit_payload_len 𝓡.env wired)) y₀ (and_then ! (get ! refl) (no_more !)) (λ v.
    use1 𝓛 (later (some (λ (j : ℕ). (‵ ftrue ⊛ ‵ (usize.own_val j (v ∷ []))) ⊛ some
    (λ (ls : Lasts sizer.ended tt y₀.0.3). ‵ (lasts sizer.ended tt y₀.0.3 ls) ⊛ raw (fact 𝓤 (j ≡ payload_len n)))))) (id⊢ 𝓤 (k₀.post y₀ v)) $
    await ! tt $ pick ! (λ j. split ! $ move ! (1 ∷ []) $
    pick ! (λ _. split ! $ drop ! $ heard ! (j ≡ payload_len n) (λ said. split ! $ drop ! $ fsplit ! $ feq_l ! (λ e'. drop ! $ let fits : m < 2 ^ 64 = omega arith in
    lands_as ! (ap only e' ∙ ap (vint w64) (said ∙ ap payload_len (sym same))) refl (tt, record { fits = fits }) $
    sets ! (agg ! (and_then ! (get ! refl) (and_then ! (get ! refl) (no_more !)))) refl (tt, (tt, (record { fits = fits }, tt))) $
    let x : (payload.the_row).Denot =
    record { ptr = p; len = m; home = r.home; name = r.ledger; key = key; start = start; kept = 0; placed = placed; within = (omega arith, refl) } in
    let Mine : Type 0 = IsCompleteOf x r in
    let y : k.Ghost = ((z.0.0, z.0.1, z.0.2, (a.0, (x, (m, tt))), (me ∷ [], (spot_val p m ∷ [], (vint w64 m ∷ [], tt)))), tt) in
    use0 𝓛 (‵ (spot_own p m (spot_val p m ∷ []))) (spot_made 𝓛 p m fits) $ fjoin ! $
    nothing ! $ flt_i ! m (2 ^ 64) fits $ feq_i ! (List Val) (vint w64 m ∷ []) (vint w64 m ∷ []) refl $ fjoin ! $ fjoin ! $ move ! (1 ∷ 0 ∷ []) $ fjoin ! $
    move ! (1 ∷ []) $ feq_i ! (List Val) (me ∷ []) (me ∷ []) refl $ fjoin ! $ fjoin ! $ move ! (1 ∷ 0 ∷ []) $ join ! $
    use0 𝓛 (raw (fact 𝓤 Mine)) (fact_i 𝓤 Mine (emp 𝓤) (refl, refl)) $ use0 𝓛 (raw (fact 𝓤 Lives)) (fact_i 𝓤 Lives (emp 𝓤) lives) $ join ! $
    move ! (1 ∷ 0 ∷ []) $ join ! $ use1 𝓛 (raw (k.pre y)) (id⊢ 𝓤 _) $
    calls_at ! (fm 𝓛 𝓜 𝓡) k (gives 𝓤 𝓛 𝓜 𝓡 (compiled.calls-rlsf_local_heap::local::LocalHeap::give 𝓡.env wired) T L gU dU gI dI dd mU mI md) y
    (and_then ! (get ! refl) (and_then ! (get ! refl) (and_then ! (get ! refl) (no_more !)))) (λ u.
    use1 𝓛 (later (some (λ (t : Unit {0}). (raw (alive 𝓛 En₀.signature z.0.0 z.0.1) ⊛ ‵ (unit.own_val t (u ∷ []))) ⊛ some
    (λ (ls : Lasts gave z.0.0 y.0.3). ‵ (lasts gave z.0.0 y.0.3 ls) ⊛ ‵ ftrue)))) (id⊢ 𝓤 (k.post y u)) $
    await ! tt $ pick ! (λ t. split ! $ move ! (1 ∷ []) $ drop ! $ split ! $ move ! (1 ∷ []) $ feq_l ! (λ e''. lands_as ! (ap only e'') refl (tt, tt) $
    sets ! (of_opd ! (unit_lit !)) refl (tt, tt) $
    returns ! (look_at ! 0 refl) $ free_all ! refl $
    feq_i ! (List Val) (vunit ∷ []) (vunit ∷ []) refl $ nothing ! $ nothing ! $ nothing ! $ fjoin ! $ nothing ! $ fjoin ! $ nothing ! $ fjoin ! $ nothing ! $ fjoin ! $
    move ! (3 ∷ 0 ∷ 2 ∷ 1 ∷ []) $
    by ! (leaves 𝓛 En₀ stays c z (vunit) (tt) (tt, (tt, (tt, (tt, tt)))) (tt, (tt, (tt, (tt, tt)))))))))))))))))))))
