-- Shows that `replace` opens the slot with the thread's token, reads it, writes it and closes it. Assumes `Logic`.
use Rattle.std.proofs.Common.{List, [], ◌∷◌, ◌++◌, refl}
use mir.Syntax.{Fn, Args, a_type, dcons, dnil}
use mir.MapTy.{inst_fn}
use mir.Val.{Val, vptr}
use base.Logic.{SProp, emp}
use base.Fml.{Lft, Share, ftrue, flft, ftok}
use base.Mask.{every}
use contract.BorrowLft.{◌⊑◌}
use prog.Wp.{Env, WpFn}
use contract.Monad.{fact, fact_i}
use types.Kit.{‵, raw, ◌⊛◌, prop, at_ret, ◌$◌, ◌∵◌, !, qed, by, move, keep, use0, split, split3, join, rewrite, regoal, fsplit, fsplit3, fjoin}
use types.Part.{whole, sub, look_in, store_in}
use types.Run.{stop, fld, load, addr, of_opd, assigns, first, blocks, exec, returns, enter}
use types.ByLocal.{alloc_all, pass_all, free_all, look_at, get, through, sets, sets_last, env}
use denote.RattleType.{owns}
use denote.Param.{bounded, layout}
use denote.Signature.{types_at}
use denote.Steps.{nothing, heard}
use denote.Triple.Walked.{walk_of}
use Rattle.core.proofs.alloc.Shapes.{after}
use Rattle.core.proofs.cell.Inside.{one}
use Rattle.std.proofs.raw_atomic.Walks.{leaves}
use Rattle.rlsf_local_heap.specs.Constants.{Constants}
use Rattle.rlsf_heap.proofs.ThinValues.{dropped, all_go}
use Rattle.rlsf_local_heap.proofs.SlotContents.{with_token, proved_with_token, Held, Over, ends, held_Lawful, quiet, opens_slot, shuts_slot}
use Rattle.rlsf_local_heap.specs.contracts.slot.Slot.replace.{ended, clauses}
use Rattle.rlsf_local_heap.specs.contracts.slot.Slot.replace.Key.{name as #self}
use Rattle.rlsf_local_heap.proofs.slot.Slot.replace.Statement.{statement}
use Rattle.rlsf_local_heap.proofs.slot.Slot.replace.Code as compiled
use Rattle.rlsf_local_heap.proofs.slot.Slot.replace.Code.{code}

pub replace_spec : {M : Type 1} → statement M
unfolding code
replace_spec 𝓤 𝓛 𝓜 𝓡 wired T L g d met =
    let args : Args = bounded (a_type ∷ []) (T, tt) (dcons d dnil) in
    let En₀ = ended T g d in
    let c₀ = clauses T g d 𝓛 𝓜.mem 𝓡.returns in
    let fn : Fn = inst_fn args compiled.function in
    let stays = dropped En₀.signature.params En₀.kept in
    let c = with_token 𝓛 En₀ stays c₀ in
    proved_with_token 𝓛 En₀ stays c₀ 𝓜 𝓡 (all_go 𝓛 2 En₀.signature.params En₀.kept ((λ κs x f. tt), ((λ κs. quiet T), tt)))
    (#self args) fn (wired.0.0 (#self args) refl) (λ C Λ z are.
    let Post : Val → SProp 𝓤 = (walk_of 𝓛 En₀ stays c).post z in
    let a = z.0.3 in
    let vss = z.0.4 in
    let κ : Lft = z.0.0.0 in
    let q : Share = z.0.1.0 in
    let b = a.0.ref_ptr.0 in
    let o = a.0.ref_ptr.1 in
    let r : Constants = a.0.now in
    let new = a.1.0 in
    let got = one (layout (Held T)) vss.1.0 ((held_Lawful T 𝓛 L).typed new vss.1.0 are.1.0) in
    let w : Val = got.0 in
    let good = got.2 in
    qed 𝓛 (((‵ (flft κ q) ⊛ (‵ (flft z.0.0.1.0 z.0.1.1.0) ⊛ ‵ ftrue)) ⊛ ‵ (owns (types_at En₀.signature.params z.0.0) a vss))
    ∷ (‵ (ftok every) ⊛ (raw (fact 𝓤 (z.0.0.1.0 ⊑ T.lives)) ⊛ raw (fact 𝓤 (Over T g r new)))) ∷ []) ∵
    move ! (1 ∷ []) $ split3 ! $ move ! (2 ∷ []) $
    heard ! (Over T g r new)
    (λ asked. move ! (2 ∷ []) $ split ! $ split ! $ move ! (2 ∷ []) $ fsplit3 ! $ fsplit ! $ rewrite ! 2 (λ (us : List Val). ‵ ((Held T).own_val new us)) got.1 refl $
    keep ! (1 ∷ 4 ∷ 6 ∷ 2 ∷ 5 ∷ []) $
    regoal ! (λ (us : List Val). prop (WpFn 𝓤 𝓛.H C Λ fn us Post)) (λ i. are.0.0 i ++ (got.1 i ++ [])) refl $
    enter ! C Λ fn (vptr b o ∷ w ∷ []) Post $
    alloc_all ! (λ l. pass_all ! refl ((tt, tt), (good, tt)) $ let En : Env 𝓤 𝓛.H = env fn.locals l in
    opens_slot T L g r b o ! tt (λ x v over typed.
    sets ! (addr ! (through ! refl (fld ! refl (stop !)))) refl (tt, tt) $
    first ! $ blocks ! $
    sets ! (of_opd ! (load ! (through ! refl (stop !)) (look_in ! 0 (sub ! 0 refl (whole !))))) refl typed $
    sets ! (of_opd ! (get ! refl)) refl good $
    assigns ! (of_opd ! (get ! refl)) (through ! refl (stop !)) (store_in ! 0 (sub ! 0 refl (whole !)) good) $
    sets_last ! (of_opd ! (get ! refl)) refl typed $
    exec ! C Λ En (after 2 fn.body) (at_ret En Post) $
    sets ! (of_opd ! (get ! refl)) refl typed $
    move ! (0 ∷ 3 ∷ 2 ∷ []) $ shuts_slot T L g r b o ! tt new w asked $
    returns ! (look_at ! 0 refl) $ free_all ! refl $
    use0 𝓛 (raw (fact 𝓤 (Over T g r x))) (fact_i 𝓤 (Over T g r x) (emp 𝓤) over) $ move ! (2 ∷ 0 ∷ []) $ join ! $ nothing ! $ nothing ! $ fjoin ! $ nothing ! $
    fjoin ! $ move ! (2 ∷ 4 ∷ []) $ join ! $ move ! (0 ∷ 1 ∷ 3 ∷ []) $
    by ! (leaves 𝓛 En₀ stays c z v x (tt, (ends T new, tt)) (tt, (tt, tt)))))))
