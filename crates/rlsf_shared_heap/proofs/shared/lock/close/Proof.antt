-- A mutex of a name, read as the lock of that name. Assumes `Logic`.
use Rattle.std.proofs.Common.{◌≡◌, List, [], ◌∷◌, ◌++◌, refl, sym, subst, ◌∙◌}
use lib.Dec.{T as T'}
use mir.Raw.{raw as raw_ty}
use mir.Syntax.{Fn, Args, a_type, dcons, dnil}
use mir.MapTy.{inst_fn}
use mir.Val.{Val, WT, has_ty}
use prog.RawLaws.{has_ty-raw}
use base.Logic.{SProp, emp}
use base.Fraction.{full_share}
use base.Fml.{ftrue, fat}
use prog.Wp.{Env, WpFn}
use contract.BorrowLft.{◌⊑◌}
use contract.Monad.{fact, fact_i}
use contract.Running.{tables}
use types.Kit.{‵, raw, ◌⊛◌, prop, at_ret, ◌$◌, ◌∵◌, !, qed, by, move, drop, use0, use1, split, rewrite, regoal, fsplit, fjoin, fpack}
use types.Run.{stop, load, look_raw, addr, from, of_opd, first, blocks, exec, returns, enter}
use types.ByLocal.{alloc_all, pass_all, free_all, look_at, take_at, give_at, get, through, sets, sets_last, env}
use denote.Exit.{no}
use denote.RattleType.{RattleType, owns}
use denote.Laws.{Typed}
use denote.Param.{layout, param, bounded}
use denote.Param.Laws.{param_laws}
use denote.Signature.{plain, types_at}
use denote.Steps.{nothing}
use denote.Triple.Entry.{alive}
use denote.Triple.Walked.{Stays, stay_dropped, walk_of}
use Rattle.core.proofs.alloc.Calls.{Goes-blank}
use Rattle.core.proofs.alloc.Shapes.{after}
use Rattle.core.proofs.cell.Inside.{one}
use Rattle.std.proofs.raw_atomic.Walks.{proved_at, leaves}
use Rattle.rlsf_shared_heap.specs.contracts.shared.lock.Lock as lock
use Rattle.rlsf_shared_heap.specs.contracts.shared.lock.close as f
use Rattle.rlsf_shared_heap.proofs.LockRows.{mutex_row, mutex_laws_of}
use Rattle.rlsf_shared_heap.proofs.shared.lock.close.Statement.{statement}
use Rattle.rlsf_shared_heap.proofs.shared.lock.close.Code as code

pub close_spec : {M : Type 1} → statement M
close_spec 𝓤 𝓛 𝓜 𝓡 wired T B LT LB g d g' d' met met' =
    let En = f.ended T B g d g' d' in
    let c = f.clauses T B g d g' d' 𝓛 𝓜.mem 𝓡.returns in
    let args : Args = bounded (a_type ∷ a_type ∷ []) (T, (B, tt)) (dcons d (dcons d' dnil)) in
    let fn : Fn = inst_fn args code.function in
    let R : RattleType = mutex_row (param 0 T) (param 1 B) g g' in
    let L : RattleType = lock.the_row (param 0 T) g in
    let self = plain {n = 2} (λ _. R) in
    let stayed : Stays En.signature.params En.kept = (stay_dropped self no, tt) in
    let C = (tables 𝓤 𝓛.H 𝓜 𝓡 𝓡.env).C in
    let Λ = (tables 𝓤 𝓛.H 𝓜 𝓡 𝓡.env).Λ in
    proved_at 𝓛 En stayed c 𝓜 𝓡 (Goes-blank 𝓛 2 self no (λ κs x w. tt), tt) (f.Key.name args) fn (code.unfolded 𝓤 𝓛.H 𝓜 𝓡 wired (T, (B, tt)) d d')
    (λ z are.
    let Post : Val → SProp 𝓤 = (walk_of 𝓛 En stayed c).post z in
    let κs = z.0.0 in
    let a = z.0.3 in
    let vss = z.0.4 in
    let got = one (layout R) vss.0 (((mutex_laws_of (param 0 T) (param 1 B) g g' (param_laws 0 T LT) (param_laws 1 B LB)).lawful 𝓛).typed a.0 vss.0 are.0) in
    let v : Val = got.0 in
    let good = got.2 in
    let good' : T' (has_ty (layout L) v) × WT v = (subst T' (sym (has_ty-raw (layout R) v) ∙ has_ty-raw (layout L) v) good.0, good.1) in
    qed 𝓛 ((raw (alive 𝓛 En.signature z.0.0 z.0.1) ⊛ ‵ (owns (types_at En.signature.params κs) a vss))
    ∷ (raw (fact 𝓤 (κs.0 ⊑ T.lives)) ⊛ (raw (fact 𝓤 (κs.1.0 ⊑ B.lives)) ⊛ ‵ ftrue)) ∷ []) ∵
    move ! (1 ∷ []) $ drop ! $ split ! $ move ! (1 ∷ []) $ fsplit ! $ move ! (1 ∷ []) $ drop ! $
    rewrite ! 0 (λ (us : List Val). ‵ (R.own_val a.0 us)) got.1 refl $
    regoal ! (λ (us : List Val). prop (WpFn 𝓤 𝓛.H C Λ fn us Post)) (λ i. got.1 i ++ []) refl $
    enter ! C Λ fn (v ∷ []) Post $ alloc_all ! (λ l. pass_all ! refl (good, tt) $
    let here : Env 𝓤 𝓛.H = env fn.locals l in
    sets ! (of_opd ! (get ! refl)) refl good $ sets ! (addr ! (from ! (stop !))) refl (tt, tt) $
    take_at ! 2 $ use1 𝓛 (‵ (fat full_share (raw_ty (layout L)) (l 2) 0 v)) (𝓛.laws.at_raw full_share (layout R) (l 2) 0 v) $
    first ! $ blocks ! $ sets_last ! (of_opd ! (load ! (through ! refl (stop !)) (look_raw ! 0 refl))) refl good' $
    exec ! C Λ here (after 3 fn.body) (at_ret here Post) $ use1 𝓛 (‵ (fat full_share (layout R) (l 2) 0 v)) (𝓛.laws.raw_at full_share (layout R) (l 2) 0 v) $ give_at ! 2 $
    sets ! (of_opd ! (get ! refl)) refl good' $
    returns ! (look_at ! 0 refl) $ free_all ! refl $
    nothing ! $ fpack ! (Typed L.mir (v ∷ [])) (λ _. ftrue) (good', tt) $ fjoin ! $
    use0 𝓛 (raw (fact 𝓤 (g'.name ≡ g'.name))) (fact_i 𝓤 (g'.name ≡ g'.name) (emp 𝓤) refl) $ nothing ! $ nothing ! $ fjoin ! $ move ! (3 ∷ 0 ∷ 2 ∷ 1 ∷ []) $
    by ! (leaves 𝓛 En stayed c z v g'.name ((tt, tt), tt) (tt, tt))))
