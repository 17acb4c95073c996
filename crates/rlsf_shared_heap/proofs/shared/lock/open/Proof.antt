-- A `&` to a lock is one to the lock of its name. Assumes `Logic`.
use Rattle.std.proofs.Common.{◌≡◌, List, [], ◌∷◌, refl}
use mir.Syntax.{Fn, Args, a_type, dcons, dnil, named}
use mir.MapTy.{inst_fn}
use mir.Val.{Val, vptr}
use base.Fml.{Lft}
use prog.Wp.{Env}
use contract.BorrowLft.{◌⊑◌}
use contract.Monad.{fact}
use contract.Running.{tables}
use types.Kit.{‵, raw, ◌⊛◌, at_ret, ◌$◌, ◌∵◌, !, qed, by, move, keep, drop, split, rewrite, fsplit, fjoin, feq_i}
use types.Run.{stop, of_opd, addr, first, blocks, exec, returns, enter}
use types.ByLocal.{alloc_all, pass_all, free_all, look_at, get, through, sets, sets_last, env}
use denote.Exit.{yes}
use denote.RattleType.{RattleType, owns}
use denote.Param.{param, bounded}
use denote.Memory.{hidden_shr}
use denote.Ref.{shr_vals, shr_Tells}
use denote.Builtin.{RefOf}
use denote.Signature.{plain, types_at}
use denote.Steps.{nothing, heard}
use denote.Triple.Entry.{alive}
use denote.Triple.Walked.{Stays, stay_dropped, walk_of, Goes-dropped}
use Rattle.core.proofs.alloc.Shapes.{after}
use Rattle.std.proofs.raw_atomic.Walks.{proved, leaves}
use Rattle.core.specs.contracts.sync.Mutex as mutex
use Rattle.core.specs.contracts.mem.manually_drop.ManuallyDrop as manually
use Rattle.rlsf_heap.specs.Heap.{Identity}
use Rattle.rlsf_shared_heap.specs.contracts.shared.held.Held as held
use Rattle.rlsf_shared_heap.specs.contracts.shared.lock.Lock as lock
use Rattle.rlsf_shared_heap.specs.contracts.shared.lock.open as f
use Rattle.rlsf_shared_heap.proofs.shared.lock.open.Statement.{statement}
use Rattle.rlsf_shared_heap.proofs.shared.lock.open.Code as code

pub open_spec : {M : Type 1} → statement M
open_spec 𝓤 𝓛 𝓜 𝓡 wired T B LT LB g d g' d' met met' =
    let En = f.ended T B g d g' d' in
    let c = f.clauses T B g d g' d' 𝓛 𝓜.mem 𝓡.returns in
    let args : Args = bounded (a_type ∷ a_type ∷ []) (T, (B, tt)) (dcons d (dcons d' dnil)) in
    let fn : Fn = inst_fn args code.function in
    let L : RattleType = lock.the_row (param 0 T) g in
    let self = RefOf {n = 3} (0 ∷ []) tt (plain (λ _. L)) (λ _. tt) in
    let stayed : Stays En.signature.params En.kept = (stay_dropped self yes, tt) in
    let W = walk_of 𝓛 En stayed c in
    let 𝓣 = tables 𝓤 𝓛.H 𝓜 𝓡 𝓡.env in
    proved 𝓛 En stayed c 𝓜 𝓡 (Goes-dropped 𝓛 3 self yes (λ κs x w. refl), tt) (f.Key.name args) fn (code.unfolded 𝓤 𝓛.H 𝓜 𝓡 wired (T, (B, tt)) d d')
    (λ κs. (shr_vals, tt)) (λ κs. (shr_Tells (named 0) κs.0 L, tt)) (λ κs qs bounds a n are.
    let κ : Lft = κs.0 in
    let b = a.0.ref_ptr.0 in
    let o = a.0.ref_ptr.1 in
    let vss : List Val × Unit {0} = (shr_vals a.0, tt) in
    let y : W.Ghost = ((κs, qs, bounds, a, vss), n) in
    let Named : Type 0 = a.0.now ≡ g'.name in
    qed 𝓛 ((raw (alive 𝓛 En.signature κs qs) ⊛ ‵ (owns (types_at En.signature.params κs) a vss))
    ∷ (raw (fact 𝓤 (κs.1.0 ⊑ T.lives)) ⊛ (raw (fact 𝓤 (κs.1.1.0 ⊑ B.lives)) ⊛ raw (fact 𝓤 Named))) ∷ []) ∵
    move ! (1 ∷ []) $ split ! $ drop ! $ split ! $ drop ! $ heard ! Named (λ e.
    split ! $ move ! (1 ∷ []) $ fsplit ! $ fsplit ! $ keep ! (1 ∷ 3 ∷ []) $
    rewrite ! 0 (λ (i : Identity). ‵ (hidden_shr (manually.the_row (mutex.the_row (held.the_row (param 0 T) (param 1 B) g (record { name = i })))) κ
    (record { value = tt }) b o)) e refl $
    enter ! 𝓣.C 𝓣.Λ fn (vptr b o ∷ []) (W.post y) $ alloc_all ! (λ l. pass_all ! refl ((tt, tt), tt) $
    let here : Env 𝓤 𝓛.H = env fn.locals l in
    first ! $ blocks ! $ sets ! (addr ! (through ! refl (stop !))) refl (tt, tt) $ sets ! (of_opd ! (get ! refl)) refl (tt, tt) $ sets_last !
    (addr ! (through ! refl (stop !))) refl (tt, tt) $
    exec ! 𝓣.C 𝓣.Λ here (after 1 fn.body) (at_ret here (W.post y)) $ sets ! (of_opd ! (get ! refl)) refl (tt, tt) $
    returns ! (look_at ! 0 refl) $ free_all ! refl $
    feq_i ! (List Val) (vptr b o ∷ []) (vptr b o ∷ []) refl $ fjoin ! $ nothing ! $ nothing ! $ fjoin ! $ nothing ! $ move ! (3 ∷ 1 ∷ 2 ∷ 0 ∷ []) $
    by ! (leaves 𝓛 En stayed c y (vptr b o) (record { ref_ptr = (b, o); now = record { value = tt } }) (tt, tt) (tt, tt)))))
