-- Shows that `into_inner` unwraps the value. Assumes `Logic`.
use Rattle.std.proofs.Common.{List, [], ◌∷◌, ◌++◌, refl}
use mir.Syntax.{Fn, Args, a_type, dcons, dnil}
use mir.MapTy.{inst_fn}
use mir.Val.{Val}
use base.Logic.{SProp, emp}
use base.Fml.{ftrue}
use contract.BorrowLft.{◌⊑◌}
use contract.Monad.{fact, fact_i}
use contract.Running.{tables}
use prog.Wp.{Env, WpFn}
use types.Kit.{‵, raw, ◌⊛◌, prop, ◌$◌, ◌∵◌, !, qed, by, move, drop, use0, split, regoal, fsplit, fjoin}
use types.Part.{whole, sub}
use types.Run.{stop, fld, of_opd, returns, enter}
use types.ByLocal.{alloc_all, pass_all, free_all, look_at, get, get_in, sets, env}
use denote.RattleType.{owns}
use denote.Param.{bounded}
use denote.Signature.{types_at}
use denote.Steps.{nothing}
use denote.Triple.Entry.{alive}
use denote.Triple.Walked.{walk_of}
use Rattle.core.proofs.cell.Inside.{round}
use Rattle.std_alloc.proofs.ResultValues.{and_tt}
use Rattle.std.proofs.raw_atomic.Walks.{proved_at, leaves}
use Rattle.rlsf_local_heap.proofs.SlotContents.{Over, contents_out}
use Rattle.rlsf_heap.proofs.ThinValues.{dropped, all_go}
use Rattle.rlsf_local_heap.specs.contracts.slot.Slot.into_inner.{ended, clauses}
use Rattle.rlsf_local_heap.specs.contracts.slot.Slot.into_inner.Key.{name as #self}
use Rattle.rlsf_local_heap.proofs.slot.Slot.into_inner.Statement.{statement}
use Rattle.rlsf_local_heap.proofs.slot.Slot.into_inner.Code as compiled

pub into_inner_spec : {M : Type 1} → statement M
into_inner_spec 𝓤 𝓛 𝓜 𝓡 wired T L g d met =
    let H = 𝓛.H in let En₀ = ended T g d in let c = clauses T g d 𝓛 𝓜.mem 𝓡.returns in let stays = dropped En₀.signature.params En₀.kept in
    let args : Args = bounded (a_type ∷ []) (T, tt) (dcons d dnil) in let fn : Fn = inst_fn args compiled.function in
    let C = (tables 𝓤 H 𝓜 𝓡 𝓡.env).C in let Λ = (tables 𝓤 H 𝓜 𝓡 𝓡.env).Λ in
    proved_at 𝓛 En₀ stays c 𝓜 𝓡 (all_go 𝓛 1 En₀.signature.params En₀.kept ((λ κs x f. tt), tt)) (#self args) fn
    (compiled.unfolded 𝓤 H 𝓜 𝓡 wired (T, tt) d) (λ z are.
    let Post : Val → SProp 𝓤 = (walk_of 𝓛 En₀ stays c).post z in let a = z.0.3 in let vss = z.0.4 in
    qed 𝓛 ((raw (alive 𝓛 En₀.signature z.0.0 z.0.1) ⊛ ‵ (owns (types_at En₀.signature.params z.0.0) a vss)) ∷ (raw (fact 𝓤 (z.0.0.0 ⊑ T.lives)) ⊛ ‵ ftrue)
    ∷ []) ∵ move ! (1 ∷ []) $ drop ! $ split ! $ move ! (1 ∷ []) $
    fsplit ! $ move ! (1 ∷ []) $ drop ! $ fsplit ! $ drop ! $ contents_out T L g a.0 ! vss.0 (λ x v over typed told.
    regoal ! (λ (us : List Val). prop (WpFn 𝓤 H C Λ fn us Post)) (λ i. told i ++ []) refl $
    enter ! C Λ fn (round v ∷ []) Post $
    alloc_all ! (λ l. pass_all ! refl ((and_tt _ ((typed).0), ((typed).1, tt)), tt) $ let En : Env 𝓤 𝓛.H = env fn.locals l in
    sets ! (of_opd ! (get_in ! (fld ! refl (stop !)) (sub ! 0 refl (whole !)))) refl typed $
    sets ! (of_opd ! (get ! refl)) refl typed $
    returns ! (look_at ! 0 refl) $ free_all ! refl $
    use0 𝓛 (raw (fact 𝓤 (Over T g a.0 x))) (fact_i 𝓤 (Over T g a.0 x) (emp 𝓤) over) $ nothing ! $ nothing ! $ fjoin ! $ move ! (3 ∷ 0 ∷ 2 ∷ 1 ∷ []) $
    by ! (leaves 𝓛 En₀ stays c z (v) (x) (tt, tt) (tt, tt)))))
