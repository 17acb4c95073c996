-- Shows that `into_raw` hands out what the loan owns. Assumes `Logic`.
use Rattle.std.proofs.Common.{◌^◌, ◌<◌, List, [], ◌∷◌, refl, w64}
use mir.Val.{Val, vint}
use base.Fml.{ftrue}
use types.Kit.{‵, ◌⊛◌, ◌$◌, ◌∵◌, !, qed, keep, drop, split, join, group, frame, fsplit, suffices, done}
use types.Part.{whole, sub}
use types.Run.{stop, fld, of_opd, returns, enter}
use types.ByLocal.{alloc_all, pass_all, free_all, look_at, get, get_in, sets}
use denote.Builtin.{usize}
use denote.Plain.{uint_Makes}
use denote.RattleType.{owns}
use denote.Signature.{types_at}
use denote.Steps.{nothing, owned}
use denote.Triple.Walked.{says, walk_of, ends_at}
use Rattle.std.proofs.raw_atomic.Walks.{proved}
use Rattle.rlsf_heap.proofs.ThinValues.{addr_val, addr_told, addr_typed, loan_Tells, loan_vals, dropped, all_go}
use Rattle.rlsf_heap.specs.contracts.loan.Loan.into_raw as f
use Rattle.rlsf_heap.proofs.loan.Loan.into_raw.Statement.{statement}
use Rattle.rlsf_heap.proofs.loan.Loan.into_raw.Code as code

pub into_raw_spec : {M : Type 1} → statement M
into_raw_spec 𝓤 𝓛 𝓜 𝓡 wired =
    let stayed = dropped f.ended.signature.params f.ended.kept in let c = f.clauses 𝓛 𝓜.mem 𝓡.returns in let W = walk_of 𝓛 f.ended stayed c in
    proved 𝓛 f.ended stayed c 𝓜 𝓡 (all_go 𝓛 0 f.ended.signature.params f.ended.kept ((λ κs x w. tt), tt)) f.Key.name code.function (code.unfolded 𝓤 𝓛.H 𝓜 𝓡 wired)
    (λ κs. (loan_vals, tt)) (λ κs. (loan_Tells, tt)) (λ κs qs bounds a g are.
    let d = a.0 in
    let vss : List Val × Unit {0} = (addr_val d.addr ∷ [], tt) in
    let y : W.Ghost = ((κs, qs, bounds, a, vss), g) in
    let fits : d.addr < 2 ^ 64 = addr_told d.addr (addr_val d.addr ∷ []) are.0.0 in
    qed 𝓛 ((‵ ftrue ⊛ ‵ (owns (types_at f.signature.params κs) a vss)) ∷ ‵ ftrue ∷ []) ∵
    split ! $ drop ! $ fsplit ! $ fsplit ! $ keep ! (1 ∷ []) $
    enter ! _ _ _ _ _ $ alloc_all ! (λ l. pass_all ! refl (addr_typed d.addr fits, tt) $
    sets ! (of_opd ! (get_in ! (fld ! refl (stop !)) (sub ! 0 refl (whole !)))) refl (tt, record { fits = fits }) $
    sets ! (of_opd ! (get ! refl)) refl (tt, record { fits = fits }) $
    returns ! (look_at ! 0 refl) $ free_all ! refl $
    suffices ! _ (ends_at 𝓛 f.ended stayed c y (vint w64 d.addr) d.addr (tt, tt) (tt, tt)) $
    owned ! usize _ (uint_Makes 𝓛 w64) d.addr _ (refl, fits) $ nothing ! $ nothing ! $ join ! $ nothing ! $ group ! 3 $ frame ! $ says ! refl $ done !))
