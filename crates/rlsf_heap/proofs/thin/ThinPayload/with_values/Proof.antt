-- Shows that `with_values` owns the values of the payload's bytes. Assumes `Logic`.
use Rattle.std.proofs.Common.{◌^◌, ◌<◌, List, [], ◌∷◌, refl}
use mir.Val.{Val}
use base.Fml.{ftrue}
use contract.Monad.{fact}
use types.Kit.{‵, raw, ◌⊛◌, ◌$◌, ◌∵◌, !, qed, move, keep, drop, use0, use1, split, join, fjoin, fsplit, suffices, done}
use types.Part.{agg, whole, sub}
use types.Run.{stop, fld, of_opd, no_more, and_then, returns, enter}
use types.ByLocal.{alloc_all, pass_all, free_all, look_at, get, get_in, sets}
use denote.RattleType.{owns}
use denote.Signature.{types_at}
use denote.Steps.{nothing, heard}
use denote.Triple.Walked.{says, walk_of, ends_at}
use Rattle.std.proofs.raw_atomic.Walks.{proved}
use Rattle.rlsf_heap.specs.Heap.{IsWritten}
use Rattle.rlsf_heap.specs.Thin.{owns_reply}
use Rattle.rlsf_heap.proofs.ThinValues.{addr_val, addr_own, addr_made, addr_told, addr_typed, payload_Tells, payload_vals, owns_values, with_values, dropped, all_go}
use Rattle.rlsf_heap.specs.contracts.thin.ThinPayload as thin
use Rattle.rlsf_heap.specs.contracts.thin.ThinPayload.with_values as f
use Rattle.rlsf_heap.proofs.thin.ThinPayload.with_values.Statement.{statement}
use Rattle.rlsf_heap.proofs.thin.ThinPayload.with_values.Code as code

pub with_values_spec : {M : Type 1} → statement M
with_values_spec 𝓤 𝓛 𝓜 𝓡 wired =
    let stayed = dropped f.ended.signature.params f.ended.kept in let c = f.clauses 𝓛 𝓜.mem 𝓡.returns in let W = walk_of 𝓛 f.ended stayed c in
    proved 𝓛 f.ended stayed c 𝓜 𝓡 (all_go 𝓛 0 f.ended.signature.params f.ended.kept ((λ κs x w. tt), tt)) f.Key.name code.function (code.unfolded 𝓤 𝓛.H 𝓜 𝓡 wired)
    (λ κs. (payload_vals, tt)) (λ κs. (payload_Tells, tt)) (λ κs qs bounds a g are.
    let d = a.0 in let p = d.of in
    let vss : List Val × Unit {0} = (addr_val d.addr ∷ [], tt) in
    let y : W.Ghost = ((κs, qs, bounds, a, vss), g) in
    let fits : d.addr < 2 ^ 64 = addr_told d.addr (addr_val d.addr ∷ []) are.0.0 in
    let Asked : Type 0 = IsWritten p in
    let made : (thin.the_row).Denot = record { addr = d.addr; of = with_values p } in
    qed 𝓛 ((‵ ftrue ⊛ ‵ (owns (types_at f.signature.params κs) a vss)) ∷ raw (fact 𝓤 Asked) ∷ []) ∵
    move ! (1 ∷ []) $ heard ! Asked (λ asked. split ! $ drop ! $ fsplit ! $ fsplit ! $ keep ! (1 ∷ []) $
    -- [what the payload owns]
    use1 𝓛 (‵ (owns_reply (with_values p))) (owns_values 𝓛 p.start p asked) $
    enter ! _ _ _ _ _ $ alloc_all ! (λ l. pass_all ! refl (addr_typed d.addr fits, tt) $
    sets ! (of_opd ! (get_in ! (fld ! refl (stop !)) (sub ! 0 refl (whole !)))) refl (tt, record { fits = fits }) $
    sets ! (agg ! (and_then ! (get ! refl) (no_more !))) refl (tt, (record { fits = fits }, tt)) $
    returns ! (look_at ! 0 refl) $ free_all ! refl $
    suffices ! _ (ends_at 𝓛 f.ended stayed c y (addr_val d.addr) made (tt, tt) (tt, tt)) $ says ! (refl, refl) $
    use0 𝓛 (‵ (addr_own d.addr (addr_val d.addr ∷ []))) (addr_made 𝓛 d.addr fits) $ fjoin ! $ nothing ! $ nothing ! $ join ! $ nothing ! $ done !)))
