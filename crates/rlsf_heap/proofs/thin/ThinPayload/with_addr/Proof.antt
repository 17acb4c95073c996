-- Shows that `with_addr` returns the address beside the payload. Assumes `Logic`.
use Rattle.std.proofs.Common.{◌^◌, ◌<◌, List, [], ◌∷◌, refl, w64}
use mir.Val.{Val, vint}
use base.Fml.{ftrue}
use types.Kit.{‵, ◌⊛◌, ◌$◌, ◌∵◌, !, qed, keep, drop, use0, use2, split, join, fjoin, fsplit, suffices, done}
use types.Part.{agg, whole, sub}
use types.Run.{stop, fld, of_opd, no_more, and_then, returns, enter}
use types.ByLocal.{alloc_all, pass_all, free_all, look_at, get, get_in, sets}
use denote.Builtin.{usize}
use denote.Plain.{uint_Makes}
use denote.RattleType.{RattleType, owns}
use denote.Struct.Tuple.{Tuple}
use denote.Signature.{types_at}
use denote.Steps.{nothing, owned}
use denote.Triple.Walked.{walk_of, ends_at}
use Rattle.core.proofs.mem.Facts.{says_two}
use Rattle.std.proofs.raw_atomic.Walks.{proved}
use Rattle.rlsf_base.proofs.RawBlock.Values.{two_val, two_of}
use Rattle.rlsf_heap.proofs.ThinValues.{addr_val, addr_own, addr_made, addr_told, addr_typed, payload_Tells, payload_vals, dropped, all_go}
use Rattle.rlsf_heap.specs.contracts.thin.ThinPayload as thin
use Rattle.rlsf_heap.specs.contracts.thin.ThinPayload.with_addr as f
use Rattle.rlsf_heap.proofs.thin.ThinPayload.with_addr.Statement.{statement}
use Rattle.rlsf_heap.proofs.thin.ThinPayload.with_addr.Code as code

pub with_addr_spec : {M : Type 1} → statement M
with_addr_spec 𝓤 𝓛 𝓜 𝓡 wired =
    let stayed = dropped f.ended.signature.params f.ended.kept in let c = f.clauses 𝓛 𝓜.mem 𝓡.returns in let W = walk_of 𝓛 f.ended stayed c in
    proved 𝓛 f.ended stayed c 𝓜 𝓡 (all_go 𝓛 0 f.ended.signature.params f.ended.kept ((λ κs x w. tt), tt)) f.Key.name code.function (code.unfolded 𝓤 𝓛.H 𝓜 𝓡 wired)
    (λ κs. (payload_vals, tt)) (λ κs. (payload_Tells, tt)) (λ κs qs bounds a g are.
    let d = a.0 in let p = d.of in
    let vss : List Val × Unit {0} = (addr_val d.addr ∷ [], tt) in
    let y : W.Ghost = ((κs, qs, bounds, a, vss), g) in
    let fits : d.addr < 2 ^ 64 = addr_told d.addr (addr_val d.addr ∷ []) are.0.0 in
    let T = thin.the_row in let Two : RattleType = Tuple (usize ∷ T ∷ []) in let v : Val = two_val (vint w64 d.addr) (addr_val d.addr) in
    qed 𝓛 ((‵ ftrue ⊛ ‵ (owns (types_at f.signature.params κs) a vss)) ∷ ‵ ftrue ∷ []) ∵
    split ! $ drop ! $ fsplit ! $ fsplit ! $ keep ! (1 ∷ []) $
    -- [what the payload owns]
    enter ! _ _ _ _ _ $ alloc_all ! (λ l. pass_all ! refl (addr_typed d.addr fits, tt) $
    sets ! (of_opd ! (get_in ! (fld ! refl (stop !)) (sub ! 0 refl (whole !)))) refl (tt, record { fits = fits }) $
    sets ! (agg ! (and_then ! (get ! refl) (no_more !))) refl (addr_typed d.addr fits) $
    sets ! (agg ! (and_then ! (get ! refl) (and_then ! (get ! refl) (no_more !)))) refl (tt, (record { fits = fits }, ((record { fits = fits }, tt), tt))) $
    returns ! (look_at ! 0 refl) $ free_all ! refl $
    use0 𝓛 (‵ (addr_own d.addr (addr_val d.addr ∷ []))) (addr_made 𝓛 d.addr fits) $ fjoin ! $
    owned ! usize _ (uint_Makes 𝓛 w64) d.addr _ (refl, fits) $
    use2 𝓛 (‵ (Two.own_val (d.addr, d) (v ∷ []))) (two_of 𝓛 usize T d.addr d (vint w64 d.addr) (addr_val d.addr)) $
    suffices ! _ (ends_at 𝓛 f.ended stayed c y v (d.addr, d) (tt, tt) (tt, tt)) $
    says_two ! (refl, (refl, refl)) $ nothing ! $ nothing ! $ join ! $ nothing ! $ done !))
