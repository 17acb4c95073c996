-- Shows that `take_units` parts the owner from the room of a run of its units, which the result owns. Assumes `Logic`.
use Rattle.std.proofs.Common.{◌+◌, ◌-◌, ◌*◌, ◌≤◌, [], ◌∷◌, refl, sym, w64}
use mir.Syntax.{named}
use base.Fml.{ftrue, froom, flft}
use contract.Monad.{fact}
use contract.Running.{tables}
use types.Kit.{‵, raw, ◌⊛◌, ◌$◌, ◌∵◌, !, qed, move, keep, use0, use2, split, rewrite, suffices, fsplit, fjoin}
use types.Part.{agg}
use types.Run.{no_more, and_then, returns, enter}
use types.ByLocal.{alloc_all, pass_all, free_all, look_at, get, sets}
use denote.RattleType.{owns}
use denote.RawPtr.{Ptr}
use denote.Ref.{mut_vals, mut_Tells}
use denote.Plain.{uint_vals, uint_Tells}
use denote.Signature.{plain, types_at}
use denote.Steps.{heard}
use denote.Triple.Walked.{says, Stays, stay_ref, walk_of, Goes-ref, ends_at}
use Rattle.std.proofs.raw_atomic.Walks.{proved}
use Rattle.rlsf_base.specs.Changes.{left}
use Rattle.rlsf_base.specs.Steps.Owners.{HasOwn}
use Rattle.rlsf_base.specs.Steps.Ownership.{units_ty, units_own}
use Rattle.rlsf_base.proofs.RawBlock.Grid.{takes_units}
use Rattle.rlsf_base.proofs.RawBlock.Values.{mark_val, mark_own, mark_made}
use Rattle.rlsf_base.proofs.RawBlock.OpenOwner.{opens_owner, closes_owner, bytes_in, ways_in, ends_kept}
use Rattle.rlsf_base.proofs.RawBlock.Dropped.{others_dropped, others_go}
use Rattle.rlsf_base.specs.contracts.memory.block.Bytes as owner
use Rattle.rlsf_base.specs.contracts.memory.block.Units as units
use Rattle.rlsf_base.specs.contracts.memory.block.Bytes.take_units as f
use Rattle.rlsf_base.proofs.memory.block.Bytes.take_units.Statement.{statement}
use Rattle.rlsf_base.proofs.memory.block.Bytes.take_units.Code as code

pub take_units_spec : {M : Type 1} → statement M
take_units_spec 𝓤 𝓛 𝓜 𝓡 wired =
    let stayed : Stays f.ended.signature.params f.ended.kept = others_dropped f.ended.signature.params f.ended.kept (stay_ref (0 ∷ []) tt (plain (λ _. owner.the_row))) in
    let c = f.clauses 𝓛 𝓜.mem 𝓡.returns in let W = walk_of 𝓛 f.ended stayed c in let 𝓣 = tables 𝓤 𝓛.H 𝓜 𝓡 𝓡.env in
    proved 𝓛 f.ended stayed c 𝓜 𝓡
    (others_go 𝓛 1 f.ended.signature.params f.ended.kept stayed.0 (Goes-ref 𝓛 1 0 tt (plain (λ _. owner.the_row))) ((λ κs x w. tt), ((λ κs x w. tt), tt)))
    f.Key.name code.function (code.unfolded 𝓤 𝓛.H 𝓜 𝓡 wired)
    (λ κs. (mut_vals, (uint_vals w64, (uint_vals w64, tt)))) (λ κs. (mut_Tells (named 0) κs.0 owner.the_row, (uint_Tells w64, (uint_Tells w64, tt))))
    (λ κs qs bounds a g are.
    let d = a.0.now in let first = a.1.0 in let count = a.1.1.0 in
    let Asked : Type 0 = HasOwn d (first * 16) (count * 16) × (first + count ≤ d.units) in
    let y : W.Ghost = ((κs, qs, bounds, a, (mut_vals a.0, (uint_vals w64 first, (uint_vals w64 count, tt)))), g) in
    qed 𝓛 (((‵ (flft κs.0 qs.0) ⊛ ‵ ftrue) ⊛ ‵ (owns (types_at f.signature.params κs) a y.0.4)) ∷ raw (fact 𝓤 Asked) ∷ []) ∵
    move ! (1 ∷ []) $ heard ! Asked (λ asked. split ! $ split ! $ move ! (2 ∷ []) $ fsplit ! $ keep ! (0 ∷ 2 ∷ []) $
    enter ! _ _ _ _ _ $ alloc_all ! (λ l. pass_all ! refl ((tt, tt), ((tt, record { fits = are.1.0.1 }), ((tt, record { fits = are.1.1.0.1 }), tt))) $
    opens_owner ! tt κs.0 qs.0 a.0 (λ us b o e small.
    let i = first * 16 - d.skip in let cs = left i (count * 16) d.out in
    let new : (owner.the_row).Denot = record { mark = d.mark; at = d.at; skip = d.skip; bytes = d.bytes; out = cs; of = d.of; units = d.units } in
    let run : (units.the_row).Denot = record { mark = record {}; at = d.at; first = first; count = count; of = g } in
    -- [the bytes; the ways; the open owner; ..]
    use2 𝓛 (‵ (froom (units_ty count) b (first * 16 + o)) ⊛ ‵ (bytes_in new b o) ⊛ ‵ (ways_in new b o))
    (takes_units 𝓛 b o d.units first count asked.1 d.out d.skip d.bytes asked.0.0.0 asked.0.0.1 asked.0.1) $ split ! $ move ! (1 ∷ []) $ split ! $ move ! (0 ∷ 1 ∷ 3 ∷ []) $
    closes_owner ! tt κs.0 qs.0 a.0 us new b o e small $
    sets ! (agg ! (no_more !)) refl (tt, tt) $ sets ! (agg ! (and_then ! (get ! refl) (no_more !))) refl (tt, (tt, tt)) $
    returns ! (look_at ! 0 refl) $ free_all ! refl $ move ! (2 ∷ []) $
    rewrite ! 0 (λ (p : Ptr). ‵ (units_own p first count)) (sym e) refl $
    use0 𝓛 (‵ (mark_own (mark_val ∷ []))) (mark_made 𝓛) $ fjoin ! $ move ! (1 ∷ 2 ∷ 0 ∷ []) $
    suffices ! _ (ends_at 𝓛 f.ended stayed c y mark_val run (new, (tt, (tt, tt))) (tt, (tt, (tt, tt)))) $ says !
    ((refl, refl, refl, refl), ((refl, refl, refl, refl, refl), refl)) $
    ends_kept 2 !))))
