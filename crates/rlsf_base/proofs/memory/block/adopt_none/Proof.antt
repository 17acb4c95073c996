-- Shows that `adopt_none` is an owner of bytes that are all out, for which it takes nothing. Assumes `Logic`.
use Rattle.std.proofs.Common.{◌≡◌, ℕ, ◌+◌, ◌^◌, ◌<◌, List, [], ◌∷◌, length, refl, sym, ap, ◌∙◌, arith, replicate, w64}
use Rattle.std.proofs.lemmas.List.{length-replicate}
use contract.Monad.{fact}
use types.Kit.{‵, raw, ◌$◌, ◌∵◌, !, qed, drop, use0, join, fjoin, flt_i, rewrite, suffices, done}
use types.Part.{agg}
use types.Run.{no_more, and_then, returns, enter}
use types.ByLocal.{alloc_all, pass_all, free_all, look_at, get, sets}
use denote.Plain.{uint_vals, uint_Tells}
use denote.RawPtr.{Ptr, rawptr_vals, rawptr_Tells, rawptr_Lawful}
use denote.Steps.{nothing, heard}
use denote.Triple.Entry.{on_entry}
use denote.Triple.Walked.{says, Stays, walk_of, ends_at}
use Rattle.std.proofs.raw_atomic.Walks.{proved}
use Rattle.rlsf_base.specs.Out.{Change, kept_at}
use Rattle.rlsf_base.specs.Changes.{AreBytesOut, left}
use Rattle.rlsf_base.specs.Steps.Ownership.{IsInBlock, held, bytes_own, units_from, own_unit, ways_of}
use Rattle.rlsf_base.proofs.RawBlock.Rows.{held-gone}
use Rattle.rlsf_base.proofs.RawBlock.Units.{left-out, unit-gone, ways_none}
use Rattle.rlsf_base.proofs.RawBlock.Values.{mark_val, mark_own, mark_made}
use Rattle.rlsf_base.proofs.RawBlock.Dropped.{all_dropped, all_go}
use Rattle.rlsf_base.specs.contracts.memory.block.Bytes as owner
use Rattle.rlsf_base.specs.contracts.memory.block.adopt_none as f
use Rattle.rlsf_base.proofs.memory.block.adopt_none.Statement.{statement}
use Rattle.rlsf_base.proofs.memory.block.adopt_none.Code as code

pub adopt_none_spec : {M : Type 1} → statement M
adopt_none_spec 𝓤 𝓛 𝓜 𝓡 wired =
    let stayed : Stays f.ended.signature.params f.ended.kept = all_dropped f.ended.signature.params f.ended.kept in
    let c = f.clauses 𝓛 𝓜.mem 𝓡.returns in let W = walk_of 𝓛 f.ended stayed c in
    proved 𝓛 f.ended stayed c 𝓜 𝓡
    (all_go 𝓛 0 f.ended.signature.params f.ended.kept ((λ κs x w. tt), ((λ κs x w. tt), ((λ κs x w. tt), tt))))
    f.Key.name code.function (code.unfolded 𝓤 𝓛.H 𝓜 𝓡 wired)
    (λ κs. (rawptr_vals, (uint_vals w64, (uint_vals w64, tt)))) (λ κs. (rawptr_Tells, (uint_Tells w64, (uint_Tells w64, tt)))) (λ κs qs bounds a g are.
    let start = a.1.0 in let len = a.1.1.0 in let units = units_from start len in
    let y : W.Ghost = ((κs, qs, bounds, a, (rawptr_vals a.0, (uint_vals w64 start, (uint_vals w64 len, tt)))), g) in
    let bs : List ℕ = replicate len 0 in let no_changes : List Change = [] in let cs = left 0 len no_changes in let as_many : length bs ≡ len = length-replicate len 0 in
    let gone : AreBytesOut cs 0 len = left-out no_changes 0 len in
    let made : (owner.the_row).Denot = record { mark = record {}; at = a.0; skip = 0; bytes = bs; out = cs; of = (0, 0); units = units } in
    let Asked : Type 0 = IsInBlock a.0 × (len < 2 ^ 63) in
    qed 𝓛 (raw (on_entry 𝓛 f.signature κs qs a y.0.4) ∷ raw (fact 𝓤 Asked) ∷ []) ∵ drop ! $
    heard ! Asked (λ asked. let (b, o, e) = asked.0 in
    enter ! _ _ _ _ _ $ alloc_all !
    (λ l. pass_all ! refl (((rawptr_Lawful 𝓛).typed a.0 _ refl).0, ((tt, record { fits = are.1.0.1 }), ((tt, record { fits = are.1.1.0.1 }), tt))) $
    sets ! (agg ! (no_more !)) refl (tt, tt) $ sets ! (agg ! (and_then ! (get ! refl) (no_more !))) refl (tt, (tt, tt)) $
    returns ! (look_at ! 0 refl) $ free_all ! refl $
    use0 𝓛 (‵ (ways_of (own_unit cs 0 (length bs)) 0 units b o))
    (ways_none 𝓛 b (own_unit cs 0 (length bs)) 0 units o (λ u lo hi. ap (λ k. own_unit cs 0 k u) as_many ∙ unit-gone cs 0 len u gone)) $
    use0 𝓛 (‵ (held (kept_at cs) 0 bs b (0 + o))) (held-gone 𝓛 b (kept_at cs) 0 bs (0 + o) (λ j lo hi. gone j lo (omega (arith, hi, as_many)))) $ fjoin ! $
    flt_i ! (length bs) (2 ^ 63) (omega (arith, asked.1, as_many)) $ fjoin ! $
    rewrite ! 0 (λ (p : Ptr). ‵ (bytes_own p 0 bs cs units)) (sym e) refl $
    suffices ! _ (ends_at 𝓛 f.ended stayed c y mark_val made (tt, (tt, (tt, tt))) (tt, (tt, (tt, tt)))) $ says ! (refl, refl, as_many, refl, refl) $
    use0 𝓛 (‵ (mark_own (mark_val ∷ []))) (mark_made 𝓛) $ fjoin ! $ nothing ! $ nothing ! $ join ! $ nothing ! $ join ! $ nothing ! $ join ! $ nothing ! $ done !)))
