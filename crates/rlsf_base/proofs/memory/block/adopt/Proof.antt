-- Shows that `adopt` is the owner of the caller's bytes. Assumes `Logic`.
use Rattle.std.proofs.Common.{List, [], ◌∷◌, length, refl, w64}
use types.Kit.{‵, raw, ◌$◌, ◌∵◌, !, qed, drop, use0, join, fjoin, suffices, done}
use types.Part.{agg}
use types.Run.{no_more, and_then, returns, enter}
use types.ByLocal.{alloc_all, pass_all, free_all, look_at, get, sets}
use denote.Plain.{uint_vals, uint_Tells}
use denote.RawPtr.{rawptr_vals, rawptr_Tells, rawptr_Lawful}
use denote.Steps.{nothing}
use denote.Triple.Entry.{on_entry}
use denote.Triple.Walked.{says, Stays, walk_of, ends_at}
use Rattle.std.proofs.raw_atomic.Walks.{proved}
use Rattle.rlsf_base.specs.Out.{Change}
use Rattle.rlsf_base.specs.Steps.Ownership.{bytes_at_pointer, units_from}
use Rattle.rlsf_base.proofs.RawBlock.Values.{mark_val, mark_own, mark_made}
use Rattle.rlsf_base.proofs.RawBlock.Dropped.{all_dropped, all_go}
use Rattle.rlsf_base.specs.contracts.memory.block.Bytes as owner
use Rattle.rlsf_base.specs.contracts.memory.block.adopt as f
use Rattle.rlsf_base.proofs.memory.block.adopt.Statement.{statement}
use Rattle.rlsf_base.proofs.memory.block.adopt.Code as code

pub adopt_spec : {M : Type 1} → statement M
adopt_spec 𝓤 𝓛 𝓜 𝓡 wired =
    let stayed : Stays f.ended.signature.params f.ended.kept = all_dropped f.ended.signature.params f.ended.kept in
    let c = f.clauses 𝓛 𝓜.mem 𝓡.returns in let W = walk_of 𝓛 f.ended stayed c in
    proved 𝓛 f.ended stayed c 𝓜 𝓡
    (all_go 𝓛 0 f.ended.signature.params f.ended.kept ((λ κs x w. tt), ((λ κs x w. tt), tt)))
    f.Key.name code.function (code.unfolded 𝓤 𝓛.H 𝓜 𝓡 wired)
    (λ κs. (rawptr_vals, (uint_vals w64, tt))) (λ κs. (rawptr_Tells, (uint_Tells w64, tt))) (λ κs qs bounds a bytes are.
    let start = a.1.0 in
    let y : W.Ghost = ((κs, qs, bounds, a, (rawptr_vals a.0, (uint_vals w64 start, tt))), bytes) in
    let no_changes : List Change = [] in
    let made : (owner.the_row).Denot = record { mark = record {}; at = a.0; skip = 0; bytes = bytes; out = no_changes; of = (0, 0); units = units_from start (length bytes) } in
    qed 𝓛 (raw (on_entry 𝓛 f.signature κs qs a y.0.4) ∷ ‵ (bytes_at_pointer a.0 start bytes) ∷ []) ∵ drop ! $
    enter ! _ _ _ _ _ $ alloc_all ! (λ l. pass_all ! refl (((rawptr_Lawful 𝓛).typed a.0 _ refl).0, ((tt, record { fits = are.1.0.1 }), tt)) $
    sets ! (agg ! (no_more !)) refl (tt, tt) $ sets ! (agg ! (and_then ! (get ! refl) (no_more !))) refl (tt, (tt, tt)) $
    returns ! (look_at ! 0 refl) $ free_all ! refl $
    suffices ! _ (ends_at 𝓛 f.ended stayed c y mark_val made (tt, (tt, tt)) (tt, (tt, tt))) $ says ! (refl, refl, refl, refl, refl) $
    use0 𝓛 (‵ (mark_own (mark_val ∷ []))) (mark_made 𝓛) $ fjoin ! $ nothing ! $ nothing ! $ join ! $ nothing ! $ join ! $ nothing ! $ done !))
