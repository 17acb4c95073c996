-- Shows that `adopt_room` is the owner of the caller's room, as bytes that are raw. Assumes `Logic`.
use Rattle.std.proofs.Common.{◌≡◌, ℕ, ◌+◌, ◌^◌, ◌<◌, List, [], ◌∷◌, length, refl, sym, ap, ◌∙◌, arith, replicate, w64}
use Rattle.std.proofs.lemmas.List.{length-replicate}
use base.Logic.{never, id⊢}
use base.Fml.{Fml, froom}
use contract.Monad.{fact}
use types.Kit.{‵, raw, ◌⊛◌, ◌$◌, ◌∵◌, !, qed, drop, move, use0, use1, split, join, fsplit, fjoin, flt_i, rewrite, suffices, done}
use types.Part.{agg}
use types.Run.{no_more, and_then, returns, enter}
use types.ByLocal.{alloc_all, pass_all, free_all, look_at, get, sets}
use denote.Plain.{uint_vals, uint_Tells}
use denote.RawPtr.{Ptr, in_a_block, rawptr_vals, rawptr_Tells, rawptr_Lawful}
use denote.Steps.{nothing, heard}
use denote.Triple.Entry.{on_entry}
use denote.Triple.Walked.{says, Stays, walk_of, ends_at}
use Rattle.std.proofs.raw_atomic.Walks.{proved}
use Rattle.rlsf_base.specs.Out.{Change, raw as raw', kept_at}
use Rattle.rlsf_base.specs.Changes.{came_raw}
use Rattle.rlsf_base.specs.Steps.Ownership.{bytes_ty, held, bytes_own, room_at, units_from, begins_in, own_unit}
use Rattle.rlsf_base.proofs.Changes.{changed-there, raw-own}
use Rattle.rlsf_base.proofs.RawBlock.Rows.{room-held}
use Rattle.rlsf_base.proofs.RawBlock.Units.{ways-same, unit-all}
use Rattle.rlsf_base.proofs.RawBlock.Values.{mark_val, mark_own, mark_made}
use Rattle.rlsf_base.proofs.RawBlock.Dropped.{all_dropped, all_go}
use Rattle.rlsf_base.specs.contracts.memory.block.Bytes as owner
use Rattle.rlsf_base.specs.contracts.memory.block.adopt_room as f
use Rattle.rlsf_base.proofs.memory.block.adopt_room.Statement.{statement}
use Rattle.rlsf_base.proofs.memory.block.adopt_room.Code as code

pub adopt_room_spec : {M : Type 1} → statement M
adopt_room_spec 𝓤 𝓛 𝓜 𝓡 wired =
    let stayed : Stays f.ended.signature.params f.ended.kept = all_dropped f.ended.signature.params f.ended.kept in
    let c = f.clauses 𝓛 𝓜.mem 𝓡.returns in let W = walk_of 𝓛 f.ended stayed c in
    proved 𝓛 f.ended stayed c 𝓜 𝓡
    (all_go 𝓛 0 f.ended.signature.params f.ended.kept ((λ κs x w. tt), ((λ κs x w. tt), ((λ κs x w. tt), tt))))
    f.Key.name code.function (code.unfolded 𝓤 𝓛.H 𝓜 𝓡 wired)
    (λ κs. (rawptr_vals, (uint_vals w64, (uint_vals w64, tt)))) (λ κs. (rawptr_Tells, (uint_Tells w64, (uint_Tells w64, tt)))) (λ κs qs bounds a g are.
    let start = a.1.0 in let len = a.1.1.0 in let units = units_from start len in
    let y : W.Ghost = ((κs, qs, bounds, a, (rawptr_vals a.0, (uint_vals w64 start, (uint_vals w64 len, tt)))), g) in
    let bs : List ℕ = replicate len 0 in let no_changes : List Change = [] in let cs = came_raw 0 len no_changes in let as_many : length bs ≡ len = length-replicate len 0 in
    let made : (owner.the_row).Denot = record { mark = record {}; at = a.0; skip = 0; bytes = bs; out = cs; of = (0, 0); units = units } in
    qed 𝓛 (raw (on_entry 𝓛 f.signature κs qs a y.0.4) ∷ (‵ (room_at a.0 start len) ⊛ raw (fact 𝓤 (len < 2 ^ 63))) ∷ []) ∵ drop ! $ split ! $ move ! (1 ∷ []) $
    heard ! (len < 2 ^ 63) (λ small.
    in_a_block ! a.0 (λ p. room_at p start len) (id⊢ 𝓤 (never 𝓤)) (λ b o e.
    enter ! _ _ _ _ _ $ alloc_all !
    (λ l. pass_all ! refl (((rawptr_Lawful 𝓛).typed a.0 _ refl).0, ((tt, record { fits = are.1.0.1 }), ((tt, record { fits = are.1.1.0.1 }), tt))) $
    sets ! (agg ! (no_more !)) refl (tt, tt) $ sets ! (agg ! (and_then ! (get ! refl) (no_more !))) refl (tt, (tt, tt)) $
    returns ! (look_at ! 0 refl) $ free_all ! refl $
    -- [the room; the ways of its units]
    fsplit ! $ let first : o ≡ 0 + o = omega arith in
    rewrite ! 0 (λ (u : ℕ × ℕ). ‵ (froom (bytes_ty u.0) b u.1)) {x = (length bs, 0 + o)} {y = (len, o)} (λ i. (sym as_many i, first i)) refl $
    use1 𝓛 (‵ (held (kept_at cs) 0 bs b (0 + o)))
    (room-held 𝓛 b (kept_at cs) 0 bs (0 + o) (λ j lo hi. changed-there raw' no_changes 0 len j lo (omega (arith, hi, as_many)))) $
    rewrite ! 1 (λ (F : Fml). ‵ F)
    (sym (ways-same 𝓛 b (own_unit cs 0 (length bs)) (begins_in 0 len) 0 units o
    (λ u. ap (λ k. own_unit cs 0 k u) as_many ∙ unit-all cs 0 len u (raw-own no_changes 0 len)))) refl $ fjoin ! $
    flt_i ! (length bs) (2 ^ 63) (omega (arith, small, as_many)) $ fjoin ! $
    rewrite ! 0 (λ (p : Ptr). ‵ (bytes_own p 0 bs cs units)) (sym e) refl $
    suffices ! _ (ends_at 𝓛 f.ended stayed c y mark_val made (tt, (tt, (tt, tt))) (tt, (tt, (tt, tt)))) $ says ! (refl, refl, as_many, refl, refl) $
    use0 𝓛 (‵ (mark_own (mark_val ∷ []))) (mark_made 𝓛) $ fjoin ! $ nothing ! $ nothing ! $ join ! $ nothing ! $ join ! $ nothing ! $ join ! $ nothing ! $ done !))))
