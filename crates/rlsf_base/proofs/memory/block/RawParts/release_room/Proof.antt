-- Shows that `release_room` returns the room of the bytes that it was given. Assumes `Logic`.
use Rattle.std.proofs.Common.{◌≡◌, ℕ, ◌+◌, [], ◌∷◌, length, refl, sym, ap, ◌∙◌, arith}
use base.Fml.{Fml, ftrue, froom}
use contract.Monad.{fact}
use types.Kit.{use1, ‵, raw, ◌⊛◌, ◌$◌, ◌∵◌, !, qed, move, keep, drop, split, join, frame, group, fsplit, fjoin, feq_i, flt_l, rewrite, suffices, done}
use types.Part.{whole, sub}
use types.Run.{stop, fld, of_opd, returns, enter}
use types.ByLocal.{alloc_all, pass_all, free_all, look_at, get_in, sets}
use denote.RawPtr.{Ptr, in_a_block, ptr_val, rawptr_Lawful}
use denote.Steps.{nothing, heard}
use denote.Triple.Walked.{says, Stays, walk_of, ends_at}
use Rattle.std.proofs.raw_atomic.Walks.{proved}
use Rattle.rlsf_base.specs.Out.{kept_at}
use Rattle.rlsf_base.specs.Changes.{IsOwn}
use Rattle.rlsf_base.specs.Steps.Ownership.{bytes_ty, bytes_own, room_at, units_from, begins_in, own_unit}
use Rattle.rlsf_base.proofs.RawBlock.Rows.{held-room}
use Rattle.rlsf_base.proofs.RawBlock.Units.{ways-same, unit-all}
use Rattle.rlsf_base.proofs.RawBlock.Parts.{bytes_of_parts}
use Rattle.rlsf_base.proofs.RawBlock.Values.{base_typed}
use Rattle.rlsf_base.proofs.RawBlock.Dropped.{all_dropped, all_go}
use Rattle.rlsf_base.specs.contracts.memory.block.RawParts.release_room as f
use Rattle.rlsf_base.proofs.memory.block.RawParts.release_room.Statement.{statement}
use Rattle.rlsf_base.proofs.memory.block.RawParts.release_room.Code as code
use Rattle.rlsf_base.proofs.memory.block.RawParts.TheLaws as parts_laws
use base.Logic.{never, id⊢}
use Rattle.rlsf_base.proofs.memory.block.RawParts.TheLaws.{lowers as parts_lowers}
use Rattle.rlsf_base.specs.contracts.memory.block.RawParts as parts_type

pub release_room_spec : {M : Type 1} → statement M
release_room_spec 𝓤 𝓛 𝓜 𝓡 wired =
    let stayed : Stays f.ended.signature.params f.ended.kept = all_dropped f.ended.signature.params f.ended.kept in
    let c = f.clauses 𝓛 𝓜.mem 𝓡.returns in let W = walk_of 𝓛 f.ended stayed c in
    proved 𝓛 f.ended stayed c 𝓜 𝓡
    (all_go 𝓛 0 f.ended.signature.params f.ended.kept ((λ κs x w. tt), tt))
    f.Key.name code.function (code.unfolded 𝓤 𝓛.H 𝓜 𝓡 wired)
    (λ κs. ((λ r. parts_lowers.lowered r ∷ []), tt)) (λ κs. (parts_lowers.val_is, tt)) (λ κs qs bounds a g are.
    let base = a.0.base in let d = a.0.bytes in
    let Asked : Type 0 = (d.at ≡ base.ptr) × (d.skip ≡ 0) × (length d.bytes ≡ a.0.len) × (d.units ≡ units_from a.0.start (length d.bytes)) in
    let Owned : Type 0 = IsOwn d.out 0 a.0.len in
    let y : W.Ghost = ((κs, qs, bounds, a, (parts_lowers.lowered a.0 ∷ [], tt)), g) in
    qed 𝓛 ((‵ ftrue ⊛ (‵ ((parts_type.the_row).own_val a.0 (parts_lowers.lowered a.0 ∷ [])) ⊛ ‵ ftrue)) ∷ (raw (fact 𝓤 Asked) ⊛ raw (fact 𝓤 Owned)) ∷ [])
    ∵
    move ! (1 ∷ []) $ split ! $ heard ! Asked (λ asked. heard ! Owned (λ own. split ! $ drop ! $ split ! $
    bytes_of_parts ! a.0 (λ is. keep ! (0 ∷ []) $
    enter ! _ _ _ _ _ $ alloc_all ! (λ l. pass_all ! refl ((parts_laws.the_row_laws.lawful 𝓛).typed a.0 _ is) $
    sets ! (of_opd ! (get_in ! (fld ! refl (stop !)) (sub ! 0 refl (whole !)))) refl (base_typed base.ptr) $
    sets ! (of_opd ! (get_in ! (fld ! refl (stop !)) (sub ! 3 refl (whole !)))) refl (tt, (tt, tt)) $
    sets ! (of_opd ! (get_in ! (fld ! refl (stop !)) (sub ! 0 refl (whole !)))) refl ((rawptr_Lawful 𝓛).typed base.ptr _ refl).0 $
    returns ! (look_at ! 0 refl) $ free_all ! refl $
    let units = units_from a.0.start a.0.len in let some_units : d.units ≡ units = asked.3 ∙ ap (λ n. units_from a.0.start n) asked.2 in
    rewrite ! 0 (λ (u : Ptr × ℕ × ℕ). ‵ (bytes_own u.0 u.1 d.bytes d.out u.2)) (λ i. (asked.0 i, asked.1 i, some_units i)) refl $
    in_a_block ! base.ptr (λ p. bytes_own p 0 d.bytes d.out units) (id⊢ 𝓤 (never 𝓤)) (λ b o e. fsplit ! $ flt_l ! (λ small. fsplit ! $
    -- [the bytes; the ways of their units]
    let first : 0 + o ≡ o = omega arith in
    rewrite ! 1 (λ (F : Fml). ‵ F)
    (ways-same 𝓛 b (own_unit d.out 0 (length d.bytes)) (begins_in 0 a.0.len) 0 units o (λ u. ap (λ k. own_unit d.out 0 k u) asked.2 ∙ unit-all d.out 0 a.0.len u own))
    refl $
    use1 𝓛 (‵ (froom (bytes_ty (length d.bytes)) b (0 + o))) (held-room 𝓛 b (kept_at d.out) 0 d.bytes (0 + o) (λ j lo hi. own j lo (omega (arith, hi, asked.2)))) $
    rewrite ! 0 (λ (u : ℕ × ℕ). ‵ (froom (bytes_ty u.0) b u.1)) {x = (a.0.len, o)} {y = (length d.bytes, 0 + o)} (λ i. (asked.2 i, first i)) refl $ fjoin ! $
    rewrite ! 0 (λ (p : Ptr). ‵ (room_at p a.0.start a.0.len)) (sym e) refl $
    suffices ! _ (ends_at 𝓛 f.ended stayed c y (ptr_val base.ptr) base.ptr ((tt, (tt, (tt, (tt, tt)))), tt) (tt, tt)) $
    feq_i ! _ (ptr_val base.ptr ∷ []) _ refl $ nothing ! $ nothing ! $ join ! $ nothing ! $ group ! 3 $ frame ! $ says ! refl $ done !)))))))
