-- Shows that `release` returns the bytes that it was given. Assumes `Logic`.
use Rattle.std.proofs.Common.{◌≡◌, ℕ, List, [], ◌∷◌, length, refl}
use base.Fml.{ftrue}
use contract.Monad.{fact}
use types.Kit.{‵, raw, ◌⊛◌, ◌$◌, ◌∵◌, !, qed, move, keep, drop, split, join, frame, group, feq_i, rewrite, suffices, done}
use types.Part.{whole, sub}
use types.Run.{stop, fld, of_opd, returns, enter}
use types.ByLocal.{alloc_all, pass_all, free_all, look_at, get_in, sets}
use denote.RawPtr.{Ptr, ptr_val, rawptr_Lawful}
use denote.Steps.{nothing, heard}
use denote.Triple.Walked.{says, Stays, walk_of, ends_at}
use Rattle.std.proofs.raw_atomic.Walks.{proved}
use Rattle.rlsf_base.specs.Out.{Change}
use Rattle.rlsf_base.specs.Steps.Ownership.{bytes_own, units_from}
use Rattle.rlsf_base.proofs.RawBlock.Parts.{bytes_of_parts}
use Rattle.rlsf_base.proofs.RawBlock.Values.{base_typed}
use Rattle.rlsf_base.proofs.RawBlock.Dropped.{all_dropped, all_go}
use Rattle.rlsf_base.specs.contracts.memory.block.RawParts.release as f
use Rattle.rlsf_base.proofs.memory.block.RawParts.release.Statement.{statement}
use Rattle.rlsf_base.proofs.memory.block.RawParts.release.Code as code
use Rattle.rlsf_base.proofs.memory.block.RawParts.TheLaws as parts_laws
use Rattle.rlsf_base.proofs.memory.block.RawParts.TheLaws.{lowers as parts_lowers}
use Rattle.rlsf_base.specs.contracts.memory.block.RawParts as parts_type

pub release_spec : {M : Type 1} → statement M
release_spec 𝓤 𝓛 𝓜 𝓡 wired =
    let stayed : Stays f.ended.signature.params f.ended.kept = all_dropped f.ended.signature.params f.ended.kept in
    let c = f.clauses 𝓛 𝓜.mem 𝓡.returns in let W = walk_of 𝓛 f.ended stayed c in
    proved 𝓛 f.ended stayed c 𝓜 𝓡
    (all_go 𝓛 0 f.ended.signature.params f.ended.kept ((λ κs x w. tt), tt))
    f.Key.name code.function (code.unfolded 𝓤 𝓛.H 𝓜 𝓡 wired)
    (λ κs. ((λ r. parts_lowers.lowered r ∷ []), tt)) (λ κs. (parts_lowers.val_is, tt)) (λ κs qs bounds a g are.
    let base = a.0.base in let d = a.0.bytes in
    let Asked : Type 0 = (d.at ≡ base.ptr) × (d.skip ≡ 0) × (d.out ≡ []) × (d.units ≡ units_from a.0.start (length d.bytes)) in
    let y : W.Ghost = ((κs, qs, bounds, a, (parts_lowers.lowered a.0 ∷ [], tt)), g) in
    qed 𝓛 ((‵ ftrue ⊛ (‵ ((parts_type.the_row).own_val a.0 (parts_lowers.lowered a.0 ∷ [])) ⊛ ‵ ftrue)) ∷ raw (fact 𝓤 Asked) ∷ []) ∵
    move ! (1 ∷ []) $ heard ! Asked (λ asked. split ! $ drop ! $ split ! $
    bytes_of_parts ! a.0 (λ is. keep ! (0 ∷ []) $
    enter ! _ _ _ _ _ $ alloc_all ! (λ l. pass_all ! refl ((parts_laws.the_row_laws.lawful 𝓛).typed a.0 _ is) $
    sets ! (of_opd ! (get_in ! (fld ! refl (stop !)) (sub ! 0 refl (whole !)))) refl (base_typed base.ptr) $
    sets ! (of_opd ! (get_in ! (fld ! refl (stop !)) (sub ! 3 refl (whole !)))) refl (tt, (tt, tt)) $
    sets ! (of_opd ! (get_in ! (fld ! refl (stop !)) (sub ! 0 refl (whole !)))) refl ((rawptr_Lawful 𝓛).typed base.ptr _ refl).0 $
    returns ! (look_at ! 0 refl) $ free_all ! refl $
    rewrite ! 0 (λ (u : Ptr × ℕ × List Change × ℕ). ‵ (bytes_own u.0 u.1 d.bytes u.2 u.3)) (λ i. (asked.0 i, asked.1 i, asked.2 i, asked.3 i)) refl $
    suffices ! _ (ends_at 𝓛 f.ended stayed c y (ptr_val base.ptr) base.ptr ((tt, (tt, (tt, (tt, tt)))), tt) (tt, tt)) $
    feq_i ! _ (ptr_val base.ptr ∷ []) _ refl $ nothing ! $ nothing ! $ join ! $ nothing ! $ group ! 3 $ frame ! $ says ! refl $ done !))))
