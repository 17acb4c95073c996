-- Shows that `from_first` is the owner of the same bytes, by the place of the first. Assumes `Logic`.
use Rattle.std.proofs.Common.{◌≡◌, ℕ, ◌+◌, ◌^◌, [], ◌∷◌, length, refl, sym, ap, ◌∙◌, arith, w64}
use Rattle.std.specs.Prelude.{eqb, if◌then◌else◌}
use base.Fraction.{full_share}
use mir.Val.{Val}
use base.Logic.{never, id⊢}
use base.Fml.{ftrue, fat}
use contract.Monad.{fact}
use contract.Running.{tables}
use types.Kit.{‵, raw, ◌⊛◌, at_ret, ◌$◌, ◌∵◌, !, qed, move, keep, drop, use0, use1, use2, split, join, rewrite, suffices, fsplit, fjoin, flt_i, flt_l, done}
use types.Part.{whole, sub, agg}
use types.Run.{stop, fld, of_opd, bin, no_more, and_then, first, blocks, exec, returns, enter}
use types.ByLocal.{alloc_all, pass_all, free_all, look_at, get, get_in, sets, sets_last, take_at, give_at, env}
use denote.RattleType.{RattleType, owns}
use denote.Param.{layout}
use denote.RawPtr.{Ptr, block_ptr, in_a_block, ◌+ₚ◌}
use denote.Plain.{uint_vals, uint_Tells}
use denote.Signature.{types_at}
use denote.Steps.{nothing, heard}
use denote.Struct.Tuple.{Tuple}
use denote.Triple.Walked.{says, Stays, walk_of, ends_at}
use Rattle.core.proofs.alloc.Shapes.{after}
use Rattle.std.proofs.raw_atomic.Walks.{proved}
use Rattle.rlsf_base.specs.Out.{kept_at}
use Rattle.rlsf_base.specs.Steps.Ownership.{held, bytes_own, ways_of, own_unit}
use Rattle.rlsf_base.proofs.RawBlock.Units.{ways_first}
use Rattle.rlsf_base.proofs.RawBlock.OwnerValues.{bytes_vals, bytes_Tells}
use Rattle.rlsf_base.proofs.RawBlock.Values.{base_val, base_vals, base_Tells, base_typed, base_own, base_made, mark_val, mark_own, mark_made, two_val, two_of}
use Rattle.rlsf_base.proofs.RawBlock.Dropped.{all_dropped, all_go}
use Rattle.rlsf_base.specs.contracts.memory.block.Base as base_type
use Rattle.rlsf_base.specs.contracts.memory.block.Bytes as owner
use Rattle.rlsf_base.specs.contracts.memory.block.Bytes.from_first as f
use Rattle.rlsf_base.proofs.memory.block.Bytes.from_first.Statement.{statement}
use Rattle.rlsf_base.proofs.memory.block.Bytes.from_first.Code as code

pub from_first_spec : {M : Type 1} → statement M
from_first_spec 𝓤 𝓛 𝓜 𝓡 wired =
    let stayed : Stays f.ended.signature.params f.ended.kept = all_dropped f.ended.signature.params f.ended.kept in
    let c = f.clauses 𝓛 𝓜.mem 𝓡.returns in let W = walk_of 𝓛 f.ended stayed c in let 𝓣 = tables 𝓤 𝓛.H 𝓜 𝓡 𝓡.env in
    proved 𝓛 f.ended stayed c 𝓜 𝓡
    (all_go 𝓛 0 f.ended.signature.params f.ended.kept ((λ κs x w. tt), ((λ κs x w. tt), ((λ κs x w. tt), tt))))
    f.Key.name code.function (code.unfolded 𝓤 𝓛.H 𝓜 𝓡 wired)
    (λ κs. (bytes_vals, (base_vals, (uint_vals w64, tt)))) (λ κs. (bytes_Tells, (base_Tells, (uint_Tells w64, tt)))) (λ κs qs bounds a g are.
    let d = a.0 in let base = a.1.0 in let skip = a.1.1.0 in
    let Asked : Type 0 = (base.ptr ≡ d.at) × (d.skip ≡ skip) in
    let y : W.Ghost = ((κs, qs, bounds, a, (mark_val ∷ [], (base_vals base, (uint_vals w64 skip, tt)))), g) in
    qed 𝓛 ((‵ ftrue ⊛ ‵ (owns (types_at f.signature.params κs) a y.0.4)) ∷ raw (fact 𝓤 Asked) ∷ []) ∵
    move ! (1 ∷ []) $ heard ! Asked (λ asked. split ! $ drop ! $ fsplit ! $ fsplit ! $ keep ! (1 ∷ []) $
    enter ! _ _ _ _ _ $ alloc_all ! (λ l. pass_all ! refl ((tt, (tt, tt)), (base_typed base.ptr, ((tt, record { fits = are.1.1.0.1 }), tt))) $
    in_a_block ! d.at (λ p. bytes_own p d.skip d.bytes d.out d.units) (id⊢ 𝓤 (never 𝓤)) (λ b o e. fsplit ! $ flt_l ! (λ small. fsplit ! $
    -- [the bytes; the ways; ..]
    take_at ! 2 $ rewrite ! 0 (λ (p : Ptr). ‵ (fat full_share (layout base_type.the_row) (l 2) 0 (base_val p))) (asked.0 ∙ e) refl $ give_at ! 2 $
    first ! $ blocks ! $ sets_last ! (bin ! (get_in ! (fld ! refl (stop !)) (sub ! 0 refl (whole !))) (get ! refl) tt) refl (tt, tt) $
    exec ! 𝓣.C 𝓣.Λ (env code.Mir.locals l) (after 1 (code.function).body) (at_ret _ (W.post y)) $ sets ! (of_opd ! (get ! refl)) refl (tt, tt) $
    sets ! (agg ! (and_then ! (get ! refl) (no_more !))) refl (tt, (tt, tt)) $
    sets ! (agg ! (no_more !)) refl (tt, tt) $ sets ! (agg ! (and_then ! (get ! refl) (no_more !))) refl (tt, (tt, tt)) $
    sets ! (agg ! (and_then ! (get ! refl) (and_then ! (get ! refl) (no_more !)))) refl (tt, ((tt, tt), ((tt, tt), tt))) $
    returns ! (look_at ! 0 refl) $ free_all ! refl $
    let p : Ptr = block_ptr b (skip + o) in let units : ℕ = if eqb skip 0 then d.units else 0 in let there : d.skip + o ≡ 0 + (skip + o) = omega (arith, asked.1) in
    let swapped : skip + o ≡ o + skip = omega arith in
    let x : (base_type.the_row).Denot = record { ptr = p } in
    let bytes : (owner.the_row).Denot = record { mark = record {}; at = p; skip = 0; bytes = d.bytes; out = d.out; of = (0, 0); units = units } in
    let v : Val = two_val (base_val p) mark_val in let Two : RattleType = Tuple (base_type.the_row ∷ owner.the_row ∷ []) in
    move ! (1 ∷ []) $ rewrite ! 0 (λ (k : ℕ). ‵ (ways_of (own_unit d.out k (length d.bytes)) 0 d.units b o)) asked.1 refl $
    use1 𝓛 (‵ (ways_of (own_unit d.out 0 (length d.bytes)) 0 units b (skip + o))) (ways_first 𝓛 b d.out skip (length d.bytes) d.units o (skip + o) refl) $
    move ! (1 ∷ []) $ rewrite ! 0 (λ (k : ℕ). ‵ (held (kept_at d.out) 0 d.bytes b k)) there refl $ fjoin ! $ flt_i ! (length d.bytes) (2 ^ 63) small $ fjoin ! $
    use0 𝓛 (‵ (mark_own (mark_val ∷ []))) (mark_made 𝓛) $ fjoin ! $ use0 𝓛 (‵ (base_own p (base_val p ∷ []))) (base_made 𝓛 p) $
    use2 𝓛 (‵ (Two.own_val (x, bytes) (v ∷ []))) (two_of 𝓛 base_type.the_row owner.the_row x bytes (base_val p) mark_val) $
    suffices ! _ (ends_at 𝓛 f.ended stayed c y v (x, bytes) (tt, (tt, (tt, tt))) (tt, (tt, (tt, tt)))) $ says !
    (ap (λ (k : ℕ). block_ptr b k) swapped ∙ sym (ap (λ (q : Ptr). q +ₚ skip) (asked.0 ∙ e)), (refl, refl, refl, refl, refl)) $
    nothing ! $ nothing ! $ join ! $ nothing ! $ join ! $ nothing ! $ join ! $ nothing ! $ done !)))))
