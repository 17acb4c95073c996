-- Shows that `slice` lends the run of bytes that a `&` to the owner sees. Assumes `Logic`.
use Rattle.std.proofs.Common.{◌≡◌, ℕ, ◌+◌, ◌-◌, ◌*◌, ◌^◌, List, [], ◌∷◌, length, take, drop, refl, sym, ap, ◌∙◌, arith, length-take}
use Rattle.std.proofs.Common.{length-drop, w64}
use base.Fraction.{full_share}
use mir.Syntax.{named}
use mir.Val.{Val}
use base.Logic.{never, id⊢}
use base.Fml.{ftrue, fat, flft}
use contract.Monad.{fact}
use contract.Running.{tables}
use types.Kit.{‵, raw, ◌⊛◌, at_ret, ◌$◌, ◌∵◌, !, qed, move, keep, drop as skip, use1, split, join, rewrite, suffices, frame, fsplit, fjoin, feq_i, flt_i, flt_l}
use types.Kit.{done}
use types.Part.{whole, sub, agg}
use types.Run.{stop, fld, of_opd, and_then, no_more, bin, first, blocks, exec, returns, enter}
use types.ByLocal.{alloc_all, pass_all, free_all, look_at, get, get_in, sets, sets_last, take_at, give_at, env}
use denote.RattleType.{owns}
use denote.Param.{layout}
use denote.RawPtr.{Ptr, in_a_block}
use denote.Ref.{shr_vals, shr_Tells}
use denote.Plain.{uint_vals, uint_Tells}
use denote.Builtin.{u8}
use denote.Opens.{hide, unhide}
use denote.Signature.{types_at}
use denote.Slice.{slice_val, elements_shared}
use denote.Steps.{nothing, heard}
use denote.Triple.Walked.{says, Stays, walk_of, ends_at}
use Rattle.core.proofs.alloc.Shapes.{after}
use Rattle.std.proofs.raw_atomic.Walks.{proved}
use Rattle.rlsf_base.specs.Steps.Owners.{HasHere}
use Rattle.rlsf_base.specs.Steps.Ownership.{bytes_lent}
use Rattle.rlsf_base.proofs.RawBlock.Rows.{run_seen}
use Rattle.rlsf_base.proofs.RawBlock.Values.{base_val, base_vals, base_Tells, base_typed}
use Rattle.rlsf_base.proofs.RawBlock.Dropped.{all_dropped, all_go}
use Rattle.rlsf_base.specs.contracts.memory.block.Bytes as owner
use Rattle.rlsf_base.specs.contracts.memory.block.Base as base_type
use Rattle.rlsf_base.specs.contracts.memory.block.Bytes.slice as f
use Rattle.rlsf_base.proofs.memory.block.Bytes.slice.Statement.{statement}
use Rattle.rlsf_base.proofs.memory.block.Bytes.slice.Code as code

pub slice_spec : {M : Type 1} → statement M
slice_spec 𝓤 𝓛 𝓜 𝓡 wired =
    let stayed : Stays f.ended.signature.params f.ended.kept = all_dropped f.ended.signature.params f.ended.kept in
    let c = f.clauses 𝓛 𝓜.mem 𝓡.returns in let W = walk_of 𝓛 f.ended stayed c in let 𝓣 = tables 𝓤 𝓛.H 𝓜 𝓡 𝓡.env in
    proved 𝓛 f.ended stayed c 𝓜 𝓡
    (all_go 𝓛 1 f.ended.signature.params f.ended.kept ((λ κs x w. tt), ((λ κs x w. tt), ((λ κs x w. tt), ((λ κs x w. tt), tt)))))
    f.Key.name code.function (code.unfolded 𝓤 𝓛.H 𝓜 𝓡 wired)
    (λ κs. (shr_vals, (base_vals, (uint_vals w64, (uint_vals w64, tt)))))
    (λ κs. (shr_Tells (named 0) κs.0 owner.the_row, (base_Tells, (uint_Tells w64, (uint_Tells w64, tt))))) (λ κs qs bounds a g are.
    let κ = κs.0 in let d = a.0.now in let base = a.1.0 in let place = a.1.1.0 in let len = a.1.1.1.0 in
    let Asked : Type 0 = (base.ptr ≡ d.at) × HasHere d place len in
    let y : W.Ghost = ((κs, qs, bounds, a, (shr_vals a.0, (base_vals base, (uint_vals w64 place, (uint_vals w64 len, tt))))), g) in
    qed 𝓛 (((‵ (flft κ qs.0) ⊛ ‵ ftrue) ⊛ ‵ (owns (types_at f.signature.params κs) a y.0.4)) ∷ raw (fact 𝓤 Asked) ∷ []) ∵
    move ! (1 ∷ []) $ heard ! Asked (λ asked. split ! $ split ! $ move ! (2 ∷ []) $ fsplit ! $ fsplit ! $ keep ! (1 ∷ 3 ∷ []) $
    -- [what the `&` shows; the token of κ]
    enter ! _ _ _ _ _ $ alloc_all ! (λ l. pass_all ! refl ((tt, tt), (base_typed base.ptr, ((tt, record { fits = are.1.1.0.1 }), ((tt, record { fits = are.1.1.1.0.1 }), tt)))) $
    unhide ! $ fsplit ! $ skip ! $ in_a_block ! d.at (λ p. bytes_lent p d.skip d.bytes d.out κ) (id⊢ 𝓤 (never 𝓤)) (λ b o e. fsplit ! $ flt_l ! (λ small.
    let i = place - d.skip in let xs = take len (drop i d.bytes) in let at : ℕ × ℕ = (b, place + o) in
    let long : length xs ≡ len = omega (arith, length-take len (drop i d.bytes), length-drop i d.bytes, asked.1.0) in
    let there : i + (d.skip + o) ≡ place + o = omega (arith, asked.1.0) in
    take_at ! 2 $ rewrite ! 0 (λ (p : Ptr). ‵ (fat full_share (layout base_type.the_row) (l 2) 0 (base_val p))) (asked.0 ∙ e) refl $ give_at ! 2 $
    first ! $ blocks ! $ sets ! (bin ! (get_in ! (fld ! refl (stop !)) (sub ! 0 refl (whole !))) (get ! refl) tt) refl (tt, tt) $
    use1 𝓛 (‵ (elements_shared u8 xs b (i + (d.skip + o)) κ)) (run_seen 𝓛 b κ d.out (d.skip + o) d.bytes i len (omega (arith, asked.1.0)) asked.1.1) $
    rewrite ! 0 (λ (k : ℕ). ‵ (elements_shared u8 xs b k κ)) there refl $ hide ! $
    sets_last ! (agg ! (and_then ! (get ! refl) (and_then ! (get ! refl) (no_more !)))) refl (tt, (tt, (record { fits = are.1.1.1.0.1 }, tt))) $
    exec ! 𝓣.C 𝓣.Λ (env code.Mir.locals l) (after 1 (code.function).body) (at_ret _ (W.post y)) $ sets ! (of_opd ! (get ! refl)) refl
    (tt, (tt, (record { fits = are.1.1.1.0.1 }, tt))) $
    flt_i ! (length xs * 1) (2 ^ 63) (omega (arith, small, long, asked.1.0)) $ flt_i ! (length xs) (2 ^ 64) (omega (arith, small, long, asked.1.0)) $ fjoin ! $
    feq_i ! (List Val) (slice_val at len ∷ []) (slice_val at (length xs) ∷ []) (ap (λ k. slice_val at k ∷ []) (sym long)) $ fjoin ! $ fjoin ! $
    returns ! (look_at ! 0 refl) $ free_all ! refl $ keep ! (1 ∷ 0 ∷ []) $
    suffices ! _ (ends_at 𝓛 f.ended stayed c y (slice_val at len) (record { ref_ptr = at; now = xs }) (tt, (tt, (tt, (tt, tt)))) (tt, (tt, (tt, (tt, tt))))) $ says ! refl $
    nothing ! $ move ! (1 ∷ 0 ∷ []) $ join ! $ frame ! $ nothing ! $ nothing ! $ fjoin ! $ nothing ! $ fjoin ! $ nothing ! $ fjoin ! $ nothing ! $ fjoin ! $ done !)))))
