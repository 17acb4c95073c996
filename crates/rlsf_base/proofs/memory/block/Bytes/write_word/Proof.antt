-- Shows that `write_word` writes the room of eight bytes, which are here from now on. Assumes `Logic`.
use Rattle.std.proofs.Common.{◌≡◌, ◌+◌, List, [], ◌∷◌, length, map, refl, sym, ◌∙◌, arith, w8, w64}
use base.Fraction.{full_share}
use mir.Syntax.{named, ty_int}
use mir.Val.{Val, vunit, vint}
use prog.Model
use denote.Array.{array_vals, Array-Tells, Array-Lawful}
use base.Fml.{ftrue, fat, froom, flft}
use contract.Monad.{fact}
use contract.Running.{tables}
use types.Kit.{‵, raw, ◌⊛◌, at_ret, ◌$◌, ◌∵◌, !, qed, move, keep, use1, use3, split, rewrite, suffices, fsplit, feq_i}
use types.Part.{whole, sub}
use types.Run.{stop, fld, unit_lit, of_opd, bin, init, assigns_last, first, blocks, exec, returns, enter}
use types.ByLocal.{alloc_all, pass_all, free_all, look_at, get, get_in, through, sets, take_at, give_at, env}
use denote.RattleType.{owns}
use denote.Param.{layout}
use denote.RawPtr.{Ptr}
use denote.Ref.{mut_vals, mut_Tells}
use denote.Plain.{uint_vals, uint_Tells, uint_Lawful}
use denote.Builtin.{u8}
use denote.Signature.{plain, types_at}
use denote.Steps.{heard}
use denote.Triple.Walked.{says, Stays, stay_ref, walk_of, Goes-ref, ends_at}
use Rattle.core.proofs.alloc.Shapes.{after}
use Rattle.std.proofs.raw_atomic.Walks.{proved}
use Rattle.rlsf_base.specs.Steps.Owners.{HasOwn}
use Rattle.rlsf_base.specs.Steps.Ownership.{bytes_ty}
use Rattle.rlsf_base.proofs.RawBlock.Dropped.{others_dropped, others_go}
use Rattle.rlsf_base.proofs.RawBlock.Rows.{Row, from_elems}
use Rattle.rlsf_base.proofs.RawBlock.OpenOwner.{opens_owner, closes_owner, bytes_in, ways_in, ends_kept, Others, room_of_run, written_owner, written_as_long, run_written}
use Rattle.rlsf_base.proofs.RawBlock.Values.{base_val, base_vals, base_Tells, base_typed}
use Rattle.rlsf_base.specs.contracts.memory.block.Bytes as owner
use Rattle.rlsf_base.specs.contracts.memory.block.Base as base_type
use Rattle.rlsf_base.specs.contracts.memory.block.Bytes.write_word as f
use Rattle.rlsf_base.proofs.memory.block.Bytes.write_word.Statement.{statement}
use Rattle.rlsf_base.proofs.memory.block.Bytes.write_word.Code as code

pub write_word_spec : {M : Type 1} → statement M
write_word_spec 𝓤 𝓛 𝓜 𝓡 wired =
    let stayed : Stays f.ended.signature.params f.ended.kept = others_dropped f.ended.signature.params f.ended.kept (stay_ref (0 ∷ []) tt (plain (λ _. owner.the_row))) in
    let c = f.clauses 𝓛 𝓜.mem 𝓡.returns in let W = walk_of 𝓛 f.ended stayed c in let 𝓣 = tables 𝓤 𝓛.H 𝓜 𝓡 𝓡.env in
    proved 𝓛 f.ended stayed c 𝓜 𝓡
    (others_go 𝓛 1 f.ended.signature.params f.ended.kept stayed.0 (Goes-ref 𝓛 1 0 tt (plain (λ _. owner.the_row))) ((λ κs x w. tt), ((λ κs x w. tt), ((λ κs x w. tt), tt))))
    f.Key.name code.function (code.unfolded 𝓤 𝓛.H 𝓜 𝓡 wired)
    (λ κs. (mut_vals, (base_vals, (uint_vals w64, (array_vals (uint_vals w8), tt)))))
    (λ κs. (mut_Tells (named 0) κs.0 owner.the_row, (base_Tells, (uint_Tells w64, (Array-Tells u8 (uint_vals w8) (uint_Tells w8) 8, tt))))) (λ κs qs bounds a g are.
    let d = a.0.now in let base = a.1.0 in let place = a.1.1.0 in let word = a.1.1.1.0 in
    let Asked : Type 0 = (base.ptr ≡ d.at) × HasOwn d place 8 in
    let typed = ((Array-Lawful 𝓛 u8 (uint_Lawful 𝓛 w8) 8).typed word (array_vals (uint_vals w8) word) are.1.1.1.0).0 in let as_long : 8 ≡ length word =
    sym are.1.1.1.0.1.0.1 in
    let y : W.Ghost = ((κs, qs, bounds, a, (mut_vals a.0, (base_vals base, (uint_vals w64 place, (array_vals (uint_vals w8) word, tt))))), g) in
    qed 𝓛 (((‵ (flft κs.0 qs.0) ⊛ ‵ ftrue) ⊛ ‵ (owns (types_at f.signature.params κs) a y.0.4)) ∷ raw (fact 𝓤 Asked) ∷ []) ∵
    move ! (1 ∷ []) $ heard ! Asked (λ asked. split ! $ split ! $ move ! (2 ∷ []) $ fsplit ! $ keep ! (0 ∷ 2 ∷ []) $
    enter ! _ _ _ _ _ $ alloc_all ! (λ l. pass_all ! refl ((tt, tt), (base_typed base.ptr, ((tt, record { fits = are.1.1.0.1 }), (typed, tt)))) $
    opens_owner ! tt κs.0 qs.0 a.0 (λ us b o e small.
    -- [the bytes; the ways; the open owner; ..]
    let at = place + o in let new = written_owner 𝓛 d b o place 8 asked.1 word as_long in
    use1 𝓛 (‵ (froom (bytes_ty 8) b at) ⊛ ‵ (Others 𝓛 d b o place 8 asked.1)) (room_of_run 𝓛 d b o place 8 asked.1) $ split ! $
    take_at ! 2 $ rewrite ! 0 (λ (p : Ptr). ‵ (fat full_share (layout base_type.the_row) (l 2) 0 (base_val p))) (asked.0 ∙ e) refl $ give_at ! 2 $
    first ! $ blocks ! $ sets ! (bin ! (get_in ! (fld ! refl (stop !)) (sub ! 0 refl (whole !))) (get ! refl) tt) refl (tt, tt) $ sets ! (of_opd ! (get ! refl)) refl (tt, tt) $
    assigns_last ! (of_opd ! (get ! refl)) (through ! refl (stop !)) (init ! 0 refl typed) $
    exec ! 𝓣.C 𝓣.Λ (env code.Mir.locals l) (after 1 (code.function).body) (at_ret _ (W.post y)) $ sets ! (of_opd ! (unit_lit !)) refl (tt, tt) $
    use1 𝓛 (raw (prog.Model.elems 𝓤 𝓛.H full_share (ty_int w8) b at (map (λ x. vint w8 x) word)))
    (𝓛.laws.at_elems full_share (ty_int w8) 8 b at (map (λ x. vint w8 x) word)) $
    use1 𝓛 (‵ (Row 𝓛 b at word)) (from_elems 𝓛 b word at) $
    use3 𝓛 (‵ (bytes_in new b o) ⊛ ‵ (ways_in new b o)) (run_written 𝓛 d b o place 8 asked.1 word as_long) $ split ! $
    closes_owner ! tt κs.0 qs.0 a.0 us new b o e (omega (arith, small, written_as_long 𝓛 d b o place 8 asked.1 word as_long)) $
    returns ! (look_at ! 0 refl) $ free_all ! refl $ feq_i ! (List Val) (vunit ∷ []) (vunit ∷ []) refl $ move ! (1 ∷ 2 ∷ 0 ∷ []) $
    suffices ! _ (ends_at 𝓛 f.ended stayed c y vunit tt (new, (tt, (tt, (tt, tt)))) (tt, (tt, (tt, (tt, tt))))) $ says ! ((refl, refl, refl, refl, refl), refl) $
    ends_kept 3 !))))
