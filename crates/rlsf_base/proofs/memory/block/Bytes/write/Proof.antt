-- Shows that `write` writes the room of a byte, which is here from now on. Assumes `Logic`.
use Rattle.std.proofs.Common.{◌≡◌, ℕ, ◌+◌, List, [], ◌∷◌, refl, ◌∙◌, arith, w8, w64}
use base.Fraction.{full_share}
use mir.Syntax.{named, ty_int}
use mir.Val.{Val, vunit}
use base.Fml.{ftrue, fat, froom, flft}
use contract.Monad.{fact}
use contract.Running.{tables}
use types.Kit.{‵, raw, ◌⊛◌, at_ret, ◌$◌, ◌∵◌, !, qed, move, keep, drop, use1, use3, split, rewrite, suffices, fsplit, fjoin, feq_i}
use types.Part.{whole, sub}
use types.Run.{stop, fld, unit_lit, of_opd, bin, init, assigns_last, first, blocks, exec, returns, enter}
use types.ByLocal.{alloc_all, pass_all, free_all, look_at, get, get_in, through, sets, take_at, give_at, env}
use denote.RattleType.{owns}
use denote.Param.{layout}
use denote.Memory.{part_at}
use denote.RawPtr.{Ptr}
use denote.Ref.{mut_vals, mut_Tells}
use denote.Plain.{uint_vals, uint_Tells, uint_in}
use denote.Builtin.{u8}
use denote.Signature.{plain, types_at}
use denote.Steps.{nothing, heard}
use denote.Triple.Walked.{says, Stays, stay_ref, walk_of, Goes-ref, ends_at}
use Rattle.core.proofs.alloc.Shapes.{after}
use Rattle.std.proofs.raw_atomic.Walks.{proved}
use Rattle.rlsf_base.specs.Steps.Owners.{HasOwn}
use Rattle.rlsf_base.specs.Steps.Ownership.{bytes_ty}
use Rattle.rlsf_base.proofs.RawBlock.Dropped.{others_dropped, others_go}
use Rattle.rlsf_base.proofs.RawBlock.OpenOwner.{opens_owner, closes_owner, bytes_in, ways_in, ends_kept, Others, room_of_run, written_owner, written_as_long, run_written}
use Rattle.rlsf_base.proofs.RawBlock.Values.{base_val, base_vals, base_Tells, base_typed}
use Rattle.rlsf_base.specs.contracts.memory.block.Bytes as owner
use Rattle.rlsf_base.specs.contracts.memory.block.Base as base_type
use Rattle.rlsf_base.specs.contracts.memory.block.Bytes.write as f
use Rattle.rlsf_base.proofs.memory.block.Bytes.write.Statement.{statement}
use Rattle.rlsf_base.proofs.memory.block.Bytes.write.Code as code

pub write_spec : {M : Type 1} → statement M
write_spec 𝓤 𝓛 𝓜 𝓡 wired =
    let stayed : Stays f.ended.signature.params f.ended.kept = others_dropped f.ended.signature.params f.ended.kept (stay_ref (0 ∷ []) tt (plain (λ _. owner.the_row))) in
    let c = f.clauses 𝓛 𝓜.mem 𝓡.returns in let W = walk_of 𝓛 f.ended stayed c in let 𝓣 = tables 𝓤 𝓛.H 𝓜 𝓡 𝓡.env in
    proved 𝓛 f.ended stayed c 𝓜 𝓡
    (others_go 𝓛 1 f.ended.signature.params f.ended.kept stayed.0 (Goes-ref 𝓛 1 0 tt (plain (λ _. owner.the_row))) ((λ κs x w. tt), ((λ κs x w. tt), ((λ κs x w. tt), tt))))
    f.Key.name code.function (code.unfolded 𝓤 𝓛.H 𝓜 𝓡 wired)
    (λ κs. (mut_vals, (base_vals, (uint_vals w64, (uint_vals w8, tt))))) (λ κs. (mut_Tells (named 0) κs.0 owner.the_row, (base_Tells, (uint_Tells w64, (uint_Tells w8, tt)))))
    (λ κs qs bounds a g are.
    let d = a.0.now in let base = a.1.0 in let place = a.1.1.0 in let byte = a.1.1.1.0 in
    let Asked : Type 0 = (base.ptr ≡ d.at) × HasOwn d place 1 in
    let y : W.Ghost = ((κs, qs, bounds, a, (mut_vals a.0, (base_vals base, (uint_vals w64 place, (uint_vals w8 byte, tt))))), g) in
    qed 𝓛 (((‵ (flft κs.0 qs.0) ⊛ ‵ ftrue) ⊛ ‵ (owns (types_at f.signature.params κs) a y.0.4)) ∷ raw (fact 𝓤 Asked) ∷ []) ∵
    move ! (1 ∷ []) $ heard ! Asked (λ asked. split ! $ split ! $ move ! (2 ∷ []) $ fsplit ! $ keep ! (0 ∷ 2 ∷ []) $
    enter ! _ _ _ _ _ $ alloc_all ! (λ l. pass_all ! refl ((tt, tt), (base_typed base.ptr, ((tt, record { fits = are.1.1.0.1 }), ((tt, record { fits = are.1.1.1.0.1 }), tt)))) $
    opens_owner ! tt κs.0 qs.0 a.0 (λ us b o e small.
    -- [the bytes; the ways; the open owner; ..]
    let at = place + o in let one : List ℕ = byte ∷ [] in let new = written_owner 𝓛 d b o place 1 asked.1 one refl in
    use1 𝓛 (‵ (froom (bytes_ty 1) b at) ⊛ ‵ (Others 𝓛 d b o place 1 asked.1)) (room_of_run 𝓛 d b o place 1 asked.1) $ split ! $
    take_at ! 2 $ rewrite ! 0 (λ (p : Ptr). ‵ (fat full_share (layout base_type.the_row) (l 2) 0 (base_val p))) (asked.0 ∙ e) refl $ give_at ! 2 $
    first ! $ blocks ! $ sets ! (bin ! (get_in ! (fld ! refl (stop !)) (sub ! 0 refl (whole !))) (get ! refl) tt) refl (tt, tt) $
    use1 𝓛 (‵ (froom (ty_int w8) b at) ⊛ ‵ (froom (bytes_ty 0) b (at + 1))) (𝓛.laws.room_uncons (ty_int w8) 0 b at) $ split ! $
    assigns_last ! (of_opd ! (get ! refl)) (through ! refl (stop !)) (init ! 0 refl (tt, record { fits = are.1.1.1.0.1 })) $
    exec ! 𝓣.C 𝓣.Λ (env code.Mir.locals l) (after 1 (code.function).body) (at_ret _ (W.post y)) $ sets ! (of_opd ! (unit_lit !)) refl (tt, tt) $
    use1 𝓛 (‵ (part_at u8 full_share byte b at)) (uint_in 𝓛 full_share w8 byte b at) $ move ! (1 ∷ []) $ drop ! $ nothing ! $ move ! (1 ∷ 0 ∷ []) $ fjoin ! $
    use3 𝓛 (‵ (bytes_in new b o) ⊛ ‵ (ways_in new b o)) (run_written 𝓛 d b o place 1 asked.1 one refl) $ split ! $
    closes_owner ! tt κs.0 qs.0 a.0 us new b o e (omega (arith, small, written_as_long 𝓛 d b o place 1 asked.1 one refl)) $
    returns ! (look_at ! 0 refl) $ free_all ! refl $ feq_i ! (List Val) (vunit ∷ []) (vunit ∷ []) refl $ move ! (1 ∷ 2 ∷ 0 ∷ []) $
    suffices ! _ (ends_at 𝓛 f.ended stayed c y vunit tt (new, (tt, (tt, (tt, tt)))) (tt, (tt, (tt, (tt, tt))))) $ says ! ((refl, refl, refl, refl, refl), refl) $
    ends_kept 3 !))))
