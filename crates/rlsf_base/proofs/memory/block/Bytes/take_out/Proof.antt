-- Shows that `take_out` parts the owner from a run of its bytes, which the answer owns. Assumes `Logic`.
use Rattle.std.proofs.Common.{◌≡◌, ℕ, ◌+◌, ◌-◌, ◌^◌, ◌≤◌, [], ◌∷◌, length, take, drop as skip, refl, sym, arith, length-take, length-drop}
use Rattle.std.proofs.Common.{w64}
use mir.Syntax.{named}
use base.Fml.{ftrue, flft}
use contract.Monad.{fact}
use contract.Running.{tables}
use types.Kit.{‵, raw, ◌⊛◌, ◌$◌, ◌∵◌, !, qed, move, keep, use0, use1, split, rewrite, suffices, fsplit, fjoin, flt_i}
use types.Part.{agg}
use types.Run.{no_more, and_then, returns, enter}
use types.ByLocal.{alloc_all, pass_all, free_all, look_at, get, sets}
use denote.RattleType.{owns}
use denote.RawPtr.{Ptr}
use denote.Ref.{mut_vals, mut_Tells}
use denote.Plain.{uint_vals, uint_Tells}
use denote.Signature.{plain, types_at}
use denote.Steps.{heard}
use denote.Triple.Walked.{says, Stays, stay_ref, walk_of, Goes-ref, ends_at}
use Rattle.std.proofs.raw_atomic.Walks.{proved}
use Rattle.rlsf_base.specs.Out.{kept_at}
use Rattle.rlsf_base.specs.Changes.{left, shifted}
use Rattle.rlsf_base.specs.Steps.Owners.{HasOwn}
use Rattle.rlsf_base.specs.Steps.Ownership.{held, bytes_own, ways_of, own_unit}
use Rattle.rlsf_base.proofs.RawBlock.Rows.{Around, part_out, goes}
use Rattle.rlsf_base.proofs.Changes.{shifted-own}
use Rattle.rlsf_base.proofs.RawBlock.Units.{Shares, parted, left-out, around-left, ways_part}
use Rattle.rlsf_base.proofs.RawBlock.Values.{mark_val, mark_own, mark_made}
use Rattle.rlsf_base.proofs.RawBlock.OpenOwner.{opens_owner, closes_owner, bytes_in, ways_in, ends_kept}
use Rattle.rlsf_base.proofs.RawBlock.Dropped.{others_dropped, others_go}
use Rattle.rlsf_base.specs.contracts.memory.block.Bytes as owner
use Rattle.rlsf_base.specs.contracts.memory.block.Bytes.take_out as f
use Rattle.rlsf_base.proofs.memory.block.Bytes.take_out.Statement.{statement}
use Rattle.rlsf_base.proofs.memory.block.Bytes.take_out.Code as code

pub take_out_spec : {M : Type 1} → statement M
take_out_spec 𝓤 𝓛 𝓜 𝓡 wired =
    let stayed : Stays f.ended.signature.params f.ended.kept = others_dropped f.ended.signature.params f.ended.kept (stay_ref (0 ∷ []) tt (plain (λ _. owner.the_row))) in
    let c = f.clauses 𝓛 𝓜.mem 𝓡.returns in let W = walk_of 𝓛 f.ended stayed c in let 𝓣 = tables 𝓤 𝓛.H 𝓜 𝓡 𝓡.env in
    proved 𝓛 f.ended stayed c 𝓜 𝓡
    (others_go 𝓛 1 f.ended.signature.params f.ended.kept stayed.0 (Goes-ref 𝓛 1 0 tt (plain (λ _. owner.the_row))) ((λ κs x w. tt), ((λ κs x w. tt), tt)))
    f.Key.name code.function (code.unfolded 𝓤 𝓛.H 𝓜 𝓡 wired)
    (λ κs. (mut_vals, (uint_vals w64, (uint_vals w64, tt)))) (λ κs. (mut_Tells (named 0) κs.0 owner.the_row, (uint_Tells w64, (uint_Tells w64, tt))))
    (λ κs qs bounds a g are.
    let d = a.0.now in let place = a.1.0 in let len = a.1.1.0 in
    let Asked : Type 0 = HasOwn d place len in
    let y : W.Ghost = ((κs, qs, bounds, a, (mut_vals a.0, (uint_vals w64 place, (uint_vals w64 len, tt)))), g) in
    qed 𝓛 (((‵ (flft κs.0 qs.0) ⊛ ‵ ftrue) ⊛ ‵ (owns (types_at f.signature.params κs) a y.0.4)) ∷ raw (fact 𝓤 Asked) ∷ []) ∵
    move ! (1 ∷ []) $ heard ! Asked (λ asked. split ! $ split ! $ move ! (2 ∷ []) $ fsplit ! $ keep ! (0 ∷ 2 ∷ []) $
    enter ! _ _ _ _ _ $ alloc_all ! (λ l. pass_all ! refl ((tt, tt), ((tt, record { fits = are.1.0.1 }), ((tt, record { fits = are.1.1.0.1 }), tt))) $
    opens_owner ! tt κs.0 qs.0 a.0 (λ us b o e small.
    -- [the bytes; the ways; the open owner; ..]
    let i = place - d.skip in let xs = take len (skip i d.bytes) in let cs = left i len d.out in
    let within : i + len ≤ length d.bytes = omega (arith, asked.0) in
    let long : length xs ≡ len = omega (arith, length-take len (skip i d.bytes), length-drop i d.bytes, within) in
    let there : i + (d.skip + o) ≡ place + o = omega (arith, asked.0) in
    let new : (owner.the_row).Denot = record { mark = d.mark; at = d.at; skip = d.skip; bytes = d.bytes; out = cs; of = d.of; units = d.units } in
    let taken = shifted i d.out in
    let part : (owner.the_row).Denot = record { mark = record {}; at = d.at; skip = place; bytes = xs; out = taken; of = (d.skip, length d.bytes); units = d.units } in
    let go : (u : ℕ) → Shares (own_unit d.out d.skip (length d.bytes) u) (own_unit cs d.skip (length d.bytes) u) (own_unit taken place len u)
    =
    λ u. parted d.out cs taken d.skip (length d.bytes) place len u asked.0.0 asked.0.1 asked.1 (left-out d.out i len) (λ k side. around-left d.out i len k side)
    (shifted-own i d.out len asked.1) in
    use1 𝓛 (‵ (held (kept_at taken) 0 xs b (i + (d.skip + o))) ⊛ ‵ (Around 𝓛 b (kept_at d.out) (d.skip + o) d.bytes i len))
    (part_out 𝓛 b d.out (d.skip + o) d.bytes i len within) $ split ! $ move ! (1 ∷ []) $
    use1 𝓛 (‵ (bytes_in new b o)) (goes 𝓛 b d.out (d.skip + o) d.bytes i len within) $
    -- [the bytes; the run; the ways; the open owner]
    move ! (2 ∷ []) $ use1 𝓛 (‵ (ways_of (own_unit taken place len) 0 d.units b o) ⊛ ‵ (ways_in new b o))
    (ways_part 𝓛 b (own_unit d.out d.skip (length d.bytes)) (own_unit cs d.skip (length d.bytes)) (own_unit taken place len) 0 d.units o go) $ split ! $
    -- [the run's ways; the others; the bytes; the run; the open owner]
    move ! (3 ∷ 0 ∷ []) $ fjoin ! $ move ! (2 ∷ 1 ∷ 3 ∷ []) $ closes_owner ! tt κs.0 qs.0 a.0 us new b o e small $
    sets ! (agg ! (no_more !)) refl (tt, tt) $ sets ! (agg ! (and_then ! (get ! refl) (no_more !))) refl (tt, (tt, tt)) $
    returns ! (look_at ! 0 refl) $ free_all ! refl $ move ! (2 ∷ []) $ fsplit ! $
    rewrite ! 0 (λ (k : ℕ). ‵ (held (kept_at taken) 0 xs b k)) there refl $
    rewrite ! 1 (λ (k : ℕ). ‵ (ways_of (own_unit taken place k) 0 d.units b o)) (sym long) refl $ fjoin ! $
    flt_i ! (length xs) (2 ^ 63) (omega (arith, small, long, within)) $ fjoin ! $
    rewrite ! 0 (λ (p : Ptr). ‵ (bytes_own p place xs taken d.units)) (sym e) refl $
    use0 𝓛 (‵ (mark_own (mark_val ∷ []))) (mark_made 𝓛) $ fjoin ! $ move ! (1 ∷ 2 ∷ 0 ∷ []) $
    suffices ! _ (ends_at 𝓛 f.ended stayed c y mark_val part (new, (tt, (tt, tt))) (tt, (tt, (tt, tt)))) $ says !
    (((refl, refl, refl, refl, refl), refl), ((refl, refl, refl, refl, refl), refl)) $
    ends_kept 2 !))))
