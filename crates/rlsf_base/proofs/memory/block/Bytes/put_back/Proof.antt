-- Shows that `put_back` gives the owner a run of its bytes back, as they are now. None of them was the owner's before, since they are another's. Assumes `Logic`.
use Rattle.std.proofs.Common.{◌≡◌, ℕ, ◌+◌, ◌-◌, ◌≤◌, List, [], ◌∷◌, ◌++◌, length, take, drop as behind, refl, sym, ◌∙◌, arith}
use Rattle.std.proofs.Common.{length-take, length-drop, length-append}
use Rattle.std.specs.List.{splice}
use mir.Syntax.{named}
use mir.Val.{Val, vunit}
use base.Fml.{Fml, ftrue, flft}
use contract.Monad.{fact}
use contract.Running.{tables}
use types.Kit.{‵, raw, ◌⊛◌, ◌$◌, ◌∵◌, !, qed, move, keep, use2, split, rewrite, suffices, fsplit, feq_i, flt_l}
use types.Run.{unit_lit, of_opd, returns, enter}
use types.ByLocal.{alloc_all, pass_all, free_all, look_at, sets}
use denote.RattleType.{owns}
use denote.RawPtr.{Ptr}
use denote.Ref.{mut_vals, mut_Tells}
use denote.Signature.{plain, types_at}
use denote.Steps.{heard}
use denote.Triple.Walked.{says, Stays, stay_ref, walk_of, Goes-ref, ends_at}
use Rattle.std.proofs.raw_atomic.Walks.{proved}
use Rattle.rlsf_base.specs.Out.{kept_at}
use Rattle.rlsf_base.specs.Changes.{AreBytesHere, AreBytesOut, came_back}
use Rattle.rlsf_base.specs.Steps.Owners.{Has}
use Rattle.rlsf_base.specs.Steps.Ownership.{bytes_own, ways_of, own_unit}
use Rattle.rlsf_base.proofs.RawBlock.Rows.{Row, comes, clash_row, held-in}
use Rattle.rlsf_base.proofs.Changes.{own-in}
use Rattle.rlsf_base.proofs.RawBlock.Units.{Shares, parted, around-back, ways_join, back-own}
use Rattle.rlsf_base.proofs.RawBlock.Dropped.{others_dropped, others_go}
use Rattle.rlsf_base.proofs.RawBlock.OpenOwner.{opens_owner, closes_owner, bytes_in, ends_kept}
use Rattle.rlsf_base.proofs.RawBlock.OwnerValues.{bytes_vals, bytes_Tells}
use Rattle.rlsf_base.proofs.RawBlock.Values.{mark_val}
use Rattle.rlsf_base.proofs.RawBlock.Walks.{learns}
use Rattle.rlsf_base.specs.contracts.memory.block.Bytes as owner
use Rattle.rlsf_base.specs.contracts.memory.block.Bytes.put_back as f
use Rattle.rlsf_base.proofs.memory.block.Bytes.put_back.Statement.{statement}
use Rattle.rlsf_base.proofs.memory.block.Bytes.put_back.Code as code

pub put_back_spec : {M : Type 1} → statement M
put_back_spec 𝓤 𝓛 𝓜 𝓡 wired =
    let stayed : Stays f.ended.signature.params f.ended.kept = others_dropped f.ended.signature.params f.ended.kept (stay_ref (0 ∷ []) tt (plain (λ _. owner.the_row))) in
    let c = f.clauses 𝓛 𝓜.mem 𝓡.returns in let W = walk_of 𝓛 f.ended stayed c in let 𝓣 = tables 𝓤 𝓛.H 𝓜 𝓡 𝓡.env in
    proved 𝓛 f.ended stayed c 𝓜 𝓡
    (others_go 𝓛 1 f.ended.signature.params f.ended.kept stayed.0 (Goes-ref 𝓛 1 0 tt (plain (λ _. owner.the_row))) ((λ κs x w. tt), tt))
    f.Key.name code.function (code.unfolded 𝓤 𝓛.H 𝓜 𝓡 wired)
    (λ κs. (mut_vals, (bytes_vals, tt))) (λ κs. (mut_Tells (named 0) κs.0 owner.the_row, (bytes_Tells, tt))) (λ κs qs bounds a g are.
    let d = a.0.now in let part = a.1.0 in
    let ws = part.bytes in let i = part.skip - d.skip in let n = length ws in
    let Asked : Type 0 =
    (part.at ≡ d.at) × Has d part.skip (length part.bytes) × AreBytesHere part.out 0 (length part.bytes) × (part.units ≡ d.units) in
    let y : W.Ghost = ((κs, qs, bounds, a, (mut_vals a.0, (mark_val ∷ [], tt))), g) in
    qed 𝓛 (((‵ (flft κs.0 qs.0) ⊛ ‵ ftrue) ⊛ ‵ (owns (types_at f.signature.params κs) a y.0.4)) ∷ raw (fact 𝓤 Asked) ∷ []) ∵
    move ! (1 ∷ []) $ heard ! Asked (λ asked. split ! $ split ! $ move ! (2 ∷ []) $ fsplit ! $ move ! (1 ∷ []) $ fsplit ! $ fsplit ! $ keep ! (3 ∷ 4 ∷ 1 ∷ []) $
    -- [self; its token; the part's bytes]
    enter ! _ _ _ _ _ $ alloc_all ! (λ l. pass_all ! refl ((tt, tt), ((tt, (tt, tt)), tt)) $
    opens_owner ! tt κs.0 qs.0 a.0 (λ us b o e small.
    -- [the bytes; the ways; the open owner; the part's bytes; ..]
    let within : i + n ≤ length d.bytes = omega (arith, asked.1) in
    let there : part.skip + o ≡ i + (d.skip + o) = omega (arith, asked.1) in
    let cs = came_back i n d.out in let bs = splice d.bytes i (i + n) ws in
    let long : length bs ≡ length d.bytes =
    omega (
      arith,
      within,
      length-append (take i d.bytes) (ws ++ behind (i + n) d.bytes),
      length-append ws (behind (i + n) d.bytes),
      length-take i d.bytes,
      length-drop (i + n) d.bytes,
    ) in
    let new : (owner.the_row).Denot = record { mark = d.mark; at = d.at; skip = d.skip; bytes = bs; out = cs; of = d.of; units = d.units } in
    let come : AreBytesOut d.out i n → (u : ℕ) → Shares (own_unit cs d.skip (length d.bytes) u) (own_unit d.out d.skip (length d.bytes) u) (own_unit part.out part.skip n u)
    =
    λ was u. parted cs d.out part.out d.skip (length d.bytes) part.skip n u asked.1.0 asked.1.1 (back-own d.out i n) was (λ k side. around-back d.out i n k side)
    (own-in part.out 0 n asked.2) in
    move ! (3 ∷ []) $ rewrite ! 0 (λ (p : Ptr). ‵ (bytes_own p part.skip part.bytes part.out part.units)) (asked.0 ∙ e) refl $ fsplit ! $ flt_l ! (λ small'. fsplit ! $
    -- [the part's bytes; its ways; the bytes; the ways; the open owner]
    move ! (0 ∷ 2 ∷ []) $
    rewrite ! 0 (λ (F : Fml). ‵ F) (held-in 𝓛 b (kept_at part.out) 0 ws (part.skip + o) asked.2) refl $ rewrite ! 0 (λ (k : ℕ). ‵ (Row 𝓛 b k ws)) there refl $
    learns ! 2 (AreBytesOut d.out i n) (clash_row 𝓛 b 𝓜 d.out (d.skip + o) d.bytes i ws within) (λ was.
    use2 𝓛 (‵ (bytes_in new b o)) (comes 𝓛 b d.out (d.skip + o) d.bytes i n within ws refl) $
    -- [the bytes; the part's ways; the ways; the open owner]
    move ! (1 ∷ 2 ∷ []) $ rewrite ! 0 (λ (k : ℕ). ‵ (ways_of (own_unit part.out part.skip n) 0 k b o)) asked.3 refl $
    use2 𝓛 (‵ (ways_of (own_unit cs d.skip (length d.bytes)) 0 d.units b o))
    (ways_join 𝓛 b (own_unit cs d.skip (length d.bytes)) (own_unit d.out d.skip (length d.bytes)) (own_unit part.out part.skip n) 0 d.units o (come was)) $
    rewrite ! 0 (λ (k : ℕ). ‵ (ways_of (own_unit cs d.skip k) 0 d.units b o)) (sym long) refl $
    move ! (1 ∷ 0 ∷ []) $ closes_owner ! tt κs.0 qs.0 a.0 us new b o e (omega (arith, small, long)) $
    sets ! (of_opd ! (unit_lit !)) refl (tt, tt) $
    returns ! (look_at ! 0 refl) $ free_all ! refl $ feq_i ! (List Val) (vunit ∷ []) (vunit ∷ []) refl $ move ! (1 ∷ 2 ∷ 0 ∷ []) $
    suffices ! _ (ends_at 𝓛 f.ended stayed c y vunit tt (new, (tt, tt)) (tt, (tt, tt))) $ says ! (was, ((refl, refl, refl, refl, refl), refl)) $
    ends_kept 1 !))))))
