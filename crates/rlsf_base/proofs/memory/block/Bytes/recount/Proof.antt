-- Shows that `recount` counts other changes, where each byte is the same by these. Assumes `Logic`.
use Rattle.std.proofs.Common.{ap, ◌*◌, ◌-◌, ◌≡◌, ℕ, ◌<◌, ◌+◌, List, [], ◌∷◌, length, refl, arith}
use mir.Syntax.{named}
use mir.Val.{Val, vunit}
use base.Fml.{Fml, ftrue, flft}
use contract.Monad.{fact}
use types.Kit.{‵, raw, ◌⊛◌, ◌$◌, ◌∵◌, !, qed, move, keep, split, rewrite, suffices, fsplit, feq_i}
use types.Run.{unit_lit, of_opd, returns, enter}
use types.ByLocal.{alloc_all, pass_all, free_all, look_at, sets}
use denote.RattleType.{owns}
use denote.Ref.{mut_vals, mut_Tells}
use denote.Signature.{plain, types_at}
use denote.Steps.{heard}
use denote.Triple.Walked.{says, Stays, stay_ref, walk_of, Goes-ref, ends_at}
use Rattle.std.proofs.raw_atomic.Walks.{proved}
use Rattle.rlsf_base.specs.Out.{Change, is_own, kept_at}
use Rattle.rlsf_base.specs.Steps.Ownership.{own_unit}
use Rattle.rlsf_base.proofs.RawBlock.OpenOwner.{opens_owner, closes_owner, ends_kept}
use Rattle.rlsf_base.proofs.RawBlock.Rows.{held-same}
use Rattle.rlsf_base.proofs.RawBlock.Units.{ways-same, unit-same}
use Rattle.rlsf_base.specs.contracts.memory.block.Bytes as owner
use Rattle.rlsf_base.specs.contracts.memory.block.Bytes.recount as f
use Rattle.rlsf_base.proofs.memory.block.Bytes.recount.Statement.{statement}
use Rattle.rlsf_base.proofs.memory.block.Bytes.recount.Code as code

pub recount_spec : {M : Type 1} → statement M
recount_spec 𝓤 𝓛 𝓜 𝓡 wired =
    let stayed : Stays f.ended.signature.params f.ended.kept = (stay_ref (0 ∷ []) tt (plain (λ _. owner.the_row)), tt) in
    let c = f.clauses 𝓛 𝓜.mem 𝓡.returns in let W = walk_of 𝓛 f.ended stayed c in
    proved 𝓛 f.ended stayed c 𝓜 𝓡
    (Goes-ref 𝓛 1 0 tt (plain (λ _. owner.the_row)), tt)
    f.Key.name code.function (code.unfolded 𝓤 𝓛.H 𝓜 𝓡 wired)
    (λ κs. (mut_vals, tt)) (λ κs. (mut_Tells (named 0) κs.0 owner.the_row, tt)) (λ κs qs bounds a g are.
    let d = a.0.now in
    let cs : List Change = g in
    let Asked : Type 0 = (k : ℕ) → k < length d.bytes → kept_at d.out k ≡ kept_at cs k in
    let y : W.Ghost = ((κs, qs, bounds, a, (mut_vals a.0, tt)), g) in
    qed 𝓛 (((‵ (flft κs.0 qs.0) ⊛ ‵ ftrue) ⊛ ‵ (owns (types_at f.signature.params κs) a y.0.4)) ∷ raw (fact 𝓤 Asked) ∷ []) ∵
    move ! (1 ∷ []) $ heard ! Asked (λ asked. split ! $ split ! $ move ! (2 ∷ []) $ fsplit ! $ keep ! (0 ∷ 2 ∷ []) $
    enter ! _ _ _ _ _ $ alloc_all ! (λ l. pass_all ! refl ((tt, tt), tt) $
    opens_owner ! tt κs.0 qs.0 a.0 (λ us b o e small.
    -- [the bytes; the ways; the open owner; ..]
    let new : (owner.the_row).Denot = record { mark = d.mark; at = d.at; skip = d.skip; bytes = d.bytes; out = cs; of = d.of; units = d.units } in
    rewrite ! 0 (λ (F : Fml). ‵ F) (held-same 𝓛 b (kept_at d.out) (kept_at cs) 0 d.bytes (d.skip + o) (λ j lo hi. asked j (omega (arith, hi)))) refl $
    rewrite ! 1 (λ (F : Fml). ‵ F)
    (ways-same 𝓛 b (own_unit d.out d.skip (length d.bytes)) (own_unit cs d.skip (length d.bytes)) 0 d.units o
    (λ u. unit-same d.out cs d.skip (length d.bytes) u (λ lo hi. ap is_own (asked (u * 16 - d.skip) (omega (arith, lo, hi)))))) refl $
    closes_owner ! tt κs.0 qs.0 a.0 us new b o e small $
    sets ! (of_opd ! (unit_lit !)) refl (tt, tt) $
    returns ! (look_at ! 0 refl) $ free_all ! refl $ feq_i ! (List Val) (vunit ∷ []) (vunit ∷ []) refl $ move ! (1 ∷ 2 ∷ 0 ∷ []) $
    suffices ! _ (ends_at 𝓛 f.ended stayed c y vunit tt (new, tt) (tt, tt)) $ says ! ((refl, refl, refl, refl, refl), refl) $
    ends_kept 0 !))))
