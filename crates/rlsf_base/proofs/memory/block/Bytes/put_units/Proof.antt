-- Shows that `put_units` gives the owner a run of its units back. None of their bytes was the owner's before, since they are another's. Assumes `Logic`.
use Rattle.std.proofs.Common.{◌≡◌, ◌+◌, ◌-◌, ◌*◌, ◌≤◌, List, [], ◌∷◌, refl, ◌∙◌}
use mir.Syntax.{named}
use mir.Val.{Val, vunit}
use base.Fml.{ftrue, flft}
use contract.Monad.{fact}
use contract.Running.{tables}
use types.Kit.{‵, raw, ◌⊛◌, ◌$◌, ◌∵◌, !, qed, move, keep, use3, split, rewrite, suffices, fsplit, feq_i}
use types.Run.{unit_lit, of_opd, returns, enter}
use types.ByLocal.{alloc_all, pass_all, free_all, look_at, sets}
use denote.RattleType.{owns}
use denote.RawPtr.{Ptr}
use denote.Ref.{mut_vals, mut_Tells}
use denote.Signature.{plain, types_at}
use denote.Steps.{heard}
use denote.Triple.Walked.{says, Stays, stay_ref, walk_of, Goes-ref, ends_at}
use Rattle.std.proofs.raw_atomic.Walks.{proved}
use Rattle.rlsf_base.specs.Changes.{AreBytesOut, came_raw}
use Rattle.rlsf_base.specs.Steps.Owners.{Has}
use Rattle.rlsf_base.specs.Steps.Ownership.{units_own}
use Rattle.rlsf_base.proofs.RawBlock.Grid.{puts_units, clash_units}
use Rattle.rlsf_base.proofs.RawBlock.Dropped.{others_dropped, others_go}
use Rattle.rlsf_base.proofs.RawBlock.OpenOwner.{opens_owner, closes_owner, bytes_in, ways_in, ends_kept}
use Rattle.rlsf_base.proofs.RawBlock.OwnerValues.{units_vals, units_Tells}
use Rattle.rlsf_base.proofs.RawBlock.Values.{mark_val}
use Rattle.rlsf_base.proofs.RawBlock.Walks.{learns}
use Rattle.rlsf_base.specs.contracts.memory.block.Bytes as owner
use Rattle.rlsf_base.specs.contracts.memory.block.Bytes.put_units as f
use Rattle.rlsf_base.proofs.memory.block.Bytes.put_units.Statement.{statement}
use Rattle.rlsf_base.proofs.memory.block.Bytes.put_units.Code as code

pub put_units_spec : {M : Type 1} → statement M
put_units_spec 𝓤 𝓛 𝓜 𝓡 wired =
    let stayed : Stays f.ended.signature.params f.ended.kept = others_dropped f.ended.signature.params f.ended.kept (stay_ref (0 ∷ []) tt (plain (λ _. owner.the_row))) in
    let c = f.clauses 𝓛 𝓜.mem 𝓡.returns in let W = walk_of 𝓛 f.ended stayed c in let 𝓣 = tables 𝓤 𝓛.H 𝓜 𝓡 𝓡.env in
    proved 𝓛 f.ended stayed c 𝓜 𝓡
    (others_go 𝓛 1 f.ended.signature.params f.ended.kept stayed.0 (Goes-ref 𝓛 1 0 tt (plain (λ _. owner.the_row))) ((λ κs x w. tt), tt))
    f.Key.name code.function (code.unfolded 𝓤 𝓛.H 𝓜 𝓡 wired)
    (λ κs. (mut_vals, (units_vals, tt))) (λ κs. (mut_Tells (named 0) κs.0 owner.the_row, (units_Tells, tt))) (λ κs qs bounds a g are.
    let d = a.0.now in let run = a.1.0 in
    let first = run.first in let count = run.count in let i = first * 16 - d.skip in let n = count * 16 in
    let Asked : Type 0 = (run.at ≡ d.at) × Has d (first * 16) (count * 16) × (first + count ≤ d.units) in
    let y : W.Ghost = ((κs, qs, bounds, a, (mut_vals a.0, (mark_val ∷ [], tt))), g) in
    qed 𝓛 (((‵ (flft κs.0 qs.0) ⊛ ‵ ftrue) ⊛ ‵ (owns (types_at f.signature.params κs) a y.0.4)) ∷ raw (fact 𝓤 Asked) ∷ []) ∵
    move ! (1 ∷ []) $ heard ! Asked (λ asked. split ! $ split ! $ move ! (2 ∷ []) $ fsplit ! $ move ! (1 ∷ []) $ fsplit ! $ fsplit ! $ keep ! (3 ∷ 4 ∷ 1 ∷ []) $
    -- [self; its token; the part's bytes]
    enter ! _ _ _ _ _ $ alloc_all ! (λ l. pass_all ! refl ((tt, tt), ((tt, (tt, tt)), tt)) $
    opens_owner ! tt κs.0 qs.0 a.0 (λ us b o e small.
    -- [the bytes; the ways; the open owner; the units; ..]
    let cs = came_raw i n d.out in
    let new : (owner.the_row).Denot = record { mark = d.mark; at = d.at; skip = d.skip; bytes = d.bytes; out = cs; of = d.of; units = d.units } in
    move ! (3 ∷ []) $ rewrite ! 0 (λ (p : Ptr). ‵ (units_own p first count)) (asked.0 ∙ e) refl $
    learns ! 2 (AreBytesOut d.out i n) (clash_units 𝓛 b o d.units first count asked.2 d.out d.skip d.bytes asked.1.0 asked.1.1 𝓜) (λ was.
    use3 𝓛 (‵ (bytes_in new b o) ⊛ ‵ (ways_in new b o))
    (puts_units 𝓛 b o d.units first count asked.2 d.out d.skip d.bytes asked.1.0 asked.1.1 was) $ split ! $
    closes_owner ! tt κs.0 qs.0 a.0 us new b o e small $
    sets ! (of_opd ! (unit_lit !)) refl (tt, tt) $
    returns ! (look_at ! 0 refl) $ free_all ! refl $ feq_i ! (List Val) (vunit ∷ []) (vunit ∷ []) refl $ move ! (1 ∷ 2 ∷ 0 ∷ []) $
    suffices ! _ (ends_at 𝓛 f.ended stayed c y vunit tt (new, (tt, tt)) (tt, (tt, tt))) $ says ! (was, ((refl, refl, refl, refl, refl), refl)) $
    ends_kept 1 !)))))
