-- Shows that `lend_bytes` lends the bytes of a payload to its owner. Assumes `Logic`.
use Rattle.std.proofs.Common.{◌≢◌, [], ◌∷◌, refl}
use mir.Val.{vunit}
use base.Fml.{ftrue}
use contract.Monad.{fact}
use types.Kit.{‵, raw, ◌⊛◌, ◌$◌, ◌∵◌, !, qed, move, drop, use1, split, feq_i, group, suffices, done}
use types.Run.{of_opd, unit_lit, returns, enter}
use types.ByLocal.{alloc_all, pass_all, free_all, look_at, sets}
use denote.Steps.{nothing, heard}
use denote.Triple.Walked.{walk_of, ends_at}
use Rattle.std.proofs.raw_atomic.Walks.{proved}
use Rattle.rlsf_heap.specs.Thin.{owns_bytes}
use Rattle.rlsf_heap.specs.ThinInPlace.{LendsBytes}
use Rattle.rlsf_heap.proofs.ThinValues.{lends}
use Rattle.rlsf_heap.specs.contracts.thin.ThinPayload.lend_bytes as f
use Rattle.rlsf_heap.proofs.thin.ThinPayload.lend_bytes.Statement.{statement}
use Rattle.rlsf_heap.proofs.thin.ThinPayload.lend_bytes.Code as code

pub lend_bytes_spec : {M : Type 1} → statement M
lend_bytes_spec 𝓤 𝓛 𝓜 𝓡 wired =
    let c = f.clauses 𝓛 𝓜.mem 𝓡.returns in let W = walk_of 𝓛 f.ended tt c in
    proved 𝓛 f.ended tt c 𝓜 𝓡 tt f.Key.name code.function (code.unfolded 𝓤 𝓛.H 𝓜 𝓡 wired) (λ κs. tt) (λ κs. tt) (λ κs qs bounds a g are.
    let y : W.Ghost = ((κs, qs, bounds, a, tt), g) in
    qed 𝓛 ((‵ ftrue ⊛ ‵ ftrue) ∷ (‵ (owns_bytes g.0 g.1 g.2 g.3) ⊛ raw (fact 𝓤 (g.1 ≢ 0))) ∷ []) ∵ drop ! $ split ! $ move ! (1 ∷ []) $ heard ! _ (λ some.
    use1 𝓛 (‵ (LendsBytes g.0 g.1 g.2 g.3)) (lends 𝓛 g.0 g.1 g.2 g.3 some) $
    enter ! _ _ _ _ _ $ alloc_all ! (λ l. pass_all ! refl tt $
    sets ! (of_opd ! (unit_lit !)) refl (tt, tt) $ returns ! (look_at ! 0 refl) $ free_all ! refl $
    suffices ! _ (ends_at 𝓛 f.ended tt c y vunit tt tt tt) $ feq_i ! _ (vunit ∷ []) _ refl $ nothing ! $ nothing ! $ group ! 3 $ done !)))
