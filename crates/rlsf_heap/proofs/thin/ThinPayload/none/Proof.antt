-- Shows that `none` owns nothing. Assumes `Logic`.
use Rattle.std.proofs.Common.{[], ◌∷◌, refl, lit<, w64}
use mir.Val.{Val, vint}
use base.Fml.{ftrue}
use types.Kit.{‵, ◌⊛◌, ◌$◌, ◌∵◌, !, qed, keep, use0, suffices, done}
use types.Part.{agg}
use types.Run.{lit, no_more, and_then, returns, enter}
use types.ByLocal.{alloc_all, pass_all, free_all, look_at, sets}
use denote.RawPtr.{null_ptr}
use denote.Shadow.{makes_shadow}
use denote.Steps.{nothing}
use denote.Triple.Walked.{says, walk_of, ends_at}
use Rattle.std.proofs.raw_atomic.Walks.{proved}
use Rattle.rlsf_heap.specs.Heap.{PayloadView}
use Rattle.rlsf_heap.proofs.ThinValues.{addr_val}
use Rattle.rlsf_heap.specs.contracts.thin.ThinPayload as raw_payload
use Rattle.rlsf_heap.specs.contracts.thin.ThinPayload.none as f
use Rattle.rlsf_heap.proofs.thin.ThinPayload.none.Statement.{statement}
use Rattle.rlsf_heap.proofs.thin.ThinPayload.none.Code as code

abbrev nothing_there : PayloadView
nothing_there = record {
  identity = record { home = record { start = 0; len = 0; view = record { base = record { ptr = null_ptr }; shift = 0 } }; ledger = 0 };
  start = 0;
  align = 0;
  bytes = [];
  out = [];
}

pub none_spec : {M : Type 1} → statement M
none_spec 𝓤 𝓛 𝓜 𝓡 wired =
    let c = f.clauses 𝓛 𝓜.mem 𝓡.returns in let W = walk_of 𝓛 f.ended tt c in
    proved 𝓛 f.ended tt c 𝓜 𝓡 tt f.Key.name code.function (code.unfolded 𝓤 𝓛.H 𝓜 𝓡 wired) (λ κs. tt) (λ κs. tt) (λ κs qs bounds a g are.
    let y : W.Ghost = ((κs, qs, bounds, a, tt), g) in
    let made : (raw_payload.the_row).Denot = record { addr = 0; of = nothing_there } in let v : Val = addr_val 0 in
    qed 𝓛 ((‵ ftrue ⊛ ‵ ftrue) ∷ ‵ ftrue ∷ []) ∵ keep ! [] $
    enter ! _ _ _ _ _ $ alloc_all ! (λ l. pass_all ! refl tt $
    sets ! (agg ! (and_then ! (lit ! tt) (no_more !))) refl (tt, (record { fits = lit< tt }, tt)) $ returns ! (look_at ! 0 refl) $ free_all ! refl $
    suffices ! _ (ends_at 𝓛 f.ended tt c y v made tt tt) $ says ! (refl, refl) $
    use0 𝓛 (‵ ((raw_payload.the_row).own_val made (v ∷ [])))
    (makes_shadow 𝓛 ((raw_payload.the_row).own_val made (v ∷ [])) ((λ _. (tt, ((tt, tt), tt))), tt) (((vint w64 0 ∷ [], tt), (refl, ((refl, lit< tt), tt))), tt)) $
    nothing ! $ nothing ! $ done !))
