-- Shows that `new` makes a ledger. Assumes `Logic`.
use Rattle.std.proofs.Common.{ℕ, [], ◌∷◌, refl}
use base.Fraction.{full_share}
use base.Logic.{via}
use base.Fml.{ftrue}
use types.Keyed.{entries_new}
use types.Owned.{basic}
use types.Kit.{‵, ◌⊛◌, some, later, pick, await, ◌$◌, ◌∵◌, !, qed, keep, use0, fjoin, suffices, done}
use types.Part.{agg}
use types.Run.{no_more, and_then, returns, enter}
use types.ByLocal.{alloc_all, pass_all, free_all, look_at, get, sets}
use denote.Steps.{nothing}
use denote.Triple.Walked.{says, Stays, walk_of, ends_at}
use Rattle.std.proofs.raw_atomic.Walks.{proved}
use Rattle.rlsf_base.specs.Ledger.{entry_shares, ledger_owns, nowhere}
use Rattle.rlsf_base.proofs.RawBlock.Values.{mark_val, mark_own, mark_made}
use Rattle.rlsf_base.specs.contracts.memory.ledger.Ledger as ledger
use Rattle.rlsf_base.specs.contracts.memory.ledger.Ledger.new as f
use Rattle.rlsf_base.proofs.memory.ledger.Ledger.new.Statement.{statement}
use Rattle.rlsf_base.proofs.memory.ledger.Ledger.new.Code as code

pub new_spec : {M : Type 1} → statement M
new_spec 𝓤 𝓛 𝓜 𝓡 wired =
    let stayed : Stays f.ended.signature.params f.ended.kept = tt in
    let c = f.clauses 𝓛 𝓜.mem 𝓡.returns in let W = walk_of 𝓛 f.ended stayed c in
    proved 𝓛 f.ended stayed c 𝓜 𝓡 tt f.Key.name code.function (code.unfolded 𝓤 𝓛.H 𝓜 𝓡 wired) (λ κs. tt) (λ κs. tt) (λ κs qs bounds a g are.
    let y : W.Ghost = ((κs, qs, bounds, a, tt), g) in
    qed 𝓛 ((‵ ftrue ⊛ ‵ ftrue) ∷ ‵ ftrue ∷ []) ∵ keep ! [] $
    enter ! _ _ _ _ _ $ alloc_all ! (λ l. pass_all ! refl tt $
    use0 𝓛 (later (some (λ (δ : ℕ). ‵ (ledger_owns δ 0 [])))) (via 𝓤 _ (entries_new entry_shares 𝓛 0 (λ _. (full_share, nowhere))) (basic 𝓛 _)) $ await ! tt $
    pick ! (λ δ.
    let none : (ledger.the_row).Denot = record { mark = record {}; name = δ; entries = [] } in
    sets ! (agg ! (no_more !)) refl (tt, tt) $ sets ! (agg ! (and_then ! (get ! refl) (no_more !))) refl (tt, (tt, tt)) $ returns ! (look_at ! 0 refl) $ free_all ! refl $
    suffices ! _ (ends_at 𝓛 f.ended stayed c y mark_val none tt tt) $ says ! refl $
    use0 𝓛 (‵ (mark_own (mark_val ∷ []))) (mark_made 𝓛) $ fjoin ! $ nothing ! $ nothing ! $ done !)))
