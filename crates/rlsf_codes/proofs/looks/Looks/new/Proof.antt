-- Shows that `new` makes a count of no bytes, which is zero. Assumes `Logic`.
use Rattle.std.proofs.Common.{[], ◌∷◌, refl}
use mir.Val.{Val, vstruct, vnil}
use base.Fml.{ftrue}
use types.Kit.{‵, ◌⊛◌, ◌$◌, ◌∵◌, !, qed, keep, use0, suffices, done}
use types.Part.{agg}
use types.Run.{no_more, returns, enter}
use types.ByLocal.{alloc_all, pass_all, free_all, look_at, sets}
use denote.Shadow.{makes_shadow}
use denote.Steps.{nothing}
use denote.Triple.Walked.{says, Stays, walk_of, ends_at}
use Rattle.std.proofs.raw_atomic.Walks.{proved}
use Rattle.rlsf_codes.specs.contracts.looks.Looks as looks
use Rattle.rlsf_codes.specs.contracts.looks.Looks.new as f
use Rattle.rlsf_codes.proofs.looks.Looks.new.Statement.{statement}
use Rattle.rlsf_codes.proofs.looks.Looks.new.Code as code

pub new_spec : {M : Type 1} → statement M
new_spec 𝓤 𝓛 𝓜 𝓡 wired =
    let stayed : Stays f.ended.signature.params f.ended.kept = tt in
    let c = f.clauses 𝓛 𝓜.mem 𝓡.returns in let W = walk_of 𝓛 f.ended stayed c in
    proved 𝓛 f.ended stayed c 𝓜 𝓡 tt f.Key.name code.function (code.unfolded 𝓤 𝓛.H 𝓜 𝓡 wired) (λ κs. tt) (λ κs. tt) (λ κs qs bounds a g are.
    let y : W.Ghost = ((κs, qs, bounds, a, tt), g) in
    let zero : (looks.the_row).Denot = record { count = 0 } in let v : Val = vstruct vnil in
    qed 𝓛 ((‵ ftrue ⊛ ‵ ftrue) ∷ ‵ ftrue ∷ []) ∵ keep ! [] $
    enter ! _ _ _ _ _ $ alloc_all ! (λ l. pass_all ! refl tt $
    sets ! (agg ! (no_more !)) refl (tt, tt) $ returns ! (look_at ! 0 refl) $ free_all ! refl $
    suffices ! _ (ends_at 𝓛 f.ended stayed c y v zero tt tt) $ says ! refl $
    use0 𝓛 (‵ ((looks.the_row).own_val zero (v ∷ []))) (makes_shadow 𝓛 ((looks.the_row).own_val zero (v ∷ [])) ((λ _. (tt, tt)), tt) ((tt, (refl, tt)), tt)) $
    nothing ! $ nothing ! $ done !))
