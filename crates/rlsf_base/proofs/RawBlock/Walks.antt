-- What the manual proofs about calls share.
use Rattle.std.proofs.Common.{ℕ, List, [], ◌∷◌, take, drop as behind, take-append-drop, subst}
use base.Logic.{SProp, ent, emp, via, fst∗}
use base.Fml.{Fml, ftrue}
use contract.Monad.{fact, fact_i, fact_use}
use seplogic.Ra.Ura.{Ura}
use mir.Syntax.{Body}
use mir.Val.{Val}
use prog.Wp.{Env, Calls, Loops, Wp, after_seq, after_block}
use types.Logic.{Logic}
use types.Kit.{Item, Goal, Soaks, Seq, Post, any_q, post, ⋆, ⊢++, mean, ‵, raw, ◌⊛◌, some, later, ◌$◌, Step, use0, use1, await, pick, split, drop, move}
use denote.Laws.{Is, shows}
use denote.RattleType.{RattleType}
use denote.Steps.{peeks}

module _ {M : Type 1} {𝓤 : Ura M} (𝓛 : Logic 𝓤) where
  open 𝓛 use {H}

  -- a statement, and then b; and the end of a block
  abbrev pub then_runs : Calls 𝓤 H → Loops 𝓤 H → Env 𝓤 H → Body → Post 𝓤 H → Post 𝓤 H
  then_runs C Λ E b q = any_q (after_seq 𝓤 H (Wp 𝓤 H C Λ E b (post 𝓤 H q)) (post 𝓤 H q))

  abbrev pub out_of_block : Post 𝓤 H → Post 𝓤 H
  out_of_block q = any_q (after_block 𝓤 H (post 𝓤 H q))

-- what a call without lifetimes returned, beside what its contract says of that
abbrev pub Returned : {M : Type 1} {𝓤 : Ura M} (R : RattleType) (v : Val) {Ws : Type 0} → (Ws → Fml) → (R.Denot → Item 𝓤) → Item 𝓤
Returned R v {Ws} left said = later (some (λ (r : R.Denot). (‵ ftrue ⊛ ‵ (R.own_val r (v ∷ []))) ⊛ some (λ (ws : Ws). ‵ (left ws) ⊛ said r)))

module _ {M : Type 1} {𝓤 : Ura M} {𝓛 : Logic 𝓤} {K : Type 0} {Γ : List (Item 𝓤)} {G : Goal 𝓤 𝓛.H} where
  -- a fact is learned from the first n entries, which stay
  pub learns : K → (n : ℕ) (φ : Type 0) → ent 𝓤 (⋆ 𝓛 (take n Γ)) (fact 𝓤 φ) → (φ → Seq K 𝓛 Γ G) → Seq K 𝓛 Γ G
  learns t n φ shown k = record {
    prf = fact_use 𝓤 φ (via 𝓤 (⋆ 𝓛 (take n Γ)) (subst (λ (Δ : List (Item 𝓤)). ent 𝓤 (⋆ 𝓛 Δ) (⋆ 𝓛 (take n Γ))) (take-append-drop n Γ)
        (via 𝓤 _ (⊢++ 𝓛 (take n Γ) (behind n Γ)) (fst∗ 𝓤 (⋆ 𝓛 (take n Γ)) (⋆ 𝓛 (behind n Γ))))) shown) (λ x. (k x).prf);
  }

  -- a fact is put beside the entries
  pub told : K → {φ : Type 0} → φ → Step K 𝓛 (raw (fact 𝓤 φ) ∷ Γ) G Γ G
  told t {φ} x = use0 𝓛 (raw (fact 𝓤 φ)) (fact_i 𝓤 φ (emp 𝓤) x)

  -- it is learned, where it stands
  pub hears : K → Soaks G → (R : RattleType) (v : Val) {Ws : Type 0} (left : Ws → Fml) (said : R.Denot → Item 𝓤) {P : SProp 𝓤} → ent 𝓤 P (mean 𝓛 (Returned R v left said))
      → ((r : R.Denot) → Is R r (v ∷ []) → Seq K 𝓛 (said r ∷ ‵ (R.own_val r (v ∷ [])) ∷ Γ) G) → Seq K 𝓛 (raw P ∷ Γ) G
  hears t z R v left said is k =
      use1 𝓛 (Returned R v left said) is $ await t z $ pick t (λ r. split t $ split t $ drop t $ peeks t R (Is R) (shows 𝓛 R) r (v ∷ []) (λ is_r.
      move t (1 ∷ []) $ pick t (λ ws. split t $ drop t $ k r is_r)))
