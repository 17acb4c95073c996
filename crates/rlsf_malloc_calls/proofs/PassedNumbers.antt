-- A result becomes a number, and the caller gets what it owns.
use Rattle.rlsf_malloc_calls.proofs.Walking.{◌≡◌, ℕ, List, [], ◌∷◌, id⊢, ftrue, fact, ‵, raw, ◌⊛◌, some, later, ◌$◌, move, drop, use1, use2, split, join}
use Rattle.rlsf_malloc_calls.proofs.Walking.{pick, await, yes, plain, nothing, heard, peeks, lasts, triple_of, usize, Is, shows, emp, sep, Val, Ura, Fml, Logic, sem}
use Rattle.rlsf_malloc_calls.proofs.Walking.{Callee, seq, call, RattleType, Ended, Clauses, Lasts, closing}
use denote.Triple.Call.{calls_from}
use denote.Triple.Statement.{Triple}
use mir.Syntax.{Opd, Place, Body as Code}
use prog.Wp.{Calls, Env, Loops}
use sound.WpLaws.{FmC}
use types.Kit.{Item, Post, Seq, runs, lands}
use types.Run.{Opds}

-- the signature of a call that makes a number of a value of the type Z
abbrev pub finished : RattleType → Ended
finished Z = record { signature = record { lifetimes = 0; outlives = []; params = plain (λ κs. Z) ∷ []; result = plain (λ κs. usize) }; kept = (yes, tt) }

-- its contract: the caller gets what the value owns
module _ {M : Type 1} {𝓤 : Ura M} (𝓛 : Logic 𝓤) where
  abbrev pub passes : (Z : RattleType) → (Z.Denot → ℕ) → (Z.Denot → Fml) → Clauses 𝓤 (finished Z)
  passes Z num gives κs a = record { ghost = Unit {0}; requires = λ g. emp 𝓤; ensures = λ g r end. sep 𝓤 (sem 𝓛 (gives a.0)) (fact 𝓤 (r ≡ num a.0)) }

module _ {M : Type 1} {𝓤 : Ura M} {𝓛 : Logic 𝓤} {X : Type 0} {Γ : List (Item 𝓤)} {E : Env 𝓤 𝓛.H} {C : Calls 𝓤 𝓛.H} {Λ : Loops 𝓤 𝓛.H} {f : Callee} {xs : List Opd}
    {place : Place} {rest : Code} {end : Post 𝓤 𝓛.H} where
  -- a number is made of a value, and the caller gets what it owns
  pub passes_number : X → FmC 𝓤 𝓛.H 𝓛.laws C → (Z : RattleType) (num : Z.Denot → ℕ) (gives : Z.Denot → Fml)
      → Triple 𝓤 (C f) (triple_of 𝓛 (finished Z).signature (closing 𝓛 (finished Z) (passes 𝓛 Z num gives)))
      → (z : Z.Denot) (v : Val) → ((i : Item 𝓤) → Opds X 𝓛 (i ∷ Γ) E xs (v ∷ []))
      → ((h : Val) (m : ℕ) → Is usize m (h ∷ []) → m ≡ num z → Seq X 𝓛 (‵ (gives z) ∷ ‵ (usize.own_val m (h ∷ [])) ∷ Γ) (lands C Λ E place h rest end))
      → Seq X 𝓛 (‵ (Z.own_val z (v ∷ [])) ∷ Γ) (runs C Λ E (seq (call f xs place) rest) end)
  passes_number t fm Z num gives met z v operands next =
      let T = triple_of 𝓛 (finished Z).signature (closing 𝓛 (finished Z) (passes 𝓛 Z num gives)) in let y : T.Ghost = ((tt, tt, tt, (z, tt), (v ∷ [], tt)), tt) in
      nothing t $ move t (1 ∷ 0 ∷ []) $ join t $ nothing t $ join t $ nothing t $ move t (1 ∷ 0 ∷ []) $ use2 𝓛 (raw (T.pre y)) (id⊢ 𝓤 _) $
      calls_from t fm (raw (T.pre y)) (T.args y) (T.post y) (met y) (operands (raw (T.pre y))) (λ h.
      use1 𝓛 (later (some (λ (m : ℕ). (‵ ftrue ⊛ ‵ (usize.own_val m (h ∷ []))) ⊛
      some (λ (ws : Lasts (finished Z) tt (z, tt)). ‵ (lasts (finished Z) tt (z, tt) ws) ⊛ (‵ (gives z) ⊛ raw (fact 𝓤 (m ≡ num z))))))) (id⊢ 𝓤 _) $
      await t tt $ pick t (λ m. split t $ split t $ drop t $ peeks t usize (Is usize) (shows 𝓛 usize) m (h ∷ []) (λ is.
      move t (1 ∷ []) $ pick t (λ ws. split t $ drop t $ split t $ move t (1 ∷ []) $ heard t (m ≡ num z) (λ at. next h m is at)))))
