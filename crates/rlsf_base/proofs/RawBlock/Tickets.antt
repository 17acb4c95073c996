-- A ticket agrees with its entry, and there is one. Assumes `Logic`.
use Rattle.std.proofs.Common.{◌≡◌, ℕ, zero, suc, ◌+◌, ◌<◌, Bool, true, false, List, [], ◌∷◌, ◌++◌, length, set, sym, refl, subst, arith}
use mathlib.Core.Path.{Path}
use mathlib.Mathlib.Data.Part.{◌∈◌}
use seplogic.Ra.Pcs.{OpDef, OpDef-comm}
use seplogic.Ra.Ura.{Ura}
use seplogic.Ra.Constructions.Prod
use seplogic.Ra.Instances.Ag
use base.Fraction.{full_share}
use base.Share.{quarter, three_quarters}
use base.FractionLaws.{not-OpDef-full_share}
use base.Share
use base.SetCodes.{coded, SetCoded-set}
use base.Algebras.{pcs, shares}
use base.Logic.{SProp, ent, sep, ex, guard, upd, via, ex_e, guard_e, guard_i, upd_mono}
use base.Fml.{Share, Fml}
use types.Logic.{Logic, sem}
use types.Keyed.{entry, entries_take, entries_beside, entry_cut, entry_glue, entry_set}
use types.Owned.{basic}
use types.Kit.{‵, ◌⊛◌, given, later, ◌$◌, ◌∵◌, !, qed, move, split, learn, check, fjoin, fsplit, done, use1, use2, rewrite, await, updating, now}
use Rattle.rlsf_base.specs.Ledger.{Entry, Extent, coded_extent, entry_of, nowhere, shown_by, entry_shares, entry_share, entry_owns, ledger_owns, IsIssued}

module _ {M : Type 1} {𝓤 : Ura M} (𝓛 : Logic 𝓤) (δ : ℕ) where
  abbrev V : Type 0
  V = Extent

  abbrev Pr : Type 2
  Pr = SProp 𝓤

  abbrev ◌⊢◌ : Pr → Pr → Type 1
  P ⊢ Q = ent 𝓤 P Q

  abbrev ◌∗◌ : Pr → Pr → Pr
  P ∗ Q = sep 𝓤 P Q

  abbrev ⟦◌⟧ : Fml → Pr
  ⟦ P ⟧ = sem 𝓛 P

  infix 26 ◌⊢◌
  infixr 35 ◌∗◌
  abbrev L : ℕ → V → Fml
  L k v = entry_share δ k quarter v

  abbrev R : ℕ → V → Fml
  R k v = entry_share δ k three_quarters v

  abbrev W : ℕ → V → Fml
  W k v = entry_share δ k full_share v

  whole : (v : V) → ◌∈◌ {α = Share × V} (full_share, v) (entry_shares.op (quarter, v) (three_quarters, v))
  whole v =
      Prod.mk-mem-op Share.op (Ag.op (SetCoded-set (coded coded_extent))) {a = quarter} {a' = three_quarters} {x = full_share} {b = v} {b' = v} {y = v} Share.quarters
      (Ag.idem (SetCoded-set (coded coded_extent)) v)

  -- whoever has the whole of an entry sets it, and has its two parts
  resets : (k : ℕ) (v u : V) → ⟦ W k v ⟧ ⊢ upd 𝓤 (⟦ L k u ⟧ ∗ ⟦ R k u ⟧)
  resets k v u = let B : Share × V → Type 0 = λ x. Path (Share × V) x (full_share, u) in let F : Share × V → Pr =
      λ x. guard 𝓤 (B x) ⟦ entry entry_shares δ k x ⟧ in let Z : Pr = ⟦ L k u ⟧ ∗ ⟦ R k u ⟧ in
      via 𝓤 (upd 𝓤 (ex 𝓤 F)) (entry_set entry_shares 𝓛 δ k (full_share, v) B ∣ ((full_share, u), refl) ∣₁ (λ f d. absurd (not-OpDef-full_share f.0 d.0)))
      (upd_mono 𝓤 {P = ex 𝓤 F} {Q = Z}
      (ex_e 𝓤 F (λ x. guard_e 𝓤 (B x) ⟦ entry entry_shares δ k x ⟧ (λ e. subst (λ (y : Share × V). ⟦ entry entry_shares δ k y ⟧ ⊢ Z) (sym e)
      (entry_cut entry_shares 𝓛 δ k (quarter, u) (three_quarters, u) (full_share, u) (whole u))))))

  joined : (k : ℕ) (w v : V) → ⟦ L k w ⟧ ∗ ⟦ R k v ⟧ ⊢ guard 𝓤 (w ≡ v) ⟦ W k w ⟧
  joined k w v = let F : Share × V → Pr = λ x. guard 𝓤 (x ∈ entry_shares.op (quarter, w) (three_quarters, v)) ⟦ entry entry_shares δ k x ⟧ in let Z : Pr =
      guard 𝓤 (w ≡ v) ⟦ W k w ⟧ in
      via 𝓤 (ex 𝓤 F) (entry_glue entry_shares 𝓛 δ k (quarter, w) (three_quarters, v))
      (ex_e 𝓤 F (λ x. guard_e 𝓤 (x ∈ entry_shares.op (quarter, w) (three_quarters, v)) ⟦ entry entry_shares δ k x ⟧ (λ m.
      subst (λ (y : Share × V). ⟦ entry entry_shares δ k y ⟧ ⊢ Z) m.1 (guard_i 𝓤 (w ≡ v) ⟦ W k w ⟧ m.0.1))))

  -- an entry that is back has no ticket
  never_twice : (k : ℕ) (w v : V) (Z : Pr) → ⟦ W k w ⟧ ∗ ⟦ R k v ⟧ ⊢ Z
  never_twice k w v Z = let F : Share × V → Pr = λ x. guard 𝓤 (x ∈ entry_shares.op (full_share, w) (three_quarters, v)) ⟦ entry entry_shares δ k x ⟧ in
      via 𝓤 (ex 𝓤 F) (entry_glue entry_shares 𝓛 δ k (full_share, w) (three_quarters, v))
      (ex_e 𝓤 F (λ x. guard_e 𝓤 (x ∈ entry_shares.op (full_share, w) (three_quarters, v)) ⟦ entry entry_shares δ k x ⟧
      (λ m. absurd (not-OpDef-full_share three_quarters m.0.0))))

  abbrev Same : Bool → V → V → Type 0
  Same t w v = (t ≡ true) × (w ≡ v)

  one : (t : Bool) (k : ℕ) (w v : V) → ⟦ entry_owns δ k t w ⟧ ∗ ⟦ R k v ⟧ ⊢ guard 𝓤 (Same t w v) ⟦ W k w ⟧
  one true k w v = via 𝓤 (guard 𝓤 (w ≡ v) ⟦ W k w ⟧) (joined k w v) (guard_e 𝓤 (w ≡ v) ⟦ W k w ⟧ (λ e. guard_i 𝓤 (Same true w v) ⟦ W k w ⟧ (refl, e)))
  one false k w v = never_twice k w v _

  pub redeems : (es : List Entry) (k i j : ℕ) (v : V) → j ≡ k + i
      → ⟦ ledger_owns δ k es ⟧ ∗ ⟦ R j v ⟧ ⊢ guard 𝓤 (IsIssued es i v) ⟦ ledger_owns δ k (set es i (entry_of v false)) ⟧
  redeems [] k i j v e = qed 𝓛 (‵ (ledger_owns δ k []) ∷ ‵ (R j v) ∷ []) ∵ move ! (1 ∷ 0 ∷ []) $
      use2 𝓛 (given (OpDef entry_shares.op (three_quarters, v) (full_share, nowhere)) (‵ (R j v) ⊛ ‵ (ledger_owns δ k [])))
      (entries_beside entry_shares 𝓛 δ k j (λ _. (full_share, nowhere)) (three_quarters, v) (omega (arith, e))) $
      learn ! (λ x. absurd (not-OpDef-full_share three_quarters ((OpDef-comm (pcs shares) {a = three_quarters} {b = full_share}).0 x.0)))
  redeems (c ∷ cs) k zero j v e = let is : j ≡ k = omega (arith, e) in
      qed 𝓛 (‵ (ledger_owns δ k (c ∷ cs)) ∷ ‵ (R j v) ∷ []) ∵ fsplit ! $ rewrite ! 2 (λ (m : ℕ). ‵ (R m v)) is refl $ move ! (0 ∷ 2 ∷ []) $
      use2 𝓛 (given (Same c.live (shown_by c) v) (‵ (W k (shown_by c)))) (one c.live k (shown_by c) v) $ learn ! (λ same.
      check ! ((let r : zero < suc (length cs) = omega arith in r), (λ i. record { addr = (same.1 i).addr; len = (same.1 i).len; align = (same.1 i).align; live = same.0 i })) $
      rewrite ! 0 (λ (u : V). ‵ (W k u)) same.1 refl $ fjoin ! $ done !)
  redeems (c ∷ cs) k (suc i) j v e = qed 𝓛 (‵ (ledger_owns δ k (c ∷ cs)) ∷ ‵ (R j v) ∷ []) ∵ fsplit ! $ move ! (1 ∷ 2 ∷ []) $
      use2 𝓛 (given (IsIssued cs i v) (‵ (ledger_owns δ (suc k) (set cs i (entry_of v false))))) (redeems cs (suc k) i j v (omega (arith, e))) $ learn ! (λ out.
      let l : i < length cs = out.0 in check ! ((let r : suc i < suc (length cs) = omega arith in r), out.1) $ move ! (1 ∷ 0 ∷ []) $ fjoin ! $ done !)

  pub issues : (es : List Entry) (k j : ℕ) (v : V) → j ≡ k + length es
      → ⟦ ledger_owns δ k es ⟧ ⊢ 𝓛.H.⇛ (⟦ ledger_owns δ k (es ++ entry_of v true ∷ []) ⟧ ∗ ⟦ R j v ⟧)
  issues [] k j v e = let is : k ≡ j = omega (arith, e) in
      qed 𝓛 (‵ (ledger_owns δ k []) ∷ []) ∵ updating ! $ use1 𝓛 (‵ (W k nowhere) ⊛ ‵ (ledger_owns δ (suc k) []))
      (entries_take entry_shares 𝓛 δ k (λ _. (full_share, nowhere))) $ split ! $
      use1 𝓛 (later (‵ (L k v) ⊛ ‵ (R k v))) (via 𝓤 _ (resets k nowhere v) (basic 𝓛 _)) $ await ! tt $ split ! $ move ! (0 ∷ 2 ∷ []) $ fjoin ! $ rewrite ! 1
      (λ (m : ℕ). ‵ (R m v)) is refl $ now ! $ done !
  issues (c ∷ cs) k j v e = qed 𝓛 (‵ (ledger_owns δ k (c ∷ cs)) ∷ []) ∵ updating ! $ fsplit ! $ move ! (1 ∷ []) $
      use1 𝓛 (later (‵ (ledger_owns δ (suc k) (cs ++ entry_of v true ∷ [])) ⊛ ‵ (R j v))) (issues cs (suc k) j v (omega (arith, e))) $ await ! tt $ split ! $ move !
      (2 ∷ 0 ∷ []) $ fjoin ! $ now ! $ done !
