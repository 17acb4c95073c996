-- What is kept in the payloads of a state.
use Rattle.std.proofs.Common.{◌≡◌, ◌≢◌, ◌⊎◌, ℕ, ◌+◌, ◌<◌, List, [], ◌∷◌, ◌++◌, length, take, None, arith, refl, sym, ◌∙◌, ap, subst}
use Rattle.std.proofs.Common.{inl, inr}
use Rattle.std.proofs.lemmas.Bool.{cases_eq}
use Rattle.std.proofs.lemmas.Option.{none-some}
use Rattle.rlsf_model.specs.Callers.{align_at, bytes_at}
use Rattle.rlsf_model.specs.Lists.{IsIn}
use Rattle.rlsf_model.specs.State.{State}
use Rattle.rlsf_model.proofs.CallerWords.{SeesGone, SeesNew}
use Rattle.rlsf_example_libraries.specs.Stored.{ArePlacesApart, KeepsPlaces, KeepsOnly, Stored, stored}

-- ---- lists with one more element

pub IsIn-middle : {A : Type 0} (k : A) (before after : List A) → IsIn k (before ++ k ∷ after)
IsIn-middle k [] after = inl refl
IsIn-middle k (x ∷ before) after = inr (IsIn-middle k before after)

pub IsIn-more : {A : Type 0} (x k : A) (before after : List A) → IsIn x (before ++ after) → IsIn x (before ++ k ∷ after)
IsIn-more x k [] after i = inr i
IsIn-more x k (y ∷ before) after (inl same) = inl same
IsIn-more x k (y ∷ before) after (inr i) = inr (IsIn-more x k before after i)

pub IsIn-less : {A : Type 0} (x k : A) (before after : List A) → IsIn x (before ++ k ∷ after) → (x ≡ k) ⊎ IsIn x (before ++ after)
IsIn-less x k [] after i = i
IsIn-less x k (y ∷ before) after (inl same) = inr (inl same)
IsIn-less x k (y ∷ before) after (inr i) = elim (IsIn-less x k before after i) [ inl same ↦ inl same | inr j ↦ inr (inr j) ]

-- no other one has the address of k
abbrev IsAlone : Stored → List Stored → Type 0
IsAlone k others = (j : Stored) → IsIn j others → j.addr ≢ k.addr

ArePlacesApart-more : (k : Stored) (before after : List Stored) → ArePlacesApart (before ++ after) → IsAlone k (before ++ after) → ArePlacesApart (before ++ k ∷ after)
ArePlacesApart-more k [] after apart alone = (alone, apart)
ArePlacesApart-more k (x ∷ before) after apart alone = (
  λ j i. elim (IsIn-less j k before after i) [
    | inl same ↦ λ at. alone x (inl refl) (sym at ∙ ap (λ y. y.addr) same)
    | inr other ↦ apart.0 j other
  ],
  ArePlacesApart-more k before after apart.1 (λ j i. alone j (inr i)),
)

ArePlacesApart-less : (k : Stored) (before after : List Stored) → ArePlacesApart (before ++ k ∷ after) → ArePlacesApart (before ++ after) × IsAlone k (before ++ after)
ArePlacesApart-less k [] after apart = (apart.1, apart.0)
ArePlacesApart-less k (x ∷ before) after apart =
    let (rest, alone) = ArePlacesApart-less k before after apart.1 in (
      ((λ j i. apart.0 j (IsIn-more j k before after i)), rest),
      λ j. elim [ inl same ↦ λ at. apart.0 k (IsIn-middle k before after) (sym at ∙ ap (λ y. y.addr) same) | inr i ↦ alone j i ],
    )

-- ---- payloads that are new, are gone, or change

-- what a payload keeps that stays as it is
KeepsPlaces-same : {s t : State} (k : Stored) → align_at t k.addr ≡ align_at s k.addr → bytes_at t k.addr ≡ bytes_at s k.addr → KeepsPlaces s k → KeepsPlaces t k
KeepsPlaces-same k align bytes is = record { live = align ∙ is.live; front = ap (take (length k.bytes)) bytes ∙ is.front; few = omega (arith, ap length bytes, is.few) }

module _ {s t : State} (before after : List Stored) where
  -- of a new payload, its front
  pub KeepsOnly-new : {size : ℕ} (addr align : ℕ) (front : List ℕ) → take (length front) (bytes_at t addr) ≡ front → length (bytes_at t addr) < length front + 32
      → SeesNew s t size align addr
      → KeepsOnly s (before ++ after) → KeepsOnly t (before ++ stored addr align front ∷ after)
  KeepsOnly-new addr align front begins few new is =
      let k = stored addr align front in
      let alone : IsAlone k (before ++ after) = λ j i same. none-some j.align (sym new.new ∙ ap (align_at s) (sym same) ∙ (is.kept j i).live) in
      record {
        kept = λ j i. elim (IsIn-less j k before after i) [
          | inl same ↦ subst (KeepsPlaces t) (sym same) (record { live = new.live; front = begins; few = few })
          | inr old ↦ KeepsPlaces-same j (new.aligns j.addr (alone j old)) (new.bytes j.addr (alone j old)) (is.kept j old)
        ];
        apart = ArePlacesApart-more k before after is.apart alone;
        no_other = λ a align there. elim (cases_eq a addr) [
          | inl same ↦ (k, IsIn-middle k before after, sym same)
          | inr other ↦ let (j, i, at) = is.no_other a align (sym (new.aligns a other) ∙ there) in (j, IsIn-more j k before after i, at)
        ];
      }

  pub KeepsOnly-gone : (k : Stored) → SeesGone s t k.addr → KeepsOnly s (before ++ k ∷ after) → KeepsOnly t (before ++ after)
  KeepsOnly-gone k gone is =
      let (apart, alone) = ArePlacesApart-less k before after is.apart in
      record {
        kept = λ j i. KeepsPlaces-same j (gone.aligns j.addr (alone j i)) (gone.bytes j.addr (alone j i)) (is.kept j (IsIn-more j k before after i));
        apart = apart;
        no_other = λ a align there. elim (cases_eq a k.addr) [
          | inl same ↦ absurd (none-some align (sym gone.gone ∙ ap (align_at t) (sym same) ∙ there))
          | inr other ↦
              let (j, i, at) = is.no_other a align (sym (gone.aligns a other) ∙ there) in
              elim (IsIn-less j k before after i) [ inl same ↦ absurd (other (sym at ∙ ap (λ y. y.addr) same)) | inr old ↦ (j, old, at) ]
        ];
      }

  -- the payload of k keeps j now, or another one at another address does, and k's is gone
  pub KeepsOnly-changed : (k j : Stored) → KeepsPlaces t j → (j.addr ≢ k.addr → align_at s j.addr ≡ None) → (j.addr ≢ k.addr → align_at t k.addr ≡ None)
      → ((a : ℕ) → a ≢ k.addr → a ≢ j.addr → align_at t a ≡ align_at s a) → ((a : ℕ) → a ≢ k.addr → a ≢ j.addr → bytes_at t a ≡ bytes_at s a)
      → KeepsOnly s (before ++ k ∷ after) → KeepsOnly t (before ++ j ∷ after)
  KeepsOnly-changed k j keeps new gone aligns bytes is =
      let (apart, off) = ArePlacesApart-less k before after is.apart in
      let was : (x : Stored) → IsIn x (before ++ after) → KeepsPlaces s x = λ x i. is.kept x (IsIn-more x k before after i) in
      let alone : IsAlone j (before ++ after) = λ x i same. none-some x.align (sym (new (λ e. off x i (same ∙ e))) ∙ ap (align_at s) (sym same) ∙ (was x i).live) in
      record {
        kept = λ x i. elim (IsIn-less x j before after i) [
          | inl same ↦ subst (KeepsPlaces t) (sym same) keeps
          | inr old ↦ KeepsPlaces-same x (aligns x.addr (off x old) (alone x old)) (bytes x.addr (off x old) (alone x old)) (was x old)
        ];
        apart = ArePlacesApart-more j before after apart alone;
        no_other = λ a align there. elim (cases_eq a j.addr) [
          | inl same ↦ (j, IsIn-middle j before after, sym same)
          | inr other ↦ elim (cases_eq a k.addr) [
            | inl same ↦ absurd (none-some align (sym (gone (λ e. other (same ∙ sym e))) ∙ ap (align_at t) (sym same) ∙ there))
            | inr apart ↦
                let (x, i, at) = is.no_other a align (sym (aligns a apart other) ∙ there) in
                elim (IsIn-less x k before after i) [ inl same ↦ absurd (apart (sym at ∙ ap (λ y. y.addr) same)) | inr old ↦ (x, IsIn-more x j before after old, at) ]
          ]
        ];
      }
