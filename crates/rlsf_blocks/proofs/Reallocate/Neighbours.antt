-- The free blocks before a used one and behind it, as they are found in the list.
use Rattle.std.specs.Option.{option_map_or}
use Rattle.std.proofs.Common.{◌≡◌, ◌≢◌, ℕ, Bool, true, false, cond, List, [], ◌∷◌, ◌+◌, ◌≤◌, ◌<◌, Option, Some, None, find, arith, inl, inr, refl, sym, ◌∙◌, ap}
use Rattle.std.proofs.lemmas.Bool.{eqb-true, ne_eqb}
use Rattle.rlsf_base.specs.declared.memory.range.Range.{Range}
use Rattle.rlsf_base.specs.Range.{end_of}
use Rattle.rlsf_model.specs.Join.{ends_at, starts_at}
use Rattle.rlsf_model.specs.Lists.{IsIn, without}
use Rattle.rlsf_model.specs.State.{State}
use Rattle.rlsf_model.specs.WellFormed.{IsWellFormed}
use Rattle.rlsf_model.proofs.Coverage.{by_test, find-some}
use Rattle.rlsf_blocks.proofs.Words.Apart.{free_in_memory}

-- an element that fails a test is no answer to it, so it isn't missed
find-without : {A : Type 0} (p q : A → Bool) (xs : List A) → ((x : A) → IsIn x xs → q x ≡ true → p x ≡ false) → find p (without q xs) ≡ find p xs
find-without p q [] other = refl
find-without p q (x ∷ xs) other = by_test (q x)
    (λ e. ap (λ b. find p (cond b xs (x ∷ without q xs))) e ∙ sym (ap (λ b. cond b (Some x) (find p xs)) (other x (inl refl) e)))
    (λ e. ap (λ b. find p (cond b xs (x ∷ without q xs))) e ∙ ap (λ o. cond (p x) (Some x) o) (find-without p q xs (λ y i. other y (inr i))))

module _ {fllen sllen : ℕ} {memory : Range} {s : State} (w : IsWellFormed fllen sllen memory s) where
  -- where the free range begins that ends at an address, or the address
  module _ (b : ℕ) {start : ℕ} (is : start ≡ option_map_or (λ f. f.start) (find (ends_at b) s.free) b) where
    abbrev Begun : Option Range → Type 0
    Begun o = find (ends_at b) s.free ≡ o → start ≡ option_map_or (λ f. f.start) o b → (start ≡ b → o ≡ None) × (start ≢ b → (f : Range) × (o ≡ Some f) × (f.start ≡ start))

    begun : (o : Option Range) → Begun o
    begun None found at = ((λ same. refl), λ other. absurd (other at))
    begun (Some f) found at =
        let (i, passes) = find-some (ends_at b) f s.free found in
        ((λ same. absurd (omega (arith, at, same, eqb-true (end_of f) b passes, (w.free f i).some))), λ other. (f, refl, sym at))

    pub find-ends_at-none : start ≡ b → find (ends_at b) s.free ≡ None
    find-ends_at-none = (begun (find (ends_at b) s.free) refl is).0

    pub find-ends_at-some : start ≢ b → (f : Range) × (find (ends_at b) s.free ≡ Some f) × (f.start ≡ start)
    find-ends_at-some = (begun (find (ends_at b) s.free) refl is).1

    pub start_or-le : start ≤ b
    start_or-le = go (find (ends_at b) s.free) refl is
      where
        go : (o : Option Range) → find (ends_at b) s.free ≡ o → start ≡ option_map_or (λ f. f.start) o b → start ≤ b
        go None found at = omega arith
        go (Some f) found at = let (i, passes) = find-some (ends_at b) f s.free found in omega (arith, eqb-true (end_of f) b passes, at)

  -- a free range behind an address ends in the memory
  pub end_or-in_memory : (e : ℕ) → e + 32 ≤ end_of memory → option_map_or end_of (find (starts_at e) s.free) e + 32 ≤ end_of memory
  end_or-in_memory e inside = go (find (starts_at e) s.free) refl
    where
      go : (o : Option Range) → find (starts_at e) s.free ≡ o → option_map_or end_of o e + 32 ≤ end_of memory
      go None found = inside
      go (Some f) found = (free_in_memory w f (find-some (starts_at e) f s.free found).0).1

  -- it is the same one among the free ranges that don't end at an earlier address
  pub find-starts_at-without : (b e : ℕ) → b < e → find (starts_at e) (without (ends_at b) s.free) ≡ find (starts_at e) s.free
  find-starts_at-without b e order =
      find-without (starts_at e) (ends_at b) s.free (λ f i passes. ne_eqb f.start e (λ same. omega (arith, eqb-true (end_of f) b passes)))
