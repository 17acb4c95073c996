-- What a call determines, and that a refused one changes nothing.
use mathlib.Core.Path.{ap₂}
use Rattle.std.proofs.Common.{◌≡◌, ℕ, cond, not, eqb, filter, map, List, [], ◌∷◌, Option, Some, None, refl, sym, ◌∙◌, ap, subst, inr}
use Rattle.rlsf_base.specs.declared.memory.range.Range.{Range}
use Rattle.rlsf_model_sizes.specs.Sizes.{max_pool_size}
use Rattle.rlsf_model.specs.Allocate.{placed, given, Allocates}
use Rattle.rlsf_model.specs.Insert.{cut, aligned_part, bytes_taken, with_chunks, Inserts, Appends}
use Rattle.rlsf_model.specs.Join.{join}
use Rattle.rlsf_model.specs.Laws.{StepsAreDetermined, RefusalChangesNothing}
use Rattle.rlsf_model.specs.Lists.{IsIn}
use Rattle.rlsf_model.specs.Payload.{payload_of}
use Rattle.rlsf_model.specs.Reallocate.{Plan, plan, ReallocatesBy, Reallocates}
use Rattle.rlsf_model.specs.Release.{released, Deallocates}
use Rattle.rlsf_model.specs.Remove.{removed}
use Rattle.rlsf_model.specs.Run.{insert, append, allocate, deallocate, reallocate, fill, remove, trim, Fills}
use Rattle.rlsf_model.specs.State.{State, Used, Shape, shape_of, AreAlike, others}
use Rattle.rlsf_model.specs.WellFormed.{IsWellFormed}
use Rattle.rlsf_model.proofs.Allocations.{Allocates-keeps}
use Rattle.rlsf_model.proofs.Changes.{Holds-unique}
use Rattle.rlsf_model.proofs.Coverage.{by_test}

alike : {s t : State} → s ≡ t → AreAlike s t
alike e = record { chunks = ap (λ s. s.chunks) e; used = ap (λ s. map shape_of s.used) e; free = ap (λ s. s.free) e }

-- the other blocks' shapes are the others among the shapes
abbrev pub other_shapes : ℕ → List Shape → List Shape
other_shapes addr shapes = filter (λ x. not (eqb x.payload addr)) shapes

pub map-others : (addr : ℕ) (used : List Used) → map shape_of (others addr used) ≡ other_shapes addr (map shape_of used)
map-others addr [] = refl
map-others addr (u ∷ us) = by_test (eqb u.payload addr)
    (λ e. ap (λ b. map shape_of (cond (not b) (u ∷ others addr us) (others addr us))) e ∙ map-others addr us
    ∙ sym (ap (λ b. cond (not b) (shape_of u ∷ other_shapes addr (map shape_of us)) (other_shapes addr (map shape_of us))) e))
    (λ e. ap (λ b. map shape_of (cond (not b) (u ∷ others addr us) (others addr us))) e ∙ ap (λ l. shape_of u ∷ l) (map-others addr us)
    ∙ sym (ap (λ b. cond (not b) (shape_of u ∷ other_shapes addr (map shape_of us)) (other_shapes addr (map shape_of us))) e))

AreAlike-released : (s t : State) (u : Used) → AreAlike s t → AreAlike (released s u) (released t u)
AreAlike-released s t u a = record {
  chunks = a.chunks;
  used = map-others u.payload s.used ∙ ap (other_shapes u.payload) a.used ∙ sym (map-others u.payload t.used);
  free = ap (join u.block) a.free;
}

AreAlike-at : {s s' t t' : State} → s ≡ s' → t ≡ t' → AreAlike s' t' → AreAlike s t
AreAlike-at {s} {s'} {t} {t'} e f a = subst (λ x. AreAlike x t) (sym e) (subst (λ y. AreAlike s' y) (sym f) a)

Allocates-determined : (sllen : ℕ) (s t t' : State) (size align : ℕ) (m n : Option ℕ) → Allocates sllen s size align m t → Allocates sllen s size align n t'
    → (m ≡ n) × AreAlike t t'
Allocates-determined sllen s t t' size align None None a b = (refl, alike (a.1 ∙ sym b.1))
Allocates-determined sllen s t t' size align None (Some y) a b = let bad : None ≡ Some b.range = sym a.0 ∙ b.chosen in absurd (cc)
Allocates-determined sllen s t t' size align (Some x) None a b = let bad : None ≡ Some a.range = sym b.0 ∙ a.chosen in absurd (cc)
Allocates-determined sllen s t t' size align (Some x) (Some y) a b =
    let found : Some a.range ≡ Some b.range = sym a.chosen ∙ b.chosen in
    let same : a.range ≡ b.range = cc in (
      ap Some (a.answer ∙ ap (λ f. payload_of f.start align) same ∙ sym b.answer),
      AreAlike-at a.after b.after
          (subst (λ f. AreAlike (given sllen s a.range (placed a.range size align a.bytes)) (given sllen s f (placed f size align b.bytes))) same
          (record { chunks = refl; used = refl; free = refl })),
    )

module _ {fllen sllen : ℕ} {memory : Range} {s : State} (w : IsWellFormed fllen sllen memory s) where
  Deallocates-determined : (t t' : State) (addr : ℕ) → Deallocates s addr t → Deallocates s addr t' → t ≡ t'
  Deallocates-determined t t' addr a b = a.after ∙ ap (released s) (Holds-unique w addr a.block b.block a.holds b.holds) ∙ sym b.after

  ReallocatesBy-determined : (t t' : State) (u : Used) → IsIn u s.used → (size : ℕ) (o : Option Plan) (m n : Option ℕ) → ReallocatesBy sllen s u size o m t
      → ReallocatesBy sllen s u size o n t' → (m ≡ n) × AreAlike t t'
  ReallocatesBy-determined t t' u h size (Some p) None n a b = absurd a
  ReallocatesBy-determined t t' u h size (Some p) (Some x) None a b = absurd b
  ReallocatesBy-determined t t' u h size (Some p) (Some x) (Some y) a b =
      (ap Some (a.answer ∙ sym b.answer), AreAlike-at a.after b.after (record { chunks = refl; used = refl; free = refl }))
  ReallocatesBy-determined t t' u h size None None None a b = (refl, alike (a.1 ∙ sym b.1))
  ReallocatesBy-determined t t' u h size None None (Some y) a b = let bad : None ≡ Some y =
      (Allocates-determined sllen s t b.meanwhile size u.align None (Some y) a b.allocated).0 in absurd (cc)
  ReallocatesBy-determined t t' u h size None (Some x) None a b = let bad : Some x ≡ None =
      (Allocates-determined sllen s a.meanwhile t' size u.align (Some x) None a.allocated b).0 in absurd (cc)
  ReallocatesBy-determined t t' u h size None (Some x) (Some y) a b =
      let (same, near) = Allocates-determined sllen s a.meanwhile b.meanwhile size u.align (Some x) (Some y) a.allocated b.allocated in
      (same, AreAlike-at (gone a.meanwhile t x a.allocated a.released) (gone b.meanwhile t' y b.allocated b.released) (AreAlike-released a.meanwhile b.meanwhile u near))
    where
      gone : (r q : State) (z : ℕ) → Allocates sllen s size u.align (Some z) r → Deallocates r u.payload q → q ≡ released r u
      gone r q z step d =
          let kept = Allocates-keeps w size u.align (Some z) r (w.used u h).power step in
          let stays : IsIn u r.used = subst (λ x. IsIn u x.used) (sym step.after) (inr h) in
          d.after ∙ ap (released r) (Holds-unique kept u.payload d.block u d.holds (stays, refl))

  Reallocates-determined : (t t' : State) (addr size : ℕ) (m n : Option ℕ) → Reallocates sllen s addr size m t → Reallocates sllen s addr size n t'
      → (m ≡ n) × AreAlike t t'
  Reallocates-determined t t' addr size m n a b =
      let same : b.block ≡ a.block = Holds-unique w addr b.block a.block b.holds a.holds in
      ReallocatesBy-determined t t' a.block a.holds.0 size (plan s a.block size) m n a.step (subst (λ u. ReallocatesBy sllen s u size (plan s u size) n t') same b.step)

pub steps_are_determined : StepsAreDetermined
steps_are_determined fllen sllen memory s t t' (insert r m) (insert q n) w a b same =
    let b' = subst (λ x. Inserts fllen s x n t') (sym same) b in
    (ap₂ insert same (a.answer ∙ sym b'.answer), alike (a.after ∙ sym b'.after))
steps_are_determined fllen sllen memory s t t' (append r m) (append q n) w a b same =
    let b' = subst (λ x. Appends fllen s x n t') (sym same) b in
    (ap₂ append same (a.answer ∙ sym b'.answer), alike (a.after ∙ sym b'.after))
steps_are_determined fllen sllen memory s t t' (allocate size align m) (allocate size' align' n) w a b (same, same') =
    let d =
    Allocates-determined sllen s t t' size align m n a (subst (λ x. Allocates sllen s x align n t') (sym same) (subst (λ y. Allocates sllen s size' y n t') (sym same') b)) in
    (ap₂ (λ x y. allocate x y m) same same' ∙ ap (allocate size' align') d.0, d.1)
steps_are_determined fllen sllen memory s t t' (deallocate addr) (deallocate addr') w a b same =
    (ap deallocate same, alike (Deallocates-determined w t t' addr a (subst (λ x. Deallocates s x t') (sym same) b)))
steps_are_determined fllen sllen memory s t t' (reallocate addr size m) (reallocate addr' size' n) w a b (same, same') =
    let d =
    Reallocates-determined w t t' addr size m n a (subst (λ x. Reallocates sllen s x size n t') (sym same) (subst (λ y. Reallocates sllen s addr' y n t') (sym same') b)) in
    (ap₂ (λ x y. reallocate x y m) same same' ∙ ap (reallocate addr' size') d.0, d.1)
steps_are_determined fllen sllen memory s t t' (fill addr bytes) (fill addr' bytes') w a b (same, same') =
    let b' = subst (λ x. Fills s x bytes t') (sym same) (subst (λ y. Fills s addr' y t') (sym same') b) in
    (ap₂ fill same same', alike (a.after ∙ sym b'.after))
steps_are_determined fllen sllen memory s t t' (remove r) (remove q) w a b same = (ap remove same, alike (a ∙ ap (λ x. removed x s) same ∙ sym b))
steps_are_determined fllen sllen memory s t t' (trim m) e' w a b same = absurd a
steps_are_determined fllen sllen memory s t t' e e' w a b same = absurd same

-- ---- refusals

bytes_taken-none : (start : ℕ) (cs : List Range) → bytes_taken start cs ≡ None → cs ≡ []
bytes_taken-none start [] e = refl
bytes_taken-none start (c ∷ cs) e = absurd (cc)

pub refusal_changes_nothing : RefusalChangesNothing
refusal_changes_nothing fllen sllen s t (insert r reply) step is =
    step.after ∙ ap (λ cs. with_chunks cs s) (bytes_taken-none r.start (cut (max_pool_size fllen) (aligned_part r)) (sym step.answer ∙ is))
refusal_changes_nothing fllen sllen s t (append r reply) step is = absurd is
refusal_changes_nothing fllen sllen s t (allocate size align reply) step is = (subst (λ x. Allocates sllen s size align x t) is step).1
refusal_changes_nothing fllen sllen s t (deallocate addr) step is = absurd is
refusal_changes_nothing fllen sllen s t (reallocate addr size reply) step is =
    refused (plan s step.block size) (subst (λ x. ReallocatesBy sllen s step.block size (plan s step.block size) x t) is step.step)
  where
    refused : (o : Option Plan) → ReallocatesBy sllen s step.block size o None t → t ≡ s
    refused None a = a.1
    refused (Some p) a = absurd a
refusal_changes_nothing fllen sllen s t (fill addr bytes) step is = absurd is
refusal_changes_nothing fllen sllen s t (remove r) step is = absurd is
refusal_changes_nothing fllen sllen s t (trim count) step is = absurd step
