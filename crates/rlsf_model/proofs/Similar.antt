-- From similar states the same call has the same reply, and leads to similar states.
use mathlib.Core.Path.{ap₂}
use Rattle.std.proofs.Common.{◌≡◌, ℕ, not, eqb, map, List, [], ◌∷◌, Option, Some, None, refl, sym, ◌∙◌, ap, subst}
use Rattle.rlsf_base.specs.declared.memory.range.Range.{Range}
use Rattle.rlsf_model_sizes.specs.Sizes.{request_size}
use Rattle.rlsf_model.specs.Allocate.{choice, placed, given, Allocates}
use Rattle.rlsf_model.specs.Insert.{Inserts, Appends}
use Rattle.rlsf_model.specs.Join.{join}
use Rattle.rlsf_model.specs.Laws.{FillIsSimilar, SimilarStatesAgree}
use Rattle.rlsf_model.specs.Lists.{IsIn}
use Rattle.rlsf_model.specs.Payload.{payload_of}
use Rattle.rlsf_model.specs.Reallocate.{Plan, plan, ReallocatesBy, Reallocates}
use Rattle.rlsf_model.specs.Release.{Deallocates}
use Rattle.rlsf_model.specs.Remove.{removed}
use Rattle.rlsf_model.specs.Run.{insert, append, allocate, deallocate, reallocate, fill, remove, trim}
use Rattle.rlsf_model.specs.State.{State, Used, Shape, shape_of, Holds, AreAlike, AreSimilar, others}
use Rattle.rlsf_model.specs.WellFormed.{IsWellFormed}
use Rattle.rlsf_model.proofs.Allocations.{Allocates-keeps}
use Rattle.rlsf_model.proofs.Changes.{Holds-unique}
use Rattle.rlsf_model.proofs.Chunks.{used-inserted, used-appended}
use Rattle.rlsf_model.proofs.Coverage.{IsIn-map, IsIn-map_from}
use Rattle.rlsf_model.proofs.Determined.{other_shapes, map-others}
use Rattle.rlsf_model.proofs.Fillings.{AreAlike-filled}
use Rattle.rlsf_model.proofs.Orders.{HasSame, HasSame-cons, HasSame-filter, HasSameRanges, HasSameRanges-inserted, HasSameRanges-appended, HasSameRanges-removed}
use Rattle.rlsf_model.proofs.Names.{moved}

-- ---- used blocks with the same shapes

abbrev HasSameShapes : List Used → List Used → Type 0
HasSameShapes xs ys = HasSame (map shape_of xs) (map shape_of ys)

HasSameShapes-others : (addr : ℕ) (xs ys : List Used) → HasSameShapes xs ys → HasSameShapes (others addr xs) (others addr ys)
HasSameShapes-others addr xs ys same =
    subst (λ l. HasSame l (map shape_of (others addr ys))) (sym (map-others addr xs))
    (subst (HasSame (other_shapes addr (map shape_of xs))) (sym (map-others addr ys)) (HasSame-filter (λ x. not (eqb x.payload addr)) (map shape_of xs) (map shape_of ys) same))

AreSimilar-at : {s s' t t' : State} → s ≡ s' → t ≡ t' → AreSimilar s' t' → AreSimilar s t
AreSimilar-at {s} {s'} {t} {t'} e f a = subst (λ x. AreSimilar x t) (sym e) (subst (λ y. AreSimilar s' y) (sym f) a)

-- the used block at an address has the same shape in both states
pub shape-held : {fllen sllen : ℕ} {memory : Range} {s s' : State} → IsWellFormed fllen sllen memory s' → AreSimilar s s'
    → (addr : ℕ) (u v : Used) → Holds s addr u → Holds s' addr v → shape_of u ≡ shape_of v
shape-held {s = s} {s' = s'} w' r addr u v (i, at) held =
    let (x, j, is) = IsIn-map_from shape_of (shape_of u) s'.used ((r.used (shape_of u)).0 (IsIn-map shape_of u s.used i)) in
    let here : x.payload ≡ addr = ap (λ h. h.payload) (sym is) ∙ at in
    is ∙ ap shape_of (Holds-unique w' addr x v (j, here) held)

-- ---- the steps

module _ {s s' : State} (r : AreSimilar s s') where
  ranges : HasSameRanges s s'
  ranges = record { chunks = r.chunks; free = r.free }

  similar_from : {t t' : State} → HasSameRanges t t' → t.used ≡ s.used → t'.used ≡ s'.used → AreSimilar t t'
  similar_from {t} {t'} q e e' =
      record { chunks = q.chunks; used = subst (λ l. HasSameShapes l t'.used) (sym e) (subst (HasSameShapes s.used) (sym e') r.used); free = q.free }

  pub allocate-similar : (sllen size align : ℕ) (m n : Option ℕ) (t t' : State) → Allocates sllen s size align m t → Allocates sllen s' size align n t'
      → (m ≡ n) × AreSimilar t t'
  allocate-similar sllen size align None None t t' a b = (refl, AreSimilar-at a.1 b.1 r)
  allocate-similar sllen size align None (Some y) t t' a b =
      let bad : None ≡ Some b.range = sym a.0 ∙ ap (choice sllen (request_size size align)) r.free ∙ b.chosen in absurd (cc)
  allocate-similar sllen size align (Some x) None t t' a b =
      let bad : Some a.range ≡ None = sym a.chosen ∙ ap (choice sllen (request_size size align)) r.free ∙ b.0 in absurd (cc)
  allocate-similar sllen size align (Some x) (Some y) t t' a b =
      let found : Some a.range ≡ Some b.range = sym a.chosen ∙ ap (choice sllen (request_size size align)) r.free ∙ b.chosen in
      let same : a.range ≡ b.range = cc in (
        ap Some (a.answer ∙ ap (λ f. payload_of f.start align) same ∙ sym b.answer),
        AreSimilar-at a.after b.after
            (subst (λ f. AreSimilar (given sllen s a.range (placed a.range size align a.bytes)) (given sllen s' f (placed f size align b.bytes))) same
            (given_similar a.range a.bytes b.bytes)),
      )
    where
      given_similar : (f : Range) (old new : List ℕ) → AreSimilar (given sllen s f (placed f size align old)) (given sllen s' f (placed f size align new))
      given_similar f old new = record {
        chunks = r.chunks;
        used = HasSame-cons (shape_of (placed f size align old)) (map shape_of s.used) (map shape_of s'.used) r.used;
        free = ap (λ l. (given sllen (record { chunks = []; used = []; free = l }) f (placed f size align old)).free) r.free;
      }

  -- the state without a used block of some shape
  released_at : State → Shape → State
  released_at x h = record { chunks = x.chunks; used = others h.payload x.used; free = join h.block x.free }

  released_at-similar : (h : Shape) → AreSimilar (released_at s h) (released_at s' h)
  unfolding released_at
  released_at-similar h = record { chunks = r.chunks; used = HasSameShapes-others h.payload s.used s'.used r.used; free = ap (join h.block) r.free }

  deallocate-similar : {fllen sllen : ℕ} {memory : Range} → IsWellFormed fllen sllen memory s'
      → (addr : ℕ) (t t' : State) → Deallocates s addr t → Deallocates s' addr t' → AreSimilar t t'
  unfolding released_at
  deallocate-similar w' addr t t' a b =
      let same : shape_of a.block ≡ shape_of b.block = shape-held w' r addr a.block b.block a.holds b.holds in
      AreSimilar-at a.after b.after
      (subst (λ h. AreSimilar (released_at s (shape_of a.block)) (released_at s' h)) same (released_at-similar (shape_of a.block)))

  -- states that differ from these in bytes alone are similar too
  AreSimilar-alike : {t t' : State} → AreAlike s t → AreAlike s' t' → AreSimilar t t'
  AreSimilar-alike {t} {t'} a b = record {
    chunks = subst (λ l. HasSame l t'.chunks) a.chunks (subst (HasSame s.chunks) b.chunks r.chunks);
    used = subst (λ l. HasSame l (map shape_of t'.used)) a.used (subst (HasSame (map shape_of s.used)) b.used r.used);
    free = sym a.free ∙ r.free ∙ b.free;
  }

module _ {fllen sllen : ℕ} {memory : Range} {s s' : State} (w' : IsWellFormed fllen sllen memory s') (r : AreSimilar s s')
    (u v : Used) (h : IsIn v s'.used) (same : shape_of u ≡ shape_of v) where
  same_payload : u.payload ≡ v.payload
  same_payload = ap (λ x. x.payload) same

  same_align : u.align ≡ v.align
  same_align = ap (λ x. x.align) same

  -- a plan looks at the free ranges and at the block's shape
  plan_at : List Range → Shape → ℕ → Option Plan
  plan_at free x size = plan (record { chunks = []; used = []; free = free }) (record { block = x.block; payload = x.payload; align = x.align; bytes = [] }) size

  plan-similar : (size : ℕ) → plan s u size ≡ plan s' v size
  unfolding plan_at
  plan-similar size = ap₂ (λ free x. plan_at free x size) r.free same

  moved_similar : (p : Plan) (old new : List ℕ) → HasSameShapes (moved u p old ∷ others u.payload s.used) (moved v p new ∷ others v.payload s'.used)
  moved_similar p old new =
      let h = shape_of (moved u p old) in
      let apart = HasSameShapes-others u.payload s.used s'.used r.used in
      subst (λ x. HasSame (h ∷ map shape_of (others u.payload s.used))
      (record { block = p.block; payload = p.payload; align = x.align } ∷ map shape_of (others x.payload s'.used))) same
      (HasSame-cons h (map shape_of (others u.payload s.used)) (map shape_of (others u.payload s'.used)) apart)

  pub reallocate-similar : (size : ℕ) (o : Option Plan) (m n : Option ℕ) (t t' : State)
      → ReallocatesBy sllen s u size o m t → ReallocatesBy sllen s' v size o n t' → (m ≡ n) × AreSimilar t t'
  reallocate-similar size (Some p) None n t t' a b = absurd a
  reallocate-similar size (Some p) (Some x) None t t' a b = absurd b
  reallocate-similar size (Some p) (Some x) (Some y) t t' a b =
      (ap Some (a.answer ∙ sym b.answer), AreSimilar-at a.after b.after (record { chunks = r.chunks; used = moved_similar p a.bytes b.bytes; free = refl }))
  reallocate-similar size None None None t t' a b = (refl, AreSimilar-at a.1 b.1 r)
  reallocate-similar size None None (Some y) t t' a b =
      let a' = subst (λ n. Allocates sllen s size n None t) same_align a in
      let bad : None ≡ Some y = (allocate-similar r sllen size v.align None (Some y) t b.meanwhile a' b.allocated).0 in absurd (cc)
  reallocate-similar size None (Some x) None t t' a b =
      let a' = subst (λ n. Allocates sllen s size n (Some x) a.meanwhile) same_align a.allocated in
      let bad : Some x ≡ None = (allocate-similar r sllen size v.align (Some x) None a.meanwhile t' a' b).0 in absurd (cc)
  reallocate-similar size None (Some x) (Some y) t t' a b =
      let a' = subst (λ n. Allocates sllen s size n (Some x) a.meanwhile) same_align a.allocated in
      let (reply, near) = allocate-similar r sllen size v.align (Some x) (Some y) a.meanwhile b.meanwhile a' b.allocated in
      let kept = Allocates-keeps w' size v.align (Some y) b.meanwhile (w'.used v h).power b.allocated in
      (reply, deallocate-similar near kept v.payload t t' (subst (λ n. Deallocates a.meanwhile n t) same_payload a.released) b.released)

pub similar_states_agree : SimilarStatesAgree
similar_states_agree fllen sllen memory s s' t t' (insert q m) (insert q' n) w w' r a b same =
    let b' = subst (λ x. Inserts fllen s' x n t') (sym same) b in (
      ap₂ insert same (a.answer ∙ sym b'.answer),
      similar_from r (HasSameRanges-inserted w w' (ranges r) q m n t t' a b') (used-inserted fllen s t q m a) (used-inserted fllen s' t' q n b'),
    )
similar_states_agree fllen sllen memory s s' t t' (append q m) (append q' n) w w' r a b same =
    let b' = subst (λ x. Appends fllen s' x n t') (sym same) b in (
      ap₂ append same (a.answer ∙ sym b'.answer),
      similar_from r (HasSameRanges-appended w w' (ranges r) q m n t t' a b') (used-appended fllen s t q m a) (used-appended fllen s' t' q n b'),
    )
similar_states_agree fllen sllen memory s s' t t' (allocate size align m) (allocate size' align' n) w w' r a b (same, same') =
    let b' = subst (λ x. Allocates sllen s' x align n t') (sym same) (subst (λ y. Allocates sllen s' size' y n t') (sym same') b) in
    let d = allocate-similar r sllen size align m n t t' a b' in
    (ap₂ (λ x y. allocate x y m) same same' ∙ ap (allocate size' align') d.0, d.1)
similar_states_agree fllen sllen memory s s' t t' (deallocate addr) (deallocate addr') w w' r a b same =
    (ap deallocate same, deallocate-similar r w' addr t t' a (subst (λ x. Deallocates s' x t') (sym same) b))
similar_states_agree fllen sllen memory s s' t t' (reallocate addr size m) (reallocate addr' size' n) w w' r a b (same, same') =
    let b' = subst (λ x. Reallocates sllen s' x size n t') (sym same) (subst (λ y. Reallocates sllen s' addr' y n t') (sym same') b) in
    let u = a.block in
    let v = b'.block in
    let shape = shape-held w' r addr u v a.holds b'.holds in
    let by = subst (λ p. ReallocatesBy sllen s' v size p n t') (sym (plan-similar w' r u v b'.holds.0 shape size)) b'.step in
    let d = reallocate-similar w' r u v b'.holds.0 shape size (plan s u size) m n t t' a.step by in
    (ap₂ (λ x y. reallocate x y m) same same' ∙ ap (reallocate addr' size') d.0, d.1)
similar_states_agree fllen sllen memory s s' t t' (fill addr bytes) (fill addr' bytes') w w' r a b (same, same') =
    (ap₂ fill same same', AreSimilar-alike r (AreAlike-filled a) (AreAlike-filled b))
similar_states_agree fllen sllen memory s s' t t' (remove q) (remove q') w w' r a b same =
    (ap remove same, AreSimilar-at a (b ∙ ap (λ x. removed x s') (sym same)) (similar_from r (HasSameRanges-removed q s s' (ranges r)) refl refl))
similar_states_agree fllen sllen memory s s' t t' (trim m) e' w w' r a b same = absurd a
similar_states_agree fllen sllen memory s s' t t' e e' w w' r a b same = absurd same

pub fill_is_similar : FillIsSimilar
fill_is_similar s t addr bytes step =
    AreSimilar-alike (record { chunks = λ c. (λ i. i, λ i. i); used = λ h. (λ i. i, λ i. i); free = refl }) (record { chunks = refl; used = refl; free = refl })
    (AreAlike-filled step)
