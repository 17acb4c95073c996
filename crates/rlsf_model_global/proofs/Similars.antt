-- From the same placement the reference model over the page source goes on the same.
use mathlib.Core.Path.{ap₂}
use Rattle.std.proofs.Common.{◌≡◌, ℕ, length, List, [], Option, Some, None, arith, refl, sym, ◌∙◌, ap, subst, inl, inr}
use Rattle.rlsf_base.specs.declared.memory.range.Range.{Range}
use Rattle.rlsf_base.specs.Range.{end_of}
use Rattle.rlsf_model.specs.Answers.{MayAnswerAll}
use Rattle.rlsf_model.specs.Callers.{bytes_at}
use Rattle.rlsf_model.specs.FlexRun.{FlexLeads}
use Rattle.rlsf_model.specs.FlexState.{AreFlexSimilar, FlexState}
use Rattle.rlsf_model.specs.FlexWellFormed.{IsFlexWellFormed}
use Rattle.rlsf_model.specs.NoMove.{ReallocatesUnmovedBy, ReallocatesWithoutMove, unmoved_plan}
use Rattle.rlsf_model.specs.Note.{IsSameQuestion, LeadsBy, Note, alloc, dealloc, grow}
use Rattle.rlsf_model.specs.Reallocate.{Plan}
use Rattle.rlsf_model.specs.Run.{Event, IsSameCall}
use Rattle.rlsf_model.specs.State.{AreSimilar, Holds, Shape, State, Used, between, shape_of}
use Rattle.rlsf_model.specs.WellFormed.{IsWellFormed}
use Rattle.rlsf_model.proofs.CallerWords.{bytes_at-held}
use Rattle.rlsf_model.proofs.FlexSimilar.{flex_similar_states_agree}
use Rattle.rlsf_model.proofs.Notes.{AnswersAgree-led, led-determined}
use Rattle.rlsf_model.proofs.Similar.{reallocate-similar, shape-held}
use Rattle.rlsf_model.proofs.TrimmedSimilar.{AreSimilar-sym}
use Rattle.rlsf_model_global.specs.Cursor.{PageCursor, PageLeads, terms_of}
use Rattle.rlsf_model_global.specs.Heap.{HaveSamePlacement, Heap}
use Rattle.rlsf_model_global.proofs.PageAnswers.{valid64}

-- ---- states that are similar

pub AreSimilar-refl : (s : State) → AreSimilar s s
AreSimilar-refl s = record { chunks = λ c. (λ i. i, λ i. i); used = λ x. (λ i. i, λ i. i); free = refl }

pub AreSimilar-trans : {s t u : State} → AreSimilar s t → AreSimilar t u → AreSimilar s u
AreSimilar-trans r q = record {
  chunks = λ c. (λ i. (q.chunks c).0 ((r.chunks c).0 i), λ i. (r.chunks c).1 ((q.chunks c).1 i));
  used = λ x. (λ i. (q.used x).0 ((r.used x).0 i), λ i. (r.used x).1 ((q.used x).1 i));
  free = r.free ∙ q.free;
}

pub same_placement-refl : (h g : Heap) → g ≡ h → HaveSamePlacement h g
same_placement-refl h g same = subst (HaveSamePlacement h) (sym same) (record { machine = AreSimilar-refl h.flex.machine; pools = refl; kept = refl; source = refl; asked = refl })

pub same_placement-trans : {h g k : Heap} → HaveSamePlacement h g → HaveSamePlacement g k → HaveSamePlacement h k
same_placement-trans r q =
    record { machine = AreSimilar-trans r.machine q.machine; pools = r.pools ∙ q.pools; kept = r.kept ∙ q.kept; source = r.source ∙ q.source; asked = r.asked ∙ q.asked }

pub same_placement-sym : {h g : Heap} → HaveSamePlacement h g → HaveSamePlacement g h
same_placement-sym r = record { machine = AreSimilar-sym r.machine; pools = sym r.pools; kept = sym r.kept; source = sym r.source; asked = sym r.asked }

pub same_placement-at : {h h' : Heap} (g g' : Heap) → g ≡ h → g' ≡ h' → HaveSamePlacement h h' → HaveSamePlacement g g'
same_placement-at {h} {h'} g g' e f r = subst (λ x. HaveSamePlacement x g') (sym e) (subst (HaveSamePlacement h) (sym f) r)

-- ---- the page source's answers are determined by its cursor and the question

alloc-determined : (x y z : PageCursor) (n : ℕ) (a b : Option Range) → PageLeads x (alloc n a) y → PageLeads x (alloc n b) z → (a ≡ b) × (y ≡ z)
alloc-determined x y z n None None l m = (refl, l.1 ∙ sym m.1)
alloc-determined x y z n (Some r) (Some q) l m = (ap Some (l.1 ∙ sym m.1), l.2 ∙ sym m.2)
alloc-determined x y z n o o' l m = absurd (omega (arith, l.0, m.0))

grow-determined : (x y z : PageCursor) (r : Range) (n : ℕ) (a b : Option ℕ) → PageLeads x (grow r n a) y → PageLeads x (grow r n b) z → (a ≡ b) × (y ≡ z)
grow-determined x y z r n None None l m = (refl, l.1 ∙ sym m.1)
grow-determined x y z r n None (Some b) l m = elim l.0 [ inl apart ↦ absurd (apart m.0) | inr past ↦ absurd (omega (arith, past, m.1)) ]
grow-determined x y z r n (Some a) None l m = elim m.0 [ inl apart ↦ absurd (apart l.0) | inr past ↦ absurd (omega (arith, past, l.1)) ]
grow-determined x y z r n (Some a) (Some b) l m = (ap Some (l.2 ∙ sym m.2), l.3 ∙ sym m.3)

pages-determined : (x y z : PageCursor) (m n : Note) → IsSameQuestion m n → PageLeads x m y → PageLeads x n z → (m ≡ n) × (y ≡ z)
pages-determined x y z (alloc i a) (alloc j b) same l k =
    let (answer, now) = alloc-determined x y z i a b l (subst (λ v. PageLeads x (alloc v b) z) (sym same) k) in
    (ap₂ alloc same answer, now)
pages-determined x y z (grow r i a) (grow q j b) (range, same) l k =
    let k' = subst (λ v. PageLeads x (grow v i b) z) (sym range) (subst (λ v. PageLeads x (grow q v b) z) (sym same) k) in
    let (answer, now) = grow-determined x y z r i a b l k' in
    (ap₂ (λ u v. grow u v a) range same ∙ ap (grow q j) answer, now)
pages-determined x y z (dealloc r) (dealloc q) same l k = (ap dealloc same, l ∙ sym k)
pages-determined x y z m n same l k = absurd same

-- ---- the reference model's steps

pub flex_determined : {memory : Range} (x y y' : PageCursor) (s s' u u' : FlexState) → IsFlexWellFormed 64 64 memory (terms_of x) s
    → IsFlexWellFormed 64 64 memory (terms_of x) s' → AreFlexSimilar s s'
    → (e e' : Event) (notes notes' : List Note) → MayAnswerAll (terms_of x) s.pools notes → LeadsBy PageLeads x notes y → LeadsBy PageLeads x notes' y'
    → FlexLeads 64 64 (terms_of x) s e notes u
    → FlexLeads 64 64 (terms_of x) s' e' notes' u' → IsSameCall e e' → (e ≡ e') × AreFlexSimilar u u' × (y ≡ y')
flex_determined {memory} x y y' s s' u u' w w' r e e' notes notes' answers led led' step step' same =
    let agree = AnswersAgree-led PageLeads pages-determined x y y' notes notes' led led' in
    let (is, asked, near) = flex_similar_states_agree 64 64 64 64 memory (terms_of x) s s' u u' e e' notes notes' valid64 w w' r answers step step' same agree in
    (is, near, led-determined PageLeads pages-determined x y y' notes led (subst (λ ns. LeadsBy PageLeads x ns y') (sym asked) led'))

module _ {memory : Range} {s s' : State} (w : IsWellFormed 64 64 memory s) (w' : IsWellFormed 64 64 memory s') (r : AreSimilar s s') where
  -- a plan looks at the free ranges and at the block's shape
  plan_at : List Range → Shape → ℕ → Option Plan
  plan_at free x size = unmoved_plan (record { chunks = []; used = []; free = free }) (record { block = x.block; payload = x.payload; align = x.align; bytes = [] }) size

  plan-same : (u v : Used) → shape_of u ≡ shape_of v → (size : ℕ) → unmoved_plan s u size ≡ unmoved_plan s' v size
  unfolding plan_at
  plan-same u v same size = ap₂ (λ free x. plan_at free x size) r.free same

  -- a payload gets another size in place, or in neither state
  pub unmoved-similar : (addr size : ℕ) (m n : Option ℕ) (t t' : State) → ReallocatesWithoutMove s addr size m t → ReallocatesWithoutMove s' addr size n t'
      → (m ≡ n) × AreSimilar t t'
  unmoved-similar addr size m n t t' p q =
      let shape = shape-held w' r addr p.block q.block p.holds q.holds in
      go p.block q.block q.holds shape (unmoved_plan s p.block size) m n p.step
      (subst (λ o. ReallocatesUnmovedBy s' q.block o n t') (sym (plan-same p.block q.block shape size)) q.step)
    where
      go : (u v : Used) → Holds s' addr v → shape_of u ≡ shape_of v → (o : Option Plan) (m n : Option ℕ) → ReallocatesUnmovedBy s u o m t
          → ReallocatesUnmovedBy s' v o n t' → (m ≡ n) × AreSimilar t t'
      go u v held shape (Some x) (Some i) None a b = absurd b
      go u v held shape (Some x) (Some i) (Some j) a b = reallocate-similar w' r u v held.0 shape size (Some x) (Some i) (Some j) t t' a b
      go u v held shape None None (Some j) a b = absurd b
      go u v held shape None None None a b = (refl, subst (λ x. AreSimilar x t') (sym a) (subst (AreSimilar s) (sym b) r))
      go u v held shape o o' n a b = absurd a

  -- a payload has as many bytes in both
  pub lengths-same : (addr : ℕ) (u v : Used) → Holds s addr u → Holds s' addr v → length (bytes_at s addr) ≡ length (bytes_at s' addr)
  lengths-same addr u v held held' =
      let shape = shape-held w' r addr u v held held' in
      ap length (bytes_at-held w addr u held) ∙ (w.used u held.0).bytes ∙ ap (λ (x : Shape). (between x.payload (end_of x.block)).len) shape ∙ sym (w'.used v held'.0).bytes
      ∙ ap length (sym (bytes_at-held w' addr v held'))
