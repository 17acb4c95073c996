-- Steps over a source are determined: from similar states, with the same answers, the same call leads to similar states.
use mathlib.Core.Path.{ap₂}
use Rattle.std.proofs.Common.{◌≡◌, ℕ, ◌+◌, true≢false, List, [], ◌∷◌, ◌++◌, Option, Some, None, refl, sym, ◌∙◌, ap, subst, inl, inr, ◌||◌}
use Rattle.std.proofs.lemmas.Bool.{false≢true}
use Rattle.std.proofs.lemmas.Option.{none-some, same_Some}
use Rattle.std.specs.Bool.{then_some}
use Rattle.std.specs.Prelude.{None}
use Rattle.rlsf_base.specs.declared.memory.range.Range.{Range}
use Rattle.rlsf_model_sizes.specs.SizeClass.{IsValid}
use Rattle.rlsf_model_sizes.specs.Sizes.{pool_size_to_contain_allocation}
use Rattle.rlsf_model.specs.Answers.{MayAnswerAll}
use Rattle.rlsf_model.specs.FlexAllocate.{Asks, FlexAllocates}
use Rattle.rlsf_model.specs.FlexReallocate.{FlexReallocates}
use Rattle.rlsf_model.specs.FlexRun.{FlexEvent, notes_in}
use Rattle.rlsf_model.specs.FlexState.{AreFlexSimilar, FlexState, KeptPool, with_machine}
use Rattle.rlsf_model.specs.FlexWellFormed.{IsFlexWellFormed}
use Rattle.rlsf_model.specs.Growth.{Extends, IsPossible, Outcome, Questions, range_came, growth_came, is_more, longer, notes_of, questions, refused, TakesIn}
use Rattle.rlsf_model.specs.Laws.{FlexSimilarRunsAgree, FlexSimilarStatesAgree}
use Rattle.rlsf_model.specs.Lists.{IsIn}
use Rattle.rlsf_model.specs.Note.{AnswersAgree, Note}
use Rattle.rlsf_model.specs.Reallocate.{Reallocates, ReallocatesBy, plan}
use Rattle.rlsf_model.specs.Run.{insert, append, allocate, deallocate, reallocate, fill, remove, trim}
use Rattle.rlsf_model.specs.State.{AreSimilar, State, Used, shape_of, Holds}
use Rattle.rlsf_model.specs.Terms.{Terms, with_len}
use Rattle.rlsf_model.proofs.FlexSteps.{asked_keeps, flex_steps_keep_well_formed}
use Rattle.rlsf_model.proofs.Notes.{AnswersAgree-behind, AnswersAgree-front}
use Rattle.rlsf_model.proofs.Growths.{used-taken}
use Rattle.rlsf_model.proofs.TrimmedSimilar.{trims-similar}
use Rattle.rlsf_model.proofs.Similar.{allocate-similar, reallocate-similar, shape-held, similar_states_agree}
use Rattle.rlsf_model.proofs.Names.{behind}

-- the same questions lead to the same ranges if the answers are the same
outcome-agrees : (q : Questions) (o o' : Outcome) → IsPossible q o → IsPossible q o' → AnswersAgree (notes_of q o) (notes_of q o') → o ≡ o'
outcome-agrees q o o' p p' a = go q.growth q.range o o' p p' a
  where
    go : (g : Option (Range × ℕ)) (r : Option ℕ) (o o' : Outcome) → IsPossible (record { growth = g; range = r }) o → IsPossible (record { growth = g; range = r }) o'
        → AnswersAgree (notes_of (record { growth = g; range = r }) o) (notes_of (record { growth = g; range = r }) o') → o ≡ o'
    go None r (growth_came n) o' p p' a = absurd (true≢false (sym p))
    go None r o (growth_came n) p p' a = absurd (true≢false (sym p'))
    go g None (range_came c) o' p p' a = absurd (true≢false (sym p))
    go g None o (range_came c) p p' a = absurd (true≢false (sym p'))
    go None r refused refused p p' a = refl
    go None (Some n) refused (range_came c) p p' a = let bad = a.0 refl in absurd (cc)
    go None (Some n) (range_came c) refused p p' a = let bad = a.0 refl in absurd (cc)
    go None (Some n) (range_came c) (range_came d) p p' a = let same = a.0 refl in let is : c ≡ d = cc in ap range_came is
    go (Some (k, m)) r refused refused p p' a = refl
    go (Some (k, m)) r (growth_came n) (growth_came i) p p' a = let same = a.0 (refl, refl) in let is : n ≡ i = cc in ap growth_came is
    go (Some (k, m)) (Some i) refused (range_came c) p p' a = let bad = (a.1 refl).0 refl in absurd (cc)
    go (Some (k, m)) (Some i) (range_came c) refused p p' a = let bad = (a.1 refl).0 refl in absurd (cc)
    go (Some (k, m)) (Some i) (range_came c) (range_came d) p p' a = let same = (a.1 refl).0 refl in let is : c ≡ d = cc in ap range_came is
    go (Some (k, m)) r o o' p p' a = let bad = a.0 (refl, refl) in absurd (cc)

-- a reallocation is refused by the reference model, where the block is stuck and there is no room
refuses_stuck : {fllen sllen : ℕ} {t : Terms} {x : FlexState} (addr size : ℕ) (v : Used) (outcome : Outcome) (ns : List Note) (m : FlexState)
    → (Holds x.machine addr v × (plan x.machine v size ≡ None))
    → Asks fllen sllen t x size v.align outcome ns m → Reallocates sllen x.machine addr size None x.machine
refuses_stuck {sllen = sllen} {x = x} addr size v outcome ns m stuck asks =
    record { block = v; holds = stuck.0; step = subst (λ p. ReallocatesBy sllen x.machine v size p None x.machine) (sym stuck.1) asks.full }

-- similar states, with similar states of the reference model in them
with_machine-similar : {s s' : FlexState} → AreFlexSimilar s s' → (m m' : State) (u u' : FlexState) → AreSimilar m m' → u ≡ with_machine s m → u' ≡ with_machine s' m'
    → AreFlexSimilar u u'
with_machine-similar {s} {s'} r m m' u u' near a b =
    subst (λ x. AreFlexSimilar x u') (sym a) (subst (AreFlexSimilar (with_machine s m)) (sym b) (record { machine = near; pools = r.pools; kept = r.kept }))

module _ {fllen sllen : ℕ} {memory : Range} {t : Terms} {s s' : FlexState} (w : IsFlexWellFormed fllen sllen memory t s) (w' : IsFlexWellFormed fllen sllen memory t s')
    (r : AreFlexSimilar s s') where
  -- the same memory that is taken in leaves similar states
  taken-similar : (o : Outcome) (u u' : FlexState) → TakesIn fllen t s o u → TakesIn fllen t s' o u' → AreFlexSimilar u u'
  taken-similar refused u u' a b = subst (λ x. AreFlexSimilar x u') (sym a) (subst (AreFlexSimilar s) (sym b) r)
  taken-similar (range_came q) u u' (n, step, pools, kept) (n', step', pools', kept') =
      let d =
      similar_states_agree fllen sllen memory s.machine s'.machine u.machine u'.machine (insert q (Some n)) (insert q (Some n')) w.machine w'.machine r.machine step step'
      refl in
      let is = d.0 in
      let same : n ≡ n' = cc in
      record {
        machine = d.1;
        pools = pools ∙ ap (λ ps. q ∷ ps) r.pools ∙ sym pools';
        kept = kept ∙ ap (λ len. then_some (t.dealloc || t.grow) (let k : KeptPool = record { range = q; len = len } in k)) same ∙ sym kept';
      }
  taken-similar (growth_came len) u u' (k, n, was, step, pools, kept) (k', n', was', step', pools', kept') =
      let is : k ≡ k' = same_Some k k' (sym was ∙ r.kept ∙ was') in
      let d =
      similar_states_agree fllen sllen memory s.machine s'.machine u.machine u'.machine (append (behind k len) n) (append (behind k' len) n') w.machine w'.machine r.machine
      step step' (ap (λ x. behind x len) is) in
      let e = d.0 in
      let same : n ≡ n' = cc in
      record {
        machine = d.1;
        pools = pools ∙ ap (longer len) r.pools ∙ sym pools';
        kept = kept ∙ ap₂ (λ (x : KeptPool) (i : ℕ). Some (let k : KeptPool = record { range = with_len x.range len; len = x.len + i } in k)) is same ∙ sym kept';
      }

  -- the same pool that is asked for
  extended-similar : (wanted : Option ℕ) (o o' : Outcome) (notes notes' : List Note) (u u' : FlexState) → Extends fllen t s wanted o notes u
      → Extends fllen t s' wanted o' notes' u' → AnswersAgree notes notes'
      → (o ≡ o') × (notes ≡ notes') × AreFlexSimilar u u'
  extended-similar wanted o o' notes notes' u u' a b agree =
      let q = questions t s.kept wanted in
      let same : questions t s'.kept wanted ≡ q = ap (λ k. questions t k wanted) (sym r.kept) in
      let asked : notes' ≡ notes_of q o' = b.asked ∙ ap (λ x. notes_of x o') same in
      let is =
      outcome-agrees q o o' a.possible (subst (λ x. IsPossible x o') same b.possible)
      (subst (AnswersAgree (notes_of q o)) asked (subst (λ ns. AnswersAgree ns notes') a.asked agree)) in
      (is, a.asked ∙ ap (notes_of q) is ∙ sym asked, taken-similar o u u' a.after (subst (λ x. TakesIn fllen t s' x u') (sym is) b.after))

  -- the reference model's own replies are the same
  replies-agree : (addr size : ℕ) (m n : Option ℕ) (x y : State) → Reallocates sllen s.machine addr size m x → Reallocates sllen s'.machine addr size n y
      → (m ≡ n) × AreSimilar x y
  replies-agree addr size m n x y a b =
      let d = similar_states_agree fllen sllen memory s.machine s'.machine x y (reallocate addr size m) (reallocate addr size n) w.machine w'.machine r.machine a b (refl, refl) in
      let e = d.0 in
      let same : m ≡ n = cc in
      (same, d.1)

module _ {fl_bits sl_bits fllen sllen : ℕ} {memory : Range} {t : Terms} {s s' : FlexState} (valid : IsValid fl_bits sl_bits fllen sllen)
    (w : IsFlexWellFormed fllen sllen memory t s)
    (w' : IsFlexWellFormed fllen sllen memory t s') (r : AreFlexSimilar s s') (u u' : FlexState) (notes notes' : List Note) (answers : MayAnswerAll t s.pools notes)
    (agree : AnswersAgree notes notes') where
  -- a reply, notes and states after that are alike
  abbrev Agree : Option ℕ → Option ℕ → Type 0
  Agree m n = (m ≡ n) × (notes ≡ notes') × AreFlexSimilar u u'

  -- ---- an allocation

  allocate-agrees : (size align : ℕ) (m n : Option ℕ) → FlexAllocates fllen sllen t s size align m notes u → FlexAllocates fllen sllen t s' size align n notes' u'
      → Agree m n
  allocate-agrees size align None None a b =
      let d = extended-similar w w' r (pool_size_to_contain_allocation fllen sllen size align) refused refused notes notes' u u' a.extends b.extends agree in
      (refl, d.1, d.2)
  allocate-agrees size align None (Some y) a (inl b) = absurd (none-some y (allocate-similar r.machine sllen size align None (Some y) s.machine b.machine a.full b.allocates).0)
  allocate-agrees size align None (Some y) a (inr b) =
      let d = extended-similar w w' r (pool_size_to_contain_allocation fllen sllen size align) refused b.outcome notes notes' u b.meanwhile a.extends b.asks.extends agree in
      absurd (false≢true (ap is_more d.0 ∙ b.more))
  allocate-agrees size align (Some x) None (inl a) b =
      absurd (none-some x (sym (allocate-similar r.machine sllen size align (Some x) None a.machine s'.machine a.allocates b.full).0))
  allocate-agrees size align (Some x) None (inr a) b =
      let d = extended-similar w w' r (pool_size_to_contain_allocation fllen sllen size align) a.outcome refused notes notes' a.meanwhile u' a.asks.extends b.extends agree in
      absurd (true≢false (sym a.more ∙ ap is_more d.0))
  allocate-agrees size align (Some x) (Some y) (inl a) (inl b) =
      let d = allocate-similar r.machine sllen size align (Some x) (Some y) a.machine b.machine a.allocates b.allocates in
      (d.0, a.none ∙ sym b.none, with_machine-similar r a.machine b.machine u u' d.1 a.after b.after)
  allocate-agrees size align (Some x) (Some y) (inl a) (inr b) =
      absurd (none-some x (sym (allocate-similar r.machine sllen size align (Some x) None a.machine s'.machine a.allocates b.asks.full).0))
  allocate-agrees size align (Some x) (Some y) (inr a) (inl b) =
      absurd (none-some y (allocate-similar r.machine sllen size align None (Some y) s.machine b.machine a.asks.full b.allocates).0)
  allocate-agrees size align (Some x) (Some y) (inr a) (inr b) =
      let d =
      extended-similar w w' r (pool_size_to_contain_allocation fllen sllen size align) a.outcome b.outcome notes notes' a.meanwhile b.meanwhile a.asks.extends b.asks.extends
      agree in
      let e = allocate-similar d.2.machine sllen size align (Some x) (Some y) a.machine b.machine a.allocates b.allocates in
      (e.0, d.1, with_machine-similar d.2 a.machine b.machine u u' e.1 a.after b.after)

  -- ---- a reallocation

  -- what is asked for stuck blocks
  stuck-similar : (addr size : ℕ) (v v' : Used) (o o' : Outcome) (m m' : FlexState)
      → (Holds s.machine addr v × (plan s.machine v size ≡ None)) → (Holds s'.machine addr v' × (plan s'.machine v' size ≡ None))
      → Asks fllen sllen t s size v.align o notes m → Asks fllen sllen t s' size v'.align o' notes' m'
      → (shape_of v ≡ shape_of v') × (o ≡ o') × (notes ≡ notes') × AreFlexSimilar m m'
  stuck-similar addr size v v' o o' m m' stuck stuck' a b =
      let shape = shape-held w'.machine r.machine addr v v' stuck.0 stuck'.0 in
      let align : v.align ≡ v'.align = ap (λ h. h.align) shape in
      let d = extended-similar w w' r (pool_size_to_contain_allocation fllen sllen size v.align) o o' notes notes' m m' a.extends
      (subst (λ x. Extends fllen t s' (pool_size_to_contain_allocation fllen sllen size x) o' notes' m') (sym align) b.extends) agree in
      (shape, d.0, d.1, d.2)

  reallocate-agrees : (addr size : ℕ) (m n : Option ℕ) → FlexReallocates fllen sllen t s addr size m notes u → FlexReallocates fllen sllen t s' addr size n notes' u'
      → Agree m n
  reallocate-agrees addr size None None a b =
      let d = stuck-similar addr size a.block b.block refused refused u u' (a.holds, a.no_plan) (b.holds, b.no_plan) a.asks b.asks in
      (refl, d.2, d.3)
  reallocate-agrees addr size None (Some y) a (inl b) =
      absurd (none-some y (replies-agree w w' r addr size None (Some y) s.machine b.machine
      (refuses_stuck addr size a.block refused notes u (a.holds, a.no_plan) a.asks) b.reallocates).0)
  reallocate-agrees addr size None (Some y) a (inr b) =
      let d = stuck-similar addr size a.block b.block refused b.outcome u b.meanwhile (a.holds, a.no_plan) (b.holds, b.no_plan) a.asks b.asks in
      absurd (false≢true (ap is_more d.1 ∙ b.more))
  reallocate-agrees addr size (Some x) None (inl a) b =
      absurd (none-some x (sym
      (replies-agree w w' r addr size (Some x) None a.machine s'.machine a.reallocates (refuses_stuck addr size b.block refused notes' u' (b.holds, b.no_plan) b.asks)).0))
  reallocate-agrees addr size (Some x) None (inr a) b =
      let d = stuck-similar addr size a.block b.block a.outcome refused a.meanwhile u' (a.holds, a.no_plan) (b.holds, b.no_plan) a.asks b.asks in
      absurd (true≢false (sym a.more ∙ ap is_more d.1))
  reallocate-agrees addr size (Some x) (Some y) (inl a) (inl b) =
      let d = replies-agree w w' r addr size (Some x) (Some y) a.machine b.machine a.reallocates b.reallocates in
      (d.0, a.none ∙ sym b.none, with_machine-similar r a.machine b.machine u u' d.1 a.after b.after)
  reallocate-agrees addr size (Some x) (Some y) (inl a) (inr b) =
      absurd (none-some x (sym
      (replies-agree w w' r addr size (Some x) None a.machine s'.machine a.reallocates
      (refuses_stuck addr size b.block b.outcome notes' b.meanwhile (b.holds, b.no_plan) b.asks)).0))
  reallocate-agrees addr size (Some x) (Some y) (inr a) (inl b) =
      absurd (none-some y (replies-agree w w' r addr size None (Some y) s.machine b.machine
      (refuses_stuck addr size a.block a.outcome notes a.meanwhile (a.holds, a.no_plan) a.asks)
      b.reallocates).0)
  reallocate-agrees addr size (Some x) (Some y) (inr a) (inr b) =
      let (shape, came, asked, near) = stuck-similar addr size a.block b.block a.outcome b.outcome a.meanwhile b.meanwhile
      (a.holds, a.no_plan) (b.holds, b.no_plan) a.asks b.asks in
      let answers' = subst (MayAnswerAll t s'.pools) asked (subst (λ ps. MayAnswerAll t ps notes) r.pools answers) in
      let whole = asked_keeps valid w' u' notes' answers' size b.block.align b.outcome b.meanwhile b.asks in
      let used = subst (IsIn b.block) (sym (used-taken fllen t s' b.meanwhile b.outcome b.asks.extends.after)) b.holds.0 in
      let d = reallocate-similar whole.machine near.machine a.block b.block used shape size None (Some x) (Some y) a.machine b.machine a.moves b.moves in
      (d.0, asked, with_machine-similar near a.machine b.machine u u' d.1 a.after b.after)

pub flex_similar_states_agree : FlexSimilarStatesAgree
flex_similar_states_agree fl_bits sl_bits fllen sllen memory t s s' u u' (allocate size align m) (allocate size' align' n) notes notes' valid w w' r answers a b (same, same')
    agree =
    let b' = subst (λ x. FlexAllocates fllen sllen t s' x align n notes' u') (sym same) (subst (λ y. FlexAllocates fllen sllen t s' size' y n notes' u') (sym same') b) in
    let d = allocate-agrees valid w w' r u u' notes notes' answers agree size align m n a b' in
    (ap₂ (λ x y. allocate x y m) same same' ∙ ap (allocate size' align') d.0, d.1, d.2)
flex_similar_states_agree fl_bits sl_bits fllen sllen memory t s s' u u' (deallocate addr) (deallocate addr') notes notes' valid w w' r answers a b same agree =
    let d =
    similar_states_agree fllen sllen memory s.machine s'.machine a.machine b.machine (deallocate addr) (deallocate addr') w.machine w'.machine r.machine a.leads b.leads same in
    (d.0, a.none ∙ sym b.none, with_machine-similar r a.machine b.machine u u' d.1 a.after b.after)
flex_similar_states_agree fl_bits sl_bits fllen sllen memory t s s' u u' (reallocate addr size m) (reallocate addr' size' n) notes notes' valid w w' r answers a b (same, same')
    agree =
    let b' = subst (λ x. FlexReallocates fllen sllen t s' x size n notes' u') (sym same) (subst (λ y. FlexReallocates fllen sllen t s' addr' y n notes' u') (sym same') b) in
    let d = reallocate-agrees valid w w' r u u' notes notes' answers agree addr size m n a b' in
    (ap₂ (λ x y. reallocate x y m) same same' ∙ ap (reallocate addr' size') d.0, d.1, d.2)
flex_similar_states_agree fl_bits sl_bits fllen sllen memory t s s' u u' (fill addr bytes) (fill addr' bytes') notes notes' valid w w' r answers a b same agree =
    let d =
    similar_states_agree fllen sllen memory s.machine s'.machine a.machine b.machine (fill addr bytes) (fill addr' bytes') w.machine w'.machine r.machine a.leads b.leads
    same in
    (d.0, a.none ∙ sym b.none, with_machine-similar r a.machine b.machine u u' d.1 a.after b.after)
flex_similar_states_agree fl_bits sl_bits fllen sllen memory t s s' u u' (insert q m) e' notes notes' valid w w' r answers a b same agree = absurd a
flex_similar_states_agree fl_bits sl_bits fllen sllen memory t s s' u u' (append q m) e' notes notes' valid w w' r answers a b same agree = absurd a
flex_similar_states_agree fl_bits sl_bits fllen sllen memory t s s' u u' (remove q) e' notes notes' valid w w' r answers a b same agree = absurd a
flex_similar_states_agree fl_bits sl_bits fllen sllen memory t s s' u u' (trim m) (trim n) notes notes' valid w w' r answers a b same agree =
    let d = trims-similar t s s' u u' m n notes notes' r a b in
    (ap trim d.0, d.1, d.2)
flex_similar_states_agree fl_bits sl_bits fllen sllen memory t s s' u u' e e' notes notes' valid w w' r answers a b same agree = absurd same

pub flex_similar_runs_agree : FlexSimilarRunsAgree
flex_similar_runs_agree fl_bits sl_bits fllen sllen memory t s s' u u' [] [] valid w w' r run run' same agree =
    (refl, subst (λ x. AreFlexSimilar x u') (sym run) (subst (AreFlexSimilar s) (sym run') r))
flex_similar_runs_agree fl_bits sl_bits fllen sllen memory t s s' u u' (c ∷ cs) (d ∷ ds) valid w w' r (m, step, rest) (m', step', rest') (same, others) agree =
    let (event, notes, near) =
    flex_similar_states_agree fl_bits sl_bits fllen sllen memory t s s' m m' c.event d.event c.notes d.notes valid w w' r step.answers step.leads step'.leads same
    (AnswersAgree-front c.notes d.notes (notes_in cs) (notes_in ds) agree) in
    let is : c ≡ d = ap₂ (λ e ns. let x : FlexEvent = record { event = e; notes = ns } in x) event notes in
    let behind = AnswersAgree-behind c.notes (notes_in cs) (notes_in ds) (subst (λ ns. AnswersAgree (c.notes ++ notes_in cs) (ns ++ notes_in ds)) (sym notes) agree) in
    let first = flex_steps_keep_well_formed fl_bits sl_bits fllen sllen memory t s m c.event c.notes valid w step in
    let second = flex_steps_keep_well_formed fl_bits sl_bits fllen sllen memory t s' m' d.event d.notes valid w' step' in
    let (more, end) = flex_similar_runs_agree fl_bits sl_bits fllen sllen memory t m m' u u' cs ds valid first second near rest rest' others behind in
    (ap₂ (λ x xs. x ∷ xs) is more, end)
flex_similar_runs_agree fl_bits sl_bits fllen sllen memory t s s' u u' l l' valid w w' r run run' same agree = absurd same
