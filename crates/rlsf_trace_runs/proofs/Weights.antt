-- The sum of a measure over the used blocks, which doesn't depend on bytes, before and after a call of the reference model.
use Rattle.std.proofs.Common.{◌≡◌, ℕ, ◌+◌, eqb, not, cond, filter, map, List, [], ◌∷◌, Option, Some, None, arith, refl, sym, ◌∙◌, ap, subst, inl, inr}
use Rattle.std.specs.Prelude.{sum_by}
use Rattle.std.proofs.lemmas.List.Filters.{sum_by-filter_both}
use Rattle.std.proofs.lemmas.List.Sums.{sum_by-cons}
use Rattle.rlsf_base.specs.declared.memory.range.Range.{Range}
use Rattle.rlsf_model.specs.Allocate.{placed, Allocates}
use Rattle.rlsf_model.specs.Lists.{IsIn}
use Rattle.rlsf_model.specs.Reallocate.{Plan, plan, Reallocates, ReallocatesBy}
use Rattle.rlsf_model.specs.Release.{Deallocates}
use Rattle.rlsf_model.specs.Run.{Fills}
use Rattle.rlsf_model.specs.State.{State, Used, Holds, others}
use Rattle.rlsf_model.specs.WellFormed.{IsWellFormed}
use Rattle.rlsf_model.proofs.Allocations.{Allocates-keeps}
use Rattle.rlsf_model.proofs.Changes.{Holds-unique, IsIn-others_from}
use Rattle.rlsf_model.proofs.Coverage.{by_test}
use Rattle.rlsf_model.proofs.Live.{handed_out_is_new, live_address_has_one_block}
use Rattle.rlsf_model.proofs.Names.{moved, used_with_bytes, filled_if}

-- a measure sees no bytes
abbrev pub IsBlind : (Used → ℕ) → Type 0
IsBlind f = (u : Used) (bytes : List ℕ) → f (used_with_bytes u bytes) ≡ f u

-- the used blocks of a state together
abbrev pub weight : (Used → ℕ) → State → ℕ
weight f s = sum_by f s.used

module _ (f : Used → ℕ) where
  -- a block and the others
  weight-others : {fllen sllen : ℕ} {memory : Range} {s : State} → IsWellFormed fllen sllen memory s → (u : Used) → IsIn u s.used
      → f u + sum_by f (others u.payload s.used) ≡ sum_by f s.used
  weight-others {fllen} {sllen} {memory} {s} w u i =
      let one : sum_by f (filter (λ v. eqb v.payload u.payload) s.used) ≡ sum_by f (u ∷ []) =
      ap (sum_by f) (live_address_has_one_block fllen sllen memory s u.payload u w (i, refl)) in
      let both = sum_by-filter_both (λ (v : Used). eqb v.payload u.payload) (λ v. not (eqb v.payload u.payload)) (λ v. refl) f s.used in
      omega (arith, one, both, sum_by-cons f u [])

  pub weight-allocated : (sllen : ℕ) (s t : State) (size align addr : ℕ) → Allocates sllen s size align (Some addr) t
      → (v : Used) × Holds t addr v × (weight f t ≡ weight f s + f v)
  weight-allocated sllen s t size align addr step =
      let v = placed step.range size align step.bytes in
      let used : t.used ≡ v ∷ s.used = ap (λ x. x.used) step.after in
      (v, (subst (IsIn v) (sym used) (inl refl), sym step.answer), ap (sum_by f) used ∙ omega (arith, sum_by-cons f v s.used))

  pub weight-deallocated : {fllen sllen : ℕ} {memory : Range} {s : State} → IsWellFormed fllen sllen memory s → (addr : ℕ) (t : State) (u : Used) → Holds s addr u
      → Deallocates s addr t → weight f t + f u ≡ weight f s
  weight-deallocated {s = s} w addr t u held step =
      let same : step.block ≡ u = Holds-unique w addr step.block u step.holds held in
      let left : weight f t ≡ sum_by f (others step.block.payload s.used) = ap (λ x. sum_by f x.used) step.after in
      omega (arith, left, weight-others w step.block step.holds.0, ap f same)

  -- by a plan, or elsewhere
  weight-by : {fllen sllen : ℕ} {memory : Range} {s : State} → IsWellFormed fllen sllen memory s → (u : Used) → IsIn u s.used
      → (size : ℕ) (o : Option Plan) (to : ℕ) (t : State) → ReallocatesBy sllen s u size o (Some to) t
      → (v : Used) × Holds t to v × (weight f t + f u ≡ weight f s + f v)
  weight-by {s = s} w u i size (Some p) to t step =
      let v = moved u p step.bytes in
      let used : t.used ≡ v ∷ others u.payload s.used = ap (λ x. x.used) step.after in
      let sum : weight f t ≡ f v + sum_by f (others u.payload s.used) = ap (sum_by f) used ∙ sum_by-cons f v (others u.payload s.used) in
      (v, (subst (IsIn v) (sym used) (inl refl), sym step.answer), omega (arith, sum, weight-others w u i))
  weight-by {fllen} {sllen} {memory} {s} w u i size None to t step =
      let m = step.meanwhile in
      let power = (w.used u i).power in
      let kept = Allocates-keeps w size u.align (Some to) m power step.allocated in
      let (v, held, more) = weight-allocated sllen s m size u.align to step.allocated in
      let stays : IsIn u m.used = subst (λ (x : State). IsIn u x.used) (sym step.allocated.after) (inr i) in
      let less = weight-deallocated kept u.payload t u (stays, refl) step.released in
      let (new, _) = handed_out_is_new fllen sllen memory s m size u.align to w power step.allocated in
      let gone = step.released.block in
      let apart = λ (same : v.payload ≡ gone.payload). new u.align (u, (i, sym (sym held.1 ∙ same ∙ step.released.holds.1)), refl) in
      (v, (subst (λ (x : State). IsIn v x.used) (sym step.released.after) (IsIn-others_from gone.payload v m.used held.0 apart), held.1), omega (arith, more, less))

  pub weight-reallocated : {fllen sllen : ℕ} {memory : Range} {s : State} → IsWellFormed fllen sllen memory s → (addr size to : ℕ) (t : State) (u : Used) → Holds s addr u
      → Reallocates sllen s addr size (Some to) t
      → (v : Used) × Holds t to v × (weight f t + f u ≡ weight f s + f v)
  weight-reallocated {s = s} w addr size to t u held step =
      let (v, there, sum) = weight-by w step.block step.holds.0 size (plan s step.block size) to t step.step in
      (v, there, omega (arith, sum, ap f (Holds-unique w addr step.block u step.holds held)))

module _ (f : Used → ℕ) (blind : IsBlind f) where
  weight-filled_if : (addr : ℕ) (bytes : List ℕ) (u : Used) → f (filled_if addr bytes u) ≡ f u
  weight-filled_if addr bytes u = by_test (eqb u.payload addr)
      (λ e. ap (λ b. f (cond b (used_with_bytes u bytes) u)) e ∙ blind u bytes)
      (λ e. ap (λ b. f (cond b (used_with_bytes u bytes) u)) e)

  weight-map : (addr : ℕ) (bytes : List ℕ) (us : List Used) → sum_by f (map (filled_if addr bytes) us) ≡ sum_by f us
  weight-map addr bytes [] = refl
  weight-map addr bytes (u ∷ us) =
      omega (arith, sum_by-cons f (filled_if addr bytes u) (map (filled_if addr bytes) us), sum_by-cons f u us, weight-filled_if addr bytes u, weight-map addr bytes us)

  pub weight-filled : (s t : State) (addr : ℕ) (bytes : List ℕ) → Fills s addr bytes t → weight f t ≡ weight f s
  weight-filled s t addr bytes step = ap (λ x. sum_by f x.used) step.after ∙ weight-map addr bytes s.used
