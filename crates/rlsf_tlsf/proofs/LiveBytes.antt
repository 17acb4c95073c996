-- How many bytes the blocks of live payloads have after a call, and that a budget has room for another payload.
use Rattle.std.proofs.Common.{◌≡◌, ◌≢◌, ℕ, ◌+◌, ◌≤◌, cond, eqb, filter, List, [], ◌∷◌, length, Option, Some, None, arith, refl, sym, ◌∙◌, ap}
use Rattle.std.proofs.Common.{subst, inl, inr}
use Rattle.std.proofs.lemmas.Bool.{eq-eqb, false≢true}
use Rattle.std.proofs.lemmas.List.Sums.{sum_by-cons}
use Rattle.std.proofs.lemmas.Option.{none-some}
use Rattle.rlsf_base.specs.declared.memory.range.Range.{Range}
use Rattle.rlsf_model_sizes.specs.PowerOfTwo.{IsPowerOfTwo}
use Rattle.rlsf_model_sizes.specs.Sizes.{request_size}
use Rattle.rlsf_model.specs.Allocate.{Allocates}
use Rattle.rlsf_model.specs.Budget.{used_bytes}
use Rattle.rlsf_model.specs.Callers.{align_at, bytes_at}
use Rattle.rlsf_model.specs.Lists.{IsIn}
use Rattle.rlsf_model.specs.NoMove.{unmoved_plan}
use Rattle.rlsf_model.specs.Reallocate.{Plan, Reallocates, ReallocatesBy, Replans, plan}
use Rattle.rlsf_model.specs.Release.{Deallocates, released}
use Rattle.rlsf_model.specs.Run.{Fills}
use Rattle.rlsf_model.specs.Sized.{block_bytes, live_bytes}
use Rattle.rlsf_model.specs.State.{State, Used, Holds, others}
use Rattle.rlsf_model.specs.WellFormed.{IsWellFormed}
use Rattle.rlsf_model.proofs.Allocations.{Allocates-keeps}
use Rattle.rlsf_model.proofs.BudgetWords.{bytes_gone, bytes_new, never_refused_in_budget}
use Rattle.rlsf_model.proofs.CallerWords.{align_at-held, bytes_at-held, new_seen}
use Rattle.rlsf_model.proofs.Coverage.{by_test}
use Rattle.rlsf_model.proofs.Payloads.{IsUsed-after_start, payload_of-le}
use Rattle.rlsf_model.proofs.Plans.{IsSound-plan}
use Rattle.rlsf_model.proofs.SizedWords.{aligned}
use Rattle.rlsf_model.proofs.Names.{moved, used_with_bytes, filled_at}
use Rattle.rlsf_tlsf.specs.Bounds.{IfWithinBudget}
use Rattle.rlsf_tlsf.specs.UnknownAlign.{ReallocatesAnyAlign, ResizesBy}

-- ---- sums over used blocks

-- a block is one of those at its payload's address
block-le : (addr : ℕ) (u : Used) (us : List Used) → IsIn u us → u.payload ≡ addr → u.block.len ≤ used_bytes (filter (λ v. eqb v.payload addr) us)
block-le addr u [] i at = absurd i
block-le addr u (x ∷ xs) i at =
    let those = filter (λ v. eqb v.payload addr) xs in
    by_test (eqb x.payload addr)
    (λ e.
    let is : used_bytes (filter (λ v. eqb v.payload addr) (x ∷ xs)) ≡ used_bytes (x ∷ those) = ap (λ b. used_bytes (cond b (x ∷ those) those)) e in
    elim i [
      | inl same ↦ (let len : u.block.len ≡ x.block.len = ap (λ v. v.block.len) same in omega (arith, is, len, sum_by-cons (λ v. v.block.len) x those))
      | inr j ↦ omega (arith, is, block-le addr u xs j at, sum_by-cons (λ v. v.block.len) x those)
    ])
    (λ e.
    let is : used_bytes (filter (λ v. eqb v.payload addr) (x ∷ xs)) ≡ used_bytes those = ap (λ b. used_bytes (cond b (x ∷ those) those)) e in
    elim i [
      | inl same ↦ absurd (false≢true (sym e ∙ eq-eqb x.payload addr (ap (λ v. v.payload) (sym same) ∙ at)))
      | inr j ↦ omega (arith, is, block-le addr u xs j at)
    ])

-- other bytes of a payload leave its block
used_bytes-filled : (addr : ℕ) (bytes : List ℕ) (us : List Used) → used_bytes (filled_at addr bytes us) ≡ used_bytes us
used_bytes-filled addr bytes [] = refl
used_bytes-filled addr bytes (u ∷ us) =
    let fs = filled_at addr bytes us in
    let rest = used_bytes-filled addr bytes us in
    by_test (eqb u.payload addr)
    (λ e.
    let is : used_bytes (filled_at addr bytes (u ∷ us)) ≡ used_bytes (used_with_bytes u bytes ∷ fs) = ap (λ b. used_bytes (cond b (used_with_bytes u bytes) u ∷ fs)) e in
    omega (arith, is, rest, sum_by-cons (λ v. v.block.len) (used_with_bytes u bytes) fs, sum_by-cons (λ v. v.block.len) u us))
    (λ e.
    let is : used_bytes (filled_at addr bytes (u ∷ us)) ≡ used_bytes (u ∷ fs) = ap (λ b. used_bytes (cond b (used_with_bytes u bytes) u ∷ fs)) e in
    omega (arith, is, rest, sum_by-cons (λ v. v.block.len) u fs, sum_by-cons (λ v. v.block.len) u us))

-- ---- calls

-- no bytes are added where the same blocks are used
pub bytes_same_used : (s t : State) → t.used ≡ s.used → live_bytes t ≡ live_bytes s
unfolding live_bytes
bytes_same_used s t same = ap used_bytes same

pub bytes_filled : (s t : State) (addr : ℕ) (bytes : List ℕ) → Fills s addr bytes t → live_bytes t ≡ live_bytes s
unfolding live_bytes
bytes_filled s t addr bytes step = ap (λ x. used_bytes x.used) step.after ∙ used_bytes-filled addr bytes s.used

module _ {fllen sllen : ℕ} {memory : Range} {s : State} (w : IsWellFormed fllen sllen memory s) (t : State) where
  -- the block at an address is one of those that the bytes there belong to
  block_bytes-held : (addr : ℕ) (u : Used) → Holds s addr u → u.block.len ≤ block_bytes s addr
  unfolding block_bytes
  block_bytes-held addr u holds = block-le addr u s.used holds.0 holds.1

  -- an allocation adds at most what it seeks
  pub bytes_more : (size align : ℕ) (reply : Option ℕ) → IsPowerOfTwo align → Allocates sllen s size align reply t
      → live_bytes t ≤ live_bytes s + request_size size align
  bytes_more size align None power step = let same : live_bytes t ≡ live_bytes s = ap live_bytes step.1 in omega (arith, same)
  bytes_more size align (Some addr) power step = bytes_new w t size align addr power step

  -- a deallocation takes away what its usable bytes need, or more
  pub bytes_less : (addr : ℕ) → Deallocates s addr t → live_bytes t + request_size (length (bytes_at s addr)) 16 ≤ live_bytes s
  bytes_less addr step =
      let u = step.block in
      let is = w.used u step.holds.0 in
      let many : length (bytes_at s addr) ≡ length u.bytes = ap length (bytes_at-held w addr u step.holds) in
      omega (arith, bytes_gone w t addr step, block_bytes-held addr u step.holds, many, is.bytes, is.whole.len, IsUsed-after_start u is, is.within)

  -- a block that another one takes the place of
  bytes_planned : (u : Used) (p : Plan) (to : ℕ) → Replans s u p to t → live_bytes t ≡ p.block.len + live_bytes (released s u)
  unfolding live_bytes
  bytes_planned u p to did =
      let now : used_bytes t.used ≡ used_bytes (moved u p did.bytes ∷ others u.payload s.used) = ap (λ x. used_bytes x.used) did.after in
      omega (arith, now, sum_by-cons (λ v. v.block.len) (moved u p did.bytes) (others u.payload s.used))

module _ {fllen sllen : ℕ} {memory : Range} {s : State} (w : IsWellFormed fllen sllen memory s) (t : State) where
  -- a reallocation takes away the same of the old block, and adds at most what it seeks
  pub bytes_resized : (addr size align to : ℕ) → align_at s addr ≡ Some align → Reallocates sllen s addr size (Some to) t
      → live_bytes t + request_size (length (bytes_at s addr)) 16 ≤ live_bytes s + request_size size align
  bytes_resized addr size align to live step =
      let wide = aligned w addr align live step.block step.holds in
      subst (λ n. live_bytes t + request_size (length (bytes_at s addr)) 16 ≤ live_bytes s + request_size size n) wide
      (by_plan (plan s step.block size) refl step.step)
    where
      u : Used
      u = step.block

      power : IsPowerOfTwo u.align
      power = (w.used u step.holds.0).power

      by_plan : (o : Option Plan) → plan s u size ≡ o → ReallocatesBy sllen s u size o (Some to) t
          → live_bytes t + request_size (length (bytes_at s addr)) 16 ≤ live_bytes s + request_size size u.align
      by_plan (Some p) e did =
          let sound = IsSound-plan w u step.holds.0 size p e in
          let without = bytes_less w (released s u) addr (record { block = u; holds = step.holds; after = refl }) in
          omega (arith, bytes_planned w t u p to did, without, sound.placed, sound.within, sound.few, sound.whole.len, payload_of-le p.block.start u.align sound.whole.start power)
      by_plan None e away =
          let mid = away.meanwhile in
          let new = new_seen w mid size u.align to power away.allocated in
          let off : addr ≢ to = λ same. none-some u.align (sym new.new ∙ ap (align_at s) (sym same) ∙ align_at-held w addr u step.holds) in
          let gone = subst (λ a. Deallocates mid a t) step.holds.1 away.released in
          let less = bytes_less (Allocates-keeps w size u.align (Some to) mid power away.allocated) t addr gone in
          let same : length (bytes_at mid addr) ≡ length (bytes_at s addr) = ap length (new.bytes addr off) in
          omega (arith, bytes_new w mid size u.align to power away.allocated, subst (λ n. live_bytes t + request_size n 16 ≤ live_bytes mid) same less)

  -- ---- room

  -- within a budget an allocation is not refused
  pub budget_allows : (size align : ℕ) (P : Type 0) → Allocates sllen s size align None t → IfWithinBudget sllen s size align P
  budget_allows size align P step count bytes most widest sized few little short fits =
      absurd (never_refused_in_budget w t count bytes most widest sized size align few little short fits step)

  -- nor is a reallocation of a payload with this alignment
  pub budget_allows_again : (addr size align : ℕ) (P : Type 0) → align_at s addr ≡ Some align → Reallocates sllen s addr size None t → IfWithinBudget sllen s size align P
  budget_allows_again addr size align P live step count bytes most widest sized few little short fits = go (plan s step.block size) step.step
    where
      go : (o : Option Plan) → ReallocatesBy sllen s step.block size o None t → P
      go (Some p) impossible = absurd impossible
      go None full =
          let is = aligned w addr align live step.block step.holds in
          absurd (never_refused_in_budget w t count bytes most widest sized size step.block.align few little short (subst (λ n. n ≤ widest) (sym is) fits) full)

  -- nor is one at another alignment, where a payload doesn't keep its own
  pub budget_allows_any : (addr size align : ℕ) (P : Type 0) → ReallocatesAnyAlign sllen s addr size align None t → IfWithinBudget sllen s size align P
  budget_allows_any addr size align P step = go (unmoved_plan s step.block size) step.step
    where
      go : (o : Option Plan) → ResizesBy sllen s step.block size align o None t → IfWithinBudget sllen s size align P
      go (Some p) impossible = absurd impossible
      go None full = budget_allows size align P full
