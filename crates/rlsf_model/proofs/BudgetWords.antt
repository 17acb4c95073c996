-- How much room callers are sure to find, if they add up the bytes of their payloads' blocks.
use Rattle.std.proofs.Common.{◌≡◌, ℕ, ◌+◌, ◌*◌, ◌/◌, ◌%◌, ◌<◌, ◌≤◌, Bool, eqb, not, cond, filter, List, [], ◌∷◌, Option, Some, None, arith, refl, sym}
use Rattle.std.proofs.Common.{ap, subst}
use Rattle.std.proofs.lemmas.List.Sums.{sum_by-cons}
use Rattle.rlsf_base.specs.declared.memory.range.Range.{Range}
use Rattle.rlsf_model_sizes.specs.PowerOfTwo.{IsPowerOfTwo}
use Rattle.rlsf_model_sizes.specs.SizeClass.{IsValid}
use Rattle.rlsf_model_sizes.specs.Sizes.{max_pool_size, pool_size_for_budget, request_size}
use Rattle.rlsf_base.proofs.Numbers.Roundings.{round32-same}
use Rattle.rlsf_base.proofs.SizeMaps.ChunkLengths.{IsBudgetPool-some}
use Rattle.rlsf_base.proofs.SizeMaps.Laws.{IsSize-request_size}
use Rattle.rlsf_base.proofs.SizeMaps.PoolSizes.{max_pool_size-some}
use Rattle.rlsf_model.specs.Allocate.{Allocates, placed}
use Rattle.rlsf_model.specs.Budget.{used_bytes}
use Rattle.rlsf_model.specs.Insert.{Inserts, aligned_part, cut}
use Rattle.rlsf_model.specs.Lists.{IsIn}
use Rattle.rlsf_model.specs.Release.{Deallocates}
use Rattle.rlsf_model.specs.Run.{Event, IsRemoval, Leads}
use Rattle.rlsf_model.specs.Sized.{IsSizedForBudget, block_bytes, live_bytes, live_count}
use Rattle.rlsf_model.specs.State.{State, Used, empty, others}
use Rattle.rlsf_model.specs.WellFormed.{IsWellFormed}
use Rattle.rlsf_model.proofs.AddedChunks.{AreCutFrom-cut, IsIn-with_chunks_new}
use Rattle.rlsf_model.proofs.Budgets.{AreFronts-kept, AreFronts-one, never_denied, request_size-mono}
use Rattle.rlsf_model.proofs.Choices.{choice-some}
use Rattle.rlsf_model.proofs.Coverage.{by_test}
use Rattle.rlsf_model.proofs.Payloads.{block_length-request}
use Rattle.rlsf_model.proofs.PoolLengths.{HasRoomForBudget-pool}

pub live_bytes-empty : live_bytes empty ≡ 0
unfolding live_bytes
live_bytes-empty = refl

-- ---- sums over some of the used blocks

-- a used block is one of some, or one of the others
used_bytes-split : (p : Used → Bool) (us : List Used) → used_bytes us ≡ used_bytes (filter (λ u. not (p u)) us) + used_bytes (filter p us)
used_bytes-split p [] = refl
used_bytes-split p (u ∷ us) =
    let rest = used_bytes-split p us in
    let none = filter (λ v. not (p v)) us in
    let some = filter p us in
    by_test (p u)
    (λ e.
    let is : used_bytes (filter p (u ∷ us)) ≡ used_bytes (u ∷ some) = ap (λ b. used_bytes (cond b (u ∷ some) some)) e in
    let isnt : used_bytes (filter (λ v. not (p v)) (u ∷ us)) ≡ used_bytes none = ap (λ b. used_bytes (cond (not b) (u ∷ none) none)) e in
    omega (arith, is, isnt, rest, sum_by-cons (λ v. v.block.len) u us, sum_by-cons (λ v. v.block.len) u some))
    (λ e.
    let is : used_bytes (filter p (u ∷ us)) ≡ used_bytes some = ap (λ b. used_bytes (cond b (u ∷ some) some)) e in
    let isnt : used_bytes (filter (λ v. not (p v)) (u ∷ us)) ≡ used_bytes (u ∷ none) = ap (λ b. used_bytes (cond (not b) (u ∷ none) none)) e in
    omega (arith, is, isnt, rest, sum_by-cons (λ v. v.block.len) u us, sum_by-cons (λ v. v.block.len) u none))

module _ {fllen sllen : ℕ} {memory : Range} {s : State} (w : IsWellFormed fllen sllen memory s) (t : State) where
  -- an allocation adds what it seeks, or less
  pub bytes_new : (size align addr : ℕ) → IsPowerOfTwo align → Allocates sllen s size align (Some addr) t → live_bytes t ≤ live_bytes s + request_size size align
  unfolding live_bytes
  bytes_new size align addr power step =
      let f = step.range in
      let chosen = choice-some sllen (request_size size align) s.free f step.chosen in
      let v = placed f size align step.bytes in
      let now : used_bytes t.used ≡ used_bytes (v ∷ s.used) = ap (λ x. used_bytes x.used) step.after in
      omega (arith, now, sum_by-cons (λ u. u.block.len) v s.used, block_length-request f.start size align (w.free f chosen.is_in).whole.start power)

  -- a deallocation takes away what the block has
  pub bytes_gone : (addr : ℕ) → Deallocates s addr t → live_bytes s ≡ live_bytes t + block_bytes s addr
  unfolding live_bytes block_bytes
  bytes_gone addr step =
      let now : used_bytes t.used ≡ used_bytes (others step.block.payload s.used) = ap (λ x. used_bytes x.used) step.after in
      let at : used_bytes (others step.block.payload s.used) ≡ used_bytes (others addr s.used) = ap (λ a. used_bytes (others a s.used)) step.holds.1 in
      omega (arith, now, at, used_bytes-split (λ u. eqb u.payload addr) s.used)

  module _ (count bytes size align : ℕ) (sized : IsSizedForBudget sllen count bytes size align s.chunks) where
    -- within the budget an allocation is not refused
    pub never_refused_in_budget : (z a : ℕ) → live_count s ≤ count → live_bytes s ≤ bytes → z ≤ size → a ≤ align → Allocates sllen s z a None t → ⊥
    unfolding live_count live_bytes IsSizedForBudget
    never_refused_in_budget z a few little short fits step =
        let (fronts, are, room) = sized in
        never_denied count bytes (request_size size align) w fronts are room few little z a (request_size-mono z a size align short fits) t step

    -- and each call that takes no memory away keeps the budget
    pub budget_kept : (e : Event) → (IsRemoval e → ⊥) → Leads fllen sllen s e t → IsSizedForBudget sllen count bytes size align t.chunks
    unfolding IsSizedForBudget
    budget_kept e left step = grind (arith, AreFronts-kept)

-- ---- a pool of the length that is computed

-- a chunk that is as long is enough, but for what its length leaves out as a multiple of 32
pub budget_chunk : (fl_bits sl_bits fllen sllen count bytes size align len : ℕ) (chunks : List Range) (c : Range) → IsValid fl_bits sl_bits fllen sllen
    → pool_size_for_budget fllen sllen count bytes size align ≡ Some len → IsIn c chunks → len < c.len + 32 → 0 < c.len
    → IsSizedForBudget sllen count bytes size align chunks
unfolding IsSizedForBudget
budget_chunk fl_bits sl_bits fllen sllen count bytes size align len chunks c valid told is_chunk long some =
    let sought = request_size size align in
    let pool = IsBudgetPool-some fllen sllen count bytes sought len valid.power_of_two (IsSize-request_size size align) told in
    (c ∷ [], AreFronts-one c chunks is_chunk some, HasRoomForBudget-pool count bytes sought sllen len c pool long)

-- so is a range that is inserted, from a multiple of 32 on, whatever is live elsewhere
pub budget_pool : (fl_bits sl_bits fllen sllen count bytes size align len : ℕ) (s t : State) (r : Range) (reply : Option ℕ) → IsValid fl_bits sl_bits fllen sllen
    → pool_size_for_budget fllen sllen count bytes size align ≡ Some len → r.start % 32 ≡ 0 → len ≤ r.len → Inserts fllen s r reply t
    → IsSizedForBudget sllen count bytes size align t.chunks
budget_pool fl_bits sl_bits fllen sllen count bytes size align len s t r reply valid told at32 long step =
    let sought = request_size size align in
    let pool = IsBudgetPool-some fllen sllen count bytes sought len valid.power_of_two (IsSize-request_size size align) told in
    let some : 64 ≤ len = omega (arith, pool.length) in
    let part = aligned_part r in
    let starts = round32-same r.start at32 in
    let e = len / 32 * 32 in
    let (c, i, wide) =
    (AreCutFrom-cut fllen e part valid.some_rows (omega arith) (λ p is. omega (arith, (max_pool_size-some fllen p is).1, pool.short)) (omega arith)
    (omega (arith, starts))).wide in
    let is_chunk : IsIn c t.chunks = subst (λ x. IsIn c x.chunks) (sym step.after) (IsIn-with_chunks_new c (cut (max_pool_size fllen) part) s i).0 in
    budget_chunk fl_bits sl_bits fllen sllen count bytes size align len t.chunks c valid told is_chunk (omega arith) (omega arith)
