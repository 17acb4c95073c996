-- How much room callers are sure to find.
use Rattle.std.proofs.Common.{◌≡◌, ℕ, ◌+◌, ◌-◌, ◌%◌, ◌<◌, ◌≤◌, List, [], ◌∷◌, length, Option, Some, None, arith, refl, sym, ◌∙◌, ap}
use Rattle.std.proofs.Common.{subst, inl, inr}
use Rattle.rlsf_base.specs.declared.memory.range.Range.{Range}
use Rattle.rlsf_model_sizes.specs.PowerOfTwo.{IsPowerOfTwo}
use Rattle.rlsf_base.specs.Range.{range_at}
use Rattle.rlsf_model_sizes.specs.SizeClass.{IsValid}
use Rattle.rlsf_model_sizes.specs.Sizes.{IsSize, max_pool_size, pool_size_for_payloads, request_size}
use Rattle.rlsf_base.proofs.Numbers.Roundings.{round32-same}
use Rattle.rlsf_base.proofs.SizeMaps.ChunkLengths.{IsPayloadPool, IsPayloadPool-some}
use Rattle.rlsf_base.proofs.SizeMaps.Laws.{IsSize-request_size}
use Rattle.rlsf_base.proofs.SizeMaps.PoolSizes.{max_pool_size-some}
use Rattle.rlsf_model.specs.Allocate.{Allocates}
use Rattle.rlsf_model.specs.Budget.{IsFront, IsModest}
use Rattle.rlsf_model.specs.Callers.{align_at}
use Rattle.rlsf_model.specs.Insert.{Appends, Inserts, IsFresh, IsNext, aligned_part, cut}
use Rattle.rlsf_model.specs.Lists.{IsIn}
use Rattle.rlsf_model.specs.Release.{Deallocates}
use Rattle.rlsf_model.specs.Reallocate.{Plan, Reallocates, ReallocatesBy, plan}
use Rattle.rlsf_model.specs.Remove.{IsRemovable, Removes}
use Rattle.rlsf_model.specs.Run.{Event, insert, append, allocate, deallocate, reallocate, fill, remove, Fills, IsSomeLive, Leads, MayCall}
use Rattle.rlsf_model.specs.Sized.{IsSizedFor, live_count}
use Rattle.rlsf_model.specs.State.{State, Used, Holds, empty}
use Rattle.rlsf_model.specs.WellFormed.{IsWellFormed}
use Rattle.rlsf_model.proofs.AddedChunks.{AreCutFrom-cut, IsIn-with_chunks_new}
use Rattle.rlsf_model.proofs.Budgets.{AreFronts-kept, IsModest-stays, live_is_counted, not_denied, request_size-mono, step_modest}
use Rattle.rlsf_model.proofs.Chunks.{used-inserted}
use Rattle.rlsf_model.proofs.CallerWords.{align_at-held}
use Rattle.rlsf_model.proofs.Coverage.{covers-le}
use Rattle.rlsf_model.proofs.Cuts.{whole_product}
use Rattle.rlsf_model.proofs.PoolLengths.{HasBudget-pool}

pub live_count-empty : live_count empty ≡ 0
unfolding live_count
live_count-empty = refl

-- the alignment that is found at an address is that of the block there
pub aligned : {fllen sllen : ℕ} {memory : Range} {s : State} → IsWellFormed fllen sllen memory s → (addr a : ℕ) → align_at s addr ≡ Some a → (u : Used) → Holds s addr u
    → u.align ≡ a
aligned w addr a live u holds = same (sym (align_at-held w addr u holds) ∙ live)
  where
    same : {m n : ℕ} → Some m ≡ Some n → m ≡ n
    same e = cc

module _ {fllen sllen : ℕ} {memory : Range} {s : State} (w : IsWellFormed fllen sllen memory s) (t : State) where
  -- ---- counts
  pub count_new : (size align addr : ℕ) → IsPowerOfTwo align → Allocates sllen s size align (Some addr) t → live_count t ≡ live_count s + 1
  unfolding live_count
  count_new size align addr power step = live_is_counted fllen sllen memory s t (allocate size align (Some addr)) w power step

  pub count_gone : (addr : ℕ) → IsSomeLive s addr → Deallocates s addr t → live_count s ≡ live_count t + 1
  unfolding live_count
  count_gone addr (u, holds) step = omega (arith, live_is_counted fllen sllen memory s t (deallocate addr) w (u, holds) step, some s.used u holds.0)
    where
      some : (us : List Used) (v : Used) → IsIn v us → 0 < length us
      some [] v i = absurd i
      some (x ∷ xs) v i = omega arith

  pub count_inserted : (r : Range) (reply : Option ℕ) → IsFresh memory s r → Inserts fllen s r reply t → live_count t ≡ live_count s
  unfolding live_count
  count_inserted r reply fresh step = live_is_counted fllen sllen memory s t (insert r reply) w fresh step

  pub count_appended : (r : Range) (reply : ℕ) → IsNext memory s r → Appends fllen s r reply t → live_count t ≡ live_count s
  unfolding live_count
  count_appended r reply next step = live_is_counted fllen sllen memory s t (append r reply) w next step

  pub count_removed : (r : Range) → IsRemovable s r → Removes s r t → live_count t ≡ live_count s
  unfolding live_count
  count_removed r removable step = live_is_counted fllen sllen memory s t (remove r) w removable step

  pub count_filled : (addr : ℕ) (bytes : List ℕ) → IsSomeLive s addr → Fills s addr bytes t → live_count t ≡ live_count s
  unfolding live_count
  count_filled addr bytes live step = live_is_counted fllen sllen memory s t (fill addr bytes) w live step

  pub count_resized : (addr size : ℕ) (reply : Option ℕ) → IsSomeLive s addr → Reallocates sllen s addr size reply t → live_count t ≡ live_count s
  unfolding live_count
  count_resized addr size reply live step = live_is_counted fllen sllen memory s t (reallocate addr size reply) w live step

  -- ---- room

  module _ (count size align : ℕ) (sized : IsSizedFor sllen count size align s) where
    -- an allocation is not refused
    pub never_refused : (z a : ℕ) → live_count s ≤ count → z ≤ size → a ≤ align → Allocates sllen s z a None t → ⊥
    unfolding live_count IsSizedFor
    never_refused z a few short fits step =
        let (fronts, are, budget, small) = sized in
        not_denied count (request_size size align) w fronts are small budget few z a (request_size-mono z a size align short fits) t step

    kept : (e : Event) → MayCall memory s e → IsModest (length s.used) (request_size size align) s e → Leads fllen sllen s e t → IsSizedFor sllen count size align t
    unfolding IsSizedFor
    kept e may modest step =
        let (fronts, are, budget, small) = sized in (
          fronts,
          AreFronts-kept fllen sllen s fronts are t e (IsModest-stays (length s.used) (request_size size align) s e modest) step,
          budget,
          step_modest (request_size size align) w small (length s.used) t e may modest step,
        )

    pub sized_new : (z a : ℕ) (reply : Option ℕ) → IsPowerOfTwo a → z ≤ size → a ≤ align → Allocates sllen s z a reply t → IsSizedFor sllen count size align t
    sized_new z a reply power short fits step = kept (allocate z a reply) power (omega arith, request_size-mono z a size align short fits) step

    -- nor is a reallocation of a payload with this alignment
    pub never_refused_again : (addr z a : ℕ) → align_at s addr ≡ Some a → live_count s ≤ count → z ≤ size → a ≤ align → Reallocates sllen s addr z None t
        → ⊥
    never_refused_again addr z a live few short fits step = go (plan s step.block z) step.step
      where
        go : (o : Option Plan) → ReallocatesBy sllen s step.block z o None t → ⊥
        go (Some p) impossible = impossible
        go None full = never_refused z step.block.align few short (subst (λ n. n ≤ align) (sym (aligned w addr a live step.block step.holds)) fits) full

    pub sized_resized : (addr z a : ℕ) (reply : Option ℕ) → align_at s addr ≡ Some a → z ≤ size → a ≤ align → Reallocates sllen s addr z reply t
        → IsSizedFor sllen count size align t
    sized_resized addr z a reply live short fits step =
        kept (reallocate addr z reply) (step.block, step.holds)
        (omega arith, λ u holds. request_size-mono z u.align size align short (subst (λ n. n ≤ align) (sym (aligned w addr a live u holds)) fits)) step

    pub sized_gone : (addr : ℕ) → IsSomeLive s addr → Deallocates s addr t → IsSizedFor sllen count size align t
    sized_gone addr live step = kept (deallocate addr) live tt step

    pub sized_inserted : (r : Range) (reply : Option ℕ) → IsFresh memory s r → Inserts fllen s r reply t → IsSizedFor sllen count size align t
    sized_inserted r reply fresh step = kept (insert r reply) fresh tt step

    pub sized_appended : (r : Range) (reply : ℕ) → IsNext memory s r → Appends fllen s r reply t → IsSizedFor sllen count size align t
    sized_appended r reply next step = kept (append r reply) next tt step

    pub sized_filled : (addr : ℕ) (bytes : List ℕ) → IsSomeLive s addr → Fills s addr bytes t → IsSizedFor sllen count size align t
    sized_filled addr bytes live step = kept (fill addr bytes) live tt step

-- ---- a pool of the length that is computed

module _ {fllen sllen count size len : ℕ} (is : IsSize size) (pool : IsPayloadPool fllen sllen count size len) where
  pool_len : (len % 32 ≡ 0) × (64 ≤ len)
  pool_len =
      let used = whole_product size count is.1 in
      let free = whole_product (pool.least - 32) count (omega (arith, pool.is.1, pool.is.0)) in
      (omega (arith, used, free, pool.length, pool.is.1), omega (arith, pool.length, pool.is.0, pool.is.1))

-- a chunk that is as long, where nothing lives, is enough
pub sized_chunk : (fl_bits sl_bits fllen sllen count size align len : ℕ) (s : State) (c : Range) → IsValid fl_bits sl_bits fllen sllen
    → pool_size_for_payloads fllen sllen count size align ≡ Some len
    → IsIn c s.chunks → len ≤ c.len → live_count s ≡ 0 → IsSizedFor sllen count size align s
unfolding live_count IsSizedFor
sized_chunk fl_bits sl_bits fllen sllen count size align len s c valid told is_chunk long idle =
    let sought = request_size size align in
    let pool = IsPayloadPool-some fllen sllen count sought len valid.power_of_two (IsSize-request_size size align) told in
    let (whole, some) = pool_len (IsSize-request_size size align) pool in
    let front = range_at c.start len in (
      front ∷ [],
      record {
        each = λ q. elim [ inl same ↦ subst (IsFront s.chunks) (sym same) (c, is_chunk, refl, long, omega arith) | inr none ↦ absurd none ];
        disjoint = λ a. omega (arith, covers-le front a);
      },
      HasBudget-pool count sought sllen len front pool (omega arith),
      λ u j. absurd (none_used s.used idle u j),
    )
  where
    none_used : (us : List Used) → length us ≡ 0 → (u : Used) → IsIn u us → ⊥
    none_used [] e u j = j
    none_used (x ∷ xs) e u j = absurd (omega (arith, e))

-- so is a range that is inserted
pub sized_pool : (fl_bits sl_bits fllen sllen count size align len : ℕ) (s t : State) (r : Range) (reply : Option ℕ) → IsValid fl_bits sl_bits fllen sllen
    → pool_size_for_payloads fllen sllen count size align ≡ Some len → r.start % 32 ≡ 0 → len ≤ r.len → live_count s ≡ 0 → Inserts fllen s r reply t
    → IsSizedFor sllen count size align t
unfolding live_count
sized_pool fl_bits sl_bits fllen sllen count size align len s t r reply valid told at32 long idle step =
    let sought = request_size size align in
    let pool = IsPayloadPool-some fllen sllen count sought len valid.power_of_two (IsSize-request_size size align) told in
    let (whole, some) = pool_len (IsSize-request_size size align) pool in
    let part = aligned_part r in
    let starts = round32-same r.start at32 in
    let (c, i, wide) =
    (AreCutFrom-cut fllen len part valid.some_rows some (λ p is. omega (arith, (max_pool_size-some fllen p is).1, pool.short)) (omega arith) (omega (arith, starts))).wide in
    let is_chunk : IsIn c t.chunks = subst (λ x. IsIn c x.chunks) (sym step.after) (IsIn-with_chunks_new c (cut (max_pool_size fllen) part) s i).0 in
    sized_chunk fl_bits sl_bits fllen sllen count size align len t c valid told is_chunk wide (ap length (used-inserted fllen s t r reply step) ∙ idle)
