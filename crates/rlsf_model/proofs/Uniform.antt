-- States whose blocks all have one length.
use Rattle.std.proofs.Common.{◌≡◌, ℕ, suc, ◌+◌, ◌-◌, ◌*◌, ◌/◌, ◌%◌, ◌^◌, ◌<◌, ◌≤◌, ◌⊎◌, ◌↔◌, List, [], ◌∷◌}
use Rattle.std.proofs.Common.{Option, Some, None, find, length, arith, refl, sym, ◌∙◌, ap, subst, inl, inr}
use Rattle.std.specs.Prelude.{sum_by}
use Rattle.std.specs.Option.{option_map_or}
use Rattle.std.proofs.lemmas.Bool.{cases_lt}
use Rattle.std.proofs.lemmas.List.Sums.{sum_by-cons}
use Rattle.std.proofs.lemmas.Nat.{div-mul-add, le-div}
use Rattle.std.proofs.Math.Nat.{mul-le-mul_right}
use Rattle.rlsf_base.specs.declared.memory.range.Range.{Range}
use Rattle.rlsf_model_sizes.specs.PowerOfTwo.{IsPowerOfTwo}
use Rattle.rlsf_base.specs.Range.{end_of}
use Rattle.rlsf_model_sizes.specs.SizeClass.{class_of, Reaches}
use Rattle.rlsf_model_sizes.specs.Sizes.{request_size}
use Rattle.rlsf_model_sizes.specs.Rounding.{round32}
use Rattle.rlsf_base.proofs.Numbers.PowersOfTwo.{floor_log2-mono, IsPowerOfTwo-positive}
use Rattle.rlsf_base.proofs.Numbers.Roundings.{round32-le}
use Rattle.rlsf_base.proofs.SizeClasses.Order.{Reaches-IsAtMost, IsAtMost-class_of}
use Rattle.rlsf_base.proofs.SizeClasses.Reach.{division-lt, Reaches-class_of}
use Rattle.rlsf_model.specs.Budget.{total_len}
use Rattle.rlsf_model.specs.Allocate.{has_class, rest_behind, placed, Allocates}
use Rattle.rlsf_model.specs.Join.{ends_at, starts_at}
use Rattle.rlsf_model.specs.Lists.{IsIn, without}
use Rattle.rlsf_model.specs.Payload.{payload_of}
use Rattle.rlsf_model.specs.Run.{Event, allocate, deallocate, fill, remove, trim, Leads, MayCall}
use Rattle.rlsf_model.specs.Sizing.{UniformIsFull, AllocationKeepsUniform, DeallocationKeepsUniform, RunsKeepUniform, UniformRunsAnswer}
use Rattle.rlsf_model.specs.State.{State, Used}
use Rattle.rlsf_model.specs.Uniform.{IsTimes, IsUniform, AsksUniformly, blocks_in, IsDeniedOnlyAt, AreDeniedOnlyAt}
use Rattle.rlsf_model.specs.WellFormed.{covers, coverage, IsWellFormed}
use Rattle.rlsf_model.proofs.Budgets.{live_is_counted}
use Rattle.rlsf_model.proofs.Changes.{IsIn-others, IsIn-rest_behind}
use Rattle.rlsf_model.proofs.Choices.{choice-some, choice-none}
use Rattle.rlsf_model.proofs.Coverage.{covers-inside, coverage-some, find-some, IsIn-append, IsIn-without}
use Rattle.rlsf_model.proofs.Fillings.{shape-filled_from}
use Rattle.rlsf_model.proofs.Steps.{steps_keep_well_formed}
use Rattle.rlsf_model.proofs.Sums.{past, first, last, ends-le, ends_at_start, bytes_add_up}

-- ---- lists

sum-IsIn : (f : Range) (fs : List Range) → IsIn f fs → f.len ≤ sum_by (λ g. g.len) fs
sum-IsIn f [] i = absurd i
sum-IsIn f (g ∷ fs) (inl same) = let len : f.len ≡ g.len = ap (λ r. r.len) same in omega (arith, sum_by-cons (λ h. h.len) g fs)
sum-IsIn f (g ∷ fs) (inr i) = omega (arith, sum_by-cons (λ h. h.len) g fs, sum-IsIn f fs i)

sum-used : (len : ℕ) (us : List Used) → ((u : Used) → IsIn u us → u.block.len ≡ len) → sum_by (λ u. u.block.len) us ≡ length us * len
sum-used len [] same = omega arith
sum-used len (u ∷ us) same = omega (arith, sum_by-cons (λ v. v.block.len) u us, same u (inl refl), sum-used len us (λ v i. same v (inr i)))

-- short ranges that all end at one address
sum-short : (end len : ℕ) (fs : List Range) → ((f : Range) → IsIn f fs → (end_of f ≡ end) × (f.len < len))
    → sum_by (λ f. f.len) fs + coverage past fs end ≤ coverage past fs end * len
sum-short end len [] short = omega arith
sum-short end len (f ∷ fs) short =
    let (at, less) = short f (inl refl) in
    let one : covers (past f) end ≡ 1 = covers-inside (past f) end (omega arith) (omega arith) in
    let product : (covers (past f) end + coverage past fs end) * len ≡ (1 + coverage past fs end) * len = ap (λ n. (n + coverage past fs end) * len) one in
    omega (arith, sum_by-cons (λ h. h.len) f fs, sum-short end len fs (λ g i. short g (inr i)))

-- two multiples are apart by one at least
times-apart : (from len a b : ℕ) → IsTimes from len a → IsTimes from len b → a < b → a + len ≤ b
times-apart from len a b (k, a_is) (j, b_is) less = elim (cases_lt k j) [
  | inl order ↦ let more : (k + 1) * len ≤ j * len = mul-le-mul_right len (omega arith) in omega arith
  | inr back ↦ let fewer : j * len ≤ k * len = mul-le-mul_right len back in absurd (omega arith)
]

times-next : (from len a : ℕ) → IsTimes from len a → IsTimes from len (a + len)
times-next from len a (k, is) = (k + 1, omega arith)

-- ---- refusals

module _ {fllen sllen : ℕ} {memory : Range} {s : State} (w : IsWellFormed fllen sllen memory s) (c : Range) (len : ℕ) (some : 0 < len) (is : IsUniform len c s) where
  total_is : total_len s.free + length s.used * len + 32 ≡ c.len
  total_is =
      let one : length s.chunks ≡ 1 = ap length is.chunks in
      let all : sum_by (λ d. d.len) s.chunks ≡ sum_by (λ d. d.len) (c ∷ []) = ap (sum_by (λ d. d.len)) is.chunks in
      omega (arith, bytes_add_up fllen sllen memory s w, sum-used len s.used (λ u i. (is.used u i).0), sum_by-cons (λ d. d.len) c [])

  -- a free range that is shorter than a block ends at the chunk's last bytes
  short_is_last : (f : Range) → IsIn f s.free → f.len < len → end_of f ≡ end_of c - 32
  short_is_last f i short = elim (cases_lt 0 (coverage first s.used (end_of f))) [
    | inl used ↦
        let (u, j, low, high) = coverage-some first s.used (end_of f) used in
        let at : u.block.start ≡ end_of f = omega arith in
        let full = (w.free f i).some in
        absurd (omega (arith, times-apart c.start len f.start u.block.start (is.free f i) (is.used u j).1 (omega arith)))
    | inr none ↦
        let (d, j, low, high) = coverage-some last s.chunks (end_of f) (omega (arith, ends_at_start w f i)) in
        let only : (d ≡ c) ⊎ ⊥ = subst (IsIn d) is.chunks j in
        elim only [
          | inl same ↦ let end : end_of d ≡ end_of c = ap end_of same in omega arith
          | inr bad ↦ absurd bad
        ]
  ]

  full_if_short : ((f : Range) → IsIn f s.free → f.len < len) → total_len s.free < len
  full_if_short short =
      let e = end_of c - 32 in
      let n = coverage past s.free e in
      let sum = sum-short e len s.free (λ f i. (short_is_last f i (short f i), short f i)) in
      let product : n * len ≤ 1 * len = mul-le-mul_right len (ends-le w e) in
      elim (cases_lt 0 n) [
        | inl one ↦ omega (arith, sum)
        | inr none ↦ let zero_product : n * len ≤ 0 * len = mul-le-mul_right len none in omega (arith, sum)
      ]

pub uniform_is_full : UniformIsFull
uniform_is_full fllen sllen memory s t c size align reply w is begins step =
    let len = request_size size align in
    let some : 0 < len = omega (arith, round32-le (size + (align - 16) + 16)) in (
      (λ none.
          let refused : Allocates sllen s size align None t = subst (λ r. Allocates sllen s size align r t) none step in
          let short : (f : Range) → IsIn f s.free → f.len < len = λ f i. elim (cases_lt f.len len) [
            | inl less ↦ less
            | inr long ↦
                let full = (w.free f i).some in
                absurd (choice-none sllen len s.free refused.0 f i
                (Reaches-IsAtMost sllen (class_of sllen len) (class_of sllen f.len) len (division-lt sllen len some w.row_length)
                (IsAtMost-class_of sllen len f.len w.row_length some long) begins))
          ] in
          omega (arith, full_if_short w c len some is short, total_is w c len some is)),
      (λ full. given_up reply step full),
    )
  where
    given_up : (o : Option ℕ) → Allocates sllen s size align o t → c.len < (length s.used + 1) * request_size size align + 32 → o ≡ None
    given_up None step full = refl
    given_up (Some addr) step full =
        let len = request_size size align in
        let some : 0 < len = omega (arith, round32-le (size + (align - 16) + 16)) in
        let f = step.range in
        let chosen = choice-some sllen len s.free f step.chosen in
        absurd (omega (arith, sum-IsIn f s.free chosen.is_in, Reaches-class_of sllen f.len (w.free f chosen.is_in).some len w.row_length chosen.reached, total_is w c len some is))

-- ---- steps

-- at an alignment of 32 or less a block is as long as what is sought
block_length-pow : (k b size : ℕ) → k ≤ 5 → b % 32 ≡ 0 → round32 (payload_of b (2 ^ k) - b + size) ≡ request_size size (2 ^ k)
block_length-pow (suc (suc (suc (suc (suc (suc k)))))) b size few whole = absurd (omega arith)
block_length-pow n b size few whole = omega arith

block_length-exact : (b size align : ℕ) → b % 32 ≡ 0 → IsPowerOfTwo align → align ≤ 32 → round32 (payload_of b align - b + size) ≡ request_size size align
block_length-exact b size align whole power small = grind (arith, block_length-pow, floor_log2-mono, IsPowerOfTwo-positive)

pub allocation_keeps_uniform : AllocationKeepsUniform
allocation_keeps_uniform fllen sllen memory s t c size align None w power small is step = subst (IsUniform (request_size size align) c) (sym step.1) is
allocation_keeps_uniform fllen sllen memory s t c size align (Some addr) w power small is step =
    let len = request_size size align in
    let f = step.range in
    let u = placed f size align step.bytes in
    let test = has_class sllen (class_of sllen f.len) in
    let chosen = choice-some sllen len s.free f step.chosen in
    let long : u.block.len ≡ len = block_length-exact f.start size align (w.free f chosen.is_in).whole.start power small in
    let from = is.free f chosen.is_in in
    subst (IsUniform len c) (sym step.after) (record {
      chunks = is.chunks;
      used = λ v. elim [
        | inl same ↦ subst (λ x. (x.block.len ≡ len) × IsTimes c.start len x.block.start) (sym same) (long, from)
        | inr i ↦ is.used v i
      ];
      free = λ g i. elim (IsIn-append g (rest_behind u.block (end_of f)) (without test s.free) i) [
        | inl rest ↦ let (g_is, less) = IsIn-rest_behind u.block (end_of f) g rest in
            let start : g.start ≡ f.start + u.block.len = ap (λ r. r.start) g_is in
            subst (IsTimes c.start len) (sym (start ∙ ap (λ n. f.start + n) long)) (times-next c.start len f.start from)
        | inr old ↦ is.free g (IsIn-without test g s.free old)
      ];
    })

pub deallocation_keeps_uniform : DeallocationKeepsUniform
deallocation_keeps_uniform len s t c addr is step =
    let u = step.block in
    let r = u.block in
    subst (IsUniform len c) (sym step.after) (record {
      chunks = is.chunks;
      used = λ v i. is.used v (IsIn-others u.payload v s.used i).0;
      free = λ g. elim [
        | inl same ↦
            let start : g.start ≡ option_map_or (λ f. f.start) (find (ends_at r.start) s.free) r.start = ap (λ x. x.start) same in
            subst (IsTimes c.start len) (sym start) (low (find (ends_at r.start) s.free) refl)
        | inr i ↦ is.free g (IsIn-without (ends_at r.start) g s.free (IsIn-without (starts_at (end_of r)) g (without (ends_at r.start) s.free) i))
      ];
    })
  where
    low : (o : Option Range) → find (ends_at step.block.block.start) s.free ≡ o → IsTimes c.start len (option_map_or (λ f. f.start) o step.block.block.start)
    low None e = (is.used step.block step.holds.0).1
    low (Some f) e = is.free f (find-some (ends_at step.block.block.start) f s.free e).0

step_uniform : (len fllen sllen : ℕ) (memory : Range) (s t : State) (c : Range) (e : Event) → IsWellFormed fllen sllen memory s → IsUniform len c s → MayCall memory s e
    → AsksUniformly len e → Leads fllen sllen s e t → IsUniform len c t
step_uniform len fllen sllen memory s t c (allocate size align reply) w is may (same, small) step =
    subst (λ n. IsUniform n c t) same (allocation_keeps_uniform fllen sllen memory s t c size align reply w may small (subst (λ n. IsUniform n c s) (sym same) is) step)
step_uniform len fllen sllen memory s t c (deallocate addr) w is may asks step = deallocation_keeps_uniform len s t c addr is step
step_uniform len fllen sllen memory s t c (fill addr bytes) w is may asks step =
    subst (IsUniform len c) (sym step.after) (record {
      chunks = is.chunks;
      used = λ v i.
          let (u, j, same) = shape-filled_from addr bytes v s.used i in
          subst (λ b. (b.len ≡ len) × IsTimes c.start len b.start) (sym (ap (λ h. h.block) same)) (is.used u j);
      free = is.free;
    })
step_uniform len fllen sllen memory s t c e w is may asks step = absurd asks

pub runs_keep_uniform : RunsKeepUniform
runs_keep_uniform len fllen sllen memory s t c [] w is run asks = subst (IsUniform len c) (sym run) is
runs_keep_uniform len fllen sllen memory s t c (e ∷ es) w is (u, may, step, rest) asks =
    runs_keep_uniform len fllen sllen memory u t c es (steps_keep_well_formed fllen sllen memory s u e w may step)
    (step_uniform len fllen sllen memory s u c e w is may (asks e (inl refl)) step) rest (λ d i. asks d (inr i))

-- ---- replies

allocation_answers : {fllen sllen : ℕ} {memory : Range} (s t : State) (c : Range) (size align : ℕ) (reply : Option ℕ) → IsWellFormed fllen sllen memory s
    → IsUniform (request_size size align) c s
    → Reaches sllen (class_of sllen (request_size size align)) (request_size size align) → Allocates sllen s size align reply t
    → (reply ≡ None) ↔ (length s.used ≡ blocks_in (request_size size align) c)
allocation_answers {fllen} {sllen} {memory} s t c size align reply w is begins step =
    let len = request_size size align in
    let n = length s.used in
    let some : 0 < len = omega (arith, round32-le (size + (align - 16) + 16)) in
    let bytes = total_is w c len some is in
    let full = uniform_is_full fllen sllen memory s t c size align reply w is begins step in (
      λ none.
          let past = full.0 none in
          let sum : c.len - 32 ≡ n * len + (c.len - 32 - n * len) = omega arith in
          sym (ap (λ m. m / len) sum ∙ div-mul-add n len (c.len - 32 - n * len) (omega arith)),
      λ most. elim (cases_lt c.len ((n + 1) * len + 32)) [
        | inl short ↦ full.1 short
        | inr long ↦ let more = le-div (n + 1) (c.len - 32) len some (omega arith) in absurd (omega arith)
      ],
    )

event_answers : (len : ℕ) {fllen sllen : ℕ} {memory : Range} (s t : State) (c : Range) (e : Event) → IsWellFormed fllen sllen memory s → IsUniform len c s
    → Reaches sllen (class_of sllen len) len
    → AsksUniformly len e → Leads fllen sllen s e t → IsDeniedOnlyAt (blocks_in len c) (length s.used) e
event_answers len {sllen = sllen} s t c (allocate size align reply) w is begins (same, small) step =
    subst (λ n. (reply ≡ None) ↔ (length s.used ≡ blocks_in n c)) same
    (allocation_answers s t c size align reply w (subst (λ n. IsUniform n c s) (sym same) is) (subst (λ n. Reaches sllen (class_of sllen n) n) (sym same) begins) step)
event_answers len s t c (remove r) w is begins asks step = absurd asks
event_answers len s t c (trim n) w is begins asks step = absurd asks
event_answers len s t c e w is begins asks step = tt

pub uniform_runs_answer : UniformRunsAnswer
uniform_runs_answer len fllen sllen memory s t c [] w is some begins run asks = tt
uniform_runs_answer len fllen sllen memory s t c (e ∷ es) w is some begins (u, may, step, rest) asks =
    let kept = steps_keep_well_formed fllen sllen memory s u e w may step in (
      event_answers len s u c e w is begins (asks e (inl refl)) step,
      subst (λ n. AreDeniedOnlyAt (blocks_in len c) n es) (live_is_counted fllen sllen memory s u e w may step)
          (uniform_runs_answer len fllen sllen memory u t c es kept (step_uniform len fllen sllen memory s u c e w is may (asks e (inl refl)) step) some begins rest
          (λ d i. asks d (inr i))),
    )
