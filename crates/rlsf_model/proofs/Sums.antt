-- Numbers of ranges and of bytes, counted address by address.
use Rattle.std.proofs.Common.{◌≡◌, ℕ, zero, None, suc, ◌+◌, ◌-◌, ◌*◌, ◌<◌, ◌≤◌, ◌⊎◌, List, [], ◌∷◌, length, arith, refl, ap, subst, inl}
use Rattle.std.proofs.Common.{inr}
use Rattle.std.specs.Prelude.{sum_by}
use Rattle.std.proofs.lemmas.Bool.{cases_lt}
use Rattle.std.proofs.lemmas.List.Sums.{sum_by-cons}
use Rattle.std.proofs.Math.Nat.{mul-le-mul_right}
use Rattle.rlsf_base.specs.declared.memory.range.Range.{Range}
use Rattle.rlsf_base.specs.Range.{end_of, range_at}
use Rattle.rlsf_model_sizes.specs.Sizes.{request_size}
use Rattle.rlsf_model_sizes.specs.SizeClass.{Reaches, class_of}
use Rattle.rlsf_base.proofs.SizeClasses.Order.{Reaches-longer}
use Rattle.rlsf_model.specs.Allocate.{Allocates}
use Rattle.rlsf_model.specs.Budget.{IsTakenFor, total_len}
use Rattle.rlsf_model.specs.Lists.{IsIn}
use Rattle.rlsf_model.specs.Sizing.{FewFree, BytesAddUp, BudgetIsEnough}
use Rattle.rlsf_model.specs.State.{State, Used}
use Rattle.rlsf_model.specs.WellFormed.{covers, coverage, itself, last_bytes, IsWellFormed}
use Rattle.rlsf_model.proofs.Coverage.{inside, before, behind, where_is, covers-inside, coverage-IsIn, coverage-some, coverage-unique}
use Rattle.rlsf_model.proofs.Payloads.{IsUsed-some}
use Rattle.rlsf_model.proofs.Choices.{choice-none}
use Rattle.rlsf_model.proofs.Tiling.{block_of, tiling_of, free-le, blocks-le, lies_in_chunk, IsPart-free, IsPart-used}

-- ---- sums over the addresses below n

abbrev pub total : ℕ → (ℕ → ℕ) → ℕ
total zero f = 0
total (suc n) f = f n + total n f

total-le : (n : ℕ) (f g : ℕ → ℕ) → ((a : ℕ) → f a ≤ g a) → total n f ≤ total n g
total-le zero f g h = omega arith
total-le (suc n) f g h = omega (arith, h n, total-le n f g h)

total-same : (n : ℕ) (f g : ℕ → ℕ) → ((a : ℕ) → f a ≡ g a) → total n f ≡ total n g
total-same zero f g h = omega arith
total-same (suc n) f g h = omega (arith, h n, total-same n f g h)

total-add : (n : ℕ) (f g : ℕ → ℕ) → total n (λ a. f a + g a) ≡ total n f + total n g
total-add zero f g = omega arith
total-add (suc n) f g = omega (arith, total-add n f g)

total-zero : (n : ℕ) → total n (λ a. 0) ≡ 0
total-zero zero = omega arith
total-zero (suc n) = omega (arith, total-zero n)

-- how many addresses below n a range has
total-covers : (n : ℕ) (r : Range) → total n (covers r) ≡ (n - r.start) - (n - end_of r)
total-covers zero r = omega arith
total-covers (suc n) r = grind (arith, total-covers n r, where_is)

module _ {A : Type 0} (range : A → Range) where
  -- below an address past all of them, ranges have as many addresses as they are long together
  total-coverage : (n : ℕ) (xs : List A) → ((x : A) → IsIn x xs → end_of (range x) ≤ n) → total n (coverage range xs) ≡ sum_by (λ x. (range x).len) xs
  total-coverage n [] below = total-zero n
  total-coverage n (x ∷ xs) below =
      omega (
        arith,
        total-add n (covers (range x)) (coverage range xs),
        total-covers n (range x),
        below x (inl refl),
        total-coverage n xs (λ y i. below y (inr i)),
        sum_by-cons (λ y. (range y).len) x xs,
      )

  -- and ranges of one byte as many as there are ranges, and elsewhere no more
  total-ones : (n : ℕ) (xs : List A) → ((x : A) → (range x).len ≡ 1) → ((x : A) → IsIn x xs → end_of (range x) ≤ n) → total n (coverage range xs) ≡ length xs
  total-ones n [] one below = total-zero n
  total-ones n (x ∷ xs) one below =
      omega (arith, total-add n (covers (range x)) (coverage range xs), total-covers n (range x), one x, below x (inl refl), total-ones n xs one (λ y i. below y (inr i)))

  total-ones-le : (n : ℕ) (xs : List A) → ((x : A) → (range x).len ≡ 1) → total n (coverage range xs) ≤ length xs
  total-ones-le n [] one = omega (arith, total-zero n)
  total-ones-le n (x ∷ xs) one =
      omega (arith, total-add n (covers (range x)) (coverage range xs), total-covers n (range x), one x, total-ones-le n xs one)

  -- where each range has an address only if another one has another address, so do all together
  pub coverage-le : (other : A → Range) (a b : ℕ) (xs : List A) → ((x : A) → IsIn x xs → covers (range x) a ≤ covers (other x) b)
      → coverage range xs a ≤ coverage other xs b
  coverage-le other a b [] h = omega arith
  coverage-le other a b (x ∷ xs) h = omega (arith, h x (inl refl), coverage-le other a b xs (λ y i. h y (inr i)))

-- ---- no more free ranges than used blocks and chunks

-- the byte behind a range, the first one of a used block, and the first one of a chunk's last 32
abbrev pub past : Range → Range
past f = range_at (end_of f) 1

abbrev pub first : Used → Range
first u = range_at u.block.start 1

abbrev pub last : Range → Range
last c = range_at (end_of c - 32) 1

module _ {fllen sllen : ℕ} {memory : Range} {s : State} (w : IsWellFormed fllen sllen memory s) where
  -- a free range ends in a chunk, and so in the memory
  pub free_below : (f : Range) → IsIn f s.free → end_of f < end_of memory
  free_below f i =
      let home = lies_in_chunk s (tiling_of w) f ((w.free f i).some) (IsPart-free s (tiling_of w) f i) in
      let within = (w.chunks home.chunk home.is_chunk).lies_in.1 in
      omega (arith, home.to, within)

  pub used_below : (u : Used) → IsIn u s.used → end_of u.block < end_of memory
  used_below u i =
      let home = lies_in_chunk s (tiling_of w) u.block (IsUsed-some u (w.used u i)) (IsPart-used s (tiling_of w) u i) in
      let within = (w.chunks home.chunk home.is_chunk).lies_in.1 in
      omega (arith, home.to, within)

  -- at most one free range ends at an address
  pub ends-le : (a : ℕ) → coverage past s.free a ≤ 1
  ends-le a = omega (
    arith,
    free-le s (tiling_of w) (a - 1),
    coverage-le past itself a (a - 1) s.free (λ f i. elim (where_is (past f) a) [
      | inside one low high ↦ let some = (w.free f i).some in omega (arith, covers-inside f (a - 1) (omega arith) (omega arith))
      | before none low ↦ omega arith
      | behind none high ↦ omega arith
    ]),
  )

  -- and then a used block or a chunk's last bytes begin there
  pub ends_at_start : (f : Range) → IsIn f s.free → 1 ≤ coverage first s.used (end_of f) + coverage last s.chunks (end_of f)
  ends_at_start f i =
      let a = end_of f in
      let t = tiling_of w in
      let some = (w.free f i).some in
      let home = lies_in_chunk s t f some (IsPart-free s t f i) in
      let c = home.chunk in
      let from = home.from in
      let to = home.to in
      let in_chunk : covers c a ≡ 1 = covers-inside c a (omega arith) (omega arith) in
      let f_before : covers f (a - 1) ≡ 1 = covers-inside f (a - 1) (omega arith) (omega arith) in
      elim (cases_lt 0 (coverage itself s.free a)) [
        | inl free ↦
            let (g, j, low, high) = coverage-some itself s.free a free in
            let apart = w.apart f g i j in
            elim (cases_lt g.start a) [
              | inl earlier ↦
                  let same : g ≡ f = coverage-unique itself g f s.free (a - 1) (free-le s t (a - 1)) j i (covers-inside g (a - 1) (omega arith) (omega arith)) f_before in
                  let g_end : end_of g ≡ end_of f = ap end_of same in
                  absurd (omega arith)
              | inr at ↦ absurd (apart (omega arith))
            ]
        | inr no_free ↦ elim (cases_lt 0 (coverage block_of s.used a)) [
          | inl used ↦
              let (u, j, low, high) = coverage-some block_of s.used a used in
              elim (cases_lt u.block.start a) [
                | inl earlier ↦ absurd (omega (
                  arith,
                  blocks-le s t (a - 1),
                  coverage-IsIn itself f s.free (a - 1) i,
                  coverage-IsIn block_of u s.used (a - 1) j,
                  covers-inside u.block (a - 1) (omega arith) (omega arith),
                ))
                | inr at ↦ omega (arith, coverage-IsIn first u s.used a j, covers-inside (first u) a (omega arith) (omega arith))
              ]
          | inr no_used ↦
              let (d, j, low, high) = coverage-some last_bytes s.chunks a (omega (arith, t.tiled a, coverage-IsIn itself c s.chunks a home.is_chunk)) in
              elim (cases_lt (end_of d - 32) a) [
                | inl earlier ↦ absurd (omega (
                  arith,
                  t.tiled (a - 1),
                  t.disjoint (a - 1),
                  coverage-IsIn itself f s.free (a - 1) i,
                  coverage-IsIn last_bytes d s.chunks (a - 1) j,
                  covers-inside (last_bytes d) (a - 1) (omega arith) (omega arith),
                ))
                | inr at ↦ omega (arith, coverage-IsIn last d s.chunks a j, covers-inside (last d) a (omega arith) (omega arith))
              ]
        ]
      ]

  ends-few : (a : ℕ) → coverage past s.free a ≤ coverage first s.used a + coverage last s.chunks a
  ends-few a = grind (arith, cases_lt, coverage-some, ends-le, ends_at_start)

pub few_free : FewFree
few_free fllen sllen memory s w =
    let n = end_of memory in
    omega (
      arith,
      total-ones past n s.free (λ f. refl) (λ f i. omega (arith, free_below w f i)),
      total-le n (coverage past s.free) (λ a. coverage first s.used a + coverage last s.chunks a) (ends-few w),
      total-add n (coverage first s.used) (coverage last s.chunks),
      total-ones-le first n s.used (λ u. refl),
      total-ones-le last n s.chunks (λ c. refl),
    )

-- ---- bytes

sum-last_bytes : (cs : List Range) → ((c : Range) → IsIn c cs → 64 ≤ c.len) → sum_by (λ c. (last_bytes c).len) cs ≡ 32 * length cs
sum-last_bytes [] room = omega arith
sum-last_bytes (c ∷ cs) room = omega (arith, sum_by-cons (λ d. (last_bytes d).len) c cs, room c (inl refl), sum-last_bytes cs (λ d i. room d (inr i)))

pub bytes_add_up : BytesAddUp
bytes_add_up fllen sllen memory s w =
    let n = end_of memory in
    let within = λ (c : Range) (i : IsIn c s.chunks). (w.chunks c i).lies_in.1 in
    omega (
      arith,
      total-same n (λ a. coverage block_of s.used a + coverage itself s.free a + coverage last_bytes s.chunks a) (coverage itself s.chunks) w.tiled,
      total-add n (λ a. coverage block_of s.used a + coverage itself s.free a) (coverage last_bytes s.chunks),
      total-add n (coverage block_of s.used) (coverage itself s.free),
      total-coverage block_of n s.used (λ u i. omega (arith, used_below w u i)),
      total-coverage itself n s.free (λ f i. omega (arith, free_below w f i)),
      total-coverage last_bytes n s.chunks (λ c i. omega (arith, within c i, (w.chunks c i).has_room)),
      total-coverage itself n s.chunks within,
      sum-last_bytes s.chunks (λ c i. (w.chunks c i).has_room),
    )

-- ---- a budget

-- one of some ranges is longer, or none is
long_or_short : (k : ℕ) (fs : List Range) → ((f : Range) × IsIn f fs × (k < f.len)) ⊎ (sum_by (λ f. f.len) fs ≤ length fs * k)
long_or_short k [] = inr (omega arith)
long_or_short k (f ∷ fs) = elim (cases_lt k f.len) [
  | inl long ↦ inl (f, inl refl, long)
  | inr short ↦ elim (long_or_short k fs) [
    | inl (g, i, long) ↦ inl (g, inr i, long)
    | inr less ↦ inr (omega (arith, less, sum_by-cons (λ g. g.len) f fs))
  ]
]

-- where the free bytes are so many, one of so few free ranges is longer
long_free : {fllen sllen : ℕ} {memory : Range} (s : State) → IsWellFormed fllen sllen memory s → (k : ℕ) → (length s.used + length s.chunks) * k < total_len s.free
    → (f : Range) × IsIn f s.free × (k < f.len)
long_free {fllen} {sllen} {memory} s w k enough = elim (long_or_short k s.free) [
  | inl long ↦ long
  | inr short ↦ let few : length s.free * k ≤ (length s.used + length s.chunks) * k = mul-le-mul_right k (few_free fllen sllen memory s w) in absurd (omega arith)
]

-- and so it is taken for a size
pub taken_free : {fllen sllen : ℕ} {memory : Range} (s : State) → IsWellFormed fllen sllen memory s → (most least size : ℕ) → IsTakenFor sllen most least
    → size ≤ most
    → (length s.used + length s.chunks) * (least - 32) < total_len s.free → (f : Range) × IsIn f s.free × Reaches sllen (class_of sllen f.len) size
taken_free {sllen = sllen} s w most least size taken fits enough =
    let (f, i, long) = long_free s w (least - 32) enough in
    let some = taken.is.0 in
    let order : least ≤ f.len = omega (arith, taken.is.1, (w.free f i).whole.len) in
    (f, i, Reaches-longer sllen least f.len most size w.row_length some order fits taken.reaches)

pub budget_is_enough : BudgetIsEnough
budget_is_enough fllen sllen least memory s t size align reply w taken enough step is =
    let (f, i, reached) = taken_free s w (request_size size align) least (request_size size align) taken (omega arith) enough in
    let refused : Allocates sllen s size align None t = subst (λ r. Allocates sllen s size align r t) is step in
    choice-none sllen (request_size size align) s.free refused.0 f i reached
