-- Changes of the blocks of a state that leave it well-formed.
use Rattle.std.proofs.Common.{◌≡◌, ◌≢◌, ℕ, ◌+◌, ◌-◌, ◌<◌, ◌≤◌, cond, not, eqb, List, [], ◌∷◌, ◌++◌, true≢false, arith, refl}
use Rattle.std.proofs.Common.{sym, ◌∙◌, ap, subst, inl, inr}
use Rattle.std.proofs.lemmas.Bool.Decides.{nat_tests}
use Rattle.std.proofs.lemmas.Bool.{cases_lt, lt-ltb, le-ltb, eq-eqb, eqb-true, ne_eqb}
use Rattle.rlsf_base.specs.declared.memory.range.Range.{Range}
use Rattle.rlsf_base.specs.Range.{end_of}
use Rattle.rlsf_model.specs.Lists.{IsIn}
use Rattle.rlsf_model.specs.State.{State, Used, Holds, between, others}
use Rattle.rlsf_model.specs.WellFormed.{covers, coverage, itself, IsWhole, IsUsed, IsApart, IsWellFormed}
use Rattle.rlsf_model.specs.Allocate.{rest_behind}
use Rattle.rlsf_model.proofs.Coverage.{by_test, covers-inside, covers-split, covers-empty, coverage-IsIn, coverage-unique, IsIn-append}
use Rattle.rlsf_model.proofs.Payloads.{IsUsed-after_start}
use Rattle.rlsf_model.proofs.Tiling.{block_of, blocks, tiling_of, used-le, IsWellFormed-from}

-- other blocks, at the same addresses, none too short or askew, no two free ones adjoining
pub reblocked : {fllen sllen : ℕ} {memory : Range} {s : State} → IsWellFormed fllen sllen memory s → (used : List Used) (free : List Range)
    → ((u : Used) → IsIn u used → IsUsed u) → ((f : Range) → IsIn f free → IsWhole f × (0 < f.len))
    → ((a : ℕ) → coverage block_of used a + coverage itself free a ≡ blocks s a) → IsApart free
    → IsWellFormed fllen sllen memory (record { chunks = s.chunks; used = used; free = free })
reblocked {s = s} w used free is_used whole same apart = IsWellFormed-from (record {
  rows = w.rows;
  row_length = w.row_length;
  addressable = w.addressable;
  chunks = w.chunks;
  used = is_used;
  whole = whole;
  disjoint = w.disjoint;
  tiled = λ a. omega (arith, same a, w.tiled a);
  apart = apart;
})

-- ---- a used block is taken out

-- two used blocks whose callers have one address are one
pub Holds-unique : {fllen sllen : ℕ} {memory : Range} {s : State} → IsWellFormed fllen sllen memory s → (addr : ℕ) (u v : Used) → Holds s addr u → Holds s addr v
    → u ≡ v
Holds-unique {s = s} w addr u v hu hv =
    let iu = w.used u hu.0 in
    let iv = w.used v hv.0 in
    let a = addr - 1 in
    coverage-unique block_of u v s.used a (used-le s (tiling_of w) a) hu.0 hv.0
    (covers-inside u.block a (omega (arith, hu.1, IsUsed-after_start u iu)) (omega (arith, hu.1, IsUsed-after_start u iu, iu.within)))
    (covers-inside v.block a (omega (arith, hv.1, IsUsed-after_start v iv)) (omega (arith, hv.1, IsUsed-after_start v iv, iv.within)))

pub IsIn-others : (addr : ℕ) (v : Used) (used : List Used) → IsIn v (others addr used) → IsIn v used × (v.payload ≢ addr)
IsIn-others addr v [] h = absurd h
IsIn-others addr v (x ∷ xs) h = grind (arith, nat_tests, IsIn-others addr v xs)

pub IsIn-others_from : (addr : ℕ) (v : Used) (used : List Used) → IsIn v used → v.payload ≢ addr → IsIn v (others addr used)
IsIn-others_from addr v [] h apart = h
IsIn-others_from addr v (x ∷ xs) h apart = by_test (eqb x.payload addr)
    (λ e. subst (λ b. IsIn v (cond (not b) (x ∷ others addr xs) (others addr xs))) (sym e) (elim h [
      | inl same ↦ absurd (apart (ap (λ u. u.payload) same ∙ eqb-true x.payload addr e))
      | inr i ↦ IsIn-others_from addr v xs i apart
    ]))
    (λ e. subst (λ b. IsIn v (cond (not b) (x ∷ others addr xs) (others addr xs))) (sym e) (elim h [
      | inl same ↦ inl same
      | inr i ↦ inr (IsIn-others_from addr v xs i apart)
    ]))

-- every used block but those at the address
coverage-no_others : (addr : ℕ) (used : List Used) (a : ℕ) → ((v : Used) → IsIn v used → v.payload ≢ addr)
    → coverage block_of (others addr used) a ≡ coverage block_of used a
coverage-no_others addr [] a none = refl
coverage-no_others addr (x ∷ xs) a none =
    ap (λ b. coverage block_of (cond (not b) (x ∷ others addr xs) (others addr xs)) a) (ne_eqb x.payload addr (none x (inl refl)))
    ∙ ap (λ n. covers x.block a + n) (coverage-no_others addr xs a (λ v i. none v (inr i)))

-- a list in which one element alone has the address, and occurs once
coverage-others_list : (addr : ℕ) (u : Used) (used : List Used) (a b : ℕ) → IsIn u used → u.payload ≡ addr
    → ((v : Used) → IsIn v used → v.payload ≡ addr → covers v.block b ≡ 1) → coverage block_of used b ≤ 1
    → coverage block_of used a ≡ covers u.block a + coverage block_of (others addr used) a
coverage-others_list addr u [] a b h at one few = absurd h
coverage-others_list addr u (x ∷ xs) a b h at one few = by_test (eqb x.payload addr)
    (λ e. let here = one x (inl refl) (eqb-true x.payload addr e) in
    let none : (v : Used) → IsIn v xs → v.payload ≢ addr = λ v i same. absurd (omega (arith, one v (inr i) same, coverage-IsIn block_of v xs b i)) in
    elim h [
      | inl same ↦
          ap (λ b. covers x.block a + b) (sym (coverage-no_others addr xs a none))
          ∙ ap (λ b. covers x.block a + coverage block_of (cond (not b) (x ∷ others addr xs) (others addr xs)) a) (sym e)
          ∙ ap (λ v. covers v.block a + coverage block_of (others addr (x ∷ xs)) a) (sym same)
      | inr i ↦ absurd (none u i at)
    ])
    (λ e. elim h [
      | inl same ↦ absurd (true≢false (sym (eq-eqb x.payload addr (ap (λ v. v.payload) (sym same) ∙ at)) ∙ e))
      | inr i ↦
          let rest = coverage-others_list addr u xs a b i at (λ v j. one v (inr j)) (omega arith) in
          let kept : coverage block_of (others addr (x ∷ xs)) a ≡ covers x.block a + coverage block_of (others addr xs) a =
          ap (λ b. coverage block_of (cond (not b) (x ∷ others addr xs) (others addr xs)) a) e in
          omega arith
    ])

pub coverage-others : {fllen sllen : ℕ} {memory : Range} {s : State} → IsWellFormed fllen sllen memory s → (addr : ℕ) (u : Used) → Holds s addr u → (a : ℕ)
    → coverage block_of s.used a ≡ covers u.block a + coverage block_of (others addr s.used) a
coverage-others {s = s} w addr u h a =
    coverage-others_list addr u s.used a (addr - 1) h.0 h.1
    (λ v i at. let iv = w.used v i in covers-inside v.block (addr - 1) (omega (arith, at, IsUsed-after_start v iv)) (omega (arith, at, IsUsed-after_start v iv, iv.within)))
    (used-le s (tiling_of w) (addr - 1))

-- what holds apart holds its parts apart
pub IsApart-within : (some all : List Range) → ((f : Range) → IsIn f some → IsIn f all) → IsApart all → IsApart some
IsApart-within some all within apart f g hf hg = apart f g (within f hf) (within g hg)

-- ---- what a block leaves of a span

pub IsIn-rest_behind : (block : Range) (end : ℕ) (g : Range) → IsIn g (rest_behind block end) → (g ≡ between (end_of block) end) × (end_of block < end)
IsIn-rest_behind block end g h = grind (arith, cases_lt, lt-ltb, le-ltb)

pub coverage-rest_behind : (block : Range) (end : ℕ) (span : Range) (a : ℕ) → end_of block ≤ end → span.start ≡ block.start → end_of span ≡ end
    → covers span a ≡ covers block a + coverage itself (rest_behind block end) a
coverage-rest_behind block end span a within same_start same_end =
    let cut : covers span a ≡ covers block a + covers (between (end_of block) end) a =
    covers-split block.start (end_of block) end a (omega arith) within span block (between (end_of block) end) same_start same_end refl refl refl (omega arith) in
    elim (cases_lt (end_of block) end) [
      | inl less ↦ let rest : coverage itself (rest_behind block end) a ≡ covers (between (end_of block) end) a + 0 =
          ap (λ b. coverage itself (cond b (between (end_of block) end ∷ []) []) a) (lt-ltb (end_of block) end less) in omega arith
      | inr all ↦
          let rest : coverage itself (rest_behind block end) a ≡ 0 =
          ap (λ b. coverage itself (cond b (between (end_of block) end ∷ []) []) a) (le-ltb (end_of block) end all) in
          let none : covers (between (end_of block) end) a ≡ 0 = covers-empty (between (end_of block) end) a (omega arith) in
          omega arith
    ]

-- the rest that a block leaves in front of free ranges that the span doesn't adjoin
pub IsApart-rest_behind : (block : Range) (end : ℕ) (rest : List Range) → 0 < block.len → IsApart rest → ((g : Range) → IsIn g rest → 0 < g.len)
    → ((g : Range) → IsIn g rest → end ≢ g.start)
    → ((a : ℕ) → block.start ≤ a → a < end → coverage itself rest a ≡ 0) → IsApart (rest_behind block end ++ rest)
IsApart-rest_behind block end rest some base full starts clear f g hf hg touch =
    elim (IsIn-append f (rest_behind block end) rest hf) [
      | inl f_rest ↦
          let (f_is, less) = IsIn-rest_behind block end f f_rest in
          let f_end : end_of f ≡ end = ap end_of f_is ∙ omega arith in
          elim (IsIn-append g (rest_behind block end) rest hg) [
            | inl g_rest ↦ let g_start : g.start ≡ end_of block = ap (λ r. r.start) (IsIn-rest_behind block end g g_rest).0 in absurd (omega arith)
            | inr g_old ↦ starts g g_old (sym f_end ∙ touch)
          ]
      | inr f_old ↦ elim (IsIn-append g (rest_behind block end) rest hg) [
        | inl g_rest ↦
            let (g_is, less) = IsIn-rest_behind block end g g_rest in
            let g_start : g.start ≡ end_of block = ap (λ r. r.start) g_is in
            let long = full f f_old in
            let a = end_of block - 1 in
            let one : covers f a ≡ 1 = covers-inside f a (omega arith) (omega arith) in
            omega (arith, clear a (omega arith) (omega arith), coverage-IsIn itself f rest a f_old)
        | inr g_old ↦ base f g f_old g_old touch
      ]
    ]
