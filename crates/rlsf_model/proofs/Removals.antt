-- What a removal leaves.
use Rattle.std.proofs.Common.{◌≡◌, ◌⊎◌, ℕ, ◌+◌, ◌≤◌, ◌<◌, true, false, not, ◌&&◌, leb, List, true≢false, arith, refl, sym, ◌∙◌, ap, subst}
use Rattle.std.proofs.Common.{inl, inr}
use Rattle.std.proofs.lemmas.Bool.Decides.{nat_tests}
use Rattle.std.proofs.lemmas.Bool.{cases_lt, le-leb, lt-leb}
use Rattle.rlsf_base.specs.declared.memory.range.Range.{Range}
use Rattle.rlsf_base.specs.Range.{end_of}
use Rattle.rlsf_model.specs.Laws.{LeavesOtherRanges, RemovalLeavesOthers}
use Rattle.rlsf_model.specs.Lists.{IsIn}
use Rattle.rlsf_model.specs.Remove.{lies_within, outside_of, IsRemovable, Removes}
use Rattle.rlsf_model.specs.State.{State}
use Rattle.rlsf_model.specs.WellFormed.{covers, coverage, itself, last_bytes, IsWellFormed}
use Rattle.rlsf_model.proofs.Changes.{IsApart-within}
use Rattle.rlsf_model.proofs.Coverage.{by_test, inside, before, behind, where_is, covers-inside, coverage-filter, coverage-none, IsIn-filter, IsIn-filter_from}
use Rattle.rlsf_model.proofs.Tiling.{block_of, lies_in_chunk, tiling_of, IsPart-free, IsWellFormed-from}

-- ---- what lies in a range

pub lies_within-le : (r c : Range) → r.start ≤ c.start → end_of c ≤ end_of r → lies_within r c ≡ true
lies_within-le r c from to = ap (λ b. b && leb (end_of c) (end_of r)) (le-leb r.start c.start from) ∙ le-leb (end_of c) (end_of r) to

pub lies_within-true : (r c : Range) → lies_within r c ≡ true → (r.start ≤ c.start) × (end_of c ≤ end_of r)
lies_within-true r c is = grind (arith, cases_lt, true≢false, lt-leb, le-leb)

-- what is left is of the ranges, and doesn't lie in r
pub IsIn-outside : (r x : Range) (xs : List Range) → IsIn x (outside_of r xs) → IsIn x xs × (lies_within r x ≡ false)
IsIn-outside r x xs i = grind (arith, nat_tests, IsIn-filter)

pub IsIn-outside_from : (r x : Range) (xs : List Range) → IsIn x xs → ((r.start ≤ x.start) × (end_of x ≤ end_of r)) ⊎ IsIn x (outside_of r xs)
IsIn-outside_from r x xs i = grind (arith, nat_tests, lies_within-true, IsIn-filter_from)

-- what is taken out has no byte that r doesn't have
pub coverage-outside : (range : Range → Range) (r : Range) (xs : List Range) (a : ℕ) → ((x : Range) → IsIn x xs → covers (range x) a ≤ covers x a) → covers r a ≡ 0
    → coverage range (outside_of r xs) a ≡ coverage range xs a
coverage-outside range r xs a part off = coverage-filter range (λ c. not (lies_within r c)) xs a
    (λ x i fails. by_test (lies_within r x)
    (λ e. let (from, to) = lies_within-true r x e in
    elim (where_is x a) [
      | inside one low high ↦ absurd (omega (arith, covers-inside r a (omega arith) (omega arith)))
      | before none low ↦ omega (arith, part x i)
      | behind none high ↦ omega (arith, part x i)
    ])
    (λ e. absurd (true≢false (sym (ap not e) ∙ fails))))

module _ {fllen sllen : ℕ} {memory : Range} {s : State} (w : IsWellFormed fllen sllen memory s) (r : Range) (may : IsRemovable s r) where
  -- a chunk that has a byte of the range lies in it
  chunk_within : (c : Range) (a : ℕ) → IsIn c s.chunks → r.start ≤ a → a < end_of r → c.start ≤ a → a < end_of c
      → (r.start ≤ c.start) × (end_of c ≤ end_of r)
  chunk_within c a i low high from to = elim (may.whole c i) [
    | inl lies ↦ lies
    | inr off ↦ absurd (omega (arith, off a, covers-inside r a low high, covers-inside c a from to))
  ]

  -- and so does a free range, which lies in a chunk
  free_within : (f : Range) (a : ℕ) → IsIn f s.free → r.start ≤ a → a < end_of r → f.start ≤ a → a < end_of f → (r.start ≤ f.start) × (end_of f ≤ end_of r)
  free_within f a i low high from to =
      let home = lies_in_chunk s (tiling_of w) f (w.free f i).some (IsPart-free s (tiling_of w) f i) in
      let home_from = home.from in
      let home_to = home.to in
      let lies = chunk_within home.chunk a home.is_chunk low high (omega arith) (omega arith) in
      (omega (arith, lies.0), omega (arith, lies.1))

  -- no byte of the range is in a chunk that is left
  chunks_clear : (range : Range → Range) → ((c : Range) (a : ℕ) → IsIn c s.chunks → covers (range c) a ≤ covers c a) → (a : ℕ) → r.start ≤ a → a < end_of r
      → coverage range (outside_of r s.chunks) a ≡ 0
  chunks_clear range part a low high = coverage-none range (outside_of r s.chunks) a (λ c h.
      let (i, off) = IsIn-outside r c s.chunks h in
      elim (where_is c a) [
        | inside one from to ↦ let lies = chunk_within c a i low high from to in absurd (true≢false (sym (lies_within-le r c lies.0 lies.1) ∙ off))
        | before none from ↦ omega (arith, part c a i)
        | behind none to ↦ omega (arith, part c a i)
      ])

  -- nor in a free range that is left
  free_clear : (a : ℕ) → r.start ≤ a → a < end_of r → coverage itself (outside_of r s.free) a ≡ 0
  free_clear a low high = coverage-none itself (outside_of r s.free) a (λ f h.
      let (i, off) = IsIn-outside r f s.free h in
      elim (where_is f a) [
        | inside one from to ↦ let lies = free_within f a i low high from to in absurd (true≢false (sym (lies_within-le r f lies.0 lies.1) ∙ off))
        | before none from ↦ none
        | behind none to ↦ none
      ])

  -- the last bytes of a chunk are of the chunk
  last_within : (c : Range) (a : ℕ) → IsIn c s.chunks → covers (last_bytes c) a ≤ covers c a
  last_within c a i =
      let room = (w.chunks c i).has_room in
      elim (where_is (last_bytes c) a) [
        | inside one from to ↦ omega (arith, covers-inside c a (omega arith) (omega arith))
        | before none from ↦ omega arith
        | behind none to ↦ omega arith
      ]

  tiled_after : (a : ℕ) → coverage block_of s.used a + coverage itself (outside_of r s.free) a + coverage last_bytes (outside_of r s.chunks) a
      ≡ coverage itself (outside_of r s.chunks) a
  tiled_after a = grind (arith, coverage-outside, last_within, where_is, free_clear, chunks_clear)

  disjoint_after : (a : ℕ) → coverage itself (outside_of r s.chunks) a ≤ 1
  disjoint_after a = grind (arith, where_is, chunks_clear, coverage-outside)

  -- a removal keeps a state well-formed
  pub Removes-keeps : (t : State) → Removes s r t → IsWellFormed fllen sllen memory t
  Removes-keeps t step = subst (IsWellFormed fllen sllen memory) (sym step) (IsWellFormed-from (record {
    rows = w.rows;
    row_length = w.row_length;
    addressable = w.addressable;
    chunks = λ c h. w.chunks c (IsIn-outside r c s.chunks h).0;
    used = w.used;
    whole = λ f h. let free = w.free f (IsIn-outside r f s.free h).0 in (free.whole, free.some);
    disjoint = disjoint_after;
    tiled = tiled_after;
    apart = IsApart-within (outside_of r s.free) s.free (λ f h. (IsIn-outside r f s.free h).0) w.apart;
  }))

pub removal_leaves_others : RemovalLeavesOthers
removal_leaves_others fllen sllen memory s t r w may step =
    subst (λ (x : State). LeavesOtherRanges r s.chunks x.chunks × LeavesOtherRanges r s.free x.free × (x.used ≡ s.used)) (sym step) (
      record { clear = chunks_clear w r may itself (λ c a i. omega arith); left = λ x. IsIn-outside_from r x s.chunks; were = λ x i. (IsIn-outside r x s.chunks i).0 },
      record { clear = free_clear w r may; left = λ x. IsIn-outside_from r x s.free; were = λ x i. (IsIn-outside r x s.free i).0 },
      refl,
    )
