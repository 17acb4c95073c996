-- A part of a state: some of its chunks, with the blocks in them.
use Rattle.std.proofs.Common.{◌≡◌, ℕ, ◌+◌, ◌<◌, ◌≤◌, Bool, filter, ltb, List, [], ◌∷◌, length, arith, refl, sym, ap, subst, inl}
use Rattle.std.proofs.Common.{inr}
use Rattle.std.proofs.lemmas.Bool.Decides.{nat_tests}
use Rattle.std.proofs.lemmas.Bool.{cases_lt}
use Rattle.std.proofs.lemmas.List.Sums.{sum_by-cons}
use Rattle.rlsf_base.specs.declared.memory.range.Range.{Range}
use Rattle.rlsf_base.specs.Range.{end_of}
use Rattle.rlsf_model.specs.Budget.{IsFront, total_len}
use Rattle.rlsf_model.specs.Lists.{IsIn}
use Rattle.rlsf_model.specs.State.{State}
use Rattle.rlsf_model.specs.WellFormed.{covers, coverage, itself, last_bytes, IsWellFormed}
use Rattle.rlsf_model.proofs.Changes.{IsApart-within}
use Rattle.rlsf_model.proofs.Coverage.{inside, before, behind, where_is, covers-inside, coverage-IsIn, coverage-some, coverage-unique, IsIn-filter}
use Rattle.rlsf_model.proofs.Payloads.{IsUsed-some}
use Rattle.rlsf_model.proofs.Sums.{coverage-le}
use Rattle.rlsf_model.proofs.Tiling.{block_of, blocks, tiling_of, LiesInChunk, lies_in_chunk, IsPart-free, IsPart-used, IsWellFormed-from}

-- a block begins in one of some chunks
abbrev pub begins_in : List Range → Range → Bool
begins_in cs r = ltb 0 (coverage itself cs r.start)

-- some chunks, and of a state the blocks that begin in them
abbrev pub part : List Range → State → State
part cs s = record { chunks = cs; used = filter (λ u. begins_in cs u.block) s.used; free = filter (begins_in cs) s.free }

pub length-filter_le : {A : Type 0} (p : A → Bool) (xs : List A) → length (filter p xs) ≤ length xs
length-filter_le p [] = omega arith
length-filter_le p (y ∷ xs) = grind (arith, nat_tests, length-filter_le p xs)

module _ {fllen sllen : ℕ} {memory : Range} {s : State} (w : IsWellFormed fllen sllen memory s) (cs : List Range) (are : (c : Range) → IsIn c cs → IsIn c s.chunks) where
  -- where one address of a block is in the chunks, each is
  same_part : (r : Range) → LiesInChunk s r → (a b : ℕ) → r.start ≤ a → a < end_of r → r.start ≤ b → b < end_of r → 1 ≤ coverage itself cs a
      → 1 ≤ coverage itself cs b
  same_part r home a b a_low a_high b_low b_high some =
      let c = home.chunk in
      let from = home.from in
      let to = home.to in
      let (d, i, low, high) = coverage-some itself cs a some in
      let same : c ≡ d =
      coverage-unique itself c d s.chunks a (w.disjoint a) home.is_chunk (are d i) (covers-inside c a (omega arith) (omega arith)) (covers-inside d a low high) in
      let has : covers d b ≡ 1 = subst (λ x. covers x b ≡ 1) same (covers-inside c b (omega arith) (omega arith)) in
      omega (arith, coverage-IsIn itself d cs b i)

  -- at an address in the chunks the part has all of the blocks, and elsewhere none
  coverage-part : {A : Type 0} (range : A → Range) (xs : List A) (a : ℕ) → ((x : A) → IsIn x xs → LiesInChunk s (range x))
      → (1 ≤ coverage itself cs a → coverage range (filter (λ x. begins_in cs (range x)) xs) a ≡ coverage range xs a)
      × (coverage itself cs a ≡ 0 → coverage range (filter (λ x. begins_in cs (range x)) xs) a ≡ 0)
  coverage-part range [] a lies = (λ some. refl, λ none. refl)
  coverage-part {A = A} range (x ∷ xs) a lies = grind (arith, nat_tests, coverage-part range xs a, where_is, same_part)

  last-le : (c : Range) → 64 ≤ c.len → (a : ℕ) → covers (last_bytes c) a ≤ covers c a
  last-le c room a = grind (arith, where_is, covers-inside)

  -- at an address in the chunks, their last bytes are those of the state
  coverage-last : ((a : ℕ) → coverage itself cs a ≤ 1) → (a : ℕ) → 1 ≤ coverage itself cs a → coverage last_bytes cs a ≡ coverage last_bytes s.chunks a
  coverage-last disjoint a some =
      let room = λ (c : Range) (i : IsIn c s.chunks). (w.chunks c i).has_room in
      let (d, i, low, high) = coverage-some itself cs a some in
      let few = coverage-le last_bytes itself a a cs (λ c j. last-le c (room c (are c j)) a) in
      let all_few = coverage-le last_bytes itself a a s.chunks (λ c j. last-le c (room c j) a) in
      elim (cases_lt 0 (coverage last_bytes s.chunks a)) [
        | inl last ↦
            let (c, j, from, to) = coverage-some last_bytes s.chunks a last in
            let long = room c j in
            let same : c ≡ d = coverage-unique itself c d s.chunks a (w.disjoint a) j (are d i) (covers-inside c a (omega arith) (omega arith)) (covers-inside d a low high) in
            let has : covers (last_bytes d) a ≡ 1 = subst (λ x. covers (last_bytes x) a ≡ 1) same (covers-inside (last_bytes c) a from to) in
            omega (arith, coverage-IsIn last_bytes d cs a i, few, all_few, disjoint a, w.disjoint a)
        | inr none ↦ elim (cases_lt 0 (coverage last_bytes cs a)) [
          | inl last ↦
              let (c, j, from, to) = coverage-some last_bytes cs a last in
              absurd (omega (arith, coverage-IsIn last_bytes c s.chunks a (are c j), covers-inside (last_bytes c) a from to))
          | inr neither ↦ omega arith
        ]
      ]

  part_tiled : ((a : ℕ) → coverage itself cs a ≤ 1) → (a : ℕ) → blocks (part cs s) a + coverage last_bytes cs a ≡ coverage itself cs a
  part_tiled disjoint a =
      let used = coverage-part block_of s.used a (λ u i. lies_in_chunk s (tiling_of w) u.block (IsUsed-some u (w.used u i)) (IsPart-used s (tiling_of w) u i)) in
      let free = coverage-part itself s.free a (λ f i. lies_in_chunk s (tiling_of w) f ((w.free f i).some) (IsPart-free s (tiling_of w) f i)) in
      elim (cases_lt 0 (coverage itself cs a)) [
        | inl some ↦
            let (d, i, low, high) = coverage-some itself cs a some in
            omega (
              arith,
              used.0 some,
              free.0 some,
              coverage-last disjoint a some,
              w.tiled a,
              w.disjoint a,
              disjoint a,
              coverage-IsIn itself d s.chunks a (are d i),
              covers-inside d a low high,
            )
        | inr none ↦
            let nothing : coverage itself cs a ≡ 0 = omega arith in
            omega (arith, used.1 nothing, free.1 nothing, coverage-le last_bytes itself a a cs (λ c j. last-le c ((w.chunks c (are c j)).has_room) a))
      ]

  pub part_is_well_formed : ((a : ℕ) → coverage itself cs a ≤ 1) → IsWellFormed fllen sllen memory (part cs s)
  part_is_well_formed disjoint = IsWellFormed-from (record {
    rows = w.rows;
    row_length = w.row_length;
    addressable = w.addressable;
    chunks = λ c i. w.chunks c (are c i);
    used = λ u i. w.used u (IsIn-filter (λ v. begins_in cs v.block) u s.used i).0;
    whole = λ f i. let is = w.free f (IsIn-filter (begins_in cs) f s.free i).0 in (is.whole, is.some);
    disjoint = disjoint;
    tiled = part_tiled disjoint;
    apart = IsApart-within (filter (begins_in cs) s.free) s.free (λ f i. (IsIn-filter (begins_in cs) f s.free i).0) w.apart;
  })

-- ---- the chunks of some fronts

-- some chunks, as many as there are fronts and together as long or longer
pub record HaveChunks (chunks fronts : List Range) : Type 0 where
  pub whole : List Range
  pub are : (c : Range) → IsIn c whole → IsIn c chunks
  pub begin : (c : Range) → IsIn c whole → (r : Range) × IsIn r fronts × (r.start ≡ c.start)
  pub disjoint : (a : ℕ) → coverage itself whole a ≤ 1
  pub count : length whole ≡ length fronts
  pub longer : total_len fronts ≤ total_len whole

module _ (chunks : List Range) (disjoint : (a : ℕ) → coverage itself chunks a ≤ 1) where
  pub have_chunks : (fronts : List Range) → ((r : Range) → IsIn r fronts → IsFront chunks r) → ((a : ℕ) → coverage itself fronts a ≤ 1) → HaveChunks chunks fronts
  have_chunks [] each apart = record { whole = []; are = λ c i. absurd i; begin = λ c i. absurd i; disjoint = λ a. omega arith; count = refl; longer = omega arith }
  have_chunks (r ∷ fronts) each apart =
      let rest = have_chunks fronts (λ q i. each q (inr i)) (λ a. omega (arith, apart a)) in
      let (c, is_chunk, start, long, some) = each r (inl refl) in
      record {
        whole = c ∷ rest.whole;
        are = λ d. elim [ inl same ↦ subst (λ x. IsIn x chunks) (sym same) is_chunk | inr i ↦ rest.are d i ];
        begin = λ d. elim [
          | inl same ↦ let d_start : d.start ≡ c.start = ap (λ x. x.start) same in (r, inl refl, omega arith)
          | inr i ↦ let (q, j, at) = rest.begin d i in (q, inr j, at)
        ];
        disjoint = λ a. elim (where_is c a) [
          | inside one low high ↦ elim (cases_lt 0 (coverage itself rest.whole a)) [
            | inl again ↦
                let (d, i, d_low, d_high) = coverage-some itself rest.whole a again in
                let same : d ≡ c = coverage-unique itself d c chunks a (disjoint a) (rest.are d i) is_chunk (covers-inside d a d_low d_high) one in
                let (q, j, at) = rest.begin d i in
                let d_start : d.start ≡ c.start = ap (λ x. x.start) same in
                let (e, e_in, e_start, e_long, q_some) = each q (inr j) in
                absurd (omega (
                  arith,
                  apart r.start,
                  covers-inside r r.start (omega arith) (omega arith),
                  covers-inside q r.start (omega arith) (omega arith),
                  coverage-IsIn itself q fronts r.start j,
                ))
            | inr none ↦ omega arith
          ]
          | before none low ↦ omega (arith, rest.disjoint a)
          | behind none high ↦ omega (arith, rest.disjoint a)
        ];
        count = omega (arith, rest.count);
        longer = omega (arith, rest.longer, sum_by-cons (λ x. x.len) r fronts, sum_by-cons (λ x. x.len) c rest.whole);
      }
