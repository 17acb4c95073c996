-- The blocks of a shadow, and their totals.
use Rattle.std.proofs.Common.{◌≡◌, ℕ, ◌+◌, ◌-◌, ◌*◌, ◌/◌, ◌%◌, ◌^◌, ◌<◌, ◌≤◌, Bool, true, false, List, [], ◌∷◌, map, arith, inl, inr, refl, sym, ◌∙◌, ap, subst}
use Rattle.std.proofs.lemmas.Bool.{cases_lt}
use Rattle.std.proofs.Math.Nat.{mul-le-mul_right, mul_assoc}
use Rattle.rlsf_base.specs.declared.memory.range.Range.{Range}
use Rattle.rlsf_base.specs.Range.{end_of, range_at}
use Rattle.rlsf_blocks.specs.Blocks.{AreBlocks, Block, HasBlock, IsInOrder, free, used, walked}
use Rattle.rlsf_blocks.specs.declared.totals.Totals.{Totals}
use Rattle.rlsf_blocks.specs.Totals.{AreTotalsOf, free_of, greatest, total, used_of}
use Rattle.rlsf_blocks.proofs.Walking.Totals.{free_cons, free_skip, total_cons, used_cons, used_skip}
use Rattle.rlsf_model.specs.ChunkRows.{IsRow}
use Rattle.rlsf_model.specs.Lists.{IsIn}
use Rattle.rlsf_model.specs.WellFormed.{coverage, itself, last_bytes}
use Rattle.rlsf_model.proofs.Coverage.{covers-before, covers-inside, coverage-some}
use Rattle.rlsf_model.proofs.Payloads.{IsUsed-some}
use Rattle.rlsf_model.proofs.Tiling.{IsPart, IsPart-free, IsPart-used, block_of, lies_in_chunk, tiling_of}
use Rattle.rlsf_tlsf.specs.Allocator.{Allocator}
use Rattle.rlsf_offsets.specs.declared.stats.Stats.{Stats}
use Rattle.rlsf_offsets.specs.Iteration.{AreInSpace}
use Rattle.rlsf_offsets.specs.Blocks.{AreAllBlocks, AreStats, AreSpaceTotals, AreWithinSpace}
use Rattle.rlsf_offsets.specs.Units.{IsShadow, Offsets, offsets, whole_shadow}
use Rattle.rlsf_offsets.proofs.Ranges.{chunk_end}

-- ---- where blocks lie

pub record LiesInShadow (units : ℕ) (r : Range) : Type 0 where
  pub from : 2 ^ 62 - 32 ≤ r.start
  pub to : end_of r ≤ 2 ^ 62 - 32 + 32 * units
  pub some : 0 < r.len
  pub even : r.len % 32 ≡ 0

module _ {units : ℕ} {a : Allocator} (is : IsShadow units a) where
  -- a part of its chunk lies in it
  pub lies_part : (r : Range) → 0 < r.len → r.len % 32 ≡ 0 → IsPart a.state r → LiesInShadow units r
  lies_part r some even part =
      let w = is.stands.well_formed in
      let home = lies_in_chunk a.state (tiling_of w) r some part in
      let inside = (w.chunks home.chunk home.is_chunk).lies_in in
      let ends = chunk_end is home.chunk home.is_chunk in
      record { from = omega (arith, inside.0, home.from, is.start); to = omega (arith, ends, home.to); some = some; even = even }

  lies : (b : Block) → HasBlock a.state b → LiesInShadow units b.range
  lies b (used u i e k) =
      let w = is.stands.well_formed in
      let has = w.used u i in
      subst (LiesInShadow units) (sym e) (lies_part u.block (IsUsed-some u has) has.whole.len (IsPart-used a.state (tiling_of w) u i))
  lies b (free i k) =
      let w = is.stands.well_formed in
      let f = w.free b.range i in
      lies_part b.range f.some f.whole.len (IsPart-free a.state (tiling_of w) b.range i)

  -- each address that a unit has is in a block
  block_with : (z : ℕ) → 2 ^ 62 - 32 ≤ z → z < 2 ^ 62 - 32 + 32 * units → (b : Block) × HasBlock a.state b × (b.range.start ≤ z) × (z < end_of b.range)
  block_with z from to =
      let any : 0 < units = omega arith in
      let c = whole_shadow units in
      let last : coverage last_bytes a.state.chunks z ≡ 0
      = ap (λ cs. coverage last_bytes cs z) (is.chunks any) ∙ ap (λ n. n + 0) (covers-before (last_bytes c) z (omega arith)) in
      let chunk : coverage itself a.state.chunks z ≡ 1
      = ap (λ cs. coverage itself cs z) (is.chunks any) ∙ ap (λ n. n + 0) (covers-inside c z (omega arith) (omega arith)) in
      elim (cases_lt 0 (coverage itself a.state.free z)) [
        | inl some ↦ let (f, i, low, high) = coverage-some itself a.state.free z some in (record { range = f; is_occupied = false }, free i refl, low, high)
        | inr none ↦
            let (u, i, low, high) = coverage-some block_of a.state.used z (omega (arith, is.stands.well_formed.tiled z)) in
            (record { range = u.block; is_occupied = true }, used u i refl refl, low, high)
      ]

  -- the range of an iteration over all of the shadow
  abbrev pub row : ℕ → Range
  row len = walked (range_at (2 ^ 62 - 32) len)

  pub IsRow-shadow : (len : ℕ) → (0 < units → len ≡ 32 * units + 32) → (units ≡ 0 → len ≡ 0) → IsRow a.state (row len)
  IsRow-shadow len long none x from to = elim (cases_lt 0 units) [
    | inl some ↦
        let c = whole_shadow units in
        let all = long some in
        (c, subst (IsIn c) (sym (is.chunks some)) (inl refl), omega arith, omega (arith, from), omega (arith, to, all), omega (arith, all))
    | inr zero ↦ let all = none (omega arith) in absurd (omega (arith, from, to, all))
  ]

  pub AreAllBlocks-row : (len : ℕ) → (0 < units → len ≡ 32 * units + 32) → (units ≡ 0 → len ≡ 0) → (bs : List Block) → AreBlocks a.state (row len) bs
      → AreAllBlocks (offsets units a) bs
  AreAllBlocks-row len long none bs are = record {
    exactly = λ b. (
      (λ i. ((are.exactly b).0 i).0),
      (λ has.
          let home = lies b has in
          let all = long (omega arith) in
          (are.exactly b).1 (has, omega arith, omega (arith, all))),
    );
    in_order = are.in_order;
  }

pub AreWithinSpace-blocks : {units : ℕ} {a : Allocator} → IsShadow units a → (bs : List Block) → AreAllBlocks (offsets units a) bs → AreWithinSpace units bs
AreWithinSpace-blocks is bs all = λ b i. let home = lies is b ((all.exactly b).0 i) in (home.from, home.to)

-- ---- their totals

abbrev longest_of : List Block → ℕ
longest_of bs = greatest (map (λ (b : Block). b.range.len) bs)

record IsSummed (bs : List Block) : Type 0 where
  halves : total (used_of bs) + total (free_of bs) ≡ total bs
  used_even : total (used_of bs) % 32 ≡ 0
  free_even : total (free_of bs) % 32 ≡ 0
  longest_even : longest_of (free_of bs) % 32 ≡ 0
  longest_low : longest_of (free_of bs) ≤ total (free_of bs)

summed : (bs : List Block) → ((b : Block) → IsIn b bs → b.range.len % 32 ≡ 0) → IsSummed bs
summed [] even = record { halves = refl; used_even = refl; free_even = refl; longest_even = refl; longest_low = omega arith }
summed (b ∷ bs) even = by_use (summed bs (λ c i. even c (inr i))) b.is_occupied refl
  where
    by_use : IsSummed bs → (k : Bool) → b.is_occupied ≡ k → IsSummed (b ∷ bs)
    by_use rest true e =
        let u : total (used_of (b ∷ bs)) ≡ b.range.len + total (used_of bs) = ap total (used_cons b bs e) ∙ total_cons b (used_of bs) in
        let f : total (free_of (b ∷ bs)) ≡ total (free_of bs) = ap total (free_skip b bs e) in
        let l : longest_of (free_of (b ∷ bs)) ≡ longest_of (free_of bs) = ap (λ x. longest_of x) (free_skip b bs e) in
        record {
          halves = omega (arith, rest.halves, u, f, total_cons b bs);
          used_even = omega (arith, rest.used_even, u, even b (inl refl));
          free_even = omega (arith, rest.free_even, f);
          longest_even = omega (arith, rest.longest_even, l);
          longest_low = omega (arith, rest.longest_low, l, f);
        }
    by_use rest false e =
        let u : total (used_of (b ∷ bs)) ≡ total (used_of bs) = ap total (used_skip b bs e) in
        let f : total (free_of (b ∷ bs)) ≡ b.range.len + total (free_of bs) = ap total (free_cons b bs e) ∙ total_cons b (free_of bs) in
        let l = ap (λ x. longest_of x) (free_cons b bs e) in
        let len = even b (inl refl) in
        record {
          halves = omega (arith, rest.halves, u, f, total_cons b bs);
          used_even = omega (arith, rest.used_even, u);
          free_even = omega (arith, rest.free_even, f, len);
          longest_even = omega (arith, rest.longest_even, l, len);
          longest_low = omega (arith, rest.longest_low, l, f);
        }

-- blocks side by side that leave no address of a span are as long as it
span : (bs : List Block) (low high : ℕ) → low ≤ high → IsInOrder bs
    → ((b : Block) → IsIn b bs → (low ≤ b.range.start) × (end_of b.range ≤ high) × (0 < b.range.len))
    → ((z : ℕ) → low ≤ z → z < high → (b : Block) × IsIn b bs × (b.range.start ≤ z) × (z < end_of b.range)) → low + total bs ≡ high
span [] low high fits order within cover = elim (cases_lt low high) [
  | inl less ↦ let (b, i, from, to) = cover low (omega arith) less in absurd i
  | inr same ↦ let none : total [] ≡ 0 = refl in omega (arith, none)
]
span (b ∷ bs) low high fits order within cover =
    let (low_b, high_b, some_b) = within b (inl refl) in
    let (c, i, from, to) = cover low (omega arith) (omega (arith, low_b, high_b, some_b)) in
    let first : b.range.start ≡ low = elim i [
      | inl same ↦ omega (arith, low_b, from, ap (λ (x : Block). x.range.start) same)
      | inr j ↦ absurd (omega (arith, order.0 c j, from, low_b, some_b))
    ] in
    let rest = span bs (end_of b.range) high high_b order.1 (λ d j. (order.0 d j, (within d (inr j)).1, (within d (inr j)).2)) (λ z above below.
    let (d, j, from_d, to_d) = cover z (omega (arith, above, low_b)) below in
    elim j [
      | inl same ↦ absurd (omega (arith, above, to_d, ap (λ (x : Block). end_of x.range) same))
      | inr k ↦ (d, k, from_d, to_d)
    ]) in
    omega (arith, rest, first, total_cons b bs)

pub AreSpaceTotals-blocks : {units : ℕ} {a : Allocator} → IsShadow units a → (bs : List Block) (t : Totals) → AreAllBlocks (offsets units a) bs → AreTotalsOf bs t
    → AreSpaceTotals (offsets units a) t
AreSpaceTotals-blocks {units} {a} is bs t all of =
    let home = λ (b : Block) (i : IsIn b bs). lies is b ((all.exactly b).0 i) in
    let sums = summed bs (λ b i. (home b i).even) in
    let length_all = span bs (2 ^ 62 - 32) (2 ^ 62 - 32 + 32 * units) (omega arith) all.in_order (λ b i. ((home b i).from, (home b i).to, (home b i).some)) (λ z from to.
    let (b, has, low, high) = block_with is z from to in
    (b, (all.exactly b).1 has, low, high)) in
    let in_free = of.free in
    let longest = of.longest in
    record {
      blocks = bs;
      all = all;
      totals = of;
      whole = omega (arith, length_all, sums.halves, of.used, in_free);
      even = (omega (arith, sums.used_even, of.used), omega (arith, sums.free_even, in_free), omega (arith, sums.longest_even, longest));
      longest = omega (arith, sums.longest_low, longest, in_free);
    }

-- no more units are in them than in the space
pub few_bytes : (unit units shadow : ℕ) → shadow ≤ 32 * units → shadow / 32 * unit ≤ units * unit
few_bytes unit units shadow few = mul-le-mul_right unit (omega (arith, few))

-- bytes of the shadow, in bytes of the space
in_space : (unit shadow all : ℕ) → shadow % 32 ≡ 0 → shadow ≡ all → 32 * (shadow / 32 * unit) ≡ all * unit
in_space unit shadow all even same =
    let whole : shadow ≡ 32 * (shadow / 32) = omega (arith, even) in
    sym (mul_assoc 32 (shadow / 32) unit) ∙ ap (λ n. n * unit) (sym whole ∙ same)

pub AreStats-totals : (unit : ℕ) (v : Offsets) (t : Totals) (s : Stats) → AreSpaceTotals v t → s.ranges ≡ t.payloads → s.used ≡ t.used / 32 * unit
    → s.free ≡ t.free / 32 * unit → s.longest ≡ t.longest / 32 * unit → AreStats unit v s
AreStats-totals unit v t s are ranges in_used in_free longest =
    let of = are.totals in
    let whole = are.whole in
    let (used_even, free_even, longest_even) = are.even in
    let units : t.used / 32 + t.free / 32 ≡ v.units = omega (arith, whole, used_even, free_even) in
    record {
      blocks = are.blocks;
      all = are.all;
      ranges = ranges ∙ of.payloads;
      used = ap (λ n. 32 * n) in_used ∙ in_space unit t.used _ used_even of.used;
      free = ap (λ n. 32 * n) in_free ∙ in_space unit t.free _ free_even of.free;
      longest = ap (λ n. 32 * n) longest ∙ in_space unit t.longest _ longest_even of.longest;
      whole = omega (arith, in_used, in_free, ap (λ n. n * unit) units);
    }

-- ---- the pieces that they are for

pub AreInSpace-within : (unit units : ℕ) (bs : List Block) → AreWithinSpace units bs → units * unit < 2 ^ 64 → AreInSpace unit bs
AreInSpace-within unit units bs within fits b i =
    let (from, to) = within b i in
    let few : (end_of b.range - (2 ^ 62 - 32)) / 32 * unit ≤ units * unit = mul-le-mul_right unit (omega (arith, from, to)) in
    (from, omega (arith, few, fits))
