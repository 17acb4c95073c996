-- The chunks that an aligned part is cut into.
use mathlib.Core.Path.{ap₂}
use Rattle.std.proofs.Common.{◌≡◌, ℕ, zero, suc, ◌+◌, ◌-◌, ◌*◌, ◌/◌, ◌%◌, ◌^◌, ◌<◌, ◌≤◌, ◌⊎◌, cond, List, [], ◌∷◌, ◌++◌}
use Rattle.std.proofs.Common.{Option, Some, None, arith, refl, sym, ap, subst, inl, inr, min, ◌∙◌}
use Rattle.std.proofs.lemmas.Bool.Decides.{nat_tests}
use Rattle.std.proofs.lemmas.Bool.{cases_lt, lt-ltb, le-ltb, le-leb, lt-leb}
use Rattle.std.proofs.lemmas.Nat.{div_below, le-div, mod_below, div-add-mod', pow_pos, pow-add}
use Rattle.std.proofs.Math.Nat.{div-mul-le_self}
use Rattle.std.proofs.Math.Pow.{pow_mono}
use Rattle.rlsf_base.specs.declared.memory.range.Range.{Range}
use Rattle.rlsf_base.specs.Range.{end_of, range_at}
use Rattle.rlsf_model_sizes.specs.Sizes.{max_pool_size}
use Rattle.rlsf_model.specs.Insert.{adjacent, remainder, cut, body, end_of_last}
use Rattle.rlsf_model.specs.Laws.{IsCutOff, ChunksAreCutOffTheFront}
use Rattle.rlsf_model.specs.Lists.{IsIn}
use Rattle.rlsf_model.specs.WellFormed.{covers, coverage, itself, last_bytes, IsWhole}
use Rattle.rlsf_model.proofs.Coverage.{covers-empty, covers-split, coverage-append, IsIn-append}

-- a chunk of some part: it lies there, begins and ends at multiples of 32, has 64 bytes or more, and isn't too long
pub record IsPiece (most : ℕ) (part c : Range) : Type 0 where
  pub whole : IsWhole c
  pub from : part.start ≤ c.start
  pub to : end_of c ≤ end_of part
  pub room : 64 ≤ c.len
  pub short : c.len ≤ most

IsIn-adjacent : (n at len : ℕ) → at % 32 ≡ 0 → len % 32 ≡ 0 → 64 ≤ len → (c : Range) → IsIn c (adjacent at len n) → IsPiece len (range_at at (n * len)) c
IsIn-adjacent zero at len at32 len32 room c h = absurd h
IsIn-adjacent (suc n) at len at32 len32 room c (inl same) = grind arith
IsIn-adjacent (suc n) at len at32 len32 room c (inr h) =
    let rest = IsIn-adjacent n (at + len) len (omega arith) len32 room c h in
    record { whole = rest.whole; from = omega (arith, rest.from); to = omega (arith, rest.to); room = rest.room; short = rest.short }

coverage-adjacent : (n at len a : ℕ) → coverage itself (adjacent at len n) a ≡ covers (range_at at (n * len)) a
coverage-adjacent zero at len a = sym (covers-empty (range_at at (zero * len)) a (omega arith))
coverage-adjacent (suc n) at len a =
    omega (
      arith,
      coverage-adjacent n (at + len) len a,
      covers-split at (at + len) (at + suc n * len) a (omega arith) (omega arith) (range_at at (suc n * len)) (range_at at len) (range_at (at + len) (n * len)) refl refl refl
          refl refl (omega arith),
    )

IsIn-remainder : (at len : ℕ) (c : Range) → IsIn c (remainder at len) → (c ≡ range_at at len) × (64 ≤ len)
IsIn-remainder at len c h = grind (arith, cases_lt, lt-leb, le-leb)

coverage-remainder : (at len a : ℕ) → coverage itself (remainder at len) a ≤ covers (range_at at len) a
coverage-remainder at len a = grind (arith, cases_lt, lt-leb, le-leb)

pub max_pool-cases : (fllen : ℕ) → (max_pool_size fllen ≡ Some (2 ^ (5 + fllen))) ⊎ ((max_pool_size fllen ≡ None) × (64 ≤ 5 + fllen))
max_pool-cases fllen = grind (arith, cases_lt, lt-ltb, le-ltb)

-- the greatest length of a chunk is a multiple of 32 and has room for a block
pub most_whole : (fllen : ℕ) → 0 < fllen → (2 ^ (5 + fllen) % 32 ≡ 0) × (64 ≤ 2 ^ (5 + fllen))
most_whole fllen rows =
    let times : 2 ^ (5 + fllen) ≡ 32 * 2 ^ fllen = pow-add 2 5 fllen in
    let least : 2 ^ 6 ≤ 2 ^ (5 + fllen) = (let more : 6 ≤ 5 + fllen = omega arith in pow_mono {i = 6} more) in
    (omega arith, omega arith)

pub whole_product : (m n : ℕ) → m % 32 ≡ 0 → n * m % 32 ≡ 0
whole_product m n e = let times : m ≡ 32 * (m / 32) = omega arith in let product : n * m ≡ n * (32 * (m / 32)) = ap (λ k. n * k) times in omega arith

module _ (part : Range) (part_whole : IsWhole part) where
  IsIn-cut_most : (most : ℕ) → most % 32 ≡ 0 → 64 ≤ most → (c : Range) → IsIn c (cut (Some most) part) → IsPiece most part c
  IsIn-cut_most most most32 room c h =
      let n = part.len / most in
      let fits : n * most ≤ part.len = div-mul-le_self part.len most in
      let n32 : n * most % 32 ≡ 0 = whole_product most n most32 in
      elim (IsIn-append c (adjacent part.start most n) (remainder (part.start + n * most) (part.len - n * most)) h) [
        | inl i ↦ let piece = IsIn-adjacent n part.start most part_whole.start most32 room c i in
            record { whole = piece.whole; from = piece.from; to = omega (arith, piece.to); room = piece.room; short = piece.short }
        | inr j ↦ let (is, some) = IsIn-remainder (part.start + n * most) (part.len - n * most) c j in
            subst (IsPiece most part) (sym is) (record {
              whole = record { start = omega (arith, part_whole.start); len = omega (arith, part_whole.len) };
              from = omega arith;
              to = omega arith;
              room = some;
              short = last part.len most room;
            })
      ]
    where
      last : (len most : ℕ) → 64 ≤ most → len - len / most * most ≤ most
      last len most room = omega arith

  coverage-cut_most : (most a : ℕ) → coverage itself (cut (Some most) part) a ≤ covers part a
  coverage-cut_most most a =
      let n = part.len / most in
      let fits : n * most ≤ part.len = div-mul-le_self part.len most in
      omega (
        arith,
        coverage-append itself (adjacent part.start most n) (remainder (part.start + n * most) (part.len - n * most)) a,
        coverage-adjacent n part.start most a,
        coverage-remainder (part.start + n * most) (part.len - n * most) a,
        covers-split part.start (part.start + n * most) (end_of part) a (omega arith) (omega arith) part (range_at part.start (n * most))
            (range_at (part.start + n * most) (part.len - n * most)) refl refl refl refl refl (omega arith),
      )

  pub coverage-cut : (o : Option ℕ) (a : ℕ) → coverage itself (cut o part) a ≤ covers part a
  coverage-cut o a = grind (arith, coverage-remainder, coverage-cut_most)

  -- the chunks are pieces, and less their last 32 bytes they aren't too long
  pub IsIn-cut : (fllen : ℕ) → 0 < fllen → (0 < part.len → end_of part < 2 ^ 64) → (c : Range) → IsIn c (cut (max_pool_size fllen) part)
      → IsPiece (2 ^ (5 + fllen)) part c
  IsIn-cut fllen rows limit c h = elim (max_pool-cases fllen) [
    | inl some ↦ let most = most_whole fllen rows in IsIn-cut_most (2 ^ (5 + fllen)) most.0 most.1 c (subst (λ o. IsIn c (cut o part)) some h)
    | inr (none, large) ↦
        let (is, room) = IsIn-remainder part.start part.len c (subst (λ o. IsIn c (cut o part)) none h) in
        let wide : 2 ^ 64 ≤ 2 ^ (5 + fllen) = pow_mono large in
        let addressable = limit (omega arith) in
        subst (IsPiece (2 ^ (5 + fllen)) part) (sym is) (record { whole = part_whole; from = omega arith; to = omega arith; room = room; short = omega arith })
  ]

-- ---- chunks of any range

-- a range that isn't empty lies in another one
abbrev LiesWithin : ℕ → ℕ → Range → Type 0
LiesWithin low high c = (low ≤ c.start) × (end_of c ≤ high) × (0 < c.len)

IsIn-adjacent_within : (n at len : ℕ) → 0 < len → (c : Range) → IsIn c (adjacent at len n) → LiesWithin at (at + n * len) c
IsIn-adjacent_within zero at len some c h = absurd h
IsIn-adjacent_within (suc n) at len some c (inl same) = subst (LiesWithin at (at + suc n * len)) (sym same) (omega arith, omega arith, some)
IsIn-adjacent_within (suc n) at len some c (inr h) = let (from, to, is_some) = IsIn-adjacent_within n (at + len) len some c h in (omega arith, omega arith, is_some)

IsIn-remainder_within : (at len : ℕ) (c : Range) → IsIn c (remainder at len) → LiesWithin at (at + len) c
IsIn-remainder_within at len c h = let (is, room) = IsIn-remainder at len c h in subst (LiesWithin at (at + len)) (sym is) (omega arith, omega arith, omega arith)

IsIn-cut_most_within : (most : ℕ) → 0 < most → (part c : Range) → IsIn c (cut (Some most) part) → LiesWithin part.start (end_of part) c
IsIn-cut_most_within most some part c h =
    let n = part.len / most in
    let fits : n * most ≤ part.len = div-mul-le_self part.len most in
    elim (IsIn-append c (adjacent part.start most n) (remainder (part.start + n * most) (part.len - n * most)) h) [
      | inl i ↦ let (from, to, is_some) = IsIn-adjacent_within n part.start most some c i in (from, omega arith, is_some)
      | inr j ↦ let (from, to, is_some) = IsIn-remainder_within (part.start + n * most) (part.len - n * most) c j in (omega arith, omega arith, is_some)
    ]

-- the chunks that a part is cut into lie in it
pub IsIn-cut_within : (fllen : ℕ) (part c : Range) → IsIn c (cut (max_pool_size fllen) part) → LiesWithin part.start (end_of part) c
IsIn-cut_within fllen part c h = elim (max_pool-cases fllen) [
  | inl is ↦ IsIn-cut_most_within (2 ^ (5 + fllen)) (pow_pos (5 + fllen)) part c (subst (λ o. IsIn c (cut o part)) is h)
  | inr (none, large) ↦ IsIn-remainder_within part.start part.len c (subst (λ o. IsIn c (cut o part)) none h)
]

-- a chunk is its free range and its last 32 bytes
pub covers-body : (c : Range) (a : ℕ) → 64 ≤ c.len → covers c a ≡ covers (body c) a + covers (last_bytes c) a
covers-body c a room = covers-split c.start (end_of c - 32) (end_of c) a (omega arith) (omega arith) c (body c) (last_bytes c) refl refl refl (omega arith) refl (omega arith)

-- ---- cut from the front

-- so many whole times more
div-more : (len most : ℕ) → 0 < most → most ≤ len → len / most ≡ suc ((len - most) / most)
div-more len most some fits = grind (arith, div-add-mod', mod_below, le-div, div_below)

div-none : (len most : ℕ) → 0 < most → len < most → len / most ≡ 0
div-none len most some short = let to : len / most < 1 = div_below len most 1 some (omega arith) in omega arith

pub remainder-none : (at len : ℕ) → len < 64 → remainder at len ≡ []
remainder-none at len short = ap (λ b. cond b (range_at at len ∷ []) []) (lt-leb 64 len short)

pub remainder-one : (at len : ℕ) → 64 ≤ len → remainder at len ≡ range_at at len ∷ []
remainder-one at len room = ap (λ b. cond b (range_at at len ∷ []) []) (le-leb 64 len room)

module _ (at len most : ℕ) (wide : 64 ≤ most) where
  cut_most-none : len < 64 → cut (Some most) (range_at at len) ≡ []
  cut_most-none short =
      ap (λ q. adjacent at most q ++ remainder (at + q * most) (len - q * most)) (div-none len most (omega arith) (omega arith))
      ∙ remainder-none (at + 0 * most) (len - 0 * most) (omega arith)

  cut_most-short : 64 ≤ len → len < most → cut (Some most) (range_at at len) ≡ range_at at len ∷ []
  cut_most-short room short = grind (arith, div-none, remainder-one)

  cut_most-more : most ≤ len → cut (Some most) (range_at at len) ≡ range_at at most ∷ cut (Some most) (range_at (at + most) (len - most))
  cut_most-more fits =
      let q = (len - most) / most in
      let same_at : at + suc q * most ≡ at + most + q * most = omega arith in
      let same_len : len - suc q * most ≡ len - most - q * most = omega arith in
      ap (λ k. adjacent at most k ++ remainder (at + k * most) (len - k * most)) (div-more len most (omega arith) fits)
      ∙ ap₂ (λ a n. range_at at most ∷ (adjacent (at + most) most q ++ remainder a n)) same_at same_len

pub chunks_are_cut_off_the_front : ChunksAreCutOffTheFront
chunks_are_cut_off_the_front fllen at len rows = elim (max_pool-cases fllen) [
  | inl some ↦ subst (IsCutOff at len) (sym some) (by_most (2 ^ (5 + fllen)) (most_whole fllen rows).1)
  | inr (none, large) ↦ subst (IsCutOff at len) (sym none)
      (remainder-none at len, λ room. remainder-one at len room ∙ ap (λ l. range_at at len ∷ l) (sym (remainder-none (at + len) (len - len) (omega arith))))
]
  where
    by_most : (most : ℕ) → 64 ≤ most → IsCutOff at len (Some most)
    by_most most wide = (
      cut_most-none at len most wide,
      λ room. elim (cases_lt len most) [
        | inl short ↦
            let least : min len most ≡ len = omega arith in
            cut_most-short at len most wide room short ∙ ap (λ l. range_at at len ∷ l) (sym (cut_most-none (at + len) (len - len) most wide (omega arith)))
            ∙ ap (λ n. range_at at n ∷ cut (Some most) (range_at (at + n) (len - n))) (sym least)
        | inr fits ↦
            let least : min len most ≡ most = omega arith in
            cut_most-more at len most wide fits ∙ ap (λ n. range_at at n ∷ cut (Some most) (range_at (at + n) (len - n))) (sym least)
      ],
    )

-- ---- where the last chunk ends

end_of_last-adjacent : (n at len : ℕ) (more : List Range) → end_of_last at (adjacent at len n ++ more) ≡ end_of_last (at + n * len) more
end_of_last-adjacent zero at len more = grind arith
end_of_last-adjacent (suc n) at len more = grind (arith, end_of_last-adjacent n (at + len) len more)

-- the range from an address to the last chunk's end
abbrev to_last : ℕ → List Range → Range
to_last at cs = range_at at (end_of_last at cs - at)

coverage-remainder_last : (at len a : ℕ) → (at ≤ end_of_last at (remainder at len)) × (coverage itself (remainder at len) a ≤ covers (to_last at (remainder at len)) a)
coverage-remainder_last at len a = grind (arith, nat_tests, remainder-none, remainder-one)

-- no chunk that a part is cut into has an address behind the last chunk
pub coverage-cut_last : (o : Option ℕ) (part : Range) (a : ℕ) → coverage itself (cut o part) a ≤ covers (to_last part.start (cut o part)) a
coverage-cut_last None part a = (coverage-remainder_last part.start part.len a).1
coverage-cut_last (Some most) part a =
    let n = part.len / most in
    let behind = part.start + n * most in
    let left = remainder behind (part.len - n * most) in
    let rest = coverage-remainder_last behind (part.len - n * most) a in
    let end = end_of_last behind left in
    let from : behind ≤ end = rest.0 in
    subst (λ e. coverage itself (adjacent part.start most n ++ left) a ≤ covers (range_at part.start (e - part.start)) a) (sym (end_of_last-adjacent n part.start most left))
    (omega (
      arith,
      coverage-append itself (adjacent part.start most n) left a,
      coverage-adjacent n part.start most a,
      rest.1,
      covers-split part.start behind end a (omega arith) from (range_at part.start (end - part.start)) (range_at part.start (n * most)) (range_at behind (end - behind)) refl
          (omega arith) refl refl refl (omega arith),
    ))

-- the last chunk ends where the part does, or 32 bytes before
abbrev EndsNear : ℕ → ℕ → Type 0
EndsNear last end = (last ≤ end) × (end ≤ last + 32)

end_of_last-remainder : (at len : ℕ) → len % 32 ≡ 0 → EndsNear (end_of_last at (remainder at len)) (at + len)
end_of_last-remainder at len whole = elim (cases_lt len 64) [
  | inl short ↦ subst (λ cs. EndsNear (end_of_last at cs) (at + len)) (sym (remainder-none at len short)) (omega arith, omega arith)
  | inr room ↦ subst (λ cs. EndsNear (end_of_last at cs) (at + len)) (sym (remainder-one at len room)) (omega arith, omega arith)
]

end_of_last-cut_most : (most : ℕ) (part : Range) → most % 32 ≡ 0 → part.len % 32 ≡ 0 → EndsNear (end_of_last part.start (cut (Some most) part)) (end_of part)
end_of_last-cut_most most part most32 whole =
    let n = part.len / most in
    let fits : n * most ≤ part.len = div-mul-le_self part.len most in
    let rest = end_of_last-remainder (part.start + n * most) (part.len - n * most) (omega (arith, whole_product most n most32)) in
    let last = end_of_last-adjacent n part.start most (remainder (part.start + n * most) (part.len - n * most)) in
    (omega (arith, rest.0), omega (arith, rest.1))

pub end_of_last-cut : (fllen : ℕ) (part : Range) → 0 < fllen → part.len % 32 ≡ 0 → EndsNear (end_of_last part.start (cut (max_pool_size fllen) part)) (end_of part)
end_of_last-cut fllen part rows whole = grind (arith, max_pool-cases, end_of_last-cut_most, most_whole, end_of_last-remainder)
