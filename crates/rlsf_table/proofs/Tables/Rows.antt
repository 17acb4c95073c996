-- The words of a table's rows: those of rows of 64 places or fewer, and those of longer rows.
use Rattle.std.proofs.Common.{◌≡◌, ◌≢◌, ℕ, ◌-◌, ◌*◌, ◌%◌, ◌^◌, ◌<◌, ◌≤◌, bit_and, bit_or, ◌==◌, false, ◌||◌, List, Some, None}
use Rattle.std.proofs.Common.{slice_index, slice_set, length, get_or-set_same, nat_le, arith, inl, inr, ◌∙◌, ap, sym, subst, ◌+◌, suc}
use Rattle.std.specs.Int.{Width, w64, w128, trailing_zeros}
use mir.Val.{bits}
use Rattle.std.specs.Int.Count.{trailing_of_zero}
use Rattle.std.proofs.lemmas.Bool.{cases_lt, cond-true, cond-false, le-leb, lt-leb}
use Rattle.std.proofs.lemmas.List.FromFn.{get_or-map-range_with_len, length-map-range_with_len}
use Rattle.std.proofs.lemmas.Nat.Bits.{bit_at-trailing_zeros}
use Rattle.std.proofs.lemmas.Nat.{and_le_l, and_le_r}
use Rattle.std.proofs.Math.Nat.{add-mul-mod_self_right, pow-suc}
use Rattle.rlsf_base.specs.SearchStart.{CanBegin}
use Rattle.rlsf_int.specs.Bits.{bit, IsFirstOne}
use Rattle.rlsf_int.proofs.Unsigned as unsigned
use Rattle.rlsf_table.specs.Steps.Places.{joined, row_word, row_words, scanned_places, IsFirstPlaceFrom}
use Rattle.rlsf_table.proofs.Tables.Bits.{bit-cleared, bit-kept}
use Rattle.rlsf_table.proofs.Tables.Search.{scanned_places-few, scanned_places-many}

-- the word of a row is one, or both
pub row_word-few : (sllen : ℕ) (low high : List ℕ) (fl : ℕ) → sllen ≤ 64 → row_word sllen low high fl ≡ slice_index low fl
row_word-few sllen low high fl few = cond-true (nat_le sllen 64) (slice_index low fl) (joined (slice_index low fl) (slice_index high fl)) (le-leb sllen 64 few)

pub row_word-many : (sllen : ℕ) (low high : List ℕ) (fl : ℕ) → 64 < sllen → row_word sllen low high fl ≡ joined (slice_index low fl) (slice_index high fl)
row_word-many sllen low high fl many = cond-false (nat_le sllen 64) (slice_index low fl) (joined (slice_index low fl) (slice_index high fl)) (lt-leb sllen 64 many)

-- the rows have their words, and there are as many
pub row_words-at : (fllen sllen : ℕ) (low high : List ℕ) (fl : ℕ) → fl < fllen → slice_index (row_words fllen sllen low high) fl ≡ row_word sllen low high fl
row_words-at fllen sllen low high fl within = get_or-map-range_with_len (row_word sllen low high) 0 fllen fl fl 0 within (omega arith)

pub row_words-length : (fllen sllen : ℕ) (low high : List ℕ) → length (row_words fllen sllen low high) ≡ fllen
row_words-length fllen sllen low high = length-map-range_with_len (row_word sllen low high) 0 fllen

-- what is known of the words of a row before and after, is known of the row
module _ (fllen sllen : ℕ) (low high low2 high2 : List ℕ) (fl : ℕ) (within : fl < fllen) where
  pub rows-bit_set : (k sl : ℕ) → bit (row_word sllen low2 high2 fl) k ≡ (bit (row_word sllen low high fl) k || k == sl)
      → bit (slice_index (row_words fllen sllen low2 high2) fl) k ≡ (bit (slice_index (row_words fllen sllen low high) fl) k || k == sl)
  rows-bit_set k sl set =
      ap (λ n. bit n k) (row_words-at fllen sllen low2 high2 fl within) ∙ set ∙ ap (λ n. bit n k || k == sl) (sym (row_words-at fllen sllen low high fl within))

  pub rows-bit_same : (k : ℕ) → bit (row_word sllen low2 high2 fl) k ≡ bit (row_word sllen low high fl) k
      → bit (slice_index (row_words fllen sllen low2 high2) fl) k ≡ bit (slice_index (row_words fllen sllen low high) fl) k
  rows-bit_same k same = ap (λ n. bit n k) (row_words-at fllen sllen low2 high2 fl within) ∙ same ∙ ap (λ n. bit n k) (sym (row_words-at fllen sllen low high fl within))

  pub rows-same : row_word sllen low2 high2 fl ≡ row_word sllen low high fl
      → slice_index (row_words fllen sllen low2 high2) fl ≡ slice_index (row_words fllen sllen low high) fl
  rows-same same = row_words-at fllen sllen low2 high2 fl within ∙ same ∙ sym (row_words-at fllen sllen low high fl within)

-- a scan of a row's word is one of the row
pub IsFirstOne-row : (fllen sllen : ℕ) (low high : List ℕ) (fl : ℕ) → fl < fllen → {width start place : ℕ} → IsFirstOne width (row_word sllen low high fl) start place
    → IsFirstOne width (slice_index (row_words fllen sllen low high) fl) start place
IsFirstOne-row fllen sllen low high fl within {width} {start} {place} scan = subst (λ n. IsFirstOne width n start place) (sym (row_words-at fllen sllen low high fl within)) scan

-- a word with one less, `n & !(1 << i)`: none is there, and the others stay
module _ (w : Width) (n i : ℕ) (fits : n < 2 ^ bits w) (within : i < bits w) where
  pub bit-without : bit (bit_and n (2 ^ bits w - 1 - 1 * 2 ^ i % 2 ^ bits w)) i ≡ false
  bit-without = bit-cleared _ (bit n i) i (unsigned.bit-clear w n i fits within i)

  pub bit-without_other : (k : ℕ) → k ≢ i → bit (bit_and n (2 ^ bits w - 1 - 1 * 2 ^ i % 2 ^ bits w)) k ≡ bit n k
  bit-without_other k apart = bit-kept _ (bit n k) i k apart (unsigned.bit-clear w n i fits within k)

-- no one is found exactly in the word 0
trailing-none : (w : Width) (n : ℕ) → n ≡ 0 → trailing_zeros w n ≡ bits w
trailing-none w n none = ap (trailing_zeros w) none ∙ trailing_of_zero (bits w)

trailing-some : (w : Width) (n : ℕ) → n ≢ 0 → n < 2 ^ bits w → trailing_zeros w n < bits w
trailing-some w n some fits = (bit_at-trailing_zeros w n (omega arith) fits).0

-- ---- rows of one word

-- a search of them begins at a position of the word
pub CanBegin-word : (places start : ℕ) → places ≤ 64 → CanBegin places start → start < 64
CanBegin-word places start few (inl within) = omega arith
CanBegin-word places start few (inr behind) = omega (arith, behind.0, behind.1)

module _ (sllen : ℕ) (low high : List ℕ) (fl : ℕ) (few : sllen ≤ 64) where
  -- a one is put at a place
  pub inserted-few : (place : ℕ) → place < 64 → fl < length low → (k : ℕ)
      → bit (row_word sllen (slice_set low fl (bit_or (slice_index low fl) (1 * 2 ^ place % 2 ^ 64))) high fl) k ≡ (bit (row_word sllen low high fl) k || k == place)
  inserted-few place below within k =
      ap (λ n. bit n k) (row_word-few sllen _ high fl few ∙ get_or-set_same low fl _ 0 within) ∙ unsigned.bit-set w64 (slice_index low fl) place below k
      ∙ ap (λ n. bit n k || k == place) (sym (row_word-few sllen low high fl few))

  module _ (fits : slice_index low fl < 2 ^ 64) where
    -- and taken away
    module _ (place : ℕ) (below : place < 64) (within : fl < length low) where
      pub removed-few : bit (row_word sllen (slice_set low fl (bit_and (slice_index low fl) (2 ^ 64 - 1 - 1 * 2 ^ place % 2 ^ 64))) high fl) place ≡ false
      removed-few = ap (λ n. bit n place) (row_word-few sllen _ high fl few ∙ get_or-set_same low fl _ 0 within) ∙ bit-without w64 (slice_index low fl) place fits below

      pub kept-few : (k : ℕ) → k ≢ place
          → bit (row_word sllen (slice_set low fl (bit_and (slice_index low fl) (2 ^ 64 - 1 - 1 * 2 ^ place % 2 ^ 64))) high fl) k ≡ bit (row_word sllen low high fl) k
      kept-few k apart =
          ap (λ n. bit n k) (row_word-few sllen _ high fl few ∙ get_or-set_same low fl _ 0 within) ∙ bit-without_other w64 (slice_index low fl) place fits below k apart
          ∙ ap (λ n. bit n k) (sym (row_word-few sllen low high fl few))

    -- the scan of the word is one of the row
    scanned-few : (start place : ℕ) → IsFirstOne 64 (slice_index low fl) start place → IsFirstOne (scanned_places sllen) (row_word sllen low high fl) start place
    scanned-few start place scan =
        subst (λ n. IsFirstOne (scanned_places sllen) n start place) (sym (row_word-few sllen low high fl few))
        (subst (λ w. IsFirstOne w (slice_index low fl) start place) (sym (scanned_places-few sllen few)) scan)

    pub first-few : IsFirstOne (scanned_places sllen) (row_word sllen low high fl) 0 (trailing_zeros w64 (slice_index low fl))
    first-few = scanned-few 0 _ (unsigned.first_from_0 w64 (slice_index low fl) fits)

    module _ (start : ℕ) (from : start < 64) where
      scan : IsFirstOne (scanned_places sllen) (row_word sllen low high fl) start (trailing_zeros w64 (bit_and (slice_index low fl) ((2 ^ 64 - 1) * 2 ^ start % 2 ^ 64)))
      scan = scanned-few start _ (unsigned.first_one w64 (slice_index low fl) start fits from)

      pub first_from-few : bit_and (slice_index low fl) ((2 ^ 64 - 1) * 2 ^ start % 2 ^ 64) ≢ 0
          → IsFirstPlaceFrom sllen (row_word sllen low high fl) start (Some (trailing_zeros w64 (bit_and (slice_index low fl) ((2 ^ 64 - 1) * 2 ^ start % 2 ^ 64))))
      first_from-few some =
          let below =
          trailing-some w64 (bit_and (slice_index low fl) ((2 ^ 64 - 1) * 2 ^ start % 2 ^ 64)) some
          (omega (arith, and_le_l (slice_index low fl) ((2 ^ 64 - 1) * 2 ^ start % 2 ^ 64))) in
          (omega (arith, below, scanned_places-few sllen few), scan)

      pub first_from-few_none : bit_and (slice_index low fl) ((2 ^ 64 - 1) * 2 ^ start % 2 ^ 64) ≡ 0 → IsFirstPlaceFrom sllen (row_word sllen low high fl) start None
      first_from-few_none none =
          subst (λ place. IsFirstOne (scanned_places sllen) (row_word sllen low high fl) start place) (trailing-none w64 _ none ∙ sym (scanned_places-few sllen few)) scan

    -- behind a place, the ones are masked by all ones but the lowest, moved up to it
    module _ (place : ℕ) (below : place < 64) where
      mask : (2 ^ 64 - 2) * 2 ^ place % 2 ^ 64 ≡ (2 ^ 64 - 1) * 2 ^ (place + 1) % 2 ^ 64
      mask =
          let next : place + 1 ≡ suc place = omega arith in
          let double : 2 ^ (place + 1) ≡ 2 * 2 ^ place = ap (λ n. 2 ^ n) next ∙ omega (arith, pow-suc 2 place) in
          sym (add-mul-mod_self_right ((2 ^ 64 - 2) * 2 ^ place) (2 ^ place) (2 ^ 64)) ∙ ap (λ n. n % 2 ^ 64) (omega (arith, double))

      last : place ≡ 63 → bit_and (slice_index low fl) ((2 ^ 64 - 2) * 2 ^ place % 2 ^ 64) ≡ 0
      last is = ap (λ p. bit_and (slice_index low fl) ((2 ^ 64 - 2) * 2 ^ p % 2 ^ 64)) is ∙ omega (arith, and_le_r (slice_index low fl) 0)

      scan_behind : IsFirstOne (scanned_places sllen) (row_word sllen low high fl) (place + 1)
          (trailing_zeros w64 (bit_and (slice_index low fl) ((2 ^ 64 - 2) * 2 ^ place % 2 ^ 64)))
      scan_behind = elim (cases_lt place 63) [
        | inl less ↦
            subst (λ m. IsFirstOne (scanned_places sllen) (row_word sllen low high fl) (place + 1) (trailing_zeros w64 (bit_and (slice_index low fl) m))) (sym mask)
            (scanned-few (place + 1) _ (unsigned.first_one w64 (slice_index low fl) (place + 1) fits (omega arith)))
        | inr most ↦
            let is : place ≡ 63 = omega arith in
            let all = scanned_places-few sllen few in
            subst (λ a. IsFirstOne (scanned_places sllen) (row_word sllen low high fl) (place + 1) a) (sym (trailing-none w64 _ (last is)))
            (record { none_before = λ i lo hi. absurd (omega (arith, lo, hi)); within = omega (arith, all); found = λ less. absurd (omega (arith, less, all)) })
      ]

      pub behind-few : bit_and (slice_index low fl) ((2 ^ 64 - 2) * 2 ^ place % 2 ^ 64) ≢ 0
          → IsFirstPlaceFrom sllen (row_word sllen low high fl) (place + 1) (Some (trailing_zeros w64 (bit_and (slice_index low fl) ((2 ^ 64 - 2) * 2 ^ place % 2 ^ 64))))
      behind-few some =
          let word = bit_and (slice_index low fl) ((2 ^ 64 - 2) * 2 ^ place % 2 ^ 64) in
          let less = trailing-some w64 word some (omega (arith, and_le_l (slice_index low fl) ((2 ^ 64 - 2) * 2 ^ place % 2 ^ 64))) in
          (omega (arith, less, scanned_places-few sllen few), scan_behind)

      pub behind-few_none : bit_and (slice_index low fl) ((2 ^ 64 - 2) * 2 ^ place % 2 ^ 64) ≡ 0 → IsFirstPlaceFrom sllen (row_word sllen low high fl) (place + 1) None
      behind-few_none none =
          subst (λ a. IsFirstOne (scanned_places sllen) (row_word sllen low high fl) (place + 1) a) (trailing-none w64 _ none ∙ sym (scanned_places-few sllen few)) scan_behind

-- ---- rows of two words, which are `word` as one

module _ (sllen : ℕ) (low high : List ℕ) (fl : ℕ) (many : 64 < sllen) (word : ℕ) (is : word ≡ joined (slice_index low fl) (slice_index high fl)) where
  module _ (low2 high2 : List ℕ) (place : ℕ) (below : place < 128) where
    -- a one is put at a place
    pub inserted-many : joined (slice_index low2 fl) (slice_index high2 fl) ≡ bit_or word (1 * 2 ^ place % 2 ^ 128) → (k : ℕ)
        → bit (row_word sllen low2 high2 fl) k ≡ (bit (row_word sllen low high fl) k || k == place)
    inserted-many set k =
        ap (λ n. bit n k) (row_word-many sllen low2 high2 fl many ∙ set) ∙ unsigned.bit-set w128 word place below k
        ∙ ap (λ n. bit n k || k == place) (is ∙ sym (row_word-many sllen low high fl many))

    -- and taken away
    module _ (fits : word < 2 ^ 128) (set : joined (slice_index low2 fl) (slice_index high2 fl) ≡ bit_and word (2 ^ 128 - 1 - 1 * 2 ^ place % 2 ^ 128)) where
      pub removed-many : bit (row_word sllen low2 high2 fl) place ≡ false
      removed-many = ap (λ n. bit n place) (row_word-many sllen low2 high2 fl many ∙ set) ∙ bit-without w128 word place fits below

      pub kept-many : (k : ℕ) → k ≢ place → bit (row_word sllen low2 high2 fl) k ≡ bit (row_word sllen low high fl) k
      kept-many k apart =
          ap (λ n. bit n k) (row_word-many sllen low2 high2 fl many ∙ set) ∙ bit-without_other w128 word place fits below k apart
          ∙ ap (λ n. bit n k) (is ∙ sym (row_word-many sllen low high fl many))

  -- the scan of them is one of the row
  pub first-many : word < 2 ^ 128 → IsFirstOne (scanned_places sllen) (row_word sllen low high fl) 0 (trailing_zeros w128 word)
  first-many fits =
      subst (λ n. IsFirstOne (scanned_places sllen) n 0 (trailing_zeros w128 word)) (is ∙ sym (row_word-many sllen low high fl many))
      (subst (λ w. IsFirstOne w word 0 (trailing_zeros w128 word)) (sym (scanned_places-many sllen many)) (unsigned.first_from_0 w128 word fits))
