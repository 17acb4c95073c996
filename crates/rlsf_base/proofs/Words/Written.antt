-- What a written word leaves: it reads back, and every other word and byte is as it was.
use Rattle.std.proofs.Common.{◌≡◌, ◌≢◌, ℕ, ◌+◌, ◌-◌, ◌%◌, ◌^◌, ◌<◌, ◌≤◌, ◌⊎◌, [], length, take, drop, arith, inl, inr, refl}
use Rattle.std.proofs.Common.{◌∙◌, ap}
use Rattle.std.proofs.lemmas.Bool.{cases_lt}
use Rattle.std.proofs.lemmas.Nat.{from_le_bytes-to_le_bytes_8}
use Rattle.std.specs.Int.{w64, from_le_bytes, to_le_bytes}
use Rattle.rlsf_base.specs.declared.memory.range.Range.{Range}
use Rattle.rlsf_base.specs.Range.{end_of}
use Rattle.rlsf_base.specs.Out.{here, is_own, kept_at}
use Rattle.rlsf_base.specs.Space.{Space, bytes_in, word_range, out_at, word_at, with_word}
use Rattle.rlsf_base.specs.OpenSpace.{IsWritable, out_with}
use Rattle.rlsf_base.proofs.Lending.WordIsHere.{word_at-is, word_at-kept}
use Rattle.rlsf_base.proofs.Changes.{back-there, back-before, back-behind, back-none}
use Rattle.rlsf_base.proofs.Words.Splices.{length-splice, splice-inside, splice-before, splice-after}

module _ (m n : Space) (addr word : ℕ) (placed : IsWritable m addr) (start : n.start ≡ m.start) (bytes : n.bytes ≡ with_word m addr word)
    (out : n.out ≡ out_with m (word_range addr)) where
  room : addr - m.start + 8 ≤ length m.bytes
  room = omega (arith, placed.1)

  pub length-with_word : length n.bytes ≡ length m.bytes
  length-with_word = ap length bytes ∙ length-splice m.bytes (to_le_bytes w64 word) (addr - m.start) 8 room refl

  -- the bytes of a range that the word doesn't touch
  pub bytes_in-with_word : (r : Range) → m.start ≤ r.start → (end_of r ≤ addr) ⊎ (addr + 8 ≤ r.start) → bytes_in n r ≡ bytes_in m r
  bytes_in-with_word r inside side =
      let place : r.start - n.start ≡ r.start - m.start = ap (λ s. r.start - s) start in
      ap (λ i. take r.len (drop i n.bytes)) place ∙ ap (λ bs. take r.len (drop (r.start - m.start) bs)) bytes ∙ elim side [
        | inl before ↦ splice-before m.bytes (to_le_bytes w64 word) (addr - m.start) 8 room refl (r.start - m.start) r.len (omega (arith, placed.1))
        | inr after ↦ ap (take r.len) (splice-after m.bytes (to_le_bytes w64 word) (addr - m.start) 8 room refl (r.start - m.start) (omega (arith, placed.1)))
      ]

  -- each byte of the word is here, and every other as it was
  pub out_at-there : (k : ℕ) → addr ≤ k → k < addr + 8 → out_at n k ≡ here
  out_at-there k lo hi = (λ i. kept_at (out i) (k - start i)) ∙ back-there m.out (addr - m.start) 8 (k - m.start) (omega (arith, placed.1)) (omega (arith, placed.1, hi))

  pub out_at-other : (k : ℕ) → m.start ≤ k → (k < addr) ⊎ (addr + 8 ≤ k) → out_at n k ≡ out_at m k
  out_at-other k inside side = (λ i. kept_at (out i) (k - start i)) ∙ elim side [
    | inl before ↦ back-before m.out (addr - m.start) 8 (k - m.start) (omega (arith, placed.1, inside))
    | inr past ↦ back-behind m.out (addr - m.start) 8 (k - m.start) (omega (arith, placed.1, inside))
  ]

  -- and where nothing is out, nothing is
  pub none-written : m.out ≡ [] → n.out ≡ []
  none-written none = out ∙ back-none m.out (addr - m.start) 8 none

  -- and those that were the memory's own still are
  pub is_own-written : (k : ℕ) → m.start ≤ k → is_own (out_at n k) ≡ is_own (out_at m k)
  is_own-written k inside = grind (arith, cases_lt, out_at-other, out_at-there)

  -- and what was here still is
  pub here-written : (k : ℕ) → m.start ≤ k → out_at m k ≡ here → out_at n k ≡ here
  here-written k inside was = grind (arith, cases_lt, out_at-other, out_at-there)

  -- the word reads back
  pub word_at-same : word < 2 ^ 64 → word_at n addr ≡ word
  word_at-same fits =
      let place : addr - n.start ≡ addr - m.start = ap (λ s. addr - s) start in
      word_at-is n addr (omega (arith, start, placed.1)) out_at-there ∙
      ap (from_le_bytes w64) (ap (λ i. take 8 (drop i n.bytes)) place ∙ ap (λ bs. take 8 (drop (addr - m.start) bs)) bytes
      ∙ splice-inside m.bytes (to_le_bytes w64 word) (addr - m.start) 8 room refl)
      ∙ from_le_bytes-to_le_bytes_8 word fits

  -- every other word is as it was
  pub word_at-other : (a : ℕ) → a % 8 ≡ 0 → m.start ≤ a → a ≢ addr → word_at n a ≡ word_at m a
  word_at-other a whole inside apart =
      let side : (a + 8 ≤ addr) ⊎ (addr + 8 ≤ a) = elim (cases_lt a addr) [ inl below ↦ inl (omega (arith, placed.0)) | inr above ↦ inr (omega (arith, placed.0)) ] in
      word_at-kept m n a start inside (bytes_in-with_word (word_range a) inside side)
      (λ k lo hi. out_at-other k (omega arith) (elim side [ inl below ↦ inl (omega (arith, below)) | inr above ↦ inr (omega (arith, above)) ]))
