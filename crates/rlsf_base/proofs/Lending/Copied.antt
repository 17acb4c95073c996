-- What a copy leaves: the bytes there, which are here, and every other word and byte as it was.
use Rattle.std.proofs.Common.{◌≡◌, ℕ, ◌+◌, ◌-◌, ◌<◌, ◌≤◌, ◌⊎◌, [], length, drop, arith, inl, inr, ap, ◌∙◌, length-drop, length-take}
use Rattle.std.proofs.lemmas.Bool.{cases_lt}
use Rattle.std.specs.List.{splice}
use Rattle.rlsf_base.specs.declared.memory.range.Range.{Range}
use Rattle.rlsf_base.specs.Out.{here, kept_at}
use Rattle.rlsf_base.specs.Range.{end_of, LiesIn, range_at}
use Rattle.rlsf_base.specs.Space.{Space, bytes_in, out_at, word_at, word_range, with_bytes}
use Rattle.rlsf_base.specs.OpenSpace.{IsOwned, SameOwn, StaysHere, out_with}
use Rattle.rlsf_base.proofs.Changes.{back-there, back-before, back-behind}
use Rattle.rlsf_base.proofs.Lending.WordIsHere.{word_at-kept}
use Rattle.rlsf_base.proofs.Lending.Replaced.{length-with, bytes_in-with, bytes_in-there}
use Rattle.rlsf_base.proofs.Lending.Whole.{none-with}

module _ (m n : Space) (from : Range) (to : ℕ) (placed : LiesIn from m.start (length m.bytes)) (room-there : (m.start ≤ to) × (to + from.len ≤ m.start + length m.bytes))
    (start : n.start ≡ m.start)
    (bytes : n.bytes ≡ with_bytes m to (bytes_in m from)) (out : n.out ≡ out_with m (range_at to from.len)) where
  abbrev there : Range
  there = range_at to from.len

  full : length (bytes_in m from) ≡ from.len
  full = omega (arith, placed, length-take from.len (drop (from.start - m.start) m.bytes), length-drop (from.start - m.start) m.bytes)

  spliced : n.bytes ≡ splice m.bytes (to - m.start) (to - m.start + from.len) (bytes_in m from)
  spliced = bytes ∙ ap (λ k. splice m.bytes (to - m.start) (to - m.start + k) (bytes_in m from)) full

  pub length-with_bytes : length n.bytes ≡ length m.bytes
  length-with_bytes = length-with m n there (bytes_in m from) room-there full start spliced

  pub bytes_in-with_bytes : (r : Range) → m.start ≤ r.start → (end_of r ≤ to) ⊎ (to + from.len ≤ r.start) → bytes_in n r ≡ bytes_in m r
  bytes_in-with_bytes = bytes_in-with m n there (bytes_in m from) room-there full start spliced

  -- each byte of the copy is here, and what any other is stays
  pub out_at-there : (k : ℕ) → to ≤ k → k < to + from.len → out_at n k ≡ here
  out_at-there k lo hi =
      (λ i. kept_at (out i) (k - start i)) ∙ back-there m.out (to - m.start) from.len (k - m.start) (omega (arith, room-there)) (omega (arith, room-there, hi))

  pub out_at-copied : (k : ℕ) → m.start ≤ k → (k < to) ⊎ (to + from.len ≤ k) → out_at n k ≡ out_at m k
  out_at-copied k inside side = grind (arith, back-before, back-behind)

  pub none-copied : m.out ≡ [] → n.out ≡ []
  none-copied = none-with m n there out

  pub is_own-copied : IsOwned m there → SameOwn m n
  is_own-copied own k inside = grind (arith, cases_lt, out_at-copied, out_at-there)

  pub here-copied : StaysHere m n
  here-copied k inside was = grind (arith, cases_lt, out_at-copied, out_at-there)

  pub word_at-with_bytes : (a : ℕ) → m.start ≤ a → (a + 8 ≤ to) ⊎ (to + from.len ≤ a) → word_at n a ≡ word_at m a
  word_at-with_bytes a inside side =
      word_at-kept m n a start inside (bytes_in-with_bytes (word_range a) inside side)
      (λ k lo hi. out_at-copied k (omega arith) (elim side [ inl before ↦ inl (omega (arith, before)) | inr past ↦ inr (omega (arith, past)) ]))

  -- the copy is what was copied
  pub bytes_in-copied : bytes_in n there ≡ bytes_in m from
  bytes_in-copied = bytes_in-there m n there (bytes_in m from) room-there full start spliced
