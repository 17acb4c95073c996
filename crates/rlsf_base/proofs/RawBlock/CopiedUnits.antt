-- Units of bytes that are copied one after the other: how far the copy has come.
use Rattle.std.proofs.Common.{◌≡◌, ℕ, ◌+◌, ◌-◌, ◌≤◌, ◌⊎◌, ◌∙◌, ap, arith, drop, inl, inr, length, take}
use Rattle.std.specs.List.{splice}
use Rattle.rlsf_base.specs.declared.memory.block.Bytes.{Bytes}
use Rattle.rlsf_base.specs.Out.{is_own, kept_at}
use Rattle.rlsf_base.specs.Changes.{AreBytesHere, IsOwn, came_back}
use Rattle.rlsf_base.specs.Steps.Fronts.{HasCopied}
use Rattle.rlsf_base.specs.Steps.Owners.{Becomes, Has, HasHere, HasOwn, values_in, changes_with, values_with}
use Rattle.rlsf_base.proofs.Changes.{back-then, here-back}
use Rattle.rlsf_base.proofs.RawBlock.Copies.{copied-more}
use Rattle.rlsf_base.proofs.RawBlock.Fills.{own-written}
use Rattle.rlsf_base.proofs.Words.Splices.{length-part, length-splice}

module _ (d : Bytes) (from to len : ℕ) (first : Has d from len) (second : Has d to len) (here : AreBytesHere d.out (from - d.skip) len) (own : IsOwn d.out (to - d.skip) len)
    (b : Bytes) (i : ℕ) (room : i + 16 ≤ len) (so_far : HasCopied d b from to i) where
  long : length b.bytes ≡ length d.bytes
  long =
      let part = take i (drop (from - d.skip) d.bytes) in
      let full : length part ≡ i = length-part i (from - d.skip) d.bytes (omega (arith, first, room)) in
      ap length so_far.0.2 ∙ length-splice d.bytes part (to - d.skip) i (omega (arith, second, room)) full

  -- the next unit can be read
  pub next-here : HasHere b (from + i) 16
  next-here = (
    (omega (arith, so_far.0.1, first), omega (arith, so_far.0.1, long, first, room)),
    λ k lo hi. so_far.1 k
        ∙ here-back d.out (to - d.skip) i (from - d.skip) len here k (omega (arith, lo, so_far.0.1, first)) (omega (arith, hi, so_far.0.1, first, room)),
  )

  -- and written
  pub next-own : HasOwn b (to + i) 16
  next-own = (
    (omega (arith, so_far.0.1, second), omega (arith, so_far.0.1, long, second, room)),
    λ k lo hi. ap is_own (so_far.1 k)
        ∙ own-written d.out (to - d.skip) i (to - d.skip) len own k (omega (arith, lo, so_far.0.1, second)) (omega (arith, hi, so_far.0.1, second, room)),
  )

  -- once it is, the copy has come as far as there
  pub one_further : (n : Bytes) → (from + len ≤ to) ⊎ (to ≤ from)
      → Becomes b n (values_with b (to + i) 16 (values_in b (from + i) 16)) (changes_with b (to + i) 16) → HasCopied d n from to (i + 16)
  one_further n order e =
      let at = to - d.skip in let start = from - d.skip in
      let there : to + i - b.skip ≡ at + i = omega (arith, so_far.0.1, second) in
      let source : from + i - b.skip ≡ start + i = omega (arith, so_far.0.1, first) in
      let side : (start + (i + 16) ≤ at) ⊎ (at ≤ start) = elim order [
        | inl below ↦ inl (omega (arith, below, first, second, room))
        | inr above ↦ inr (omega (arith, above))
      ] in
      let bytes = e.0.2 ∙ (λ j. splice b.bytes (there j) (there j + 16) (take 16 (drop (source j) b.bytes)))
      ∙ copied-more d.bytes b.bytes at start i 16 (omega (arith, second, room)) (omega (arith, first, room)) side so_far.0.2 in (
        (e.0.0 ∙ so_far.0.0, e.0.1 ∙ so_far.0.1, bytes, e.0.3 ∙ so_far.0.3, e.0.4 ∙ so_far.0.4),
        λ k. ap (λ cs. kept_at cs k) e.1 ∙ (λ j. kept_at (came_back (there j) 16 b.out) k) ∙ back-then d.out b.out at i 16 so_far.1 k,
      )
