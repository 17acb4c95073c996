-- Bytes in the place of others: they are there, and every other word and byte is as it was.
use Rattle.std.proofs.Common.{◌≡◌, ℕ, ◌+◌, ◌-◌, ◌≤◌, ◌⊎◌, List, length, take, drop, slice_index, arith, sym, ap, ◌∙◌, get_or-take}
use Rattle.std.proofs.Common.{get_or-drop}
use Rattle.std.specs.List.{splice}
use Rattle.rlsf_base.specs.declared.memory.range.Range.{Range}
use Rattle.rlsf_base.specs.Range.{end_of, LiesIn}
use Rattle.rlsf_base.specs.Space.{Space, byte_at, byte_range, bytes_in}
use Rattle.rlsf_base.proofs.Words.Splices.{length-splice, splice-inside, splice-before, splice-after}

-- the bytes ys are in the place of those of the range p
module _ (m n : Space) (p : Range) (ys : List ℕ) (placed : LiesIn p m.start (length m.bytes)) (full : length ys ≡ p.len) (start : n.start ≡ m.start)
    (bytes : n.bytes ≡ splice m.bytes (p.start - m.start) (p.start - m.start + p.len) ys) where
  room : p.start - m.start + p.len ≤ length m.bytes
  room = omega (arith, placed)

  pub length-with : length n.bytes ≡ length m.bytes
  length-with = ap length bytes ∙ length-splice m.bytes ys (p.start - m.start) p.len room full

  pub bytes_in-with : (r : Range) → m.start ≤ r.start → (end_of r ≤ p.start) ⊎ (end_of p ≤ r.start) → bytes_in n r ≡ bytes_in m r
  bytes_in-with r inside side = grind (arith, splice-before, room, splice-after)

  pub bytes_in-there : bytes_in n p ≡ ys
  bytes_in-there = (λ i. take p.len (drop (p.start - start i) (bytes i))) ∙ splice-inside m.bytes ys (p.start - m.start) p.len room full

-- ---- a byte is a range of one byte

byte_at-bytes_in : (m : Space) (a : ℕ) → byte_at m a ≡ slice_index (bytes_in m (byte_range a)) 0
byte_at-bytes_in m a =
    let i = a - m.start in
    sym (get_or-take 1 (drop i m.bytes) 0 0 (omega arith) ∙ get_or-drop i m.bytes 0 0 ∙ ap (λ k. slice_index m.bytes k) (omega arith))

pub byte_at-same : (m n : Space) (a : ℕ) → bytes_in n (byte_range a) ≡ bytes_in m (byte_range a) → byte_at n a ≡ byte_at m a
byte_at-same m n a same = byte_at-bytes_in n a ∙ ap (λ bs. slice_index bs 0) same ∙ sym (byte_at-bytes_in m a)
