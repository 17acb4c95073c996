-- What is left through a lent range, whatever that is: the bytes there, and every other byte as it was.
use Rattle.std.proofs.Common.{◌≡◌, ℕ, ◌-◌, ◌≤◌, ◌⊎◌, List, length, drop, arith, refl, ◌∙◌, length-append, length-drop, length-take, take_at}
use Rattle.std.specs.List.{refill}
use Rattle.rlsf_base.specs.declared.memory.range.Range.{Range}
use Rattle.rlsf_base.specs.Range.{end_of, LiesIn}
use Rattle.rlsf_base.specs.Space.{Space, bytes_in}
use Rattle.rlsf_base.specs.Lends.{lent_space}
use Rattle.rlsf_base.proofs.Lending.Replaced.{length-with, bytes_in-with, bytes_in-there}

module _ (m : Space) (p : Range) (w : List ℕ) (placed : LiesIn p m.start (length m.bytes)) where
  abbrev old : List ℕ
  old = drop (p.start - m.start) m.bytes

  abbrev left : Space
  left = lent_space m p.start p.len w

  filled : length (refill p.len old w) ≡ p.len
  filled = grind (arith, length-take, old, length-append, length-drop)

  pub length-lent_space : length left.bytes ≡ length m.bytes
  length-lent_space = length-with m left p (refill p.len old w) placed filled refl refl

  pub bytes_in-lent_space : (r : Range) → m.start ≤ r.start → (end_of r ≤ p.start) ⊎ (end_of p ≤ r.start) → bytes_in left r ≡ bytes_in m r
  bytes_in-lent_space = bytes_in-with m left p (refill p.len old w) placed filled refl refl

  -- as many bytes as were lent are what was left
  pub bytes_in-lent : length w ≡ p.len → bytes_in left p ≡ w
  bytes_in-lent long = bytes_in-there m left p (refill p.len old w) placed filled refl refl ∙ take_at w (drop (length w) old) p.len long
