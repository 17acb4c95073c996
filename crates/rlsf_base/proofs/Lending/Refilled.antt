-- Bytes that were lent as a whole: there are as many as before, and they are those that were left.
use Rattle.std.proofs.Common.{◌≡◌, ℕ, List, ◌++◌, length, drop, arith, length-append, length-drop, length-take}
use Rattle.std.proofs.Math.Seq.{take-append_seam, take-length}
use Rattle.std.specs.List.{refill}
use Rattle.rlsf_base.specs.Lends.{refilled}
use Rattle.rlsf_base.specs.Changes.{AreBytesHere}
use Rattle.rlsf_base.specs.Out.{Change}
use Rattle.rlsf_base.proofs.Words.Splices.{length-splice, splice-inside}

module _ (old w : List ℕ) where
  whole : length (refill (length old) old w) ≡ length old
  whole = omega (arith, length-take (length old) (w ++ drop (length w) old), length-append w (drop (length w) old), length-drop (length w) old)

  pub refilled-long : length (refilled old 0 (length old) w) ≡ length old
  refilled-long = length-splice old (refill (length old) old w) 0 (length old) (omega arith) whole

  pub refilled-left : length w ≡ length old → refilled old 0 (length old) w ≡ w
  refilled-left long = grind (arith, take-length, refilled-long, splice-inside, whole, take-append_seam)

  pub refilled-here : (cs : List Change) → AreBytesHere cs 0 (length old) → AreBytesHere cs 0 (length (refilled old 0 (length old) w))
  refilled-here cs here k lo hi = here k lo (omega (arith, hi, refilled-long))
