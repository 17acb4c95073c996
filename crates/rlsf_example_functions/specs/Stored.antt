-- Many payloads that were filled with their indices.
use Rattle.std.specs.Prelude.{◌≡◌, ℕ, ◌<◌, ◌%◌, List, length, replicate, slice_index_or}
use Rattle.std.specs.declared.num.NonZeroUsize.{NonZeroUsize}
use Rattle.rlsf.specs.Words.{State, at, bytes_at}

-- each of the first `count` payloads is full of the low byte of its index
unfoldable pub AreNumbered : State → List NonZeroUsize → ℕ → Type 0
AreNumbered s addrs count =
    (k : ℕ) (a : NonZeroUsize) → k < count → a ≡ slice_index_or addrs k a → bytes_at s (at a) ≡ replicate (length (bytes_at s (at a))) (k % 256)
