-- Payloads that are filled with their indices, one after another, and read back.
use Rattle.std.proofs.Common.{◌≡◌, ◌≢◌, ℕ, zero, suc, ◌+◌, ◌<◌, ◌%◌, List, Some, length, get_or, replicate, sym, ◌∙◌, ap, subst, arith, slice_get, below_more}
use Rattle.std.proofs.lemmas.List.{get_or_default}
use Rattle.std.specs.declared.num.NonZeroUsize.{NonZeroUsize}
use Rattle.rlsf.specs.Live.{AreLive, live_apart}
use Rattle.rlsf.specs.Words.{State, at, bytes_at}
use Rattle.rlsf_example_functions.specs.Stored.{AreNumbered}

-- the payload with the index k is full of it
abbrev IsNumbered : State → List NonZeroUsize → ℕ → Type 0
IsNumbered s addrs k = (b : NonZeroUsize) → b ≡ get_or addrs k b → bytes_at s (at b) ≡ replicate (length (bytes_at s (at b))) (k % 256)

pub numbered_none : (s : State) (addrs : List NonZeroUsize) → AreNumbered s addrs 0
unfolding AreNumbered
numbered_none s addrs k a below is = absurd (omega arith)

-- one more payload is filled
pub numbered_more : (s t : State) (align : ℕ) (addrs : List NonZeroUsize) (i n : ℕ) (a : NonZeroUsize) → AreNumbered s addrs i → AreLive s align addrs
    → i < length addrs → a ≡ get_or addrs i a → bytes_at t (at a) ≡ replicate n (i % 256)
    → length (bytes_at t (at a)) ≡ n → ((b : ℕ) → b ≢ at a → bytes_at t b ≡ bytes_at s b) → AreNumbered t addrs (i + 1)
unfolding AreNumbered
numbered_more s t align addrs i n a before live below is filled long others k b low = below_more (IsNumbered t addrs) i there here k low b
  where
    there : (k : ℕ) → k < i → IsNumbered t addrs k
    there k less b at_k =
        let same : bytes_at t (at b) ≡ bytes_at s (at b) = others (at b) (live_apart s align addrs k i b a live (omega arith) below (omega arith) at_k is) in
        subst (λ (bytes : List ℕ). bytes ≡ replicate (length bytes) (k % 256)) (sym same) (before k b less at_k)

    here : IsNumbered t addrs i
    here b at_i =
        let same : b ≡ a = at_i ∙ get_or_default addrs i b a below ∙ sym is in
        subst (λ (c : NonZeroUsize). bytes_at t (at c) ≡ replicate (length (bytes_at t (at c))) (i % 256)) (sym same) (filled ∙ ap (λ m. replicate m (i % 256)) (sym long))

-- the first byte of a list of one byte
first_of : (n v byte : ℕ) → slice_get (replicate n v) 0 ≡ Some byte → byte ≡ v
first_of zero v byte found = absurd (cc)
first_of (suc n) v byte found = cc

-- a payload is read back
pub numbered_byte : (s : State) (addrs : List NonZeroUsize) (count k byte : ℕ) (a : NonZeroUsize) → AreNumbered s addrs count → k < count → a ≡ get_or addrs k a
    → slice_get (bytes_at s (at a)) 0 ≡ Some byte → byte ≡ k % 256
unfolding AreNumbered
numbered_byte s addrs count k byte a numbered below is found =
    first_of (length (bytes_at s (at a))) (k % 256) byte (subst (λ (bytes : List ℕ). slice_get bytes 0 ≡ Some byte) (numbered k a below is) found)
