-- A word is a number below 2 ^ 64 exactly where its bytes are here.
use Rattle.std.proofs.Common.{◌≡◌, ℕ, zero, suc, ◌+◌, ◌-◌, ◌^◌, ◌<◌, ◌≤◌, Bool, true, false, List, ap, refl, ◌∙◌, arith, w64}
use mathlib.Core.Path.{ap₂}
use Rattle.std.specs.Prelude.{◌&&◌, if◌then◌else◌}
use Rattle.std.specs.Int.{from_le_bytes}
use Rattle.rlsf_base.specs.Out.{Change, is_here, all_here, kept_at}
use Rattle.rlsf_base.specs.Space.{Space, bytes_in, out_at, word_at, word_range}
use Rattle.rlsf_base.specs.OpenSpace.{IsHere, IsWritable, IsReadable}
use Rattle.rlsf_base.proofs.Changes.{all-of, of-all}
use Rattle.rlsf_base.proofs.Lending.Present.{here-in}

same-all : (cs ds : List Change) (i j n : ℕ) → ((k : ℕ) → k < n → kept_at cs (i + k) ≡ kept_at ds (j + k)) → all_here cs i n ≡ all_here ds j n
same-all cs ds i j zero h = refl
same-all cs ds i j (suc n) h =
    let first : kept_at cs i ≡ kept_at ds j =
    (λ k. kept_at cs (let e : i ≡ i + 0 = omega arith in e k)) ∙ h 0 (omega arith) ∙ (λ k. kept_at ds (let e : j + 0 ≡ j = omega arith in e k)) in
    ap₂ (λ t u. is_here t && u) first
    (same-all cs ds (suc i) (suc j) n
    (λ k lo. (λ l. kept_at cs (let e : suc i + k ≡ i + suc k = omega arith in e l)) ∙ h (suc k) (omega arith)
    ∙ (λ l. kept_at ds (let e : j + suc k ≡ suc j + k = omega arith in e l))))

-- what a word is, where its bytes are here
pub word_at-is : (m : Space) (a : ℕ) → m.start ≤ a → IsHere m (word_range a) → word_at m a ≡ from_le_bytes w64 (bytes_in m (word_range a))
unfolding word_at
word_at-is m a inside is =
    ap (λ t. if t then from_le_bytes w64 (bytes_in m (word_range a)) else 2 ^ 64) (all-of m.out (a - m.start) 8 (here-in m.out m (word_range a) (a - m.start) refl inside refl is))

by-test : (t : Bool) (n : ℕ) → (if t then n else 2 ^ 64) < 2 ^ 64 → t ≡ true
by-test true n lo = refl
by-test false n lo = absurd (omega arith)

-- a word that is one has bytes that are here
pub is_here-word : (m : Space) (a : ℕ) → m.start ≤ a → word_at m a < 2 ^ 64 → IsHere m (word_range a)
unfolding word_at
is_here-word m a inside lo k from to =
    of-all m.out (a - m.start) 8 (by-test (all_here m.out (a - m.start) 8) (from_le_bytes w64 (bytes_in m (word_range a))) lo) (k - m.start) (omega (arith, from))
    (omega (arith, to))

pub is_word : (m : Space) (a : ℕ) → IsWritable m a → word_at m a < 2 ^ 64 → IsReadable m a
is_word m a place lo = (place.0, place.1, is_here-word m a place.1.0 lo)

-- a word whose bytes are the same, and are kept as before
pub word_at-kept : (m n : Space) (a : ℕ) → n.start ≡ m.start → m.start ≤ a → bytes_in n (word_range a) ≡ bytes_in m (word_range a)
    → ((k : ℕ) → a ≤ k → k < a + 8 → out_at n k ≡ out_at m k) → word_at n a ≡ word_at m a
unfolding word_at
word_at-kept m n a start inside bytes kept =
    let same : all_here n.out (a - n.start) 8 ≡ all_here m.out (a - m.start) 8 = same-all n.out m.out (a - n.start) (a - m.start) 8 (λ k lo.
    (λ i. kept_at n.out (let e : a - n.start + k ≡ a + k - n.start = omega (arith, start, inside) in e i)) ∙ kept (a + k) (omega arith) (omega arith)
    ∙ (λ i. kept_at m.out (let e : a + k - m.start ≡ a - m.start + k = omega (arith, inside) in e i))) in
    (λ i. if same i then from_le_bytes w64 (bytes i) else 2 ^ 64)
