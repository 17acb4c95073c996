-- Powers of two.
use Rattle.std.specs.Prelude.{◌≡◌, ℕ, zero, suc, ◌/◌, ◌^◌}

-- how often n can be halved before it is below 2, but at most `most` times
abbrev pub halvings : ℕ → ℕ → ℕ
halvings zero n = 0
halvings (suc most) zero = 0
halvings (suc most) (suc zero) = 0
halvings (suc most) (suc (suc n)) = suc (halvings most (suc (suc n) / 2))

-- the greatest k with 2 ^ k ≤ n, for an n that is not 0
abbrev pub floor_log2 : ℕ → ℕ
floor_log2 n = halvings n n

-- n is a power of two: it is that of its own logarithm
abbrev pub IsPowerOfTwo : ℕ → Type 0
IsPowerOfTwo n = n ≡ 2 ^ floor_log2 n
