-- The numbers that are drawn.
use Rattle.std.specs.Prelude.{ℕ, zero, suc, ◌*◌, ◌/◌, ◌%◌, ◌^◌, bit_xor}

-- the state that the generator begins with
abbrev pub seed : ℕ
seed = 0x9e3779b97f4a7c15

-- its state after one number more
abbrev pub next_state : ℕ → ℕ
next_state x =
    let y = bit_xor x (x * 2 ^ 13 % 2 ^ 64) in
    let z = bit_xor y (y / 2 ^ 7) in
    bit_xor z (z * 2 ^ 17 % 2 ^ 64)

-- its state after so many numbers
unfoldable pub state_after : ℕ → ℕ
state_after zero = seed
state_after (suc n) = next_state (state_after n)

-- the number that is drawn after so many others
abbrev pub drawn : ℕ → ℕ
drawn n = next_state (state_after n) * 0x2545f4914f6cdd1d % 2 ^ 64
