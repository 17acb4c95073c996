-- Where a payload lies in its block, and how long the block is.
use Rattle.std.proofs.Common.{◌≡◌, ◌≢◌, ℕ, suc, ◌+◌, ◌-◌, ◌*◌, ◌/◌, ◌%◌, ◌^◌, ◌<◌, ◌≤◌, List, [], ◌∷◌, None, cond}
use Rattle.std.proofs.Common.{not, arith, inl, inr, refl, sym, ◌∙◌, ap, subst}
use Rattle.std.proofs.lemmas.Bool.{cases_lt, le-leb, ne_eqb}
use Rattle.std.proofs.lemmas.Nat.{pow_pos, pow-add}
use Rattle.std.proofs.Math.Nat.{div-add-mod'}
use Rattle.std.specs.Int.{next_multiple_of}
use Rattle.rlsf_base.specs.declared.memory.range.Range.{Range}
use Rattle.rlsf_model_sizes.specs.PowerOfTwo.{IsPowerOfTwo, floor_log2}
use Rattle.rlsf_model_sizes.specs.Sizes.{request_size}
use Rattle.rlsf_model_sizes.specs.Rounding.{round32}
use Rattle.rlsf_base.proofs.Numbers.PowersOfTwo.{IsPowerOfTwo-positive}
use Rattle.rlsf_base.proofs.Numbers.Roundings.{next_multiple_of-le, next_multiple_of-lt, next_multiple_of-multiple}
use Rattle.rlsf_model.specs.Lists.{IsIn}
use Rattle.rlsf_model.specs.Payload.{payload_of}
use Rattle.rlsf_model.specs.Reallocate.{in_place}
use Rattle.rlsf_model.specs.State.{State, Used, others, usable}
use Rattle.rlsf_model.specs.WellFormed.{IsUsed, IsWellFormed}

-- rounding the address 16 bytes into a block up to a power of two adds that power less 16 at most
payload_pow : (k b : ℕ) → b % 32 ≡ 0 → payload_of b (2 ^ k) ≤ b + 16 + (2 ^ k - 16)
payload_pow (suc (suc (suc (suc (suc k))))) b whole =
    let n = 2 ^ (5 + k) in
    let exponent : suc (suc (suc (suc (suc k)))) ≡ 5 + k = omega arith in
    let p = next_multiple_of (b + 16) n in
    let times : n ≡ 32 * 2 ^ k = pow-add 2 5 k in
    let some : 0 < n = pow_pos (5 + k) in
    let product : p / n * n ≡ p / n * (32 * 2 ^ k) = ap (λ m. p / n * m) times in
    let multiple : p ≡ 32 * (p / n * 2 ^ k) = omega (arith, div-add-mod' p n, next_multiple_of-multiple (b + 16) n some) in
    subst (λ e. payload_of b (2 ^ e) ≤ b + 16 + (2 ^ e - 16)) (sym exponent) (omega (arith, next_multiple_of-lt (b + 16) n some))
payload_pow n b whole = omega arith

-- the payload of a block lies at a multiple of 16
even_payload : (k b : ℕ) → b % 32 ≡ 0 → payload_of b (2 ^ k) % 16 ≡ 0
even_payload (suc (suc (suc (suc k)))) b whole =
    let n = 2 ^ (4 + k) in
    let exponent : suc (suc (suc (suc k))) ≡ 4 + k = omega arith in
    let p = next_multiple_of (b + 16) n in
    let times : n ≡ 16 * 2 ^ k = pow-add 2 4 k in
    let some : 0 < n = pow_pos (4 + k) in
    let product : p / n * n ≡ p / n * (16 * 2 ^ k) = ap (λ m. p / n * m) times in
    let multiple : p ≡ 16 * (p / n * 2 ^ k) = omega (arith, div-add-mod' p n, next_multiple_of-multiple (b + 16) n some) in
    subst (λ e. payload_of b (2 ^ e) % 16 ≡ 0) (sym exponent) (omega (arith, multiple))
even_payload n b whole = omega arith

pub payload_of-le : (b align : ℕ) → b % 32 ≡ 0 → IsPowerOfTwo align → payload_of b align ≤ b + 16 + (align - 16)
payload_of-le b align whole power = subst (λ n. payload_of b n ≤ b + 16 + (n - 16)) (sym power) (payload_pow (floor_log2 align) b whole)

pub payload_of-after : (b align : ℕ) → b + 16 ≤ payload_of b align
payload_of-after b align = next_multiple_of-le (b + 16) align

pub payload_of-aligned : (b align : ℕ) → IsPowerOfTwo align → payload_of b align % align ≡ 0
payload_of-aligned b align power = next_multiple_of-multiple (b + 16) align (IsPowerOfTwo-positive align power)

-- so a used block's payload is a multiple of its alignment
pub IsUsed-aligned : (u : Used) → IsUsed u → u.payload % u.align ≡ 0
IsUsed-aligned u is = subst (λ p. p % u.align ≡ 0) (sym is.placed) (payload_of-aligned u.block.start u.align is.power)

-- and of 16
pub IsUsed-even : (u : Used) → IsUsed u → u.payload % 16 ≡ 0
IsUsed-even u is = grind (arith, even_payload)

-- and it lies 16 bytes or more into the block
pub IsUsed-after_start : (u : Used) → IsUsed u → u.block.start + 16 ≤ u.payload
IsUsed-after_start u is = omega (arith, is.placed, payload_of-after u.block.start u.align)

-- a used block isn't empty
pub IsUsed-some : (u : Used) → IsUsed u → 0 < u.block.len
IsUsed-some u is = omega (arith, IsUsed-after_start u is, is.within)

-- the block has the payload's bytes, and less than 32 more
pub block_length-le : (b p size : ℕ) → p - b + size ≤ round32 (p - b + size)
block_length-le b p size = omega arith

pub block_length-lt : (b p size : ℕ) → round32 (p - b + size) < p - b + size + 32
block_length-lt b p size = omega arith

pub block_length-whole : (b p size : ℕ) → round32 (p - b + size) % 32 ≡ 0
block_length-whole b p size = omega arith

-- the block is not longer than what is sought
pub block_length-request : (b size align : ℕ) → b % 32 ≡ 0 → IsPowerOfTwo align → round32 (payload_of b align - b + size) ≤ request_size size align
block_length-request b size align whole power = grind (arith, payload_of-le)

-- used blocks none of which has the address are all left without it
pub others-none : (addr : ℕ) (used : List Used) → ((v : Used) → IsIn v used → v.payload ≢ addr) → others addr used ≡ used
others-none addr [] none = refl
others-none addr (x ∷ xs) none =
    ap (λ b. cond (not b) (x ∷ others addr xs) (others addr xs)) (ne_eqb x.payload addr (none x (inl refl)))
    ∙ ap (λ l. x ∷ l) (others-none addr xs (λ v i. none v (inr i)))

-- a block that can't have the size in place has fewer usable bytes
pub usable-short : {fllen sllen : ℕ} {memory : Range} {s : State} → IsWellFormed fllen sllen memory s → (u : Used) → IsIn u s.used → (size : ℕ)
    → in_place s u size ≡ None → (usable u).len < size
usable-short {s = s} w u i size short = grind (arith, cases_lt, IsUsed-after_start, le-leb)
