-- The laws of size classes, proved.
use Rattle.std.proofs.Common.{◌≡◌, ℕ, ◌+◌, ◌-◌, ◌*◌, ◌/◌, ◌%◌, ◌^◌, ◌<◌, ◌≤◌, Option, Some, None, IsSome, IsTrue, arith, inl, inr, refl}
use Rattle.std.proofs.Common.{sym, ◌∙◌, ap, cond, ltb, subst, w64}
use Rattle.std.specs.Int.{trailing_zeros}
use Rattle.std.specs.Option.{option_map}
use Rattle.std.proofs.lemmas.Bool.{cases_lt, cond-true, cond-false, le-leb, lt-ltb, le-ltb}
use Rattle.std.proofs.lemmas.Nat.{pow_pos, pow-add}
use Rattle.std.proofs.lemmas.Option.{none-some, same_Some}
use Rattle.std.proofs.Math.Nat.{div-eq_of_eq-mul_left, le_of_mul-le-mul_right, lt_of_mul-lt-mul_right, mul-le-mul_right, mul-mod_left, pow-suc}
use Rattle.std.proofs.Math.Pow.{pow_mono}
use Rattle.rlsf_base.specs.ClassLaws.{MappedIsFirstReaching, UnmappedIsEnough, UnmappedBeginsItsClass, UnreachedIsNotUnmapped, LongestBlockHasAClass, PoolIsOneChunk}
use Rattle.rlsf_base.specs.ClassLaws.{PoolContainsItsAllocation}
use Rattle.rlsf_model_sizes.specs.PowerOfTwo.{floor_log2}
use Rattle.rlsf_model_sizes.specs.SizeClass.{class_of, class_start, is_row_length, IsValidClass, least_size, next_class, reaching_class, Reaches}
use Rattle.rlsf_model_sizes.specs.Sizes.{IsSize, map_ceil_and_unmap, request_size, valid_indices}
use Rattle.rlsf_base.proofs.SizeClasses.Order.{IsFirstReaching-reaching_class}
use Rattle.rlsf_base.proofs.Layouts.{pow-quotient}
use Rattle.rlsf_base.proofs.Numbers.PowersOfTwo.{floor_log2-le, floor_log2-lt}
use Rattle.rlsf_base.proofs.Numbers.Roundings.{round32-le, round32-multiple}
use Rattle.rlsf_base.proofs.SizeClasses.Reach.{IsValidClass-class_of}
use Rattle.rlsf_base.proofs.SizeMaps.PoolSizes.{max_pool_size-some}
use Rattle.rlsf_base.proofs.SizeMaps.Quotients.{IsRoundedUp, IsRoundedUp-by_rest}
use Rattle.rlsf_base.proofs.SizeMaps.RowLengths.{IsPower, IsPower-row_length}
use Rattle.rlsf_base.proofs.SizeMaps.Starts.{class_of-start, class_start-rounded, rounded}

-- ---- the size that is rounded up

-- it is a multiple of 32 where the size is
rounded-multiple : (i k size : ℕ) → size % 32 ≡ 0 → rounded i k size % 32 ≡ 0
rounded-multiple i k size whole =
    let e = k - i in
    let t = (size + (2 ^ e - 1)) / 2 ^ e in
    let is : IsRoundedUp size (2 ^ e) t = IsRoundedUp-by_rest size (2 ^ e) (pow_pos e) in
    elim (cases_lt e 5) [
      | inl small ↦
          let parts : 2 ^ 5 ≡ 2 ^ (5 - e) * 2 ^ e = pow-quotient e 5 (omega arith) in
          let times = size / 32 * 2 ^ (5 - e) in
          let size_is : size ≡ times * 2 ^ e = omega (arith, ap (λ n. size / 32 * n) parts) in
          let least : times < t + 1 = lt_of_mul-lt-mul_right (2 ^ e) {m = times} {n = t + 1} (omega (arith, is.reached, pow_pos e)) in
          let most : t < times + 1 = lt_of_mul-lt-mul_right (2 ^ e) {m = t} {n = times + 1} (omega (arith, is.tight)) in
          let same : t ≡ times = omega arith in
          let rounded_is : rounded i k size ≡ size = ap (λ n. n * 2 ^ e) same ∙ sym size_is in
          ap (λ n. n % 32) rounded_is ∙ whole
      | inr large ↦
          let parts : 2 ^ e ≡ 2 ^ (e - 5) * 2 ^ 5 = pow-quotient 5 e large in
          let rounded_is : rounded i k size ≡ t * 2 ^ (e - 5) * 32 = omega (arith, ap (λ n. t * n) parts) in
          ap (λ n. n % 32) rounded_is ∙ mul-mod_left (t * 2 ^ (e - 5)) 32
    ]

-- what it is, for row lengths
pub record IsStart (sllen size n : ℕ) : Type 0 where
  pub begins : n * sllen ≡ class_start sllen (reaching_class sllen size)
  pub multiple : n % 32 ≡ 0
  pub enough : size ≤ n

has_start : (sllen size : ℕ) → IsTrue (is_row_length sllen) → IsSize size → (n : ℕ) × IsStart sllen size n
has_start sllen size row is =
    let power : IsPower sllen = IsPower-row_length sllen row in
    let i = trailing_zeros w64 sllen in
    let k = floor_log2 size in
    let reached = (IsRoundedUp-by_rest size (2 ^ (k - i)) (pow_pos (k - i))).reached in
    let high : size < 2 * 2 ^ k = omega (arith, floor_log2-lt size is.0, pow-suc 2 k) in (
      rounded i k size,
      record {
        begins = class_start-rounded sllen i size k power.power (floor_log2-le size is.0) high;
        multiple = rounded-multiple i k size is.1;
        enough = reached;
      },
    )

-- ---- what map_ceil_and_unmap says

-- n is the least size of the first class that reaches the size
pub record IsUnmapped (fllen sllen size n : ℕ) : Type 0 where
  pub valid : (reaching_class sllen size).exponent < 5 + fllen
  pub word : (reaching_class sllen size).exponent < 64
  pub start : IsStart sllen size n

from_conds : (a b : ℕ) (c d x n : ℕ) → cond (ltb a b) (cond (ltb c d) (Some x) None) None ≡ Some n → (a < b) × (c < d) × (x ≡ n)
from_conds a b c d x n is = grind (arith, cases_lt, same_Some, cond-true, lt-ltb, ltb, none-some, cond-false, le-ltb)

pub IsUnmapped-some : (fllen sllen size n : ℕ) → IsTrue (is_row_length sllen) → IsSize size → map_ceil_and_unmap fllen sllen size ≡ Some n
    → IsUnmapped fllen sllen size n
IsUnmapped-some fllen sllen size n row is told =
    let c = reaching_class sllen size in
    let parts : (c.exponent < 5 + fllen) × (c.exponent < 64) × (least_size sllen c ≡ n) = from_conds c.exponent (5 + fllen) c.exponent 64 (least_size sllen c) n told in
    let start = has_start sllen size row is in
    let same : start.0 ≡ n = sym (div-eq_of_eq-mul_left (IsPower-row_length sllen row).some (sym start.1.begins)) ∙ parts.2 in
    record { valid = parts.0; word = parts.1; start = subst (IsStart sllen size) same start.1 }

module _ (fllen sllen size n : ℕ) (row : IsTrue (is_row_length sllen)) (size_is : IsSize size) (is : IsUnmapped fllen sllen size n) where
  some : 0 < sllen
  some = (IsPower-row_length sllen row).some

  in_row : (reaching_class sllen size).division < sllen
  in_row = (IsFirstReaching-reaching_class sllen size some size_is.0).in_row

  -- it is of that class
  own_class : class_of sllen n ≡ reaching_class sllen size
  own_class = class_of-start sllen n (reaching_class sllen size) some in_row is.start.begins

  -- which reaches it
  reaching_itself : reaching_class sllen n ≡ class_of sllen n
  reaching_itself =
      let begins : n * sllen ≡ class_start sllen (class_of sllen n) = is.start.begins ∙ ap (class_start sllen) (sym own_class) in
      cond-true _ (class_of sllen n) (next_class sllen (class_of sllen n)) (le-leb (n * sllen) (class_start sllen (class_of sllen n)) (omega arith))

  -- the last class of 64 bits begins far enough below its end
  room : n + 32 < 2 ^ 64
  room =
      let c = reaching_class sllen size in
      let power : IsPower sllen = IsPower-row_length sllen row in
      let few : sllen ≤ 128 = omega (arith, power.power, pow_mono {j = 7} power.few) in
      let last : c.exponent ≤ 63 = omega (arith, is.word) in
      let row_limit : 2 ^ c.exponent ≤ 2 ^ 63 = pow_mono {j = 63} last in
      let places : 2 ^ c.exponent * (sllen + c.division) ≤ 2 ^ 63 * (sllen + c.division) = mul-le-mul_right (sllen + c.division) row_limit in
      let above : n + 2 ^ 56 ≤ 2 ^ 64 = le_of_mul-le-mul_right {k = sllen} (omega (arith, is.start.begins, in_row)) some in
      omega arith

-- so a pool's length fits
pub pool_fits : (fllen sllen size n : ℕ) → IsTrue (is_row_length sllen) → IsSize size → Some n ≡ map_ceil_and_unmap fllen sllen size → n + 32 < 2 ^ 64
pool_fits fllen sllen size n row is told = room fllen sllen size n row is (IsUnmapped-some fllen sllen size n row is (sym told))

-- ---- the laws

pub mapped_is_first_reaching : MappedIsFirstReaching
mapped_is_first_reaching fl_bits sl_bits fllen sllen size valid is =
    (reaching_class sllen size, IsFirstReaching-reaching_class sllen size (IsPower-row_length sllen valid.power_of_two).some is.0, refl)

pub unmapped_is_enough : UnmappedIsEnough
unmapped_is_enough fl_bits sl_bits fllen sllen size m valid is told =
    let start = (IsUnmapped-some fllen sllen size m valid.power_of_two is told).start in
    ((omega (arith, is.0, start.enough), start.multiple), start.enough)

pub unmapped_begins_its_class : UnmappedBeginsItsClass
unmapped_begins_its_class fl_bits sl_bits fllen sllen size m valid is told =
    let unmapped = IsUnmapped-some fllen sllen size m valid.power_of_two is told in
    let itself = reaching_itself fllen sllen size m valid.power_of_two is unmapped in
    let own = own_class fllen sllen size m valid.power_of_two is unmapped in
    (ap (valid_indices fllen) (sym itself), ap (valid_indices fllen) own)

pub unreached_is_not_unmapped : UnreachedIsNotUnmapped
unreached_is_not_unmapped fl_bits sl_bits fllen sllen size valid is told = grind (arith, cases_lt, none-some, cond-true, lt-ltb, cond-false, ltb, le-ltb)

pub longest_block_has_a_class : LongestBlockHasAClass
longest_block_has_a_class fl_bits sl_bits fllen sllen p valid told =
    let end : p ≡ 2 ^ (5 + fllen) = (max_pool_size-some fllen p told).1 in
    let order : 6 ≤ 5 + fllen = omega (arith, valid.some_rows) in
    let least : 2 ^ 6 ≤ 2 ^ (5 + fllen) = pow_mono {i = 6} order in
    let c = class_of sllen (p - 32) in
    let d = class_of sllen p in
    let within = (IsValidClass-class_of sllen (p - 32) (omega arith) fllen).1 (omega arith) in
    let beyond : 5 + fllen ≤ d.exponent = elim (cases_lt d.exponent (5 + fllen)) [
      | inl before ↦ absurd (omega (arith, (IsValidClass-class_of sllen p (omega arith) fllen).0 before))
      | inr past ↦ past
    ] in (
      subst IsSome (sym (cond-true _ (Some (c.exponent - 5, c.division)) None (lt-ltb c.exponent (5 + fllen) within))) refl,
      cond-false _ (Some (d.exponent - 5, d.division)) None (le-ltb d.exponent (5 + fllen) beyond),
    )

-- ---- pools for one allocation

-- a pool is 32 bytes longer than its block
from_pool : (o : Option ℕ) (e : ℕ) → option_map (λ n. n + 32) o ≡ Some e → (n : ℕ) × (o ≡ Some n) × (e ≡ n + 32)
from_pool None e told = absurd (none-some e told)
from_pool (Some n) e told = (n, refl, sym (same_Some (n + 32) e told))

pub IsSize-request_size : (size align : ℕ) → IsSize (request_size size align)
IsSize-request_size size align = let n = size + (align - 16) + 16 in (omega (arith, round32-le n), round32-multiple n)

pub pool_is_one_chunk : PoolIsOneChunk
pool_is_one_chunk fl_bits sl_bits fllen sllen size align e p valid told longest =
    let sought = request_size size align in
    let pool = from_pool (map_ceil_and_unmap fllen sllen sought) e told in
    let n = pool.0 in
    let unmapped = IsUnmapped-some fllen sllen sought n valid.power_of_two (IsSize-request_size size align) pool.1 in
    let own = own_class fllen sllen sought n valid.power_of_two (IsSize-request_size size align) unmapped in
    let some_n : 0 < n = omega (arith, (IsSize-request_size size align).0, unmapped.start.enough) in
    let below : n < 2 ^ (5 + fllen) = (IsValidClass-class_of sllen n some_n fllen).0 (subst (IsValidClass fllen) (sym own) unmapped.valid) in
    omega (arith, (max_pool_size-some fllen p longest).1, pow-add 2 5 fllen, unmapped.start.multiple, pool.2)

pub pool_contains_its_allocation : PoolContainsItsAllocation
pool_contains_its_allocation fl_bits sl_bits fllen sllen size align e valid told =
    let sought = request_size size align in
    let is = IsSize-request_size size align in
    let pool = from_pool (map_ceil_and_unmap fllen sllen sought) e told in
    let n = pool.0 in
    let unmapped = IsUnmapped-some fllen sllen sought n valid.power_of_two is pool.1 in
    let own = own_class fllen sllen sought n valid.power_of_two is unmapped in
    let block : n ≡ e - 32 = omega (arith, pool.2) in
    let class : reaching_class sllen sought ≡ class_of sllen (e - 32) = sym own ∙ ap (class_of sllen) block in
    let first = IsFirstReaching-reaching_class sllen sought (IsPower-row_length sllen valid.power_of_two).some is.0 in (
      omega (arith, is.0, is.1, unmapped.start.enough, pool.2),
      (omega (arith, pool.2), omega (arith, unmapped.start.multiple, pool.2)),
      subst (IsValidClass fllen) class unmapped.valid,
      subst (λ c. Reaches sllen c sought) class first.reached,
    )
