-- Lengths of chunks that are computed for many payloads.
use Rattle.std.proofs.Common.{◌≡◌, ℕ, ◌+◌, ◌-◌, ◌*◌, ◌^◌, ◌<◌, ◌≤◌, Option, Some, None, IsTrue, arith, cond, leb}
use Rattle.std.proofs.Common.{refl, sym, ◌∙◌, ap, subst}
use Rattle.std.specs.Option.{option_and_then, option_map}
use Rattle.std.proofs.lemmas.Bool.{cases_lt, cond-true, cond-false, le-leb, lt-ltb, lt-leb, le-ltb}
use Rattle.std.proofs.lemmas.Option.{none-some, same_Some}
use Rattle.std.proofs.Math.Nat.{mul-le-mul_right}
use Rattle.rlsf_model_sizes.specs.Rounding.{round32}
use Rattle.rlsf_model_sizes.specs.SizeClass.{class_of, class_start, is_row_length, reaching_class, Reaches}
use Rattle.rlsf_model_sizes.specs.Sizes.{IsSize, budget_length, chunk_length, map_ceil_and_unmap, object_length, objects_in, payloads_length, pool_size_for_objects}
use Rattle.rlsf_base.proofs.Numbers.Roundings.{round32-le, round32-multiple}
use Rattle.rlsf_base.proofs.SizeClasses.Order.{IsFirstReaching-reaching_class}
use Rattle.rlsf_base.proofs.SizeMaps.Laws.{IsUnmapped-some}
use Rattle.rlsf_base.proofs.SizeMaps.RowLengths.{IsPower-row_length}
use Rattle.rlsf_base.proofs.SizeMaps.Starts.{class_of-start}
use Rattle.rlsf_base.proofs.SizeMaps.Unmapped.{unmapped-past}

pub chunk_length-some : (fllen len : ℕ) → len < 2 ^ 64 → len ≤ 2 ^ (5 + fllen) → Some len ≡ chunk_length fllen len
chunk_length-some fllen len word short =
    sym (cond-true _ (cond (leb len (2 ^ (5 + fllen))) (Some len) None) None (lt-ltb len (2 ^ 64) word) ∙ cond-true _ (Some len) None (le-leb len (2 ^ (5 + fllen)) short))

-- no chunk is so long that its length doesn't fit in a word
pub chunk_length-past : (fllen len : ℕ) → 2 ^ 64 ≤ len → None ≡ chunk_length fllen len
chunk_length-past fllen len past = sym (cond-false _ (cond (leb len (2 ^ (5 + fllen))) (Some len) None) None (le-ltb len (2 ^ 64) past))

-- there is a block for an object, and no chunk of so many
pub objects-none : (fllen sllen count size block : ℕ) → Some block ≡ object_length fllen sllen size → None ≡ chunk_length fllen (count * block + 32)
    → None ≡ pool_size_for_objects fllen sllen count size
objects-none fllen sllen count size block object none =
    ap (option_map (λ n. (n, block - 16))) none ∙ ap (option_and_then (objects_in fllen count)) object

-- what a chunk for payloads is, by its length
pub payloads-are : (fllen sllen count size asked least : ℕ) {o : Option ℕ} → size ≡ asked → Some least ≡ map_ceil_and_unmap fllen sllen size
    → o ≡ chunk_length fllen (payloads_length count size least)
    → o ≡ option_and_then (λ n. chunk_length fllen (payloads_length count asked n)) (map_ceil_and_unmap fllen sllen asked)
payloads-are fllen sllen count size asked least is told chunk =
    chunk ∙ ap (option_and_then (λ n. chunk_length fllen (payloads_length count size n))) told
    ∙ (λ i. option_and_then (λ n. chunk_length fllen (payloads_length count (is i) n)) (map_ceil_and_unmap fllen sllen (is i)))

-- what a chunk for a budget is, by its length
pub budget-is : (fllen sllen count bytes size asked least : ℕ) {o : Option ℕ} → size ≡ asked → Some least ≡ map_ceil_and_unmap fllen sllen size
    → o ≡ chunk_length fllen (budget_length count bytes least)
    → o ≡ option_and_then (λ n. chunk_length fllen (budget_length count bytes n)) (map_ceil_and_unmap fllen sllen asked)
budget-is fllen sllen count bytes size asked least is told chunk =
    chunk ∙ ap (option_and_then (λ n. chunk_length fllen (budget_length count bytes n))) (told ∙ ap (map_ceil_and_unmap fllen sllen) is)

pub IsSize-object : (size : ℕ) → IsSize (round32 (size + 16))
IsSize-object size = (omega (arith, round32-le (size + 16)), round32-multiple (size + 16))

-- no block has room for so many bytes
pub object_length-past : (fllen sllen size : ℕ) → IsTrue (is_row_length sllen) → 2 ^ 64 ≤ size + 47 → None ≡ object_length fllen sllen size
object_length-past fllen sllen size row past =
    let n = round32 (size + 16) in
    let some = (IsPower-row_length sllen row).some in
    let is = IsSize-object size in
    let long : 2 ^ 64 ≤ n = omega (arith, round32-le (size + 16), is.1) in
    let more : 2 ^ 64 * sllen ≤ n * sllen = mul-le-mul_right sllen long in
    unmapped-past fllen sllen n some is.0 (omega (arith, more, (IsFirstReaching-reaching_class sllen n some is.0).reached))

-- a block has room for the bytes and for 16 before them
pub object_length-enough : (fllen sllen size len : ℕ) → IsTrue (is_row_length sllen) → object_length fllen sllen size ≡ Some len → size + 16 ≤ len
object_length-enough fllen sllen size len row told =
    omega (arith, round32-le (size + 16), (IsUnmapped-some fllen sllen (round32 (size + 16)) len row (IsSize-object size) told).start.enough)

-- ---- what a length that was computed says

pub chunk_length-is : (fllen n len : ℕ) → chunk_length fllen n ≡ Some len → n ≡ len
chunk_length-is fllen n len told = grind (arith, cases_lt, none-some, cond-true, leb, lt-ltb, cond-false, lt-leb, same_Some, chunk_length-some, chunk_length-past)

-- and is not longer than the longest chunk
chunk_length-short : (fllen n len : ℕ) → chunk_length fllen n ≡ Some len → n ≤ 2 ^ (5 + fllen)
chunk_length-short fllen n len told = grind (arith, cases_lt, none-some, cond-true, leb, lt-ltb, cond-false, lt-leb, chunk_length-past)

-- the least size of the class that is taken for a size is taken for it
pub least_is_taken : (fllen sllen size least : ℕ) → IsTrue (is_row_length sllen) → IsSize size → map_ceil_and_unmap fllen sllen size ≡ Some least
    → IsSize least × Reaches sllen (class_of sllen least) size
least_is_taken fllen sllen size least row size_is told =
    let start = (IsUnmapped-some fllen sllen size least row size_is told).start in
    let some = (IsPower-row_length sllen row).some in
    let first = IsFirstReaching-reaching_class sllen size some size_is.0 in
    let own : class_of sllen least ≡ reaching_class sllen size = class_of-start sllen least (reaching_class sllen size) some first.in_row start.begins in
    ((omega (arith, size_is.0, start.enough), start.multiple), subst (λ c. Reaches sllen c size) (sym own) first.reached)

-- a pool for payloads has the length for so many blocks and for free ranges that are too short for one
pub record IsPayloadPool (fllen sllen count size len : ℕ) : Type 0 where
  pub least : ℕ
  pub is : IsSize least
  pub reaches : Reaches sllen (class_of sllen least) size
  pub length : payloads_length count size least ≡ len
  pub short : len ≤ 2 ^ (5 + fllen)

module _ (fllen sllen count size len : ℕ) (row : IsTrue (is_row_length sllen)) (size_is : IsSize size) where
  payload_pool_from : (o : Option ℕ) → map_ceil_and_unmap fllen sllen size ≡ o
      → option_and_then (λ least. chunk_length fllen (payloads_length count size least)) o ≡ Some len → IsPayloadPool fllen sllen count size len
  payload_pool_from None e told = absurd (none-some len told)
  payload_pool_from (Some least) e told =
      let taken = least_is_taken fllen sllen size least row size_is e in
      record {
        least = least;
        is = taken.0;
        reaches = taken.1;
        length = chunk_length-is fllen (payloads_length count size least) len told;
        short = omega (arith, chunk_length-is fllen (payloads_length count size least) len told, chunk_length-short fllen (payloads_length count size least) len told);
      }

  pub IsPayloadPool-some : option_and_then (λ least. chunk_length fllen (payloads_length count size least)) (map_ceil_and_unmap fllen sllen size) ≡ Some len
      → IsPayloadPool fllen sllen count size len
  IsPayloadPool-some told = payload_pool_from (map_ceil_and_unmap fllen sllen size) refl told

-- a pool for a budget has the length for so many bytes of blocks and for free ranges that are too short for one
pub record IsBudgetPool (fllen sllen count bytes size len : ℕ) : Type 0 where
  pub least : ℕ
  pub is : IsSize least
  pub reaches : Reaches sllen (class_of sllen least) size
  pub length : budget_length count bytes least ≡ len
  pub short : len ≤ 2 ^ (5 + fllen)

module _ (fllen sllen count bytes size len : ℕ) (row : IsTrue (is_row_length sllen)) (size_is : IsSize size) where
  budget_pool_from : (o : Option ℕ) → map_ceil_and_unmap fllen sllen size ≡ o
      → option_and_then (λ least. chunk_length fllen (budget_length count bytes least)) o ≡ Some len → IsBudgetPool fllen sllen count bytes size len
  budget_pool_from None e told = absurd (none-some len told)
  budget_pool_from (Some least) e told =
      let taken = least_is_taken fllen sllen size least row size_is e in
      record {
        least = least;
        is = taken.0;
        reaches = taken.1;
        length = chunk_length-is fllen (budget_length count bytes least) len told;
        short = omega (arith, chunk_length-is fllen (budget_length count bytes least) len told, chunk_length-short fllen (budget_length count bytes least) len told);
      }

  pub IsBudgetPool-some : option_and_then (λ least. chunk_length fllen (budget_length count bytes least)) (map_ceil_and_unmap fllen sllen size) ≡ Some len
      → IsBudgetPool fllen sllen count bytes size len
  IsBudgetPool-some told = budget_pool_from (map_ceil_and_unmap fllen sllen size) refl told

-- a pool for objects has room for so many blocks, each of which begins a class
pub record IsObjectPool (sllen count size len asked : ℕ) : Type 0 where
  pub block : ℕ
  pub whole : IsSize block
  pub begins : Reaches sllen (class_of sllen block) block
  pub enough : size + 16 ≤ block
  pub length : len ≡ count * block + 32
  pub asks : asked ≡ block - 16

module _ (fllen sllen count size len asked : ℕ) (row : IsTrue (is_row_length sllen)) where
  object_pool : (block : ℕ) → object_length fllen sllen size ≡ Some block → (o : Option ℕ) → chunk_length fllen (count * block + 32) ≡ o
      → option_map {U = ℕ × ℕ} (λ n. (n, block - 16)) o ≡ Some (len, asked) → IsObjectPool sllen count size len asked
  object_pool block object None e told = absurd (none-some (len, asked) told)
  object_pool block object (Some n) e told =
      let n0 = round32 (size + 16) in
      let is = IsUnmapped-some fllen sllen n0 block row (IsSize-object size) object in
      let some = (IsPower-row_length sllen row).some in
      let any = (IsSize-object size).0 in
      let own : class_of sllen block ≡ reaching_class sllen n0 =
      class_of-start sllen block (reaching_class sllen n0) some (IsFirstReaching-reaching_class sllen n0 some any).in_row is.start.begins in
      let start : block * sllen ≡ class_start sllen (class_of sllen block) = is.start.begins ∙ ap (class_start sllen) (sym own) in
      let enough = object_length-enough fllen sllen size block row object in
      let pair : (n, block - 16) ≡ (len, asked) = same_Some (n, block - 16) (len, asked) told in
      record {
        block = block;
        whole = (omega arith, is.start.multiple);
        begins = omega arith;
        enough = enough;
        length = sym (ap (λ p. p.0) pair) ∙ sym (chunk_length-is fllen (count * block + 32) n e);
        asks = sym (ap (λ p. p.1) pair);
      }

  object_pool_from : (o : Option ℕ) → object_length fllen sllen size ≡ o → option_and_then (objects_in fllen count) o ≡ Some (len, asked)
      → IsObjectPool sllen count size len asked
  object_pool_from None e told = absurd (none-some (len, asked) told)
  object_pool_from (Some block) e told = object_pool block e (chunk_length fllen (count * block + 32)) refl told

  pub IsObjectPool-some : pool_size_for_objects fllen sllen count size ≡ Some (len, asked) → IsObjectPool sllen count size len asked
  IsObjectPool-some told = object_pool_from (object_length fllen sllen size) refl told
