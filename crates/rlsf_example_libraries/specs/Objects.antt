-- A pool of objects of one size and alignment.
use Rattle.std.specs.Prelude.{◌≡◌, ℕ, ◌+◌, ◌-◌, ◌/◌, ◌&&◌, List, length, Option, Some, None, IsSomeAnd, Result, Ok, Err, if◌then◌else◌, nat_eq}
use Rattle.std.specs.Prelude.{nat_le, nat_lt}
use Rattle.std.specs.List.{AllByRecursion, splice}
use Rattle.std.specs.Map.{lookup, set_value}
use Rattle.rlsf_base.specs.declared.memory.range.Range.{Range}
use Rattle.rlsf_model_sizes.specs.Sizes.{pool_size_to_contain_allocation, request_size}
use Rattle.rlsf_example_libraries.specs.declared.objects.SetError.{SetError}
use Rattle.rlsf_example_libraries.specs.declared.objects.SetError.TheVariants.{UnknownHandle, OutOfRange}

-- the objects that are out, each its handle and its bytes, in the order of the handles; the number that the next handle has; the
-- size and the alignment of each; the memory that they lie in; and how many may be out at once
pub record Pool : Type 0 where
  pub objects : List (ℕ × List ℕ)
  pub next : ℕ
  pub size : ℕ
  pub align : ℕ
  pub memory : Range
  pub capacity : ℕ

-- bytes are written over those of an object that is out, from an offset on
abbrev pub Writes : Pool → ℕ → ℕ → List ℕ → Pool → Type 0
Writes p handle offset bytes q = IsSomeAnd (lookup (nat_eq handle) p.objects) (λ old.
    q ≡ record p { objects = set_value (nat_eq handle) p.objects (splice old offset (offset + length bytes) bytes) })

-- each object has this size
abbrev pub HaveSize : ℕ → List (ℕ × List ℕ) → Type 0
HaveSize size objects = AllByRecursion (λ e. length e.1 ≡ size) objects

-- what a write that ends at `end` returns
abbrev pub set_answer : Option (List ℕ) → ℕ → Result Unit SetError
set_answer None end = Err UnknownHandle
set_answer (Some old) end = if nat_le end (length old) then Ok tt else Err OutOfRange

-- how many objects a pool of `len` bytes is sure to hold, where one object needs a pool of `least` bytes and a block of `block`
-- bytes. If such blocks fill a pool from its start, as many as fit; otherwise one, and one more for each `block + (least - 64)`
-- bytes behind the first `least`: its block, and a free range that is 32 bytes too short to be sure to serve
abbrev pub capacity_from : ℕ → ℕ → ℕ → ℕ → ℕ
capacity_from len align block least =
    if nat_lt len least then 0
    else (if nat_le align 32 && nat_eq least (block + 32) then (len - 32) / block else (len - least) / (block + (least - 64)) + 1)

-- none if no pool is long enough for one object
abbrev pub capacity_with : ℕ → ℕ → ℕ → Option ℕ → ℕ
capacity_with len align block None = 0
capacity_with len align block (Some least) = capacity_from len align block least

-- the same for objects of a size at an alignment
abbrev pub capacity_of : ℕ → ℕ → ℕ → ℕ
capacity_of len size align = capacity_with len align (request_size size align) (pool_size_to_contain_allocation 59 8 size align)
