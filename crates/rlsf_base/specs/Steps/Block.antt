-- How the parts of a memory belong together.
use Rattle.std.specs.Prelude.{◌≡◌, ℕ, ◌+◌, ◌-◌, ◌/◌, ◌%◌, ◌^◌, ◌<◌, ◌≤◌, length}
use denote.RawPtr.{null_ptr}
use Rattle.rlsf_base.specs.Space.{Space}
use Rattle.rlsf_base.specs.Steps.Ownership.{units_for, units_in}
use Rattle.rlsf_base.specs.declared.memory.block.Base.{Base}
use Rattle.rlsf_base.specs.declared.memory.view.View.{View}
use Rattle.rlsf_base.specs.declared.memory.block.Bytes.{Bytes}
use Rattle.rlsf_base.specs.declared.memory.zeroed.Supplier.{Supplier}

-- the supplier of the block of len bytes from its byte skip on, and of no block where len is zero
pub record IsSupplierOf (base : Base) (skip len : ℕ) (supplier : Supplier) : Type 0 where
  pub none : len ≡ 0 → supplier.deed.at ≡ null_ptr
  pub block : 0 < len → (supplier.deed.at ≡ base.ptr) × (supplier.deed.units ≡ units_for skip len) × (supplier.deed.skip ≡ skip) × (supplier.deed.len ≡ len)
      × (supplier.deed.alloc ≡ supplier.alloc)

-- the address of the first byte, of two numbers that a memory keeps: what is added to an address, with what passes a word cut off, to
-- get its place in the block; and 32 times the length, 16 where the block is the caller's, and the place of the first byte
abbrev pub start_of : ℕ → ℕ → ℕ
start_of shift len_and_skip = (2 ^ 64 - shift) % 2 ^ 64 + len_and_skip % 16

abbrev pub view_of : Base → ℕ → View
view_of base shift = record { base = base; shift = shift }

-- the memory of these bytes, by these numbers and its two counts
abbrev pub memory_of : Base → ℕ → ℕ → Bytes → ℕ → ℕ → Space
memory_of base shift len_and_skip bytes touches copied =
    record { start = start_of shift len_and_skip; bytes = bytes.bytes; touches = touches; copied = copied; view = view_of base shift; out = bytes.out }

-- one where the block is the caller's, and zero where it is the system's
abbrev pub handed_in : ℕ → ℕ
handed_in len_and_skip = len_and_skip / 16 % 2

-- the parts of a memory, by these numbers: its bytes lie in the block from the place of the first byte on
pub record IsMemory (base : Base) (shift len_and_skip : ℕ) (bytes : Bytes) (supplier : Supplier) : Type 0 where
  pub lies : (base.ptr ≡ bytes.at) × (bytes.skip ≡ len_and_skip % 16) × (bytes.units ≡ units_in shift (len_and_skip % 16) (len_and_skip / 32))
  pub aligned : shift % 8 ≡ 0
  pub grid : handed_in len_and_skip ≡ 0 → shift % 16 ≡ 0
  pub whole : length bytes.bytes ≡ len_and_skip / 32
  pub bounds : (1 ≤ start_of shift len_and_skip) × (start_of shift len_and_skip + len_and_skip / 32 < 2 ^ 64) × (len_and_skip / 32 < 2 ^ 59)
  pub returns : handed_in len_and_skip ≡ 0 → IsSupplierOf base (len_and_skip % 16) (len_and_skip / 32) supplier
  pub keeps : handed_in len_and_skip ≡ 1 → (supplier.deed.at ≡ null_ptr) × (len_and_skip % 16 ≡ 0)
