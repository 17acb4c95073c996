-- Codes as contracts see them.
use Rattle.std.specs.Prelude.{ℕ, ◌≡◌, ◌+◌, ◌-◌, ◌<◌, ◌≤◌, ◌/◌, ◌%◌, ◌==◌, ◌&&◌, nat_le, if◌then◌else◌, get_or, length}
use Rattle.std.specs.Vec.{vec_capacity}
use Rattle.rlsf_codes.specs.declared.codes.Codes.{Codes}

-- The addresses that have codes: multiples of 16. Divided by 16, they are `first` and the `count - 1` numbers after it. `none` is the code of all
-- others.
pub record CodeSpace (A : Type 0) : Type 0 where
  pub first : ℕ
  pub count : ℕ
  pub none : A

module _ {A : Type 0} where
  -- the multiples of 16 in a memory of `len` bytes from `start` on, with its end
  abbrev pub codes_for : ℕ → ℕ → A → CodeSpace A
  codes_for start len none = record { first = start / 16; count = len / 16 + 2; none = none }

  -- an address has a code
  pub record HasCode (s : CodeSpace A) (addr : ℕ) : Type 0 where
    pub whole : addr % 16 ≡ 0
    pub above : s.first ≤ addr / 16
    pub below : addr / 16 - s.first < s.count

  -- the addresses that have codes
  abbrev pub code_space : Codes A → CodeSpace A
  code_space c = record { first = c.first; count = c.count; none = c.none }

  -- the code of an address, and `none` where it has no place
  abbrev pub code_at : Codes A → ℕ → A
  code_at c addr = if (addr % 16 == 0) && nat_le c.first (addr / 16) then get_or c.codes.items (addr / 16 - c.first) c.none else c.none

  -- an address has a place among the codes that are stored
  abbrev pub HasPlace : Codes A → ℕ → Type 0
  HasPlace c addr = (addr % 16 ≡ 0) × (c.first ≤ addr / 16) × (addr / 16 - c.first < length c.codes.items)

  -- there is room for all codes
  abbrev pub HasCapacity : Codes A → Type 0
  HasCapacity c = c.count ≤ vec_capacity c.codes

  -- how many codes calls have read or written
  abbrev pub look_count : Codes A → ℕ
  look_count c = c.looks.count
