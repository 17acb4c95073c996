-- Size classes (Masmano and others, ECRTS 2004): the sizes from one power of two up to the next are a row,
-- and SLLEN classes of equal width cut each row. All arithmetic is that of whole numbers without bound.
use Rattle.std.specs.Prelude.{◌≡◌, ℕ, ◌+◌, ◌-◌, ◌*◌, ◌/◌, ◌^◌, ◌<◌, ◌≤◌, ◌⊎◌, Bool, ◌||◌, ◌==◌, IsTrue, nat_le, nat_lt}
use Rattle.std.specs.Prelude.{if◌then◌else◌}
use Rattle.rlsf_model_sizes.specs.PowerOfTwo.{floor_log2}

-- a row, named by the exponent of the power of two that it begins at, and a place in it, counted from 0
pub record SizeClass : Type 0 where
  pub exponent : ℕ
  pub division : ℕ

-- the class of a size that is not 0
abbrev pub class_of : ℕ → ℕ → SizeClass
class_of sllen size =
    let k = floor_log2 size in
    record { exponent = k; division = (size - 2 ^ k) * sllen / 2 ^ k }

-- the class at two indices: the first row begins at the size 32. Where a search begins behind a row, it is no class, but is ordered as one
abbrev pub class_at : ℕ → ℕ → SizeClass
class_at fl sl = record { exponent = 5 + fl; division = sl }

-- there are FLLEN rows
abbrev pub IsValidClass : ℕ → SizeClass → Type 0
IsValidClass fllen c = c.exponent < 5 + fllen

-- the order of classes, by the row and then by the place: c is d or comes before it
abbrev pub IsAtMost : SizeClass → SizeClass → Type 0
IsAtMost c d = (c.exponent < d.exponent) ⊎ ((c.exponent ≡ d.exponent) × (c.division ≤ d.division))

-- where a class begins, as a number of SLLENths of a byte
abbrev pub class_start : ℕ → SizeClass → ℕ
class_start sllen c = 2 ^ c.exponent * (sllen + c.division)

-- c begins at this size or above it, so each block of c is long enough
abbrev pub Reaches : ℕ → SizeClass → ℕ → Type 0
Reaches sllen c size = size * sllen ≤ class_start sllen c

-- the same, as a test
abbrev pub reaches : ℕ → SizeClass → ℕ → Bool
reaches sllen c size = nat_le (size * sllen) (class_start sllen c)

-- the least size of a class
abbrev pub least_size : ℕ → SizeClass → ℕ
least_size sllen c = class_start sllen c / sllen

-- c is the first class that reaches a size
pub record IsFirstReaching (sllen size : ℕ) (c : SizeClass) : Type 0 where
  pub in_row : c.division < sllen
  pub reached : Reaches sllen c size
  pub first : (d : SizeClass) → d.division < sllen → Reaches sllen d size → IsAtMost c d

-- the class after c
abbrev pub next_class : ℕ → SizeClass → SizeClass
next_class sllen c = if nat_lt (c.division + 1) sllen then record { exponent = c.exponent; division = c.division + 1 } else record { exponent = c.exponent + 1; division = 0 }

-- the first class that reaches a size: its own if that begins at the size, else the one after that
abbrev pub reaching_class : ℕ → ℕ → SizeClass
reaching_class sllen size = if reaches sllen (class_of sllen size) size then class_of sllen size else next_class sllen (class_of sllen size)

-- one of the eight row lengths that a bitmap of 128 bits or fewer has room for
abbrev pub is_row_length : ℕ → Bool
is_row_length n = n == 1 || n == 2 || n == 4 || n == 8 || n == 16 || n == 32 || n == 64 || n == 128

-- FLLEN rows of SLLEN classes, at bitmaps of so many bits
pub record IsValid (fl_bits sl_bits fllen sllen : ℕ) : Type 0 where
  pub some_rows : 0 < fllen
  pub rows_fit : fllen ≤ fl_bits
  pub power_of_two : IsTrue (is_row_length sllen)
  pub classes_fit : sllen ≤ sl_bits
