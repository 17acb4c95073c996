-- The words of a class table's rows, and the places of them that the search looks at.
use Rattle.std.specs.Prelude.{ℕ, ◌+◌, ◌*◌, ◌^◌, ◌<◌, List, Option, None, Some, map, nat_le, if◌then◌else◌, slice_index}
use Rattle.std.specs.List.{range_with_len}
use Rattle.rlsf_int.specs.Bits.{IsFirstOne}

-- how many places of a row of classes are scanned
abbrev pub scanned_places : ℕ → ℕ
scanned_places sllen = if nat_le sllen 64 then 64 else 128

-- two words of 64 places as one of 128: the first has the lower places
abbrev pub joined : ℕ → ℕ → ℕ
joined low high = low + high * 2 ^ 64

-- the word of a row: the low one, and where rows have more than 64 places both
abbrev pub row_word : ℕ → List ℕ → List ℕ → ℕ → ℕ
row_word sllen low high fl = if nat_le sllen 64 then slice_index low fl else joined (slice_index low fl) (slice_index high fl)

-- the words of so many rows
abbrev pub row_words : ℕ → ℕ → List ℕ → List ℕ → List ℕ
row_words fllen sllen low high = map (row_word sllen low high) (range_with_len 0 fllen)

-- the least scanned place of a word from start on that has a one, if one has
abbrev pub IsFirstPlaceFrom : ℕ → ℕ → ℕ → Option ℕ → Type 0
IsFirstPlaceFrom sllen word start None = IsFirstOne (scanned_places sllen) word start (scanned_places sllen)
IsFirstPlaceFrom sllen word start (Some place) = (place < scanned_places sllen) × IsFirstOne (scanned_places sllen) word start place
