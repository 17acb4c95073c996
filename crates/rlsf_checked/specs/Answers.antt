-- The results of the calls, and when each error is returned.
use Rattle.std.specs.Prelude.{◌≡◌, ◌==◌, ◌⊎◌, ◌<◌, ◌≤◌, ℕ, zero, suc, ◌+◌, ◌^◌, Bool, true, ◌&&◌, List, length, nat_le, nat_lt, Option, Some}
use Rattle.std.specs.Prelude.{None, Result, Ok, Err, IfErr, if◌then◌else◌}
use Rattle.std.specs.declared.num.NonZeroUsize.{NonZeroUsize}
use Rattle.rlsf_base.specs.declared.memory.range.Range.{Range}
use Rattle.rlsf_base.specs.Addr.{at}
use Rattle.rlsf_base.specs.Range.{end_of}
use Rattle.rlsf_model_sizes.specs.Sizes.{max_pool_size}
use Rattle.rlsf_base.specs.Space.{range_of}
use Rattle.rlsf_model.specs.Callers.{align_at, bytes_at}
use Rattle.rlsf_model.specs.Insert.{aligned_part, appended_bytes, bytes_taken, cut}
use Rattle.rlsf_model.specs.State.{State}
use Rattle.rlsf_checked.specs.declared.error.CheckedError.{CheckedError}
use Rattle.rlsf_checked.specs.declared.error.CheckedError.TheVariants.{NoLayout, NoRoom, NotBehind, NotNext, OutOfMemory, OutOfRange, OutsideMemory, TooShort, UnknownAddress}
use Rattle.rlsf_checked.specs.Checked.{Checked}

-- an address where no payload has an alignment is refused
abbrev pub if_live : {A : Type 0} → Option ℕ → A → Result A CheckedError
if_live None x = Err UnknownAddress
if_live (Some align) x = Ok x

-- and so, at a live one, is what doesn't fit
abbrev pub if_in_range : Option ℕ → Bool → Result (Unit {0}) CheckedError
if_in_range None fits = Err UnknownAddress
if_in_range (Some align) fits = if fits then Ok tt else Err OutOfRange

-- the result for two payloads with these alignments, if any: UnknownAddress unless both are live, else by whether the bytes fit
abbrev pub if_both_in_range : Option ℕ → Option ℕ → Bool → Result (Unit {0}) CheckedError
if_both_in_range None other fits = Err UnknownAddress
if_both_in_range (Some align) other fits = if_in_range other fits

-- both lists have so many bytes
abbrev pub both_have : ℕ → List ℕ → List ℕ → Bool
both_have len bytes others = nat_le len (length bytes) && nat_le len (length others)

-- a copy is refused unless payloads are live at both addresses, and then unless both have so many bytes
abbrev pub copy_answer : State → ℕ → ℕ → ℕ → Result (Unit {0}) CheckedError
copy_answer s from to len = if_both_in_range (align_at s from) (align_at s to) (both_have len (bytes_at s from) (bytes_at s to))

-- so many bytes from an offset on are among those of a payload
abbrev pub fits : ℕ → ℕ → List ℕ → Bool
fits offset len bytes = nat_le (offset + len) (length bytes)

-- an address where no payload has an alignment is refused; and so is, at a live one, a size with which no layout has the alignment
abbrev pub size_refusal : Option ℕ → ℕ → Option CheckedError
size_refusal None size = Some UnknownAddress
size_refusal (Some align) size = if nat_le (size + align) (2 ^ 63) then None else Some NoLayout

-- so of the payload at an address
abbrev pub refusal_at : State → ℕ → ℕ → Option CheckedError
refusal_at s addr size = size_refusal (align_at s addr) size

-- a refusal that is returned is the answer; if none is returned, a refusal means that there is no room
abbrev pub IsRefusedBy : {A : Type 0} → Option CheckedError → Result A CheckedError → Type 0
IsRefusedBy (Some e) result = result ≡ Err e
IsRefusedBy None result = IfErr result (λ e. e ≡ NoRoom)

-- the address that is returned, if there is one
abbrev pub addr_in : Result NonZeroUsize CheckedError → Option ℕ
addr_in (Ok addr) = Some (at addr)
addr_in (Err e) = None

-- the number that is returned, if there is one
abbrev pub taken : Result ℕ CheckedError → Option ℕ
taken (Ok n) = Some n
taken (Err e) = None

-- a range lies in another
abbrev pub is_within : Range → Range → Bool
is_within whole r = nat_le whole.start r.start && nat_le (end_of r) (end_of whole)

-- what is taken of a range, of which no chunk may be made
abbrev pub if_taken : Option ℕ → Result ℕ CheckedError
if_taken None = Err TooShort
if_taken (Some n) = Ok n

-- A range is refused if it is outside of the memory, begins before the end of the last pool, or holds no chunk. Otherwise
-- the number of taken bytes is returned
abbrev pub insert_answer : ℕ → Checked → Range → Result ℕ CheckedError
insert_answer fllen v r =
    if is_within (range_of v.heap.memory) r then
    (if nat_lt r.start (end_of v.pools.last) then Err NotBehind else if_taken (bytes_taken r.start (cut (max_pool_size fllen) (aligned_part r))))
    else Err OutsideMemory

-- A range is inserted or refused so. Or, if it may be inserted and another pool is the last one, the system has no memory for the list of pools
abbrev pub IsInsertAnswer : ℕ → Checked → Range → Result ℕ CheckedError → Type 0
IsInsertAnswer fllen v r result =
    (result ≡ insert_answer fllen v r)
    ⊎ ((result ≡ Err OutOfMemory) × (0 < v.pools.last.len) × (is_within (range_of v.heap.memory) r ≡ true) × (end_of v.pools.last ≤ r.start))

-- a range that isn't empty ends at the address
abbrev pub is_next : Range → ℕ → Bool
is_next pool addr = nat_lt 0 pool.len && (addr == end_of pool)

-- what is taken of a range that is appended, of which no byte may be
abbrev pub if_appended : ℕ → Result ℕ CheckedError
if_appended zero = Err TooShort
if_appended (suc n) = Ok (suc n)

-- A range is refused if it is outside of the memory, begins elsewhere than at the end of the last pool, or is too short. Otherwise
-- the number of taken bytes is returned
abbrev pub append_answer : ℕ → Checked → Range → Result ℕ CheckedError
append_answer fllen v r =
    if is_within (range_of v.heap.memory) r then (if is_next v.pools.last r.start then if_appended (appended_bytes (max_pool_size fllen) r) else Err NotNext)
    else Err OutsideMemory
