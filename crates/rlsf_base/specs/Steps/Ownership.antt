-- What the parts of a memory own and lend.
use Rattle.std.specs.Prelude.{◌≡◌, ℕ, zero, suc, ◌+◌, ◌-◌, ◌*◌, ◌/◌, ◌%◌, ◌^◌, Bool, true, false, ◌&&◌, eqb, if◌then◌else◌, List, [], ◌∷◌}
use Rattle.std.specs.Prelude.{length}
use base.Fraction.{full_share}
use base.Fml.{Lft, Fml, ftrue, ffalse, fsep, fwand, flt, froom}
use mir.Syntax.{Ty, w8, w128, ty_int, ty_array}
use denote.Memory.{part_at, shared_of}
use denote.Builtin.{u8}
use denote.Sharing.{nothing, said, beside}
use denote.RawPtr.{Ptr, block_ptr, null_ptr}
use Rattle.rlsf_base.specs.Out.{Change, Kept, here, raw, out, is_own, in_run, kept_at}

-- the units of 16 bytes that hold len bytes after the first skip
abbrev pub units_for : ℕ → ℕ → ℕ
units_for skip len = (skip + len + 15) / 16

-- those that are aligned to 16, of a memory whose addresses plus shift are the places in the block: none where the block isn't aligned to 16,
-- whose shift is no multiple of 16
abbrev pub units_in : ℕ → ℕ → ℕ → ℕ
units_in shift skip len = if eqb (shift % 16) 0 then units_for skip len else 0

-- n bytes, and n units of 16 bytes, aligned to 16
abbrev pub bytes_ty : ℕ → Ty
bytes_ty n = ty_array (ty_int w8) n

abbrev pub units_ty : ℕ → Ty
units_ty n = ty_array (ty_int w128) n

-- the byte x at a place; room for one; or nothing, where it is out
abbrev pub byte_in : Kept → ℕ → ℕ → ℕ → Fml
byte_in here x b o = part_at u8 full_share x b o
byte_in raw x b o = froom (ty_int w8) b o
byte_in out x b o = ftrue

-- the bytes, the k-th and those behind it, each as it is kept
abbrev pub held : (ℕ → Kept) → ℕ → List ℕ → ℕ → ℕ → Fml
held is k [] b o = ftrue
held is k (x ∷ xs) b o = fsep (byte_in (is k) x b o) (held is (suc k) xs b (o + 1))

-- the way back of a unit's sixteen bytes to room that is aligned to 16, or nothing
abbrev pub way_if : Bool → ℕ → ℕ → Fml
way_if true b o = fwand (froom (bytes_ty 16) b o) (froom (ty_int w128) b o)
way_if false b o = ftrue

-- the ways of n units from the u-th on, of those that are there
abbrev pub ways_of : (ℕ → Bool) → ℕ → ℕ → ℕ → ℕ → Fml
ways_of is u zero b o = ftrue
ways_of is u (suc n) b o = fsep (way_if (is u) b (u * 16 + o)) (ways_of is (suc u) n b o)

-- whether a unit begins in the len bytes from the place skip on, and whether its first byte is the owner's too
abbrev pub begins_in : ℕ → ℕ → ℕ → Bool
begins_in skip len u = in_run skip len (u * 16)

abbrev pub own_unit : List Change → ℕ → ℕ → ℕ → Bool
own_unit cs skip len u = begins_in skip len u && is_own (kept_at cs (u * 16 - skip))

-- the bytes bs from the place skip of the block at p on, each as it is kept; and of the block's units the ways of those whose first byte is the
-- owner's. A block that isn't aligned to 16 has no units
abbrev pub bytes_own : Ptr → ℕ → List ℕ → List Change → ℕ → Fml
bytes_own (block_ptr b o) skip bs cs units =
    fsep (flt (length bs) (2 ^ 63)) (fsep (held (kept_at cs) 0 bs b (skip + o)) (ways_of (own_unit cs skip (length bs)) 0 units b o))
bytes_own null_ptr skip bs cs units = ffalse

-- a `&` to them shows the bytes that are here
abbrev pub byte_shown : Kept → ℕ → ℕ → ℕ → Lft → Fml
byte_shown here x b o = shared_of u8 x b o
byte_shown raw x b o = nothing
byte_shown out x b o = nothing

abbrev pub bytes_shown : (ℕ → Kept) → ℕ → List ℕ → ℕ → ℕ → Lft → Fml
bytes_shown is k [] b o = nothing
bytes_shown is k (x ∷ xs) b o = beside (byte_shown (is k) x b o) (bytes_shown is (suc k) xs b (o + 1))

abbrev pub bytes_lent : Ptr → ℕ → List ℕ → List Change → Lft → Fml
bytes_lent (block_ptr b o) skip bs cs = beside (said (flt (length bs) (2 ^ 63))) (bytes_shown (kept_at cs) 0 bs b (skip + o))
bytes_lent null_ptr skip bs cs = said ffalse

-- the allocator's token for a block of units, and the way back to the units. The way back takes room for the bytes and the ways of
-- the units that begin in them. At null there is no block
abbrev pub deed_owns : (Ty → Ptr → Fml) → Ptr → ℕ → ℕ → ℕ → Fml
deed_owns token (block_ptr b o) units skip len =
    fsep (token (units_ty units) (block_ptr b o))
    (fwand (froom (bytes_ty len) b (skip + o)) (fwand (ways_of (begins_in skip len) 0 units b o) (froom (units_ty units) b o)))
deed_owns token null_ptr units skip len = ftrue

-- the place in a block to which a pointer points: it isn't null
abbrev pub IsInBlock : Ptr → Type 0
IsInBlock p = (b : ℕ) × (o : ℕ) × (p ≡ block_ptr b o)

-- room for count units from the unit first of the block at p on
abbrev pub units_own : Ptr → ℕ → ℕ → Fml
units_own (block_ptr b o) first count = froom (units_ty count) b (first * 16 + o)
units_own null_ptr first count = ffalse

-- the units of the caller's block of len bytes whose first byte has the address start: none where start is no multiple of 16
abbrev pub units_from : ℕ → ℕ → ℕ
units_from start len = units_in start 0 len

-- of the bytes bs at p, whose addresses begin at start, those that aren't out by these changes; where start is a multiple of 16, with the ways of their units
abbrev pub lent_at : Ptr → ℕ → List ℕ → List Change → Fml
lent_at p start bs cs = bytes_own p 0 bs cs (units_from start (length bs))

-- the bytes bs at p, whose addresses begin at start; where start is a multiple of 16, with the ways of their units
abbrev pub bytes_at_pointer : Ptr → ℕ → List ℕ → Fml
bytes_at_pointer p start bs = bytes_own p 0 bs [] (units_from start (length bs))

-- room for n bytes at p, whose addresses begin at start; where start is a multiple of 16, with the ways of their units
abbrev pub room_at : Ptr → ℕ → ℕ → Fml
room_at (block_ptr b o) start n = fsep (froom (bytes_ty n) b o) (ways_of (begins_in 0 n) 0 (units_from start n) b o)
room_at null_ptr start n = ffalse
