-- What an owner of bytes of a block has, and what a call leaves of it. A place is that of a byte in the block.
use Rattle.std.specs.Prelude.{◌≡◌, ℕ, ◌+◌, ◌-◌, ◌≤◌, List, length, take, drop}
use Rattle.std.specs.List.{splice}
use denote.RawPtr.{Ptr}
use Rattle.rlsf_base.specs.Out.{Change}
use Rattle.rlsf_base.specs.Changes.{AreBytesHere, AreBytesOut, IsOwn, left, came_back, came_raw, shifted}
use Rattle.rlsf_base.specs.declared.memory.block.Bytes.{Bytes}
use Rattle.rlsf_base.specs.declared.memory.block.Units.{Units}

-- the owner has the len bytes from a place on
abbrev pub Has : Bytes → ℕ → ℕ → Type 0
Has b place len = (b.skip ≤ place) × (place + len ≤ b.skip + length b.bytes)

-- it has these bytes, and each is here
abbrev pub HasHere : Bytes → ℕ → ℕ → Type 0
HasHere b place len = Has b place len × AreBytesHere b.out (place - b.skip) len

-- it has these bytes, and none is out
abbrev pub HasOwn : Bytes → ℕ → ℕ → Type 0
HasOwn b place len = Has b place len × IsOwn b.out (place - b.skip) len

-- the values of these bytes
abbrev pub values_in : Bytes → ℕ → ℕ → List ℕ
values_in b place len = take len (drop (place - b.skip) b.bytes)

-- the values of all bytes, with others for the len bytes from a place on
abbrev pub values_with : Bytes → ℕ → ℕ → List ℕ → List ℕ
values_with b place len values = splice b.bytes (place - b.skip) (place - b.skip + len) values

-- the changes, once the len bytes from a place on are written, or came back with values
abbrev pub changes_with : Bytes → ℕ → ℕ → List Change
changes_with b place len = came_back (place - b.skip) len b.out

-- the owner of bytes with these values and changes, from the place skip of the block at a pointer on, and of the block's units
abbrev pub OwnsValues : Bytes → Ptr → ℕ → List ℕ → List Change → ℕ → Type 0
OwnsValues b at skip values out units = (b.at ≡ at) × (b.skip ≡ skip) × (b.bytes ≡ values) × (b.out ≡ out) × (b.units ≡ units)

-- the owner of the len bytes from a place on that left another owner: each keeps its value and its state
abbrev pub IsPartOf : Bytes → Bytes → ℕ → ℕ → Type 0
IsPartOf b part place len =
    OwnsValues part b.at place (values_in b place len) (shifted (place - b.skip) b.out) b.units × (part.of ≡ (b.skip, length b.bytes))

-- the count units from the unit first on that left an owner, and which memory they are of
abbrev pub AreUnitsOf : Bytes → Units → ℕ → ℕ → ℕ × ℕ → Type 0
AreUnitsOf b units first count of = (units.at ≡ b.at) × (units.first ≡ first) × (units.count ≡ count) × (units.of ≡ of)

-- an owner has these values afterwards. Its place and its units stay, and its changes may be others
abbrev pub Gets : Bytes → Bytes → List ℕ → Type 0
Gets old new values = (new.at ≡ old.at) × (new.skip ≡ old.skip) × (new.bytes ≡ values) × (new.units ≡ old.units) × (new.of ≡ old.of)

-- it has these values and these changes afterwards
abbrev pub Becomes : Bytes → Bytes → List ℕ → List Change → Type 0
Becomes old new values out = Gets old new values × (new.out ≡ out)

-- the len bytes from a place on leave it. No value changes
abbrev pub GivesOut : Bytes → Bytes → ℕ → ℕ → Type 0
GivesOut old new place len = Becomes old new old.bytes (left (place - old.skip) len old.out)

-- bytes that were out come back to a place, with these values
abbrev pub TakesBack : Bytes → Bytes → ℕ → List ℕ → Type 0
TakesBack old new place values =
    AreBytesOut old.out (place - old.skip) (length values) × Becomes old new (values_with old place (length values) values) (changes_with old place (length values))

-- len bytes that were out come back to a place, raw
abbrev pub TakesBackRoom : Bytes → Bytes → ℕ → ℕ → Type 0
TakesBackRoom old new place len = AreBytesOut old.out (place - old.skip) len × Becomes old new old.bytes (came_raw (place - old.skip) len old.out)
