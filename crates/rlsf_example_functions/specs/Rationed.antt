-- A source of the callers' own.
use Rattle.std.specs.Prelude.{◌≡◌, ℕ, ◌+◌, ◌<◌, ◌⊎◌, false, Some, None, List}
use Rattle.std.proofs.Common.{ap}
use Rattle.rlsf.specs.Sources.{Bump, BumpOwes, Note, Range, Terms, alloc, bump_in, dealloc, end_of, grow, range_at, round32}

-- the space with the address that no range goes past, and how many ranges it still provides
pub record Rationed : Type 0 where
  pub bump : Bump
  pub left : ℕ

-- the source with these parts
abbrev pub rationed_in : Range → ℕ → ℕ → Rationed
rationed_in space at left = record { bump = bump_in space at; left = left }

-- what it keeps to: its ranges begin at multiples of 32, none grows, and none is taken back
abbrev pub rationed_terms : Rationed → Terms
rationed_terms x = record { space = x.bump.space; dealloc = false; grow = false; contiguous = false; min_align = 32 }

-- its ranges lie in the space before that address, and don't overlap
abbrev pub RationedOwes : Rationed → List Range → Type 0
RationedOwes x owed = BumpOwes x.bump owed

-- A range has the requested bytes, from the first multiple of 32 on, and one range less is left. No range is provided
-- if none is left, or if the space is too short; then nothing changes.
abbrev pub RationedLeads : Rationed → Note → Rationed → Type 0
RationedLeads x (alloc size None) y = ((x.left ≡ 0) ⊎ (end_of x.bump.space < round32 x.bump.at + size)) × (y ≡ x)
RationedLeads x (alloc size (Some r)) y = (y.left + 1 ≡ x.left) × (r ≡ range_at (round32 x.bump.at) size) × (y.bump ≡ bump_in x.bump.space (end_of r))
RationedLeads x (grow r len given) y = (given ≡ None) × (y ≡ x)
RationedLeads x (dealloc r) y = y ≡ x

-- no question changes the source's terms
pub constant_rationed : (x y : Rationed) (n : Note) → RationedLeads x n y → rationed_terms y ≡ rationed_terms x
constant_rationed x y (alloc size None) led = ap rationed_terms led.1
constant_rationed x y (alloc size (Some r)) led = ap (λ (b : Bump). record { space = b.space; dealloc = false; grow = false; contiguous = false; min_align = 32 }) led.2
constant_rationed x y (grow r len given) led = ap rationed_terms led.1
constant_rationed x y (dealloc r) led = ap rationed_terms led
