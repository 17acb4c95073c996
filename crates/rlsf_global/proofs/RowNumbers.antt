-- An entry by its three numbers: its address, its size and its alignment.
use Rattle.std.proofs.Common.{◌≡◌, ◌≢◌, ◌⊎◌, ℕ, ◌+◌, ◌^◌, ◌<◌, ◌≤◌, ◌==◌, nat_le, true, false, List, Option, Some, None, arith, ap, ap₂, refl, inl, inr}
use Rattle.std.proofs.lemmas.Bool.Decides.{eqb_tells, leb_tells}
use Rattle.std.specs.declared.num.NonZeroUsize.{NonZeroUsize}
use Rattle.rlsf_model_sizes.specs.PowerOfTwo.{floor_log2}
use Rattle.rlsf_base.specs.declared.memory.layout.Layout.{Layout}
use Rattle.rlsf_model_global.proofs.EqualNumbers.{same_address, same_layout}
use Rattle.rlsf_model_global.specs.Rows.{Row, key, put}

-- the entry, if the tests say that its parts are those of an address and of a layout
tested : (addr size align : ℕ) → ((nat_le 1 addr ≡ true) × (1 ≤ addr)) ⊎ ((nat_le 1 addr ≡ false) × (addr < 1))
    → ((align == 2 ^ floor_log2 align ≡ true) × (align ≡ 2 ^ floor_log2 align)) ⊎ ((align == 2 ^ floor_log2 align ≡ false) × (align ≢ 2 ^ floor_log2 align))
    → ((nat_le (size + align) (2 ^ 63) ≡ true) × (size + align ≤ 2 ^ 63)) ⊎ ((nat_le (size + align) (2 ^ 63) ≡ false) × (2 ^ 63 < size + align)) → Option Row
tested addr size align (inl some) (inl power) (inl fits) =
    Some (record { value = addr; ok = some.1 }, record { size = size; align = align; valid = record { aligned = power.1; fits = fits.1 } })
tested addr size align (inl some) (inl power) (inr far) = None
tested addr size align (inl some) (inr other) t = None
tested addr size align (inr none) s t = None

-- the entry of three numbers, if they are those of one
row_from : ℕ → ℕ → ℕ → Option Row
row_from addr size align = tested addr size align (leb_tells 1 addr) (eqb_tells align (2 ^ floor_log2 align)) (leb_tells (size + align) (2 ^ 63))

-- the entries with that entry
put_some : Option Row → List Row → List Row
put_some None rows = rows
put_some (Some row) rows = put row rows

pub put_from : ℕ → ℕ → ℕ → List Row → List Row
put_from addr size align rows = put_some (row_from addr size align) rows

tested-row : (row : Row) (a : ((nat_le 1 (key row) ≡ true) × (1 ≤ key row)) ⊎ ((nat_le 1 (key row) ≡ false) × (key row < 1)))
    (s : ((row.1.align == 2 ^ floor_log2 row.1.align ≡ true) × (row.1.align ≡ 2 ^ floor_log2 row.1.align))
    ⊎ ((row.1.align == 2 ^ floor_log2 row.1.align ≡ false) × (row.1.align ≢ 2 ^ floor_log2 row.1.align)))
    (t : ((nat_le (row.1.size + row.1.align) (2 ^ 63) ≡ true) × (row.1.size + row.1.align ≤ 2 ^ 63))
    ⊎ ((nat_le (row.1.size + row.1.align) (2 ^ 63) ≡ false) × (2 ^ 63 < row.1.size + row.1.align)))
    → tested (key row) row.1.size row.1.align a s t ≡ Some row
unfolding tested
tested-row row (inl some) (inl power) (inl fits) =
    ap Some (ap₂ (λ (a : NonZeroUsize) (l : Layout). (a, l)) (same_address _ row.0 refl) (same_layout _ row.1 refl refl))
tested-row row (inl some) (inl power) (inr far) = let fits = row.1.valid.fits in absurd (omega (arith, far, fits))
tested-row row (inl some) (inr other) t = absurd (other.1 row.1.valid.aligned)
tested-row row (inr none) s t = let some = row.0.ok in absurd (omega (arith, none, some))

pub put_from-row : (row : Row) (rows : List Row) → put_from (key row) row.1.size row.1.align rows ≡ put row rows
unfolding put_from row_from put_some
put_from-row row rows =
    ap (λ o. put_some o rows) (tested-row row (leb_tells 1 (key row)) (eqb_tells row.1.align (2 ^ floor_log2 row.1.align))
    (leb_tells (row.1.size + row.1.align) (2 ^ 63)))
