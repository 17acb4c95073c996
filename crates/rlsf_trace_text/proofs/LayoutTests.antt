-- The test for a layout says whether there is one.
use Rattle.std.proofs.Common.{◌≡◌, ℕ, ◌+◌, ◌^◌, true, eqb, leb}
use Rattle.std.proofs.lemmas.Bool.{and_from, and_parts, eq-eqb, eqb-true, le-leb, leb-true}
use Rattle.rlsf_base.specs.Layout.{IsLayout}
use Rattle.rlsf_model_sizes.specs.PowerOfTwo.{floor_log2}
use Rattle.rlsf_trace_text.specs.Reading.{is_layout}

pub is_layout-from : (size align : ℕ) → IsLayout size align → is_layout size align ≡ true
is_layout-from size align valid = and_from _ _ (eq-eqb align (2 ^ floor_log2 align) valid.aligned) (le-leb _ _ valid.fits)

pub is_layout-to : (size align : ℕ) → is_layout size align ≡ true → IsLayout size align
is_layout-to size align test =
    let parts = and_parts (eqb align (2 ^ floor_log2 align)) (leb (size + align) (2 ^ 63)) test in
    record { aligned = eqb-true align (2 ^ floor_log2 align) parts.0; fits = leb-true (size + align) (2 ^ 63) parts.1 }

pub ruleset layout_tests = (is_layout-from, is_layout-to)
