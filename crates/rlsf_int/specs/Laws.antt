-- The proofs of the laws that tie the values, patterns and numbers of an integer type. The implementations cite them.
use Rattle.std.specs.Prelude.{ℕ, ◌-◌, ◌<◌, ◌^◌, ℤ, pos, negsuc, refl}
use Rattle.std.specs.Int.{Width, cast_signed, cast_unsigned}
use Rattle.std.proofs.Common.{arith, sym, ap, ◌∙◌, inl, inr}
use Rattle.std.proofs.lemmas.Int.{ints, of_z-to_z, to_z-of_z}
use Rattle.std.proofs.lemmas.Nat.{pow_pos}
use Rattle.rlsf_int.specs.Values.{IsOneToOne, IsSpelled, IsValue}
use denote.Plain.{UInt}
use denote.Signed.{SInt}
use mir.Val.{bits, hbits}
use mir.ValLaws.{of_z_fits, pow-bits, to_z-Fits}

-- an unsigned value is its own pattern
pub unsigned-IsOneToOne : (w : Width) → IsOneToOne (IsValue (UInt w)) (bits w) (λ n. n)
unsigned-IsOneToOne w = record {
  fits = λ x v. v.1.1;
  same = λ x y v u e. e;
  every = λ n h. (n, (_, (refl, h)), refl);
}

-- a signed value's pattern is its two's complement
pub signed-IsOneToOne : (w : Width) → IsOneToOne (IsValue (SInt w)) (bits w) (cast_unsigned w)
signed-IsOneToOne w = record {
  fits = λ x v. (of_z_fits w x (record { sfits = v.1.1 })).fits;
  same = λ x y v u e. sym (to_z-of_z w x (record { sfits = v.1.1 })) ∙ ap (cast_signed w) e ∙ to_z-of_z w y (record { sfits = u.1.1 });
  every = λ n h. (cast_signed w n, (_, (refl, (to_z-Fits w n (record { fits = h })).sfits)), of_z-to_z w n h);
}

pub unsigned-IsSpelled : (w : Width) (x : ℕ) → IsValue (UInt w) x → IsSpelled (bits w) (2 ^ bits w - 1) x (pos x)
unsigned-IsSpelled w x v =
    let fits : x < 2 ^ bits w = v.1.1 in
    record { ends = inl (omega (arith, pow_pos (bits w))); above = omega (arith, ints); below = omega (arith, ints); spelled = inl refl }

pub signed-IsSpelled : (w : Width) (z : ℤ) → IsValue (SInt w) z → IsSpelled (bits w) (2 ^ hbits w - 1) (cast_unsigned w z) z
signed-IsSpelled w (pos n) v =
    let fits : n < 2 ^ hbits w = v.1.1 in
    let twice = pow-bits w in
    record { ends = inr (omega (arith, pow_pos (hbits w))); above = omega (arith, ints); below = omega (arith, ints); spelled = inl refl }
signed-IsSpelled w (negsuc n) v =
    let fits : n < 2 ^ hbits w = v.1.1 in
    let twice = pow-bits w in
    record { ends = inr (omega (arith, pow_pos (hbits w))); above = omega (arith, ints); below = omega (arith, ints); spelled = inr (omega (arith, ints)) }
