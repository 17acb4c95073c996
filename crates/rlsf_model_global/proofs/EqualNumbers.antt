-- Two values with the same numbers are one.
use Rattle.std.proofs.Common.{◌≡◌, ℕ, ◌<◌, ap, subst}
use Rattle.std.proofs.Props.{props}
use Rattle.std.specs.declared.num.NonZeroUsize.{NonZeroUsize}
use Rattle.rlsf_base.specs.Addr.{at}
use Rattle.rlsf_base.specs.Layout.{IsLayout}
use Rattle.rlsf_base.specs.declared.memory.layout.Layout.{Layout}

-- a layout by its parts
layout : (size align : ℕ) → IsLayout size align → Layout
layout size align valid = record { size = size; align = align; valid = valid }

valid_prop : (size align : ℕ) → IsProp (IsLayout size align)
valid_prop size align = hlevel props

pub same_layout : (a b : Layout) → a.size ≡ b.size → a.align ≡ b.align → a ≡ b
unfolding layout
same_layout a b s t =
    subst (λ (n : ℕ). (v : IsLayout n b.align) → a ≡ layout n b.align v) s
    (subst (λ (m : ℕ). (v : IsLayout a.size m) → a ≡ layout a.size m v) t (λ v. ap (layout a.size a.align) (valid_prop a.size a.align a.valid v))) b.valid

-- an address by its number
address : (n : ℕ) → 0 < n → NonZeroUsize
address n ok = record { value = n; ok = ok }

some_prop : (n : ℕ) → IsProp (0 < n)
some_prop n = hlevel props

pub same_address : (a b : NonZeroUsize) → at a ≡ at b → a ≡ b
unfolding address
same_address a b s = subst (λ (n : ℕ). (v : 0 < n) → a ≡ address n v) s (λ v. ap (address a.value) (some_prop a.value a.ok v)) b.ok
