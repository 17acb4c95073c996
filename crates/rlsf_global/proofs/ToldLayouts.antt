-- A code and a length determine a layout.
use Rattle.std.proofs.Common.{◌≡◌, ◌≢◌, ℕ, ◌-◌, ◌/◌, ◌<◌, List, length, Option, Some, None, IsSome, arith, refl, sym, ap, subst, ◌∙◌}
use Rattle.std.specs.declared.num.NonZeroUsize.{NonZeroUsize}
use Rattle.rlsf_base.proofs.Numbers.PowersOfTwo.{IsPowerOfTwo-positive, floor_log2-le, pow-between}
use Rattle.rlsf_base.specs.Addr.{at}
use Rattle.rlsf_model_sizes.specs.PowerOfTwo.{floor_log2}
use Rattle.rlsf_base.specs.declared.memory.layout.Layout.{Layout}
use Rattle.rlsf_global.proofs.CodedRows.{row_at-in}
use Rattle.rlsf_global.specs.LiveRows.{IsToldBy, code_in}
use Rattle.rlsf_model.specs.Callers.{align_at, bytes_at}
use Rattle.rlsf_model.specs.State.{State}
use Rattle.rlsf_model_global.proofs.EqualNumbers.{same_address}
use Rattle.rlsf_model_global.specs.Heap.{Agrees, Lists}
use Rattle.rlsf_model_global.specs.Rows.{Row, row_at}

-- the logarithm of an alignment is below 64
pub log_small : (l : Layout) → floor_log2 l.align < 64
log_small l =
    let some = IsPowerOfTwo-positive l.align l.valid.aligned in
    let fits = l.valid.fits in
    let few = pow-between l.align (floor_log2 l.align) 63 (floor_log2-le l.align some) (omega (arith, fits)) in
    omega (arith, few)

-- the code has the logarithm of the alignment
pub told-log : (code usable : ℕ) (l : Layout) → IsToldBy code usable l → (code - 1) / 32 ≡ floor_log2 l.align
told-log code usable l told = let is = told.coded in omega (arith, is)

-- where there is a code, there is a payload, and the entry has the layout
pub record IsTold (rows : List Row) (m : State) (addr : NonZeroUsize) (code : ℕ) : Type 0 where
  pub live : IsSome (align_at m (at addr))
  pub layout : Layout
  pub told : IsToldBy code (length (bytes_at m (at addr))) layout
  pub here : row_at (at addr) rows ≡ Some (addr, layout)

pub told-row : (rows : List Row) (m : State) → Lists rows m → (addr : NonZeroUsize) (code : ℕ) → code ≡ code_in (row_at (at addr) rows)
    → code ≢ 0 → IsTold rows m addr code
told-row rows m lists addr code is some = by (row_at (at addr) rows) refl is (lists (at addr))
  where
    by : (o : Option Row) → row_at (at addr) rows ≡ o → code ≡ code_in o → Agrees o (align_at m (at addr)) (bytes_at m (at addr)) → IsTold rows m addr code
    by None here e agrees = absurd (some e)
    by (Some r) here e (align, enough, few) =
        let same = same_address addr r.0 (sym (row_at-in (at addr) rows r here).1) in
        record {
          live = subst (λ o. IsSome o) (sym align) refl;
          layout = r.1;
          told = record { coded = e; enough = enough; few = few };
          here = here ∙ ap (λ (a : NonZeroUsize). Some (a, r.1)) (sym same);
        }
