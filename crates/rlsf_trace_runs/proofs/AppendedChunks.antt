-- What an append leaves of the chunks.
use Rattle.std.proofs.Common.{◌≡◌, ℕ, ◌+◌, ◌-◌, ◌*◌, ◌/◌, ◌≤◌, List, [], ◌∷◌, Option, Some, None, arith, refl, sym, subst}
use Rattle.rlsf_base.specs.declared.memory.range.Range.{Range}
use Rattle.rlsf_base.specs.Range.{end_of, range_at}
use Rattle.rlsf_model_sizes.specs.Rounding.{round32}
use Rattle.rlsf_base.proofs.Numbers.Roundings.{round32-same}
use Rattle.rlsf_model_sizes.specs.Sizes.{max_pool_size}
use Rattle.rlsf_model.specs.Insert.{aligned_part, appended, appended_bytes, Appends, cut, end_of_last, extended, IsNext, with_chunks}
use Rattle.rlsf_model.specs.Lists.{IsIn}
use Rattle.rlsf_model.specs.State.{State}
use Rattle.rlsf_model.specs.WellFormed.{covers, coverage, itself, IsWellFormed}
use Rattle.rlsf_model.proofs.AppendedRanges.{coverage-extended}
use Rattle.rlsf_model.proofs.Cuts.{coverage-cut, coverage-cut_last}
use Rattle.rlsf_model.proofs.Insertions.{IsWhole-aligned_part}
use Rattle.rlsf_model.proofs.Untouched.{coverage-with_chunks}
use Rattle.rlsf_trace_runs.proofs.NewPools.{bounds_of_chunks, IsIn-with_chunks}

-- the chunks once so many bytes of a range are theirs, behind a chunk that ended where it begins
pub record IsLonger (s : State) (r : Range) (more : ℕ) (t : State) : Type 0 where
  pub within : more ≤ r.len
  pub coverage : (a : ℕ) → coverage itself t.chunks a ≤ covers (range_at r.start more) a + coverage itself s.chunks a

-- a chunk that ends where the range begins grows
IsLonger-extended : (s : State) (r : Range) (n : ℕ) → n ≤ r.len → IsLonger s r n (extended r.start n s)
IsLonger-extended s r n fits = record { within = fits; coverage = coverage-extended r.start n s }

-- chunks of their own follow the one that ends where the range begins
IsLonger-with_chunks : (s : State) (r : Range) (cs : List Range) → round32 r.start ≡ r.start → ((d : Range) → IsIn d cs → 64 ≤ d.len)
    → ((a : ℕ) → coverage itself cs a ≤ covers (aligned_part r) a)
    → ((a : ℕ) → coverage itself cs a ≤ covers (range_at (round32 r.start) (end_of_last (round32 r.start) cs - round32 r.start)) a)
    → IsLonger s r (end_of_last r.start cs - r.start) (with_chunks cs s)
IsLonger-with_chunks s r [] whole room within covered = record {
  within = omega arith;
  coverage = λ a. omega arith;
}
IsLonger-with_chunks s r (c ∷ cs) whole room within covered =
    let n = end_of_last (end_of c) cs - r.start in
    let (some, fits) = bounds_of_chunks r (c ∷ cs) n refl room within in
    let here : (a : ℕ) → coverage itself (c ∷ cs) a ≤ covers (range_at r.start n) a =
    subst (λ at. (a : ℕ) → coverage itself (c ∷ cs) a ≤ covers (range_at at (end_of_last (end_of c) cs - at)) a) whole covered in
    record {
      within = omega (arith, fits);
      coverage = λ a. omega (arith, coverage-with_chunks (c ∷ cs) s a, here a);
    }

module _ {fllen sllen : ℕ} {memory : Range} {s : State} (w : IsWellFormed fllen sllen memory s) (r : Range) (next : IsNext memory s r) where
  -- the range begins at a multiple of 32, since a chunk ends there
  begins_whole : round32 r.start ≡ r.start
  begins_whole =
      let whole = (w.chunks next.chunk next.is_chunk).whole in
      round32-same r.start (omega (arith, whole.start, whole.len, next.ends))

  IsLonger-by : {there : Range} (o : Option ℕ) → IsWellFormed fllen sllen there (appended o r s) → IsLonger s r (appended_bytes o r) (appended o r s)
  IsLonger-by None new = IsLonger-extended s r (r.len / 32 * 32) (omega arith)
  IsLonger-by (Some most) new =
      let cs = cut (Some most) (aligned_part r) in
      IsLonger-with_chunks s r cs begins_whole (λ d i. (new.chunks d (IsIn-with_chunks cs s d i)).has_room) (coverage-cut (aligned_part r) (IsWhole-aligned_part r) (Some most))
      (coverage-cut_last (Some most) (aligned_part r))

  -- an append makes the pool that ends where the range begins so many bytes longer
  pub IsLonger-appended : {there : Range} (reply : ℕ) (t : State) → Appends fllen s r reply t → IsWellFormed fllen sllen there t → IsLonger s r reply t
  IsLonger-appended {there} reply t step new =
      subst (λ n. IsLonger s r n t) (sym step.answer) (subst (IsLonger s r (appended_bytes (max_pool_size fllen) r)) (sym step.after)
      (IsLonger-by (max_pool_size fllen) (subst (IsWellFormed fllen sllen there) step.after new)))
