-- Which plan a used block's new size has, where its own bytes and those of a free block behind it suffice.
use Rattle.std.specs.Option.{option_or}
use Rattle.std.proofs.Common.{◌≡◌, ◌≢◌, ℕ, ◌-◌, ◌<◌, ◌≤◌, cond, ◌++◌, Some, None, find, arith, ap}
use mathlib.Core.Path.{ap₂}
use Rattle.std.proofs.lemmas.Bool.{cases_lt, eqb-true, le-leb, lt-leb, le-ltb, lt-ltb}
use Rattle.rlsf_base.specs.declared.memory.range.Range.{Range}
use Rattle.rlsf_base.specs.Range.{end_of}
use Rattle.rlsf_model.specs.Allocate.{rest_behind}
use Rattle.rlsf_model.specs.Join.{join, ends_at}
use Rattle.rlsf_model.specs.Lists.{IsIn}
use Rattle.rlsf_model.specs.Reallocate.{Plan, in_place, into_next}
use Rattle.rlsf_model.specs.State.{State, Used, between}
use Rattle.rlsf_model.specs.WellFormed.{IsWellFormed}
use Rattle.rlsf_model.proofs.Coverage.{without-none}
use Rattle.rlsf_model.proofs.Payloads.{IsUsed-after_start}
use Rattle.rlsf_model.proofs.Plans.{IsSoundPlan, IsSound-in_place, IsSound-into_next}
use Rattle.rlsf_model.proofs.Names.{resized, tail_joined}
use Rattle.rlsf_table.proofs.FreeLists.Found.{find-no}
use Rattle.rlsf_blocks.proofs.Reallocate.Spans.{reach, staying}
use Rattle.rlsf_blocks.proofs.Words.Apart.{used_free}

-- the plan where the size rises or falls
abbrev pub stretched : State → Used → ℕ → Plan
stretched s u size = record { block = resized u size; payload = u.payload; free = rest_behind (resized u size) (reach s u) ++ staying s u }

-- the plan where the block stays as it is
abbrev pub kept_whole : State → Used → ℕ → Plan
kept_whole s u size = record { block = resized u size; payload = u.payload; free = tail_joined (resized u size) (end_of u.block) s.free }

module _ (s : State) (u : Used) (size : ℕ) where
  pub in_place-fits : end_of (resized u size) ≤ end_of u.block → in_place s u size ≡ Some (kept_whole s u size)
  in_place-fits fits = ap (λ b. cond b (Some (kept_whole s u size)) None) (le-leb (end_of (resized u size)) (end_of u.block) fits)

  pub in_place-none : end_of u.block < end_of (resized u size) → in_place s u size ≡ None
  in_place-none long = ap (λ b. cond b (Some (kept_whole s u size)) None) (lt-leb (end_of (resized u size)) (end_of u.block) long)

  into_next-fits : end_of (resized u size) ≤ reach s u → into_next s u size ≡ Some (stretched s u size)
  into_next-fits fits = ap (λ b. cond b (Some (stretched s u size)) None) (le-leb (end_of (resized u size)) (reach s u) fits)

  into_next-none : reach s u < end_of (resized u size) → into_next s u size ≡ None
  into_next-none long = ap (λ b. cond b (Some (stretched s u size)) None) (lt-leb (end_of (resized u size)) (reach s u) long)

  -- neither suffices
  pub no_plan : end_of u.block < end_of (resized u size) → reach s u < end_of (resized u size) → option_or (in_place s u size) (into_next s u size) ≡ None
  no_plan longer longest = ap₂ option_or (in_place-none longer) (into_next-none longest)

  module _ {fllen sllen : ℕ} {memory : Range} (w : IsWellFormed fllen sllen memory s) (i : IsIn u s.used) where
    -- no free block ends where the tail begins: the used block is there
    none_before : end_of (resized u size) < end_of u.block → find (ends_at (end_of (resized u size))) s.free ≡ None
    none_before shorter =
        let after_start = IsUsed-after_start u (w.used u i) in
        find-no (ends_at (end_of (resized u size))) s.free (λ f j passes.
        let f_end = eqb-true (end_of f) (end_of (resized u size)) passes in
        let more = (w.free f j).some in
        used_free w u f (end_of (resized u size) - 1) i j (record { from = omega arith; to = omega arith }) (record { from = omega arith; to = omega arith }))

    -- so the tail is joined with the free block behind it alone
    tail_joined-shorter : end_of (resized u size) < end_of u.block → end_of u.block ≤ reach s u
        → tail_joined (resized u size) (end_of u.block) s.free ≡ rest_behind (resized u size) (reach s u) ++ staying s u
    tail_joined-shorter shorter order = grind (arith, none_before, without-none, lt-ltb, reach, staying)

    -- the plan of another length
    pub or_else-stretched : end_of (resized u size) ≢ end_of u.block → end_of u.block ≤ reach s u → end_of (resized u size) ≤ reach s u
        → option_or (in_place s u size) (into_next s u size) ≡ Some (stretched s u size)
    or_else-stretched other order fits = grind (arith, cases_lt, in_place-fits, tail_joined-shorter, in_place-none, into_next-fits)

    pub IsSound-stretched : end_of (resized u size) ≤ reach s u → IsSoundPlan s u size (stretched s u size)
    IsSound-stretched fits = IsSound-into_next w u i size (stretched s u size) (into_next-fits fits)

    -- the plan of the same length
    pub or_else-kept : end_of (resized u size) ≡ end_of u.block → option_or (in_place s u size) (into_next s u size) ≡ Some (kept_whole s u size)
    or_else-kept same = ap (λ o. option_or o (into_next s u size)) (in_place-fits (omega arith))

    pub IsSound-kept : end_of (resized u size) ≡ end_of u.block → IsSoundPlan s u size (kept_whole s u size)
    IsSound-kept same = IsSound-in_place w u i size (kept_whole s u size) (in_place-fits (omega arith))

  pub tail_joined-same : end_of (resized u size) ≡ end_of u.block → tail_joined (resized u size) (end_of u.block) s.free ≡ s.free
  tail_joined-same same =
      ap (λ b. cond b (join (between (end_of (resized u size)) (end_of u.block)) s.free) s.free) (le-ltb (end_of (resized u size)) (end_of u.block) (omega arith))
