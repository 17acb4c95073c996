-- Where a block and its payload lie that begins where the free block before it does, and when that can be.
use Rattle.std.proofs.Common.{◌≡◌, ◌≢◌, ℕ, cond, ◌+◌, ◌-◌, ◌*◌, ◌/◌, ◌≤◌, ◌<◌, ◌++◌, Some, None, find, arith, sym, ◌∙◌, ap, subst, Option}
use mathlib.Core.Path.{ap₂}
use Rattle.std.proofs.lemmas.Bool.{le-leb, lt-leb}
use Rattle.std.proofs.Math.Nat.{div-add-mod'}
use Rattle.std.specs.Int.{next_multiple_of}
use Rattle.std.specs.Option.{option_map_or, option_and_then}
use Rattle.rlsf_base.specs.declared.memory.range.Range.{Range}
use Rattle.rlsf_model_sizes.specs.PowerOfTwo.{IsPowerOfTwo}
use Rattle.rlsf_model_sizes.specs.Rounding.{round32}
use Rattle.rlsf_base.specs.Range.{end_of}
use Rattle.rlsf_base.proofs.Numbers.PowersOfTwo.{IsPowerOfTwo-positive}
use Rattle.rlsf_base.proofs.Numbers.Roundings.{next_multiple_of-least, next_multiple_of-multiple}
use Rattle.rlsf_model.specs.Allocate.{rest_behind}
use Rattle.rlsf_model.specs.Join.{ends_at, starts_at}
use Rattle.rlsf_model.specs.Lists.{without}
use Rattle.rlsf_model.specs.Payload.{block_for, payload_of}
use Rattle.rlsf_model.specs.Reallocate.{Plan, into_previous}
use Rattle.rlsf_model.specs.State.{State, Used}
use Rattle.rlsf_model.specs.WellFormed.{IsWellFormed}
use Rattle.rlsf_blocks.specs.Steps.Join.{untouched}
use Rattle.rlsf_blocks.specs.Steps.Previous.{FitsBefore, IsUsedBlock}
use Rattle.rlsf_blocks.proofs.Reallocate.Neighbours.{find-ends_at-none, find-ends_at-some, find-starts_at-without, start_or-le, end_or-in_memory}
use Rattle.rlsf_blocks.proofs.Words.Apart.{used_in_memory}
use Rattle.rlsf_model.proofs.Payloads.{IsUsed-some, payload_of-after}
use Rattle.rlsf_model.proofs.Names.{previous_plan}

-- a block at a lower address has its payload at a lower one
pub payload_of-order : (a b align : ℕ) → IsPowerOfTwo align → a ≤ b → payload_of a align ≤ payload_of b align
payload_of-order a b align power order =
    let some = IsPowerOfTwo-positive align power in
    let p = payload_of b align in
    let multiple : p / align * align ≡ p = omega (arith, div-add-mod' p align, next_multiple_of-multiple (b + 16) align some) in
    let least : next_multiple_of (a + 16) align ≤ p / align * align = next_multiple_of-least (a + 16) align (p / align) some (omega (arith, payload_of-after b align)) in
    omega (arith, least, multiple)

-- the end of the used block, and of a free one behind it
abbrev pub reach : State → Used → ℕ
reach s u = option_map_or end_of (find (starts_at (end_of u.block)) (without (ends_at u.block.start) s.free)) (end_of u.block)

-- the plan by which the block begins where the free range f before it does
abbrev pub planned : State → Used → ℕ → Range → Plan
planned s u size f =
    let payload = payload_of f.start u.align in
    let block = block_for f.start payload size in
    record { block = block; payload = payload; free = rest_behind block (reach s u) ++ untouched u.block s.free }

module _ (s : State) (u : Used) (size : ℕ) where
  pub into_previous-no_range : find (ends_at u.block.start) s.free ≡ None → into_previous s u size ≡ None
  into_previous-no_range none = ap (option_and_then (previous_plan s u size)) none

  pub into_previous-fits : (f : Range) → find (ends_at u.block.start) s.free ≡ Some f → end_of (planned s u size f).block ≤ reach s u
      → into_previous s u size ≡ Some (planned s u size f)
  into_previous-fits f found fits =
      ap (option_and_then (previous_plan s u size)) found ∙ ap (λ b. cond b (Some (planned s u size f)) None) (le-leb (end_of (planned s u size f).block) (reach s u) fits)

  pub into_previous-too_long : (f : Range) → find (ends_at u.block.start) s.free ≡ Some f → reach s u < end_of (planned s u size f).block → into_previous s u size ≡ None
  into_previous-too_long f found more =
      ap (option_and_then (previous_plan s u size)) found ∙ ap (λ b. cond b (Some (planned s u size f)) None) (lt-leb (end_of (planned s u size f).block) (reach s u) more)

-- what the lengths of the blocks say, from where the free block before the used one begins, or the used one
module _ {fllen sllen : ℕ} {memory : Range} {s : State} (w : IsWellFormed fllen sllen memory s) (u : Used) {block end align start : ℕ} (is : IsUsedBlock s u block end align)
    (begins : start ≡ option_map_or (λ f. f.start) (find (ends_at block) s.free) block) where
  at_start : start ≡ option_map_or (λ f. f.start) (find (ends_at u.block.start) s.free) u.block.start
  at_start = subst (λ b. start ≡ option_map_or (λ f. f.start) (find (ends_at b) s.free) b) (sym is.start) begins

  pub previous-le : start ≤ block
  previous-le = start_or-le w block begins

  pub block-le : block ≤ end
  block-le = omega (arith, is.start, is.end_is)

  pub end-in_memory : end + 32 ≤ end_of memory
  end-in_memory = omega (arith, is.end_is, used_in_memory w u is.is_used)

  -- the payload isn't past the used block
  pub payload-le : next_multiple_of (start + 16) align ≤ end
  payload-le =
      let used = w.used u is.is_used in
      let order : payload_of start u.align ≤ payload_of u.block.start u.align = payload_of-order start u.block.start u.align used.power (omega (arith, previous-le, is.start)) in
      subst (λ a. next_multiple_of (start + 16) a ≤ end) is.alignment (omega (arith, order, used.placed, used.within, is.end_is))

  pub room_behind : (more : ℕ) → end + more ≡ option_map_or end_of (find (starts_at end) s.free) end → end + more + 32 ≤ end_of memory
  room_behind more long = omega (arith, long, end_or-in_memory w end end-in_memory)

  -- no free block is before it
  pub none_before : (size : ℕ) → start ≡ block → into_previous s u size ≡ None
  none_before size same = into_previous-no_range s u size (find-ends_at-none w u.block.start at_start (same ∙ sym is.start))

  -- one is, and the lengths of all are known
  module _ (other : start ≢ block) (more : ℕ) {size to wanted payload taken : ℕ} (long : end + more ≡ option_map_or end_of (find (starts_at end) s.free) end) (to_is : to ≡ align)
      (wanted_is : wanted ≡ size)
      (payload_is : payload ≡ next_multiple_of (start + 16) to) (taken_is : taken ≡ next_multiple_of (payload - start + wanted) 32) where
    before : (f : Range) × (find (ends_at u.block.start) s.free ≡ Some f) × (f.start ≡ start)
    before = find-ends_at-some w u.block.start at_start (λ same. other (same ∙ is.start))

    reached : end + more ≡ reach s u
    reached =
        let some = IsUsed-some u (w.used u is.is_used) in
        let same = find-starts_at-without w u.block.start (end_of u.block) (omega arith) in
        let whole : option_map_or end_of (find (starts_at (end_of u.block)) s.free) (end_of u.block) ≡ end + more =
        subst (λ e. option_map_or end_of (find (starts_at e) s.free) e ≡ end + more) (sym is.end_is) (sym long) in
        sym (ap (λ (o : Option Range). option_map_or end_of o (end_of u.block)) same ∙ whole)

    placed : payload ≡ payload_of before.0.start u.align
    placed = payload_is ∙ ap₂ (λ b a. next_multiple_of (b + 16) a) (sym before.2) (to_is ∙ sym is.alignment)

    length_of : taken ≡ round32 (payload - before.0.start + size)
    length_of = taken_is ∙ ap₂ (λ b n. next_multiple_of (payload - b + n) 32) (sym before.2) wanted_is

    pub FitsBefore-computed : taken ≤ end - start + more → FitsBefore s u size payload taken
    FitsBefore-computed fits = grind (arith, before, placed, length_of, reached, previous-le, block-le)

    pub into_previous-refused : end - start + more < taken → into_previous s u size ≡ None
    into_previous-refused short = grind (arith, before, length_of, placed, into_previous-too_long, reached, previous-le, block-le)
