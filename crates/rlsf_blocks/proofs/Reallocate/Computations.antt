-- What is computed of a used block and of the size that it gets.
use Rattle.std.proofs.Common.{◌≡◌, ℕ, ◌+◌, ◌-◌, ◌%◌, ◌<◌, find, arith, sym, ◌∙◌, ap, subst}
use mathlib.Core.Path.{ap₂}
use Rattle.std.specs.Int.{next_multiple_of}
use Rattle.std.specs.Option.{option_map_or}
use Rattle.rlsf_base.specs.Range.{end_of}
use Rattle.rlsf_base.specs.Space.{Space, word_at}
use Rattle.rlsf_model.specs.Join.{starts_at}
use Rattle.rlsf_model.specs.State.{State, Used}
use Rattle.rlsf_model.proofs.Payloads.{block_length-le, block_length-whole, IsUsed-after_start}
use Rattle.rlsf_model.proofs.Names.{resized}
use Rattle.rlsf_blocks.specs.StandsFor.{contents, StandsFor}
use Rattle.rlsf_blocks.specs.Steps.Join.{IsMarked, IsNextOut}
use Rattle.rlsf_blocks.specs.Steps.Resize.{IsUsedAt}
use Rattle.rlsf_table.specs.Table.{Table}
use Rattle.rlsf_blocks.proofs.Deallocate.Loaded.{IsMarked-loaded, IsNextOut-loaded}
use Rattle.rlsf_blocks.proofs.Deallocate.Releases.{end_computed}
use Rattle.rlsf_blocks.proofs.Deallocate.Marks.{IsMarked-end}
use Rattle.rlsf_blocks.proofs.Reallocate.Spans.{reach}

module _ {fllen sllen : ℕ} {m : Space} {t : Table} {s : State} (v : StandsFor fllen sllen (contents m t) s) (u : Used) {block payload align : ℕ}
    (at : IsUsedAt s u block payload align) where
  -- the length of the block that it would be
  pub taken_computed : {wanted taken : ℕ} (size : ℕ) → wanted ≡ size → taken ≡ next_multiple_of (payload - block + wanted) 32 → taken ≡ (resized u size).len
  taken_computed size same is =
      is ∙ ap (λ w. next_multiple_of (payload - block + w) 32) same ∙ ap₂ (λ p b. next_multiple_of (p - b + size) 32) (sym at.caller) (sym at.start)

  pub IsTaken-len : (size : ℕ) → ((resized u size).len % 32 ≡ 0) × (0 < (resized u size).len)
  IsTaken-len size =
      let after_start = IsUsed-after_start u (v.well_formed.used u at.is_used) in
      (block_length-whole u.block.start u.payload size, omega (arith, block_length-le u.block.start u.payload size))

  -- where it ends, by its size word
  module _ {word len : ℕ} (is : word ≡ word_at m block) (long : len ≡ word - 1) where
    pub end_is : end_of u.block ≡ block + len
    end_is = end_computed v u at.is_used at.start is ∙ ap (λ n. block + n) (sym long)

    module _ {n : Space} (start : n.start ≡ m.start) (bytes : n.bytes ≡ m.bytes) (out : n.out ≡ m.out) where
      -- the word there shows whether a free block is behind it
      pub IsMarked-loaded_end : IsMarked n s.free (block + len)
      IsMarked-loaded_end = IsMarked-loaded m n start bytes out (IsMarked-end v u at.is_used (block + len) end_is)

      pub IsNextOut-end : {o : Space} {x : Table} {next : ℕ} → IsNextOut fllen sllen n o x s.free (block + len) next
          → IsNextOut fllen sllen m o x s.free (end_of u.block) next
      IsNextOut-end {o} {x} {next} gone = IsNextOut-loaded m n start bytes out (subst (λ e. IsNextOut fllen sllen n o x s.free e next) (sym end_is) gone)

    pub reach_is : (next : ℕ) → block + len + next ≡ option_map_or end_of (find (starts_at (block + len)) s.free) (block + len) → end_of u.block + next ≡ reach s u
    reach_is next ends = subst (λ e. e + next ≡ option_map_or end_of (find (starts_at e) s.free) e) (sym end_is) ends
