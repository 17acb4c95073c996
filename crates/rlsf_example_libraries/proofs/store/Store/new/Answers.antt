use Rattle.std.proofs.Common.{◌≡◌, ◌≤◌, [], ℕ, Option, None, Some, refl, sym, ◌∙◌, ap, subst}
use mathlib.Core.Path.{ap₂}
use Rattle.std.specs.Option.{option_map, unwrap_or, MatchOption}
use Rattle.std.specs.Int.NonZero.{non_zero_usize_get}
use Rattle.std.specs.declared.num.NonZeroUsize.{NonZeroUsize}
use Rattle.rlsf_base.specs.Addr.{reply}
use Rattle.rlsf_base.specs.Range.{range_at}
use Rattle.rlsf_base.specs.Space.{range_of}
use Rattle.rlsf_model.specs.Insert.{aligned_part}
use Rattle.rlsf_model.specs.Uniform.{IsUniform}
use Rattle.rlsf_example_libraries.specs.Stored.{KeepsAt, store_contents}
use Rattle.rlsf_example_libraries.proofs.Tilings.{IsUniform-new}
use Rattle.rlsf_example_libraries.proofs.Stores.{IsStore-new}
use Rattle.rlsf_example_libraries.proofs.store.Store.new.Goals as goal

pub returns-clause-uniform : goal.returns-clause-uniform
returns-clause-uniform c = λ len enough.
    let start = c.start-start.result in
    let r = range_at start c.len-len.result in
    let taken = c.insert_free_block_ptr-taken.result in
    let made : c.new-heap.result.memory ≡ c.args.memory = c.new-heap.ensures.memory in
    let there : r ≡ range_of c.args.memory = ap₂ range_at c.start-start.ensures.value c.len-len.ensures.value in
    subst (λ q. IsUniform len (aligned_part q) c.insert_free_block_ptr-taken.new.self.state) there
    (IsUniform-new c.new-heap.result c.insert_free_block_ptr-taken.new.self r (reply taken) len c.new-heap.ensures.state c.insert_free_block_ptr-taken.ensures.step
    (subst (λ q. 64 ≤ (aligned_part q).len) (sym there) enough))

pub returns-clause-empty : goal.returns-clause-empty
returns-clause-empty c =
    let start = c.start-start.result in
    let r = range_at start c.len-len.result in
    let taken = c.insert_free_block_ptr-taken.result in
    let made : c.new-heap.result.memory ≡ c.args.memory = c.new-heap.ensures.memory in
    let whole : range_of c.new-heap.result.memory ≡ r = ap range_of made ∙ ap₂ range_at (sym c.start-start.ensures.value) (sym c.len-len.ensures.value) in
    subst (λ n. KeepsAt (store_contents c.insert_free_block_ptr-taken.new.self (range_at start n)) []) (sym (on_each taken c.map_or-len.ensures)) (
      [],
      IsStore-new c.new-heap.result c.insert_free_block_ptr-taken.new.self r (reply taken) c.new-heap.ensures.state whole c.insert_free_block_ptr-taken.ensures.step
          c.insert_free_block_ptr-taken.ensures.frame.place,
      refl,
    )
  where
    on_each : {n : ℕ} (o : Option NonZeroUsize) → MatchOption o (n ≡ 0) (λ x. (n ≡ non_zero_usize_get x) × (1 ≤ n))
        → n ≡ unwrap_or (option_map non_zero_usize_get o) 0
    on_each None e = e
    on_each (Some x) e = e.0
