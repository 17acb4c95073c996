-- A block is taken out of the table, if it is free.
use Rattle.std.specs.Option.{option_map_or}
use Rattle.std.proofs.Common.{◌≡◌, ◌↔◌, ℕ, ◌%◌, Bool, false, true≢false, IsTrue, List, ◌∷◌, ◌++◌, arith, sym, ◌∙◌, ap, subst, Option}
use Rattle.rlsf_base.specs.declared.memory.range.Range.{Range}
use Rattle.rlsf_base.specs.Space.{Space, word_at}
use Rattle.rlsf_base.specs.Range.{end_of}
use Rattle.rlsf_table.specs.Rewrites.{IsLink, Rewrites}
use Rattle.rlsf_table.specs.FreeTable.{IsFreeTable}
use Rattle.rlsf_table.specs.Table.{Table, HasTable}
use Rattle.rlsf_table.proofs.FreeLists.Chains.{find-split}
use Rattle.rlsf_table.proofs.FreeLists.Counted.{IsFreeTable-counted, Rewrites-counted}
use Rattle.rlsf_table.proofs.FreeLists.Found.{find-start, find-no_start}
use Rattle.rlsf_table.proofs.Tables.FreeTables.{IsFreeTable-removal}
use Rattle.rlsf_blocks.specs.Steps.Join.{IsMarked, IsNextOut}
use Rattle.rlsf_model.specs.Join.{starts_at}
use Rattle.rlsf_model.specs.Lists.{IsIn}
use Rattle.rlsf_model.proofs.Coverage.{without-none}

-- a size word whose block isn't free is odd
pub odd_from : (size : ℕ) {free : Bool} → (IsTrue free ↔ (size % 2 ≡ 0)) → free ≡ false → size % 2 ≡ 1
odd_from size is used = grind (arith, true≢false)

module _ {fllen sllen : ℕ} {m : Space} {t : Table} {block : ℕ} {free : List Range} (list : IsFreeTable fllen sllen m t free) (marked : IsMarked m free block) where
  -- the free block that begins there
  pub block_there : {len : ℕ} → len ≡ word_at m block → len % 2 ≡ 0 → (r : Range) × (IsIn r free) × (r.start ≡ block) × (r.len ≡ len)
  block_there {len} is even = grind arith

  -- it was unlinked
  pub IsNextOut-unlinked : {n : Space} {u : Table} {len : ℕ} → len ≡ word_at m block → len % 2 ≡ 0
      → ((r : Range) (before after : List Range) → r.start ≡ block → r.len ≡ len → IsFreeTable fllen sllen m t (before ++ (r ∷ after))
      → HasTable fllen sllen n u (before ++ after) × Rewrites m n (IsLink (before ++ (r ∷ after))))
      → IsNextOut fllen sllen m n u free block len
  IsNextOut-unlinked {n} {u} {len} is even unlinked =
      let (f, i, at, long) = block_there is even in
      let found = find-start free f block list.apart (λ g j. let p = list.placed g j in omega (arith, p.room)) i at in
      let (before, after, parts, left, others) = find-split (starts_at block) f free found in
      let whole = subst (IsFreeTable fllen sllen m t) parts list in
      let (table, rewrites) = unlinked f before after at long whole in
      record {
        rewrites = subst (λ l. Rewrites m n (IsLink l)) (sym parts) rewrites;
        list = subst (IsFreeTable fllen sllen n u) (sym left) (IsFreeTable-removal before f after whole table rewrites);
        end = omega (arith, at, long) ∙ sym (ap (λ (o : Option Range). option_map_or end_of o block) found);
      }

  -- no free block begins there
  pub IsNextOut-none : (n : Space) → n.start ≡ m.start → n.bytes ≡ m.bytes → n.out ≡ m.out → {size : ℕ} → size ≡ word_at m block → size % 2 ≡ 1
      → IsNextOut fllen sllen m n t free block 0
  IsNextOut-none n start bytes out {size} is odd =
      let none = find-no_start free block (λ f i at. omega (arith, ap (λ w. w % 2) is, marked.mark.1 (f, i, at))) in
      record {
        rewrites = Rewrites-counted m n start bytes out (IsLink free);
        list = subst (IsFreeTable fllen sllen n t) (sym (without-none (starts_at block) free none)) (IsFreeTable-counted m n start bytes out list);
        end = omega arith ∙ sym (ap (λ (o : Option Range). option_map_or end_of o block) none);
      }
