-- The class table of the free blocks: with a block put in front, without a block, and once other words were written.
use Rattle.std.proofs.Common.{◌≡◌, ℕ, ◌+◌, ◌^◌, ◌<◌, ◌≤◌, List, ◌∷◌, ◌++◌, length, arith, ◌∙◌}
use Rattle.rlsf_base.specs.declared.memory.range.Range.{Range}
use Rattle.rlsf_base.specs.Space.{Space, word_at}
use Rattle.rlsf_model.specs.Lists.{IsIn}
use Rattle.rlsf_model.specs.WellFormed.{coverage, itself, IsFree}
use Rattle.rlsf_model.proofs.Coverage.{coverage-append}
use Rattle.rlsf_table.specs.Rewrites.{IsLink, CanBeBlock, Rewrites}
use Rattle.rlsf_table.specs.FreeTable.{IsFreeTable}
use Rattle.rlsf_table.specs.Table.{Table, head_at, of_class, HasTable}
use Rattle.rlsf_table.proofs.FreeLists.Chains.{IsIn-removal, Links-Rewrites}
use Rattle.rlsf_table.proofs.FreeLists.Classes.{IsIn-of_class}
use Rattle.rlsf_table.proofs.Words.Writes.{before_links, CanBeBlock-Rewrites}

-- ---- links were written

-- blocks among these that a table has are the free blocks
IsFreeTable-IsLink : {fllen sllen : ℕ} {m n : Space} {u : Table} (links free : List Range) → ((f : Range) → IsIn f links → CanBeBlock m f) → Rewrites m n (IsLink links)
    → ((f : Range) → IsIn f free → IsIn f links) → ((f : Range) → IsIn f free → IsFree fllen sllen f) → ((a : ℕ) → coverage itself free a ≤ 1)
    → ((f : Range) → IsIn f free → word_at m f.start ≡ f.len) → m.start + length m.bytes < 2 ^ 64 → HasTable fllen sllen n u free → IsFreeTable fllen sllen n u free
IsFreeTable-IsLink links free placed rewrites among blocks apart sizes addressable table = grind (arith, CanBeBlock-Rewrites, before_links)

-- the table without a block
pub IsFreeTable-removal : {fllen sllen : ℕ} {m n : Space} {t u : Table} (before : List Range) (r : Range) (after : List Range)
    → IsFreeTable fllen sllen m t (before ++ (r ∷ after))
    → HasTable fllen sllen n u (before ++ after) → Rewrites m n (IsLink (before ++ (r ∷ after))) → IsFreeTable fllen sllen n u (before ++ after)
IsFreeTable-removal before r after list table rewrites =
    let among = IsIn-removal before r after in
    IsFreeTable-IsLink (before ++ (r ∷ after)) (before ++ after) list.placed rewrites among (λ f i. list.blocks f (among f i))
    (λ a. omega (arith, list.apart a, coverage-append itself before (r ∷ after) a, coverage-append itself before after a))
    (λ f i. list.sizes f (among f i)) list.addressable table

-- ---- other words were written

-- the table where none of the links was written
pub HasTable-Rewrites : {fllen sllen : ℕ} {m n : Space} {t : Table} {at : ℕ → Type 0} {free : List Range} → Rewrites m n at
    → ((f : Range) → IsIn f free → CanBeBlock m f)
    → ((f : Range) → IsIn f free → ¬ at (f.start + 16) × ¬ at (f.start + 24)) → HasTable fllen sllen m t free → HasTable fllen sllen n t free
HasTable-Rewrites {fllen} {sllen} {m} {n} {t} {at} {free} rewrites placed other table = record {
  bits = table.bits;
  lists = record {
    rows = table.lists.rows;
    places = table.lists.places;
    links = λ fl sl row place. Links-Rewrites 0 (of_class sllen fl sl free) (head_at t fl sl) rewrites
        (λ f i. placed f (IsIn-of_class sllen fl sl f free i).0) (λ f i. other f (IsIn-of_class sllen fl sl f free i).0)
        (table.lists.links fl sl row place);
  };
}

-- the free blocks where none of their size words and links was written
pub IsFreeTable-Rewrites : {fllen sllen : ℕ} {m n : Space} {t : Table} {at : ℕ → Type 0} {free : List Range} → Rewrites m n at
    → ((f : Range) → IsIn f free → ¬ at f.start × ¬ at (f.start + 16) × ¬ at (f.start + 24)) → IsFreeTable fllen sllen m t free → IsFreeTable fllen sllen n t free
IsFreeTable-Rewrites rewrites other list = record {
  table = HasTable-Rewrites rewrites list.placed (λ f i. ((other f i).1, (other f i).2)) list.table;
  blocks = list.blocks;
  placed = λ f i. CanBeBlock-Rewrites rewrites (list.placed f i);
  apart = list.apart;
  sizes = λ f i. (let here = list.placed f i in rewrites.words f.start (omega (arith, here.whole)) (omega (arith, here.lies_in)) (other f i).0) ∙ list.sizes f i;
  addressable = omega (arith, rewrites.start, rewrites.length, list.addressable);
}
