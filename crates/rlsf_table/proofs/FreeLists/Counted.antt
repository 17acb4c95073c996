-- The contents of a memory in which nothing but the counts has changed.
use Rattle.std.proofs.Common.{◌≡◌, ℕ, ◌+◌, ◌-◌, ◌^◌, List, length, slice_index, take, drop, arith, ◌∙◌, ap}
use mathlib.Core.Path.{ap₂}
use Rattle.std.specs.Int.{w64, from_le_bytes}
use Rattle.rlsf_base.specs.declared.memory.range.Range.{Range}
use Rattle.rlsf_base.specs.Range.{range_at}
use Rattle.std.specs.Prelude.{if◌then◌else◌}
use Rattle.rlsf_base.specs.Out.{all_here}
use Rattle.rlsf_base.specs.Space.{Space, byte_at, bytes_in, range_of, word_at}
use Rattle.rlsf_base.proofs.Lending.Present.{own-same, own-there, out-same}
use Rattle.rlsf_table.specs.FreeList.{Links}
use Rattle.rlsf_table.specs.Rewrites.{CanBeBlock, Rewrites}
use Rattle.rlsf_table.specs.Steps.ClassList.{IsFreeList}
use Rattle.rlsf_table.specs.FreeTable.{IsFreeTable, IsRoom}
use Rattle.rlsf_table.specs.Table.{Table, HasTable}
use Rattle.rlsf_table.proofs.FreeLists.Chains.{Links-same}

module _ (m n : Space) (start : n.start ≡ m.start) (bytes : n.bytes ≡ m.bytes) (out : n.out ≡ m.out) where
  -- ---- bytes and words

  pub byte_at-counted : (a : ℕ) → byte_at n a ≡ byte_at m a
  byte_at-counted a = ap₂ (λ s bs. slice_index bs (a - s)) start bytes

  pub bytes_in-counted : (r : Range) → bytes_in n r ≡ bytes_in m r
  bytes_in-counted r = ap₂ (λ s bs. take r.len (drop (r.start - s) bs)) start bytes

  pub word_at-counted : (a : ℕ) → word_at n a ≡ word_at m a
  unfolding word_at
  word_at-counted a = λ i. if all_here (out i) (a - start i) 8 then from_le_bytes w64 (take 8 (drop (a - start i) (bytes i))) else 2 ^ 64

  pub length-counted : length n.bytes ≡ length m.bytes
  length-counted = ap length bytes

  pub range_of-counted : range_of n ≡ range_of m
  range_of-counted = ap₂ (λ s bs. range_at s (length bs)) start bytes

  -- ---- lists

  pub Links-counted : (previous : ℕ) (free : List Range) (head : ℕ) → Links m previous free head → Links n previous free head
  Links-counted previous free head links = Links-same m n previous free head (λ f i. (word_at-counted (f.start + 16), word_at-counted (f.start + 24))) links

  pub HasTable-counted : {fllen sllen : ℕ} {t : Table} {free : List Range} → HasTable fllen sllen m t free → HasTable fllen sllen n t free
  HasTable-counted {fllen} {sllen} {t} {free} h = grind (arith, Links-counted)

  -- no word was written
  pub Rewrites-counted : (at : ℕ → Type 0) → Rewrites m n at
  Rewrites-counted at = grind (arith, length-counted, own-same, out-same, word_at-counted, bytes_in-counted)

  -- words were written after that, or before
  pub Rewrites-counted_first : {o : Space} {at : ℕ → Type 0} → Rewrites n o at → Rewrites m o at
  Rewrites-counted_first h = grind (arith, own-same, out-same, length-counted, word_at-counted, bytes_in-counted)

  pub Rewrites-counted_last : {o : Space} {at : ℕ → Type 0} → Rewrites o m at → Rewrites o n at
  Rewrites-counted_last h = grind (arith, own-same, out-same, length-counted, word_at-counted, bytes_in-counted)

  -- ---- the free blocks

  pub CanBeBlock-counted : {f : Range} → CanBeBlock m f → CanBeBlock n f
  CanBeBlock-counted {f} p = grind (arith, own-there, own-same, length-counted)

  pub IsFreeList-counted : {head : ℕ} {free : List Range} → IsFreeList m head free → IsFreeList n head free
  IsFreeList-counted {head} {free} h = grind (arith, Links-counted, CanBeBlock-counted, word_at-counted, length-counted)

  pub IsFreeTable-counted : {fllen sllen : ℕ} {t : Table} {free : List Range} → IsFreeTable fllen sllen m t free → IsFreeTable fllen sllen n t free
  IsFreeTable-counted h = record {
    table = HasTable-counted h.table;
    blocks = h.blocks;
    placed = λ f i. CanBeBlock-counted (h.placed f i);
    apart = h.apart;
    sizes = λ f i. word_at-counted f.start ∙ h.sizes f i;
    addressable = omega (arith, start, length-counted, h.addressable);
  }

  pub IsRoom-counted : {fllen sllen : ℕ} {t : Table} {free : List Range} {r : Range} → IsRoom fllen sllen m t free r → IsRoom fllen sllen n t free r
  IsRoom-counted h = record { list = IsFreeTable-counted h.list; block = h.block; placed = CanBeBlock-counted h.placed; apart = h.apart }
