-- A memory and a table that represent a state are consistent over its chunks.
use Rattle.std.proofs.Common.{◌≡◌, ◌≢◌, ℕ, ◌+◌, ◌-◌, ◌%◌, ◌<◌, ◌≤◌, List, true, arith, sym, ◌∙◌, ap, subst, inl, inr}
use Rattle.rlsf_base.specs.declared.memory.range.Range.{Range}
use Rattle.rlsf_model_sizes.specs.SizeClass.{class_of, class_at}
use Rattle.rlsf_model_sizes.specs.Sizes.{IsSize}
use Rattle.rlsf_base.specs.Range.{end_of}
use Rattle.rlsf_base.specs.Space.{Space, word_at, word_range}
use Rattle.rlsf_base.proofs.SizeClasses.Reach.{division-lt}
use Rattle.rlsf_model.specs.Allocate.{has_class}
use Rattle.rlsf_model.specs.ChunkRows.{IsRow}
use Rattle.rlsf_model.specs.Lists.{IsIn}
use Rattle.rlsf_model.specs.State.{State}
use Rattle.rlsf_model.proofs.Choices.{has_class-from, has_class-true}
use Rattle.rlsf_table.specs.Table.{Table, head_at, is_in_row, of_class}
use Rattle.rlsf_table.proofs.FreeLists.Classes.{IsIn-of_class, IsIn-of_class_from}
use Rattle.rlsf_table.proofs.Tables.Bits.{has_class-in_row, is_in_row-own}
use Rattle.rlsf_table.proofs.Tables.Tests.{list_any-some, list_any-true}
use Rattle.rlsf_blocks.specs.StandsFor.{contents, StandsFor}
use Rattle.rlsf_blocks.proofs.Words.Apart.{free_in_memory, home_of_free}
use Rattle.rlsf_blocks.specs.Consistency.Consistent.{AreConsistent, IsConsistent, RepresentedAreConsistent, RepresentedIsConsistent}
use Rattle.rlsf_blocks.specs.Consistency.Heads.{AgreesAt, HasHeads, IsFirstOf}
use Rattle.rlsf_blocks.specs.Blocks.{walked}
use Rattle.rlsf_blocks.specs.Consistency.Layout.{HasInBandLayout}
use Rattle.rlsf_blocks.specs.Consistency.Linked.{HasFreeSize, IsLinked, IsNeighbour}
use Rattle.rlsf_blocks.specs.Consistency.Pools.{IsPoolWord, LiesInPool, all_of, pool_at}
use Rattle.rlsf_blocks.proofs.Consistency.Classes.{exponent-le}
use Rattle.rlsf_blocks.proofs.Consistency.Walked.{reaches_all}
use Rattle.rlsf_blocks.proofs.Consistency.Lists.{NamesBack, has_head, head_of, linked}

-- each word of the chunks lies in one of the pools
abbrev InPools : List ℕ → State → Type 0
InPools ps s = (c : Range) → IsIn c s.chunks → (a : ℕ) → c.start ≤ a → a + 8 ≤ end_of c → LiesInPool ps (word_range a)

module _ {fllen sllen : ℕ} (ps : List ℕ) {m : Space} {t : Table} {s : State} (v : StandsFor fllen sllen (contents m t) s) (inside : InPools ps s) where
  -- each word of the first 32 bytes of a free block lies in the memory, and in one of the pools
  word_in : (f : Range) → IsIn f s.free → (offset : ℕ) → offset % 8 ≡ 0 → offset < 32 → IsPoolWord ps m (f.start + offset)
  word_in f i offset whole below =
      let is = v.well_formed.free f i in let placed = free_in_memory v.well_formed f i in
      let home = home_of_free v.well_formed f i in (
        (omega (arith, is.whole.start, whole), (omega (arith, placed.0), omega (arith, placed.1, is.some, is.whole.len, whole, below))),
        inside home.chunk home.is_chunk (f.start + offset) (omega (arith, home.from)) (omega (arith, home.to, is.some, is.whole.len, whole, below)),
      )

  some_start : (f : Range) → IsIn f s.free → f.start ≢ 0
  some_start f i none = omega (arith, none, v.nonzero, (free_in_memory v.well_formed f i).0)

  -- its size word
  free_size : (f : Range) → IsIn f s.free → HasFreeSize ps m f.start
  free_size f i =
      let is = v.well_formed.free f i in
      let at : f.start + 0 ≡ f.start = omega arith in (
        subst (IsPoolWord ps m) at (word_in f i 0 (omega arith) (omega arith)),
        omega (arith, v.sizes.free f i, (free_in_memory v.well_formed f i).1, v.well_formed.addressable),
        subst IsSize (sym (v.sizes.free f i)) (is.some, is.whole.len),
      )

  module _ (fl sl : ℕ) (row : fl < fllen) (place : sl < sllen) where
    -- what an element of a class's list is
    of : (f : Range) → IsIn f (of_class sllen fl sl s.free) → IsIn f s.free × (class_of sllen f.len ≡ class_at fl sl)
    of f i = let (j, has) = IsIn-of_class sllen fl sl f s.free i in (j, has_class-true sllen (class_at fl sl) f has)

    some_in : (f : Range) → IsIn f (of_class sllen fl sl s.free) → f.start ≢ 0
    some_in f i = some_start f (of f i).0

    -- two blocks of one list are neighbours where one names the other
    neighbour : (f : Range) → class_of sllen f.len ≡ class_at fl sl → (at offset : ℕ) → offset % 8 ≡ 0 → offset < 32
        → NamesBack m (of_class sllen fl sl s.free) at offset f.start
        → IsNeighbour sllen ps m f at offset
    neighbour f class at offset whole below (g, i, is, back) =
        let (j, same) = of g i in
        subst (λ a. IsNeighbour sllen ps m f a offset) (sym is) (record {
          size = free_size g j;
          class = ap (class_of sllen) (v.sizes.free g j) ∙ same ∙ sym class;
          names = (word_in g j offset whole below, back);
        })

    -- a head is the first block of its list
    first_of_list : head_at t fl sl ≢ 0 → IsFirstOf fllen sllen ps m fl sl (head_at t fl sl)
    first_of_list some =
        let (f, i, at, first) = head_of m (of_class sllen fl sl s.free) (head_at t fl sl) (v.table.lists.links fl sl row place) some in
        let (j, class) = of f i in
        subst (IsFirstOf fllen sllen ps m fl sl) (sym at) (record {
          size = free_size f j;
          class = record { row = row; place = place; class = ap (class_of sllen) (v.sizes.free f j) ∙ class };
          first = (word_in f j 24 (omega arith) (omega arith), first);
        })

    -- a class with a free block has a head, and the other way round
    head_from : (f : Range) → IsIn f s.free → has_class sllen (class_at fl sl) f ≡ true → head_at t fl sl ≢ 0
    head_from f i has =
        has_head m 0 (of_class sllen fl sl s.free) (head_at t fl sl) (v.table.lists.links fl sl row place) some_in f (IsIn-of_class_from sllen fl sl f s.free i has)

    block_from : head_at t fl sl ≢ 0 → (f : Range) × IsIn f s.free × (class_of sllen f.len ≡ class_at fl sl)
    block_from some = grind (arith, head_of, of)

    agrees_at : AgreesAt fllen sllen ps m t fl sl
    agrees_at = grind (arith, list_any-some, head_from, block_from, list_any-true, has_class-from, first_of_list)

  has_heads : HasHeads fllen sllen ps m t
  has_heads fl row = record {
    bit = (
      λ set.
          let (f, i, is) = list_any-some (is_in_row sllen fl) s.free (sym (v.table.bits.first fl) ∙ set) in
          let sl = (class_of sllen f.len).division in
          let place = division-lt sllen f.len (v.well_formed.free f i).some v.well_formed.row_length in
          (sl, place, head_from fl sl row place f i (has_class-in_row sllen fl f is)),
      λ (sl, place, some).
          let (f, i, class) = block_from fl sl row place some in
          v.table.bits.first fl ∙ list_any-true (is_in_row sllen fl) s.free f i (is_in_row-own sllen fl sl f class),
    );
    classes = λ sl place. agrees_at fl sl row place;
  }

  -- each free block is linked into the list of its class
  free_linked : (f : Range) → IsIn f s.free → IsLinked fllen sllen ps m t f
  free_linked f i =
      let is = v.well_formed.free f i in
      let fl = (class_of sllen f.len).exponent - 5 in
      let sl = (class_of sllen f.len).division in
      let exponent : (class_of sllen f.len).exponent ≡ 5 + fl = omega (arith, exponent-le sllen f.len (is.some, is.whole.len)) in
      let row : fl < fllen = omega (arith, is.valid, exponent) in
      let place : sl < sllen = division-lt sllen f.len is.some v.well_formed.row_length in
      let class : class_of sllen f.len ≡ class_at fl sl = ap (λ k. record { exponent = k; division = sl }) exponent in
      let held = IsIn-of_class_from sllen fl sl f s.free i (has_class-from sllen (class_at fl sl) f class) in
      let (next, before) = linked m (of_class sllen fl sl s.free) (head_at t fl sl) (v.table.lists.links fl sl row place) f held in
      record {
        next = λ some. elim next [ inl none ↦ absurd (some none) | inr names ↦ neighbour fl sl row place f class (word_at m (f.start + 16)) 24 (omega arith) (omega arith) names ];
        previous =
            λ some. elim before [
              | inl (first, none) ↦ absurd (some none)
              | inr names ↦ neighbour fl sl row place f class (word_at m (f.start + 24)) 16 (omega arith) (omega arith) names
            ];
        head = λ none. elim before [
          | inl (first, _) ↦ (fl, sl, record { row = row; place = place; class = class }, first)
          | inr (g, j, at, back) ↦ absurd (some_in fl sl row place g j (sym at ∙ none))
        ];
      }

  has_layout : (r : Range) → IsRow s r → HasInBandLayout fllen sllen ps m t r s
  has_layout r row = record { well_formed = v.well_formed; row = row; sizes = v.sizes; previous = v.previous; linked = free_linked }

pub represented_is_consistent : RepresentedIsConsistent
unfolding IsConsistent
represented_is_consistent fllen sllen m t s r v row =
    let inside : InPools (all_of m) s = λ c i a from to.
    let lies = (v.well_formed.chunks c i).lies_in in reaches_all m a (omega (arith, lies.0, from), omega (arith, lies.1, to)) in
    (has_heads (all_of m) v inside, (s, has_layout (all_of m) v inside r row))

pub represented_are_consistent : RepresentedAreConsistent
unfolding AreConsistent LiesInPool
represented_are_consistent fllen sllen ps m t s v rows covers =
    let inside : InPools ps s = λ c i a from to. let (k, is, low, high) = covers c i in (k, is, (omega (arith, low, from), omega (arith, high, to))) in
    (has_heads ps v inside, λ k is. (s, has_layout ps v inside (walked (pool_at ps k)) (rows k is)))
