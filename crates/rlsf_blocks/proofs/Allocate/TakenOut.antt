-- A free block is taken out of the list, and what is left of it behind its front is put in.
use Rattle.rlsf_base.proofs.Lending.Present.{own-there}
use Rattle.rlsf_blocks.proofs.Words.NeverOut.{here_behind_free}
use Rattle.std.proofs.Common.{◌≡◌, ℕ, ◌+◌, ◌%◌, ◌<◌, ◌≤◌, ◌⊎◌, List, [], ◌∷◌, ◌++◌, cond, filter, arith, inl, inr, sym, ◌∙◌, ap, subst}
use Rattle.std.proofs.lemmas.Bool.{le-ltb, lt-ltb}
use Rattle.rlsf_base.specs.declared.memory.range.Range.{Range}
use Rattle.rlsf_base.specs.Range.{end_of, range_at}
use Rattle.rlsf_model_sizes.specs.SizeClass.{class_of}
use Rattle.rlsf_base.specs.Space.{Space, word_at}
use Rattle.rlsf_table.specs.Rewrites.{IsLink, Rewrites}
use Rattle.rlsf_table.specs.FreeTable.{IsFreeTable}
use Rattle.rlsf_table.specs.Table.{IsClassAt, IsNewestAt, Table, HasTable}
use Rattle.rlsf_table.proofs.Tables.FreeTables.{IsFreeTable-removal}
use Rattle.rlsf_table.proofs.FreeLists.Chains.{find-split}
use Rattle.rlsf_table.proofs.Words.Writes.{before_links, CanBeBlock-Rewrites, Rewrites-trans, Rewrites-weaken}
use Rattle.rlsf_blocks.specs.Steps.Touched.{Touched, at_link, in_hole, at_other}
use Rattle.rlsf_model.specs.Allocate.{has_class, rest_behind}
use Rattle.rlsf_model.specs.Lists.{IsIn, without}
use Rattle.rlsf_model.specs.State.{State, between}
use Rattle.rlsf_model.specs.WellFormed.{itself}
use Rattle.rlsf_blocks.specs.Steps.Rest.{IsInnerRoom, IsFreeBlockBehind, IsOpened, IsTaken}
use Rattle.rlsf_blocks.specs.StandsFor.{contents, StandsFor}
use Rattle.rlsf_blocks.proofs.Words.Apart.{free_in_memory}
use Rattle.rlsf_blocks.proofs.RepresentedStates.FreeBlocks.{CanBeBlock-free, IsFreeTable-free}
use Rattle.rlsf_blocks.proofs.Allocate.Rests.{IsInnerRoom-part, IsSpanRoom-inner}
use Rattle.rlsf_model.proofs.Changes.{IsIn-rest_behind}
use Rattle.rlsf_model.proofs.Coverage.{covers-inside, coverage-append, coverage-IsIn, find-some, IsIn-append, IsIn-append_left, IsIn-append_right}

module _ {fllen sllen : ℕ} {m : Space} {table : Table} {s : State} {f : Range} {block len taken : ℕ} (v : StandsFor fllen sllen (contents m table) s)
    (take : IsTaken sllen s f block len taken) where
  pub is_free : IsIn f s.free
  is_free = (find-some (has_class sllen (class_of sllen f.len)) f s.free take.found).0

  -- the list without the block
  parts : (ahead : List Range) × (later : List Range) × (s.free ≡ ahead ++ (f ∷ later)) × (without (has_class sllen (class_of sllen f.len)) s.free ≡ ahead ++ later)
      × (filter (has_class sllen (class_of sllen f.len)) ahead ≡ [])
  parts = find-split (has_class sllen (class_of sllen f.len)) f s.free take.found

  pub ahead : List Range
  ahead = parts.0

  pub later : List Range
  later = parts.1

  pub split_list : IsFreeTable fllen sllen m table (ahead ++ (f ∷ later))
  unfolding ahead later
  split_list = subst (IsFreeTable fllen sllen m table) parts.2 (IsFreeTable-free v)

  -- the block is the newest of its class
  pub is_newest : {fl sl : ℕ} → IsClassAt fllen sllen f.len fl sl → IsNewestAt fllen sllen f ahead fl sl
  unfolding ahead later
  is_newest {fl} {sl} at = record { at = at; first = subst (λ c. filter (has_class sllen c) parts.0 ≡ []) at.class parts.4 }

  abbrev pub rest : Range
  rest = between (end_of (range_at block taken)) (end_of f)

  -- what is left in the list has no address in common with the block
  pub left_apart : (g : Range) → IsIn g (without (has_class sllen (class_of sllen f.len)) s.free) → (a : ℕ) → g.start ≤ a → a < end_of g → f.start ≤ a
      → a < end_of f → ⊥
  unfolding ahead later
  left_apart g i a from to low high =
      omega (
        arith,
        split_list.apart a,
        coverage-append itself parts.0 (f ∷ parts.1) a,
        coverage-append itself parts.0 parts.1 a,
        coverage-IsIn itself g (parts.0 ++ parts.1) a (subst (IsIn g) parts.3 i),
        covers-inside g a from to,
        covers-inside f a low high,
      )

  -- the block was unlinked
  module _ {m1 : Space} {others : Table} (unlinked : HasTable fllen sllen m1 others (ahead ++ later) × Rewrites m m1 (IsLink (ahead ++ (f ∷ later)))) where
    unlinked_rewrites : Rewrites m m1 (IsLink s.free)
    unfolding ahead later
    unlinked_rewrites = subst (λ l. Rewrites m m1 (IsLink l)) (sym parts.2) unlinked.1

    -- no link is a second word
    second_word : (a : ℕ) → a % 32 ≡ 8 → m.start ≤ a → word_at m1 a ≡ word_at m a
    second_word a second = before_links s.free (λ g i. (v.well_formed.free g i).whole.start) unlinked_rewrites a (inr second)

    pub IsInnerRoom-rest : taken < len → IsInnerRoom fllen sllen m1 others (ahead ++ later) rest
    IsInnerRoom-rest short =
        let place = free_in_memory v.well_formed f is_free in
        let moved = unlinked.1 in
        let inner : IsInnerRoom fllen sllen m1 others (ahead ++ later) f =
        record {
          room = record {
            list = IsFreeTable-removal ahead f later split_list unlinked.0 moved;
            block = v.well_formed.free f is_free;
            placed = CanBeBlock-Rewrites moved (CanBeBlock-free v f is_free);
            apart = λ a. omega (arith, split_list.apart a, coverage-append itself ahead (f ∷ later) a, coverage-append itself ahead later a);
          };
          not_last = omega (arith, moved.start, moved.length, place.1);
          behind = own-there m m1 (range_at (end_of f) 16) (omega (arith, place.0)) moved.own (here_behind_free v f is_free);
        } in
        IsInnerRoom-part f (IsSpanRoom-inner taken inner) (block + taken) (omega (arith, take.start)) take.whole (omega (arith, short, take.length))

    -- nothing is left
    pub IsOpened-whole : len ≤ taken → IsOpened fllen sllen m m1 others s f (range_at block taken)
    unfolding ahead later
    IsOpened-whole all =
        let is = v.well_formed.free f is_free in
        let place = free_in_memory v.well_formed f is_free in
        let end : end_of (range_at block taken) ≡ end_of f = omega arith in
        let none : rest_behind (range_at block taken) (end_of f) ≡ [] =
        ap (λ b. cond b (between (end_of (range_at block taken)) (end_of f) ∷ []) []) (le-ltb (end_of (range_at block taken)) (end_of f) (omega arith)) in
        record {
          rewrites = Rewrites-weaken (λ a l. at_link l) unlinked_rewrites;
          first = second_word (f.start + 8) (omega (arith, is.whole.start)) (omega (arith, place.0));
          behind =
              ap (λ a. word_at m1 (a + 8)) end ∙ second_word (end_of f + 8) (omega (arith, is.whole.start, is.whole.len)) (omega (arith, place.0)) ∙ v.previous.free f is_free;
          rest = λ g i. absurd (subst (λ l. IsIn g l) none i);
          table =
              subst (λ l. HasTable fllen sllen m1 others (l ++ without (has_class sllen (class_of sllen f.len)) s.free)) (sym none)
              (subst (HasTable fllen sllen m1 others) (sym parts.3) unlinked.0);
        }

    -- a rest is left
    pub IsOpened-rest : {n : Space} {changed : Table} → taken < len → IsFreeBlockBehind fllen sllen m1 n changed (ahead ++ later) block rest
        → IsOpened fllen sllen m n changed s f (range_at block taken)
    unfolding ahead later
    IsOpened-rest {n} {changed} short left =
        let is = v.well_formed.free f is_free in
        let place = free_in_memory v.well_formed f is_free in
        let some : rest_behind (range_at block taken) (end_of f) ≡ between (end_of (range_at block taken)) (end_of f) ∷ [] =
        ap (λ b. cond b (between (end_of (range_at block taken)) (end_of f) ∷ []) []) (lt-ltb (end_of (range_at block taken)) (end_of f) (omega arith)) in
        record {
          rewrites = Rewrites-weaken joined (Rewrites-trans unlinked_rewrites left.rewrites);
          first =
              left.rewrites.words (f.start + 8) (omega (arith, is.whole.start)) (omega (arith, unlinked.1.start, place.0)) not_first
              ∙ second_word (f.start + 8) (omega (arith, is.whole.start)) (omega (arith, place.0));
          behind = left.previous ∙ sym take.start;
          rest =
              λ g i. (let same = (IsIn-rest_behind (range_at block taken) (end_of f) g i).0 in
              subst (λ q. (word_at n q.start ≡ q.len) × (word_at n (end_of q + 8) ≡ q.start)) (sym same) (left.size, left.behind));
          table = subst (λ l. HasTable fllen sllen n changed (l ++ without (has_class sllen (class_of sllen f.len)) s.free)) (sym some)
              (subst (λ l. HasTable fllen sllen n changed (between (end_of (range_at block taken)) (end_of f) ∷ l)) (sym parts.3) left.table);
        }
      where
        was_free : (g : Range) → IsIn g (parts.0 ++ parts.1) → IsIn g s.free
        was_free g i =
            subst (IsIn g) (sym parts.2)
            (elim (IsIn-append g parts.0 parts.1 i) [ inl j ↦ IsIn-append_left g parts.0 (f ∷ parts.1) j | inr j ↦ IsIn-append_right g parts.0 (f ∷ parts.1) (inr j) ])

        joined : (a : ℕ) → IsLink s.free a
            ⊎ Touched (parts.0 ++ parts.1) (between (end_of (range_at block taken)) (end_of f)) (end_of (between (end_of (range_at block taken)) (end_of f)) + 8) a
            → Touched s.free f (end_of f + 8) a
        joined a (inl l) = at_link l
        joined a (inr (at_link (g, i, at))) = at_link (g, was_free g i, at)
        joined a (inr (in_hole low high)) = in_hole (omega (arith, take.start)) (omega (arith, take.start, take.length))
        joined a (inr (at_other at)) = at_other (omega (arith, take.start, take.length))

        not_first : Touched (parts.0 ++ parts.1) (between (end_of (range_at block taken)) (end_of f)) (end_of (between (end_of (range_at block taken)) (end_of f)) + 8)
            (f.start + 8) → ⊥
        not_first (at_link (g, i, inl at)) = omega (arith, (v.well_formed.free g (was_free g i)).whole.start, (v.well_formed.free f is_free).whole.start)
        not_first (at_link (g, i, inr at)) = omega (arith, (v.well_formed.free g (was_free g i)).whole.start, (v.well_formed.free f is_free).whole.start)
        not_first (in_hole low high) = omega (arith, take.start, take.whole, take.some)
        not_first (at_other at) = omega (arith, take.start, take.length)
