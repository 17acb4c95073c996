-- A chunk without a used block is taken out: its one free block leaves its list.
use Rattle.std.proofs.Common.{◌≡◌, ℕ, ◌+◌, true, false, true≢false, List, ◌∷◌, ◌++◌, Some, find, arith, inl, inr, refl, sym, ◌∙◌, ap, subst}
use mathlib.Core.Path.{ap₂}
use Rattle.std.proofs.lemmas.Bool.{cases_eq, cases_lt, false_from_ne_true}
use Rattle.rlsf_base.specs.declared.memory.range.Range.{Range}
use Rattle.rlsf_base.specs.Range.{end_of}
use Rattle.rlsf_base.specs.Space.{Space, range_of}
use Rattle.rlsf_table.specs.Rewrites.{IsLink}
use Rattle.rlsf_table.specs.Table.{Table, HasTable}
use Rattle.rlsf_table.proofs.FreeLists.Found.{find-start}
use Rattle.rlsf_table.proofs.Words.Writes.{Rewrites-weaken}
use Rattle.rlsf_blocks.specs.Spare.{KeepsSpare}
use Rattle.rlsf_blocks.specs.StandsFor.{contents, StandsFor}
use Rattle.rlsf_blocks.specs.Steps.Join.{IsMarked, IsNextOut}
use Rattle.rlsf_blocks.specs.Steps.Touched.{at_link}
use Rattle.rlsf_model.specs.Insert.{body}
use Rattle.rlsf_model.specs.Join.{starts_at}
use Rattle.rlsf_model.specs.Lists.{IsIn, without}
use Rattle.rlsf_model.specs.Remove.{lies_within, outside_of, removed, IsIdle, IsRemovable, IsWithinOrOff}
use Rattle.rlsf_model.specs.State.{State}
use Rattle.rlsf_model.specs.WellFormed.{covers, coverage, itself, IsWellFormed}
use Rattle.rlsf_model.proofs.Coverage.{covers-inside, covers-le, covers-some, coverage-append, coverage-IsIn, IsIn-append, IsIn-append_left, IsIn-append_right}
use Rattle.rlsf_model.proofs.Removals.{lies_within-le, lies_within-true, IsIn-outside, Removes-keeps}
use Rattle.rlsf_model.proofs.Room.{idle_chunk_is_one_range}
use Rattle.rlsf_model.proofs.Tiling.{LiesInChunk, free-le, tiling_of}
use Rattle.rlsf_blocks.proofs.Chunks.Filtered.{outside_of-found}
use Rattle.rlsf_blocks.proofs.Deallocate.Marks.{IsMarked-free}
use Rattle.rlsf_blocks.proofs.Words.Apart.{chunk_chunk, free_free, free_in_memory, used_free}
use Rattle.rlsf_blocks.proofs.Words.Refilled.{old_used, old_free, IsRefilled, StandsFor-refilled_in, KeepsSpare-refilled}

module _ {fllen sllen : ℕ} {m : Space} {t : Table} {s : State} (v : StandsFor fllen sllen (contents m t) s) (c : Range) (i : IsIn c s.chunks) (idle : IsIdle s c) where
  w : IsWellFormed fllen sllen (range_of m) s
  w = v.well_formed

  -- all of it but its last bytes is one free block
  is_free : IsIn (body c) s.free
  is_free = (idle_chunk_is_one_range fllen sllen (range_of m) s c w idle i).0

  -- the word at its start is marked
  pub IsMarked-idle : (start : ℕ) → c.start ≡ start → IsMarked m s.free start
  IsMarked-idle start at = IsMarked-free v (body c) is_free start at

  -- two chunks are one, or have no address in common
  chunk_whole : (d : Range) → IsIn d s.chunks → IsWithinOrOff c d
  chunk_whole d j = elim (cases_eq d.start c.start) [
    | inl at ↦
        let room = (w.chunks c i).has_room in
        let more = (w.chunks d j).has_room in
        let same : d ≡ c = chunk_chunk w d c c.start j i (record { from = omega arith; to = omega arith }) (record { from = omega arith; to = omega arith }) in
        inl (omega arith, omega (arith, ap (λ x. x.len) same))
    | inr off ↦ inr (λ a. elim (cases_lt (covers c a) 1) [
      | inl none ↦ omega (arith, covers-le d a)
      | inr some ↦ elim (cases_lt (covers d a) 1) [
        | inl none ↦ omega (arith, covers-le c a)
        | inr both ↦
            let here = covers-some c a some in
            let there = covers-some d a both in
            absurd (off (ap (λ x. x.start) (chunk_chunk w d c a j i (record { from = there.0; to = there.1 }) (record { from = here.0; to = here.1 }))))
      ]
    ])
  ]

  removable : IsRemovable s c
  removable = record { idle = idle; whole = chunk_whole }

  home : LiesInChunk s (body c)
  home = let room = (w.chunks c i).has_room in record { chunk = c; is_chunk = i; from = omega arith; to = omega arith }

  -- where a free block lies in the chunk, it is that one
  only : (f : Range) → IsIn f s.free → lies_within c f ≡ true → f ≡ body c
  only f j lies =
      let ends = lies_within-true c f lies in
      let some = (w.free f j).some in
      (idle_chunk_is_one_range fllen sllen (range_of m) s c w idle i).1 f j (covers-inside c f.start (omega (arith, ends.0)) (omega (arith, ends.1)))

  -- its free block was taken off its list
  module _ {n : Space} {x : Table} {start len : ℕ} (at : c.start ≡ start) (out : IsNextOut fllen sllen m n x s.free start len) where
    found : find (starts_at start) s.free ≡ Some (body c)
    found = find-start s.free (body c) start (free-le s (tiling_of w)) (λ g j. (w.free g j).some) is_free at

    -- where the chunk ends
    pub end_is : end_of c ≡ start + len + 32
    end_is = grind (arith, w, found)

    -- no other free block lies in the chunk
    others : (before after : List Range) → s.free ≡ before ++ (body c ∷ after) → (f : Range) → IsIn f (before ++ after) → lies_within c f ≡ false
    others before after parts f j = false_from_ne_true (lies_within c f) (λ lies.
        let among : IsIn f s.free =
        subst (IsIn f) (sym parts)
        (elim (IsIn-append f before after j) [
          | inl k ↦ IsIn-append_left f before (body c ∷ after) k
          | inr k ↦
              IsIn-append_right f before (body c ∷ after) (inr k)
        ]) in
        let same = only f among lies in
        let some = (w.free (body c) is_free).some in
        let one : covers (body c) c.start ≡ 1 = covers-inside (body c) c.start (omega arith) (omega arith) in
        let again : covers f c.start ≡ 1 = ap (λ y. covers y c.start) same ∙ one in
        omega (
          arith,
          one,
          free-le s (tiling_of w) c.start,
          ap (λ l. coverage itself l c.start) parts,
          coverage-append itself before (body c ∷ after) c.start,
          coverage-append itself before after c.start,
          coverage-IsIn itself f (before ++ after) c.start j,
          again,
        ))

    left : outside_of c s.free ≡ without (starts_at start) s.free
    left =
        outside_of-found c (body c) (starts_at start) s.free found (lies_within-le c (body c) (omega arith) (omega arith)) others

    IsRefilled-removed : IsRefilled fllen sllen m n x s s.used (outside_of c s.free) (body c)
    IsRefilled-removed = record {
      rewrites = Rewrites-weaken (λ a l. at_link l) out.rewrites;
      first = out.rewrites.words (c.start + 8) (omega (arith, (w.free (body c) is_free).whole.start)) (omega (arith, (free_in_memory w (body c) is_free).0)) no_link;
      used_still = λ u j. old_used j (λ a hu hf. used_free w u (body c) a j is_free hu hf);
      free_still = λ f j. (
          let (k, outside) = IsIn-outside c f s.free j in
          old_free k (λ a hf hb.
          true≢false (sym (ap (lies_within c) (free_free w f (body c) a k is_free hf hb) ∙ lies_within-le c (body c) (omega arith) (omega arith)) ∙ outside)));
      table = subst (HasTable fllen sllen n x) (sym left) out.list.table;
      own = v.own;
    }
      where
        no_link : IsLink s.free (c.start + 8) → ⊥
        no_link (f, j, inl at_word) = omega (arith, (w.free f j).whole.start, (w.free (body c) is_free).whole.start)
        no_link (f, j, inr at_word) = omega (arith, (w.free f j).whole.start, (w.free (body c) is_free).whole.start)

    pub StandsFor-removed : StandsFor fllen sllen (contents n x) (removed c s)
    StandsFor-removed =
        let is = w.free (body c) is_free in
        let same : range_of n ≡ range_of m = ap₂ (λ a l. record { start = a; len = l }) out.rewrites.start out.rewrites.length in
        StandsFor-refilled_in v (body c) is.whole is.some home IsRefilled-removed (outside_of c s.chunks) (λ d j. (IsIn-outside c d s.chunks j).0)
        (subst (λ p. IsWellFormed fllen sllen p (removed c s)) (sym same) (Removes-keeps w c removable (removed c s) refl))

    -- no byte has changed that no block was made of
    pub KeepsSpare-removed : KeepsSpare m s n s
    KeepsSpare-removed = let is = w.free (body c) is_free in λ a from to spare also. KeepsSpare-refilled v (body c) is.whole is.some home IsRefilled-removed a from to spare spare
