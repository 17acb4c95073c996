-- The words at the neighbours of a used block show whether they are free.
use Rattle.std.specs.Option.{option_map_or}
use Rattle.rlsf_base.proofs.Lending.WordIsHere.{is_word}
use Rattle.std.proofs.Common.{◌^◌, ◌≡◌, ◌≢◌, ℕ, ◌+◌, ◌-◌, ◌%◌, ◌<◌, ◌≤◌, Some, None, find, arith, inl, sym, ◌∙◌, ap, subst, Option}
use Rattle.rlsf_base.proofs.Lending.Present.{own-word}
use Rattle.rlsf_base.specs.OpenSpace.{IsReadable}
use Rattle.rlsf_model.specs.WellFormed.{last_bytes}
use Rattle.rlsf_model.proofs.Payloads.{IsUsed-after_start, IsUsed-some}
use Rattle.rlsf_blocks.proofs.Words.NeverOut.{free_word, front_word, here_last, used_word}
use Rattle.std.proofs.lemmas.Bool.{eq-eqb, eqb-true, ne_eqb}
use Rattle.rlsf_base.specs.declared.memory.range.Range.{Range}
use Rattle.rlsf_base.specs.Range.{end_of}
use Rattle.rlsf_base.specs.Space.{Space, word_at}
use Rattle.rlsf_table.specs.Rewrites.{IsLink}
use Rattle.rlsf_table.specs.FreeTable.{IsFreeTable}
use Rattle.rlsf_table.specs.Table.{Table}
use Rattle.rlsf_table.proofs.FreeLists.Found.{find-one, find-no, find-start, find-no_start, without-same}
use Rattle.rlsf_table.proofs.FreeLists.Counted.{IsFreeTable-counted, Rewrites-counted}
use Rattle.rlsf_table.proofs.Words.Writes.{before_links}
use Rattle.rlsf_blocks.specs.InBand.{sentinel_of}
use Rattle.rlsf_blocks.specs.StandsFor.{contents, StandsFor}
use Rattle.rlsf_blocks.specs.Steps.Join.{FreeBlockBegins, IsMarked, IsNextOut, IsPreviousOut}
use Rattle.rlsf_model.specs.Join.{ends_at, starts_at}
use Rattle.rlsf_model.specs.Lists.{IsIn, without}
use Rattle.rlsf_model.specs.State.{State, Used}
use Rattle.rlsf_model.proofs.Coverage.{IsIn-without, IsIn-without_other, without-none}
use Rattle.rlsf_blocks.proofs.RepresentedStates.FreeBlocks.{IsFreeTable-free}
use Rattle.rlsf_blocks.proofs.RepresentedStates.Neighbours.{Before, free_before, used_before, none_before, Behind, free_behind, used_behind, last_behind, before_used, behind_used}
use Rattle.rlsf_blocks.proofs.Words.Apart.{used_free, free_free, free_last, chunk_chunk, home_of_free, used_in_memory, free_in_memory}

-- what the word names that shows the block before an address: a free block, a used one, or none
pub data Named (m : Space) (s : State) (b previous : ℕ) : Type 0 where
  names_free : (f : Range) → IsIn f s.free → end_of f ≡ b → previous ≡ f.start → find (ends_at b) s.free ≡ Some f → Named m s b previous
  names_used : (x : Used) → IsIn x s.used → previous ≡ x.block.start → find (ends_at b) s.free ≡ None → Named m s b previous
  names_none : previous ≡ 0 → find (ends_at b) s.free ≡ None → Named m s b previous

module _ {fllen sllen : ℕ} {m : Space} {t : Table} {s : State} (v : StandsFor fllen sllen (contents m t) s) where
  -- where a used block begins, its word is odd, and no free block begins
  pub used_odd : (x : Used) → IsIn x s.used → word_at m x.block.start % 2 ≡ 1
  used_odd x i = omega (arith, v.sizes.used x i, (v.well_formed.used x i).whole.len)

  pub used_begins : (x : Used) → IsIn x s.used → (a : ℕ) → x.block.start ≡ a → FreeBlockBegins s.free a → ⊥
  used_begins x i a at (f, j, same) =
      let some = IsUsed-some x (v.well_formed.used x i) in
      let more = (v.well_formed.free f j).some in
      used_free v.well_formed x f a i j (record { from = omega arith; to = omega arith }) (record { from = omega arith; to = omega arith })

  -- where a chunk's last bytes begin, none begins either
  pub last_begins : (c : Range) → IsIn c s.chunks → (a : ℕ) → sentinel_of c ≡ a → FreeBlockBegins s.free a → ⊥
  last_begins c i a at (f, j, same) =
      let more = (v.well_formed.free f j).some in
      let room = (v.well_formed.chunks c i).has_room in
      free_last v.well_formed f c a j i (record { from = omega arith; to = omega arith }) (omega arith) (omega arith)

  -- a free block's word is even
  pub free_even : (f : Range) → IsIn f s.free → word_at m f.start % 2 ≡ 0
  free_even f i = omega (arith, v.sizes.free f i, (v.well_formed.free f i).whole.len)

  -- so the first word of a free block is marked, that of a used one, and that of a chunk's last bytes
  pub IsMarked-free : (f : Range) → IsIn f s.free → (a : ℕ) → f.start ≡ a → IsMarked m s.free a
  IsMarked-free f i a at = record { word = free_word v f i a at; mark = (λ _. (f, i, at), λ _. ap (λ b. word_at m b % 2) (sym at) ∙ free_even f i) }

  IsMarked-used : (x : Used) → IsIn x s.used → (a : ℕ) → x.block.start ≡ a → IsMarked m s.free a
  IsMarked-used x i a at =
      let odd = ap (λ b. word_at m b % 2) (sym at) ∙ used_odd x i in
      record { word = used_word v x i a at; mark = (λ even. absurd (omega (arith, odd, even)), λ begins. absurd (used_begins x i a at begins)) }

  IsMarked-last : (c : Range) → IsIn c s.chunks → (a : ℕ) → sentinel_of c ≡ a → IsMarked m s.free a
  IsMarked-last c i a at =
      let chunk = v.well_formed.chunks c i in
      let word : word_at m a ≡ 35 = subst (λ b. word_at m b ≡ 35) at (v.sizes.sentinel c i) in
      let own = own-word m (last_bytes c) a (here_last v c i) (omega (arith, at)) (omega (arith, at, chunk.has_room)) in
      record {
        word = is_word m a (omega (arith, at, chunk.whole.start, chunk.whole.len), (omega (arith, at), omega (arith, at)), own) (omega (arith, word));
        mark = (λ even. absurd (omega (arith, word, even)), λ begins. absurd (last_begins c i a at begins));
      }

  -- ---- the block before

  module _ (u : Used) (i : IsIn u s.used) {b previous : ℕ} (at : u.block.start ≡ b) (is : previous ≡ word_at m (b + 8)) where
    no_other_end : (x : Used) → IsIn x s.used → end_of x.block ≡ b → find (ends_at b) s.free ≡ None
    no_other_end x j end =
        find-no (ends_at b) s.free (λ f k passes.
        let f_end = eqb-true (end_of f) b passes in
        let some = IsUsed-some x (v.well_formed.used x j) in
        let more = (v.well_formed.free f k).some in
        used_free v.well_formed x f (b - 1) j k (record { from = omega arith; to = omega arith }) (record { from = omega arith; to = omega arith }))

    no_end_before : (c : Range) → IsIn c s.chunks → c.start ≡ b → find (ends_at b) s.free ≡ None
    no_end_before c j start =
        find-no (ends_at b) s.free (λ f k passes.
        let f_end = eqb-true (end_of f) b passes in
        let more = (v.well_formed.free f k).some in
        let room = (v.well_formed.chunks c j).has_room in
        let home = home_of_free v.well_formed f k in
        let same =
        chunk_chunk v.well_formed home.chunk c b home.is_chunk j (record { from = omega (arith, home.from); to = omega (arith, home.to) })
        (record { from = omega arith; to = omega arith }) in
        omega (arith, home.from, ap (λ r. r.start) same))

    pub named : Named m s b previous
    named = go (subst (Before s) at (before_used v.well_formed u i))
      where
        go : Before s b → Named m s b previous
        go (free_before f j end) =
            names_free f j end (is ∙ ap (λ a. word_at m (a + 8)) (sym end) ∙ v.previous.free f j)
            (find-one (ends_at b) f s.free j (eq-eqb (end_of f) b end) (λ g k passes.
            let g_end = eqb-true (end_of g) b passes in
            let some = (v.well_formed.free f j).some in
            let more = (v.well_formed.free g k).some in
            free_free v.well_formed g f (b - 1) k j (record { from = omega arith; to = omega arith }) (record { from = omega arith; to = omega arith })))
        go (used_before x j end) = names_used x j (is ∙ ap (λ a. word_at m (a + 8)) (sym end) ∙ v.previous.used x j) (no_other_end x j end)
        go (none_before c j start) = names_none (is ∙ ap (λ a. word_at m (a + 8)) (sym start) ∙ v.previous.first c j) (no_end_before c j start)

    -- the word that shows it can be read
    pub previous_word : IsReadable m (b + 8)
    previous_word =
        front_word v u i (b + 8) (omega (arith, at, (v.well_formed.used u i).whole.start)) (omega (arith, at))
        (omega (arith, at, IsUsed-after_start u (v.well_formed.used u i))) (subst (λ n. n < 2 ^ 64) is (go named))
      where
        go : Named m s b previous → previous < 2 ^ 64
        go (names_free f j end same found) = omega (arith, same, (free_in_memory v.well_formed f j).1, v.well_formed.addressable)
        go (names_used x j same e) = omega (arith, same, (used_in_memory v.well_formed x j).1, v.well_formed.addressable)
        go (names_none zero e) = omega (arith, zero)

    some_previous : (f : Range) → IsIn f s.free → previous ≡ f.start → previous ≢ 0
    some_previous f j same none = omega (arith, (free_in_memory v.well_formed f j).0, v.nonzero)

    -- no block is before it
    pub IsPreviousOut-none : (n : Space) → n.start ≡ m.start → n.bytes ≡ m.bytes → n.out ≡ m.out → previous ≡ 0 → IsPreviousOut fllen sllen m n t s.free b b
    IsPreviousOut-none n start bytes out none = go named
      where
        missing : find (ends_at b) s.free ≡ None → IsPreviousOut fllen sllen m n t s.free b b
        missing e = record {
          rewrites = Rewrites-counted m n start bytes out (IsLink s.free);
          list = subst (IsFreeTable fllen sllen n t) (sym (without-none (ends_at b) s.free e)) (IsFreeTable-counted m n start bytes out (IsFreeTable-free v));
          begins = sym (ap (λ (o : Option Range). option_map_or (λ f. f.start) o b) e);
        }

        go : Named m s b previous → IsPreviousOut fllen sllen m n t s.free b b
        go (names_free f j end same found) = absurd (some_previous f j same none)
        go (names_used x j same e) = missing e
        go (names_none zero e) = missing e

    -- the block before it is marked
    pub IsMarked-previous : previous ≢ 0 → IsMarked m s.free previous
    IsMarked-previous some = go named
      where
        go : Named m s b previous → IsMarked m s.free previous
        go (names_free f j end same found) = IsMarked-free f j previous (sym same)
        go (names_used x j same e) = IsMarked-used x j previous (sym same)
        go (names_none none e) = absurd (some none)

    -- a length is that of the free block before it, or 0 if none is before it
    pub record IsLengthBefore (len : ℕ) : Type 0 where
      pub within : len ≤ b
      pub begins : b - len ≡ option_map_or (λ f. f.start) (find (ends_at b) s.free) b
      pub ends : 0 < len → previous + len ≡ b
      pub left : without (starts_at previous) s.free ≡ without (ends_at b) s.free

    -- as the length of a free block that begins where the word says, or 0, is
    pub length_before : {len : ℕ} → previous ≢ 0 → previous + len ≡ option_map_or end_of (find (starts_at previous) s.free) previous → IsLengthBefore len
    length_before {len} some long = go named
      where
        missing : (FreeBlockBegins s.free previous → ⊥) → find (ends_at b) s.free ≡ None → IsLengthBefore len
        missing none e =
            let no_start = find-no_start s.free previous (λ f j same. none (f, j, same)) in
            let end : previous + len ≡ previous = long ∙ ap (λ (o : Option Range). option_map_or end_of o previous) no_start in
            record {
              within = omega (arith, end);
              begins = omega (arith, end) ∙ sym (ap (λ (o : Option Range). option_map_or (λ f. f.start) o b) e);
              ends = λ more. absurd (omega (arith, end));
              left = without-none (starts_at previous) s.free no_start ∙ sym (without-none (ends_at b) s.free e);
            }

        go : Named m s b previous → IsLengthBefore len
        go (names_free f j end same found) =
            let start = find-start s.free f previous (IsFreeTable-free v).apart (λ g k. (v.well_formed.free g k).some) j (sym same) in
            let to : previous + len ≡ b = long ∙ ap (λ (o : Option Range). option_map_or end_of o previous) start ∙ end in
            record {
              within = omega arith;
              begins = omega arith ∙ sym (ap (λ (o : Option Range). option_map_or (λ f. f.start) o b) found);
              ends = λ more. to;
              left = without-same (starts_at previous) (ends_at b) f s.free start found;
            }
        go (names_used y j same e) = missing (used_begins y j previous (sym same)) e
        go (names_none none e) = absurd (some none)

    -- and was taken out, if it is free
    pub previous_out : {n : Space} {x : Table} {len start : ℕ} → previous ≢ 0 → IsNextOut fllen sllen m n x s.free previous len → start ≡ b - len
        → IsPreviousOut fllen sllen m n x s.free b start
    previous_out {n} {x} some out from = grind (arith, length_before)

  -- ---- the block behind

  -- it is marked
  pub IsMarked-end : (u : Used) → IsIn u s.used → (e : ℕ) → end_of u.block ≡ e → IsMarked m s.free e
  IsMarked-end u i e end = go (subst (Behind s) end (behind_used v.well_formed u i))
    where
      go : Behind s e → IsMarked m s.free e
      go (free_behind f j begin) = IsMarked-free f j e begin
      go (used_behind x j begin) = IsMarked-used x j e begin
      go (last_behind c j begin) = IsMarked-last c j e begin

  module _ (u : Used) (i : IsIn u s.used) {n : Space} {x : Table} {b start : ℕ} (at : u.block.start ≡ b) (out : IsPreviousOut fllen sllen m n x s.free b start) where
    -- a size word is as it was
    kept : (a : ℕ) → a % 32 ≡ 0 → m.start ≤ a → word_at n a ≡ word_at m a
    kept a whole = before_links s.free (λ g j. (v.well_formed.free g j).whole.start) out.rewrites a (inl whole)

    -- and it is marked still
    pub IsMarked-behind : (e : ℕ) → end_of u.block ≡ e → IsMarked n (without (ends_at b) s.free) e
    IsMarked-behind e end =
        let is = v.well_formed.used u i in
        let some = IsUsed-some u is in
        let place = used_in_memory v.well_formed u i in
        let first = IsMarked-end u i e end in
        let moved = out.rewrites in
        let same = ap (λ w. w % 2) (kept e (omega (arith, end, is.whole.start, is.whole.len)) (omega (arith, end, place.0))) in
        record {
          word = (
            first.word.0,
            (omega (arith, first.word.1, moved.start), omega (arith, first.word.1, moved.start, moved.length)),
            λ k lo hi. moved.here k (omega (arith, first.word.1, lo)) (first.word.2 k lo hi),
          );
          mark = (
            λ even.
                let (f, j, begin) = first.mark.0 (sym same ∙ even) in
                let more = (v.well_formed.free f j).some in
                (f, IsIn-without_other (ends_at b) f s.free (ne_eqb (end_of f) b (λ same_end. omega arith)) j, begin),
            λ (f, j, begin). same ∙ first.mark.1 (f, IsIn-without (ends_at b) f s.free j, begin),
          );
        }
