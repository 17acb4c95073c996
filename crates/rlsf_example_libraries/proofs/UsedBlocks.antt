-- The used blocks of a store are as many as the lists of bytes that it keeps.
use Rattle.std.proofs.Common.{◌≡◌, ◌<◌, ◌≤◌, Bool, true, List, [], ◌∷◌, ◌++◌, cond, filter, length, length-append, arith, refl, sym, ◌∙◌, ap, subst}
use Rattle.std.proofs.Common.{inl, inr}
use Rattle.std.specs.Prelude.{⊤}
use Rattle.std.proofs.lemmas.Bool.{cases_Bool}
use Rattle.std.proofs.lemmas.List.Sums.{length-filter}
use Rattle.rlsf_base.specs.Space.{range_of}
use Rattle.rlsf_blocks.specs.Blocks.{Block, HasBlock, used, free, AreBlocks, IsInOrder, walked}
use Rattle.rlsf_blocks.proofs.Walking.Blocks.{Has-same, block-some, home_of_block}
use Rattle.rlsf_blocks.proofs.Words.Apart.{Has, used_used}
use Rattle.rlsf_model.specs.Lists.{IsIn}
use Rattle.rlsf_model.specs.State.{State, Used}
use Rattle.rlsf_model.specs.WellFormed.{IsWellFormed}
use Rattle.rlsf_model.proofs.CallerWords.{align_at-held}
use Rattle.rlsf_model.proofs.Changes.{Holds-unique}
use Rattle.rlsf_table.proofs.FreeLists.Chains.{IsIn-split}
use Rattle.rlsf_tlsf.proofs.Arrivals.{well_formed}
use Rattle.rlsf_example_libraries.specs.Stored.{ArePlacesApart, IsStore, Stored, StoreContents, used_count}
use Rattle.rlsf_example_libraries.proofs.Kept.{IsIn-less}
use Rattle.rlsf_example_libraries.proofs.Stores.{block_of}

-- ---- lists of which each element has its own in another list

module _ {A B : Type 0} (R : A → B → Type 0) where
  -- no two elements have the same one
  abbrev pub NoTwo : List A → Type 0
  NoTwo [] = ⊤
  NoTwo (x ∷ xs) = ((z : A) (y : B) → IsIn z xs → R x y → R z y → ⊥) × NoTwo xs

  -- if each has one, the other list is as long, or longer
  pub length-le_from_own : (xs : List A) (ys : List B) → ((x : A) → IsIn x xs → (y : B) × IsIn y ys × R x y) → NoTwo xs → length xs ≤ length ys
  length-le_from_own [] ys each apart = omega arith
  length-le_from_own (x ∷ xs) ys each (first, rest) =
      let (y, i, r) = each x (inl refl) in
      let (before, after, whole) = IsIn-split y ys i in
      let others : (z : A) → IsIn z xs → (w : B) × IsIn w (before ++ after) × R z w = λ z j.
      let (w, at, q) = each z (inr j) in
      elim (IsIn-less w y before after (subst (IsIn w) whole at)) [ inl same ↦ absurd (first z y j r (subst (R z) same q)) | inr left ↦ (w, left, q) ] in
      omega (arith, length-le_from_own xs (before ++ after) others rest, length-append before (y ∷ after), length-append before after, ap length whole)

module _ {A : Type 0} (test : A → Bool) where
  IsIn-filter : (x : A) (xs : List A) → IsIn x (filter test xs) → IsIn x xs × (test x ≡ true)
  IsIn-filter x [] bad = absurd bad
  IsIn-filter x (y ∷ ys) i = elim (cases_Bool (test y)) [
    | inl passes ↦ elim (rw passes at i) [ inl same ↦ (inl same, ap test same ∙ passes) | inr j ↦ let (k, is) = IsIn-filter x ys j in (inr k, is) ]
    | inr fails ↦ let (k, is) = IsIn-filter x ys (rw fails at i) in (inr k, is)
  ]

  IsIn-filter_from : (x : A) (xs : List A) → IsIn x xs → test x ≡ true → IsIn x (filter test xs)
  IsIn-filter_from x [] bad passes = absurd bad
  IsIn-filter_from x (y ∷ ys) (inl same) passes = rw (ap test (sym same) ∙ passes) (inl same)
  IsIn-filter_from x (y ∷ ys) (inr i) passes = elim (cases_Bool (test y)) [
    | inl here ↦ rw here (inr (IsIn-filter_from x ys i passes))
    | inr other ↦ rw other (IsIn-filter_from x ys i passes)
  ]

-- ---- the blocks of a store, and what it keeps

abbrev occupied : Block → Bool
occupied b = b.is_occupied

-- the block of a used one at whose address a list of bytes is kept
record IsBlockOf (s : State) (b : Block) (k : Stored) : Type 0 where
  pub block : Used
  pub is_used : IsIn block s.used
  pub range : b.range ≡ block.block
  pub addr : block.payload ≡ k.addr

module _ {v : StoreContents} {all : List Stored} (store : IsStore v all) where
  formed : IsWellFormed 59 8 (range_of v.heap.memory) v.heap.state
  formed = well_formed v.heap store.stands

  -- two blocks of one list have one range, and two lists of one block one address
  same_range : (b c : Block) (k : Stored) → IsBlockOf v.heap.state b k → IsBlockOf v.heap.state c k → b.range ≡ c.range
  same_range b c k p q = p.range ∙ ap (λ u. u.block) (Holds-unique formed k.addr p.block q.block (p.is_used, p.addr) (q.is_used, q.addr)) ∙ sym q.range

  same_addr : (b : Block) (j k : Stored) → 0 < b.range.len → IsBlockOf v.heap.state b j → IsBlockOf v.heap.state b k → j.addr ≡ k.addr
  same_addr b j k some p q =
      let here : Has b.range b.range.start = record { from = omega arith; to = omega arith } in
      let one = used_used formed p.block q.block b.range.start p.is_used q.is_used (Has-same p.range here) (Has-same q.range here) in
      sym p.addr ∙ ap (λ u. u.payload) one ∙ q.addr

  NoTwo-blocks : (bs : List Block) → ((b : Block) → IsIn b bs → 0 < b.range.len) → IsInOrder bs → NoTwo (IsBlockOf v.heap.state) (filter occupied bs)
  NoTwo-blocks [] some order = tt
  NoTwo-blocks (b ∷ bs) some (first, rest) =
      let others = NoTwo-blocks bs (λ c i. some c (inr i)) rest in
      let left : Bool → Type 0 = λ t. NoTwo (IsBlockOf v.heap.state) (cond t (b ∷ filter occupied bs) (filter occupied bs)) in
      elim (cases_Bool (occupied b)) [
        | inl is ↦ subst left (sym is) (
          λ c k i p q. omega (arith, first c (IsIn-filter occupied c bs i).0, some b (inl refl), ap (λ r. r.start) (same_range b c k p q)),
          others,
        )
        | inr not ↦ subst left (sym not) others
      ]

  NoTwo-stored : (ks : List Stored) → ArePlacesApart ks → NoTwo (λ k b. IsBlockOf v.heap.state b k × (0 < b.range.len)) ks
  NoTwo-stored [] apart = tt
  NoTwo-stored (k ∷ ks) (first, rest) = (λ j b i p q. first j i (same_addr b j k p.1 q.0 p.0), NoTwo-stored ks rest)

  module _ (bs : List Block) (are : AreBlocks v.heap.state (walked v.pool) bs) where
    some_of : (b : Block) → IsIn b bs → 0 < b.range.len
    some_of b i = block-some formed b ((are.exactly b).0 i).0

    list_of : (b : Block) → IsIn b (filter occupied bs) → (k : Stored) × IsIn k all × IsBlockOf v.heap.state b k
    list_of b i =
        let (j, is) = IsIn-filter occupied b bs i in
        of b is ((are.exactly b).0 j).0
      where
        of : (b : Block) → b.is_occupied ≡ true → HasBlock v.heap.state b → (k : Stored) × IsIn k all × IsBlockOf v.heap.state b k
        of b is (used u i range _) =
            let (k, at, addr) = store.payloads.no_other u.payload u.align (align_at-held formed u.payload u (i, refl)) in
            (k, at, record { block = u; is_used = i; range = range; addr = sym addr })
        of b is (free i not) = cc

    block_kept : (k : Stored) → IsIn k all → (b : Block) × IsIn b (filter occupied bs) × (IsBlockOf v.heap.state b k × (0 < b.range.len))
    block_kept k i =
        let (u, held) = block_of store k i in
        let b : Block = record { range = u.block; is_occupied = true } in
        let has : HasBlock v.heap.state b = used u held.0 refl refl in
        let home = home_of_block formed b has in
        let (from, to) = store.whole home.chunk home.is_chunk in
        let there = (are.exactly b).1 (has, omega (arith, home.from, from), omega (arith, home.to, to)) in
        (b, IsIn-filter_from occupied b bs there refl, (record { block = u; is_used = held.0; range = refl; addr = held.1 }, block-some formed b has))

    -- as many blocks are used as lists of bytes are kept
    pub used_count-stored : used_count bs ≡ length all
    used_count-stored =
        let at_most = length-le_from_own (IsBlockOf v.heap.state) (filter occupied bs) all list_of (NoTwo-blocks bs some_of are.in_order) in
        let at_least = length-le_from_own (λ k b. IsBlockOf v.heap.state b k × (0 < b.range.len)) all (filter occupied bs) block_kept (NoTwo-stored all store.payloads.apart) in
        omega (arith, at_most, at_least, length-filter occupied bs)
