-- The footers are spare words, so what leaves chunks and spare bytes as they are leaves the footers.
use Rattle.std.proofs.Common.{◌≡◌, ℕ, ◌+◌, ◌-◌, ◌^◌, ◌<◌, ◌≤◌, List, [], ◌∷◌, length, drop, slice_index, get_or-take, get_or-drop, arith, refl}
use Rattle.std.proofs.Common.{sym, ◌∙◌, ap, subst, inl, inr}
use Rattle.std.proofs.lemmas.Grind.{same_number_lists}
use Rattle.rlsf_base.specs.declared.memory.range.Range.{Range}
use Rattle.rlsf_base.specs.Range.{end_of, LiesIn}
use Rattle.rlsf_base.specs.Space.{Space, byte_at, bytes_in, out_at, range_of, word_at, word_range, IsWord, SamePlace}
use Rattle.rlsf_base.proofs.Lending.WordIsHere.{word_at-kept}
use Rattle.rlsf_blocks.specs.Spare.{IsSpare, IsSpareWord, KeepsSpare}
use Rattle.rlsf_tlsf.specs.Allocator.{Allocator, HasBytesOf, IsStanding}
use Rattle.rlsf_blocks.proofs.Allocate.Placements.{length-bytes_in}
use Rattle.rlsf_flex.specs.Footers.{footer_of, Footers}
use Rattle.rlsf_flex.specs.StandsFor.{FlexContents, FlexStandsFor, with_allocator}
use Rattle.rlsf_model.specs.FlexState.{FlexState, with_machine}
use Rattle.rlsf_model.specs.FlexWellFormed.{AreHoused, AreOutstanding, IsFlexWellFormed}
use Rattle.rlsf_model.specs.Lists.{IsIn}
use Rattle.rlsf_model.specs.State.{State}
use Rattle.rlsf_model.specs.Terms.{Terms}
use Rattle.rlsf_model.specs.WellFormed.{itself, IsWellFormed}
use Rattle.rlsf_model.proofs.Coverage.{covers-inside, coverage-unique}
use Rattle.rlsf_model.proofs.FlexSteps.{with_machine_keeps}
use Rattle.rlsf_flex.proofs.Places.{out_at-place}

-- the two words of a range's footer are spare
abbrev pub HasSpareFooter : Space → State → Range → Type 0
HasSpareFooter m s p = IsSpareWord m s (footer_of p) × IsSpareWord m s (footer_of p + 8)

-- two memories at one place have one range
pub range_of-same : (m n : Space) → n.start ≡ m.start → length n.bytes ≡ length m.bytes → range_of m ≡ range_of n
range_of-same m n start len i = record { start = sym start i; len = sym len i }

-- ranges of a space that lies in a memory are ranges of the memory
pub outstanding_in : (m : Space) (space : Range) (pools : List Range) → LiesIn space m.start (length m.bytes) → AreOutstanding space pools → AreOutstanding (range_of m) pools
outstanding_in m space pools lies placed = record {
  in_space = λ p i. let inside = placed.in_space p i in (omega (arith, lies, inside), omega (arith, lies, inside));
  long = placed.long;
  disjoint = placed.disjoint;
}

-- where ranges house all chunks, the footer of each is spare, and ends below 2^64
module _ {fllen sllen : ℕ} (m : Space) (s : State) (space : Range) (pools : List Range) (w : IsWellFormed fllen sllen (range_of m) s)
    (space_lies : LiesIn space m.start (length m.bytes)) (placed : AreOutstanding space pools) (housed : AreHoused pools s.chunks)
    (p : Range) (i : IsIn p pools) where
  long : 64 ≤ p.len
  long = placed.long p i

  inside : LiesIn p m.start (length m.bytes)
  inside = (outstanding_in m space pools space_lies placed).in_space p i

  apart : (a : ℕ) → footer_of p ≤ a → a < footer_of p + 16 → IsSpare s a
  apart a low high c j from to =
      let (q, k, begins, ends) = housed c j in
      let room = long in
      let same : q ≡ p =
      coverage-unique itself q p pools a (placed.disjoint a) k i (covers-inside q a (omega arith) (omega arith)) (covers-inside p a (omega arith) (omega arith)) in
      let end : end_of q ≡ end_of p = ap end_of same in
      let chunk = w.chunks c j in
      let start32 = chunk.whole.start in
      let len32 = chunk.whole.len in
      let some = chunk.has_room in
      omega arith

  pub spare_footer : HasSpareFooter m s p
  spare_footer = grind (arith, long, inside, apart)

  pub footer_ends : (16 ≤ end_of p) × (end_of p < 2 ^ 64)
  footer_ends = (omega (arith, long), omega (arith, inside, w.addressable))

-- so is each of a well-formed state
module _ {fllen sllen : ℕ} (m : Space) {t : Terms} {s : FlexState} (w : IsFlexWellFormed fllen sllen (range_of m) t s) (p : Range) (i : IsIn p s.pools) where
  pub spare_here : HasSpareFooter m s.machine p
  spare_here = spare_footer m s.machine t.space s.pools w.machine w.space w.pools w.housed p i

  pub ends_here : (16 ≤ end_of p) × (end_of p < 2 ^ 64)
  ends_here = footer_ends m s.machine t.space s.pools w.machine w.space w.pools w.housed p i

-- a word is as it was where its bytes are, and are kept as they were
pub word_at-bytes : (m n : Space) (a : ℕ) → n.start ≡ m.start → length n.bytes ≡ length m.bytes → IsWord m a
    → ((b : ℕ) → a ≤ b → b < a + 8 → byte_at n b ≡ byte_at m b) → ((b : ℕ) → a ≤ b → b < a + 8 → out_at n b ≡ out_at m b)
    → word_at n a ≡ word_at m a
word_at-bytes m n a start len word same kept = word_at-kept m n a start word.1.0 (same_number_lists (bytes_in n (word_range a)) (bytes_in m (word_range a)) lengths elements) kept
  where
    lengths : length (bytes_in n (word_range a)) ≡ length (bytes_in m (word_range a))
    lengths = length-bytes_in n (word_range a) (omega (arith, start, word), omega (arith, start, len, word)) ∙ sym (length-bytes_in m (word_range a) word.1)

    element : (o : Space) (k : ℕ) → o.start ≡ m.start → k < 8 → slice_index (bytes_in o (word_range a)) k ≡ byte_at o (a + k)
    element o k begins short =
        let i = a - o.start in
        get_or-take 8 (drop i o.bytes) k 0 short ∙ get_or-drop i o.bytes k 0 ∙ ap (λ j. slice_index o.bytes j) (omega (arith, begins, word))

    elements : (k : ℕ) → k < length (bytes_in n (word_range a)) → slice_index (bytes_in n (word_range a)) k ≡ slice_index (bytes_in m (word_range a)) k
    elements k below =
        let short : k < 8 = omega (arith, below, lengths, length-bytes_in m (word_range a) word.1) in
        element n k start short ∙ same (a + k) (omega arith) (omega (arith, short)) ∙ sym (element m k (λ i. m.start) short)

-- each byte that no block is made of, before and after, is here, raw or out as it was
abbrev pub LeavesSpare : Space → State → Space → State → Type 0
LeavesSpare m s n t = (a : ℕ) → m.start ≤ a → IsSpare s a → IsSpare t a → out_at n a ≡ out_at m a

-- footers that are spare before and after stay where spare bytes do
pub Footers-kept : (m n : Space) (s t : State) (pools : List Range) → KeepsSpare m s n t → LeavesSpare m s n t → n.start ≡ m.start → length n.bytes ≡ length m.bytes
    → ((p : Range) → IsIn p pools → HasSpareFooter m s p × HasSpareFooter n t p) → Footers m pools → Footers n pools
Footers-kept m n s t [] keeps leaves start len spare f = f
Footers-kept m n s t (p ∷ ps) keeps leaves start len spare (first, second, rest) =
    let (was, is) = spare p (inl (λ i. p)) in
    (stays (footer_of p) was.0 is.0 ∙ first, stays (footer_of p + 8) was.1 is.1 ∙ second, Footers-kept m n s t ps keeps leaves start len (λ q i. spare q (inr i)) rest)
  where
    stays : (a : ℕ) → IsSpareWord m s a → IsSpareWord n t a → word_at n a ≡ word_at m a
    stays a was is = word_at-bytes m n a start len was.0 (λ b low high. keeps b (omega (arith, was.0, low)) (omega (arith, was.0, high)) (was.1 b low high) (is.1 b low high))
        (λ b low high. leaves b (omega (arith, was.0, low)) (was.1 b low high) (is.1 b low high))

-- a step of the reference model that leaves the chunks is one of the allocator over a source
pub stands_kept : {S : Type 0} {fllen sllen : ℕ} {terms : S → Terms} {owes : S → List Range → Type 0} {v : FlexContents S} (h : FlexStandsFor fllen sllen terms owes v)
    (new : Allocator) → 0 < new.memory.start → HasBytesOf new.memory new.state → IsWellFormed fllen sllen (range_of new.memory) new.state
    → new.state.chunks ≡ v.state.machine.chunks
    → KeepsSpare v.memory v.state.machine new.memory new.state → LeavesSpare v.memory v.state.machine new.memory new.state
    → new.memory.start ≡ v.memory.start → length new.memory.bytes ≡ length v.memory.bytes → FlexStandsFor fllen sllen terms owes (with_allocator v new)
stands_kept {fllen = fllen} {sllen = sllen} {terms = terms} {v = v} h new nonzero payloads machine chunks keeps leaves start len = record {
  nonzero = nonzero;
  payloads = payloads;
  well_formed = well_formed;
  owed = h.owed;
  footers =
      λ back. Footers-kept v.memory new.memory v.state.machine new.state v.state.pools keeps leaves start len
      (λ p i. (spare_here v.memory h.well_formed p i, spare_here new.memory well_formed p i)) (h.footers back);
}
  where
    well_formed : IsFlexWellFormed fllen sllen (range_of new.memory) (terms v.source) (with_machine v.state new.state)
    well_formed =
        with_machine_keeps (subst (λ m. IsFlexWellFormed fllen sllen m (terms v.source) v.state) (range_of-same v.memory new.memory start len) h.well_formed) new.state
        (with_machine v.state new.state) machine chunks refl

-- the same, for a memory that stays at its place and of which nothing is out
pub stands_stepped : {S : Type 0} {fllen sllen : ℕ} {terms : S → Terms} {owes : S → List Range → Type 0} {v : FlexContents S} (h : FlexStandsFor fllen sllen terms owes v)
    (new : Allocator) → IsStanding fllen sllen new.memory new.state → new.state.chunks ≡ v.state.machine.chunks
    → KeepsSpare v.memory v.state.machine new.memory new.state
    → SamePlace v.memory new.memory → v.memory.out ≡ []
    → FlexStandsFor fllen sllen terms owes (with_allocator v new)
stands_stepped {v = v} h new stands chunks keeps place none =
    stands_kept h new stands.nonzero stands.payloads stands.well_formed chunks keeps (λ a from one two. out_at-place v.memory new.memory place none a) place.0 place.1
