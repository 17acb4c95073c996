-- What the word before a payload says of its block, whatever its alignment.
use Rattle.rlsf_blocks.proofs.Words.NeverOut.{free_word, front_word, used_word}
use Rattle.std.proofs.Common.{◌≡◌, ◌≢◌, ℕ, ◌+◌, ◌-◌, ◌^◌, ◌<◌, ◌≤◌, length, arith, inl, inr, refl, sym, ◌∙◌, ap, subst}
use Rattle.std.proofs.lemmas.Bool.{cases_lt, cond-false, cond-true, le-ltb, lt-ltb}
use Rattle.std.proofs.lemmas.Bool.Decides.{eqb_tells}
use Rattle.rlsf_base.specs.declared.memory.range.Range.{Range}
use Rattle.rlsf_base.specs.Range.{end_of, LiesIn}
use Rattle.rlsf_base.specs.Space.{Space, word_at}
use Rattle.rlsf_base.specs.OpenSpace.{IsReadable}
use Rattle.rlsf_model.specs.Lists.{IsIn}
use Rattle.rlsf_model.specs.State.{State, Used, usable, Holds}
use Rattle.rlsf_model.proofs.Payloads.{IsUsed-after_start}
use Rattle.rlsf_blocks.specs.Laws.{WordsGiveBlock}
use Rattle.rlsf_blocks.specs.StandsFor.{Contents, StandsFor}
use Rattle.rlsf_blocks.specs.Steps.LiveBlock.{AtEachBlock, IsLiveIn}
use Rattle.rlsf_blocks.proofs.Deallocate.Addresses.{IsReadable-before, narrow_start, wide_start}
use Rattle.rlsf_blocks.proofs.RepresentedStates.Neighbours.{before_used, free_before, none_before, used_before}
use Rattle.rlsf_blocks.proofs.Words.Apart.{used_in_memory}

-- The word before the payload of u. It is 0, or the start of the block before u's block, which ends where u's block begins: then the
-- payload lies 16 bytes into its block. Or it is the start of u's block
pub data Says (m : Space) (u : Used) (word : ℕ) : Type 0 where
  nothing : word ≡ 0 → u.payload ≡ u.block.start + 16 → Says m u word
  another : IsReadable m word → word + word_at m word ≤ u.block.start + 1 → u.payload ≡ u.block.start + 16 → Says m u word
  its_own : word ≡ u.block.start → Says m u word

-- what the words in a memory are around the payload of u, which is at the address
pub record IsPayloadOf (m : Space) (addr : ℕ) (u : Used) : Type 0 where
  pub at : u.payload ≡ addr
  pub in_block : u.block.start + 16 ≤ addr
  pub within : addr ≤ end_of u.block
  pub from_start : m.start ≤ u.block.start
  pub to_end : end_of u.block + 32 ≤ m.start + length m.bytes
  pub some : 0 < u.block.start
  pub ends : end_of u.block + 32 < 2 ^ 64
  pub word : IsReadable m (addr - 8)
  pub says : Says m u (word_at m (addr - 8))
  pub own_word : IsReadable m u.block.start
  pub size : word_at m u.block.start ≡ u.block.len + 1

module _ {fllen sllen : ℕ} {v : Contents} {s : State} (stands : StandsFor fllen sllen v s) (u : Used) (i : IsIn u s.used) where
  -- the word before a payload 16 bytes into its block is that block's second one
  says_narrow : u.payload ≡ u.block.start + 16 → Says v.memory u (word_at v.memory (u.payload - 8))
  says_narrow at =
      let w = stands.well_formed in
      elim (before_used w u i) [
        | none_before c j begins ↦
            let place : u.payload - 8 ≡ c.start + 8 = omega arith in
            nothing (ap (word_at v.memory) place ∙ stands.previous.first c j) at
        | used_before x j ends ↦
            let place : u.payload - 8 ≡ end_of x.block + 8 = omega arith in
            let names = ap (word_at v.memory) place ∙ stands.previous.used x j in
            subst (Says v.memory u) (sym names) (another (used_word stands x j x.block.start refl) (omega (arith, stands.sizes.used x j)) at)
        | free_before f j ends ↦
            let place : u.payload - 8 ≡ end_of f + 8 = omega arith in
            let names = ap (word_at v.memory) place ∙ stands.previous.free f j in
            subst (Says v.memory u) (sym names) (another (free_word stands f j f.start refl) (omega (arith, stands.sizes.free f j)) at)
      ]

  -- it is a word
  narrow-fits : u.payload ≡ u.block.start + 16 → word_at v.memory (u.payload - 8) < 2 ^ 64
  narrow-fits at =
      let w = stands.well_formed in
      let mine = used_in_memory w u i in
      elim (before_used w u i) [
        | none_before c j begins ↦ let place : u.payload - 8 ≡ c.start + 8 = omega arith in let is = ap (word_at v.memory) place ∙ stands.previous.first c j in
            omega (arith, is)
        | used_before x j ends ↦ let place : u.payload - 8 ≡ end_of x.block + 8 = omega arith in let is = ap (word_at v.memory) place ∙ stands.previous.used x j in
            omega (arith, is, ends, mine.1, w.addressable)
        | free_before f j ends ↦ let place : u.payload - 8 ≡ end_of f + 8 = omega arith in let is = ap (word_at v.memory) place ∙ stands.previous.free f j in
            omega (arith, is, ends, mine.1, w.addressable)
      ]

  -- that word, at any alignment
  before_payload : IsReadable v.memory (u.payload - 8) × Says v.memory u (word_at v.memory (u.payload - 8))
  before_payload = elim (cases_lt u.align 32) [
    | inr wide ↦ (IsReadable-before stands u i refl refl wide, its_own (wide_start stands u i refl refl wide))
    | inl few ↦
        let at : u.block.start + 16 ≡ u.payload = narrow_start stands u i refl refl few in
        let whole = (stands.well_formed.used u i).whole in
        (front_word stands u i (u.payload - 8) (omega (arith, at, whole.start)) (omega (arith, at)) (omega (arith, at)) (narrow-fits (sym at)), says_narrow (sym at))
  ]

  is_payload : IsPayloadOf v.memory u.payload u
  is_payload =
      let w = stands.well_formed in
      let is = w.used u i in
      let place = used_in_memory w u i in
      let after_start = IsUsed-after_start u is in
      let (word, says) = before_payload in
      record {
        at = refl;
        in_block = after_start;
        within = is.within;
        from_start = place.0;
        to_end = place.1;
        some = omega (arith, stands.nonzero, place.0);
        ends = omega (arith, place.1, w.addressable);
        word = word;
        says = says;
        own_word = used_word stands u i u.block.start refl;
        size = stands.sizes.used u i;
      }

-- so it is for each state that the memory represents
pub IsPayloadOf-holds : {fllen sllen : ℕ} {v : Contents} {s : State} {m : Space} {addr : ℕ} (u : Used) → v.memory ≡ m → StandsFor fllen sllen v s → Holds s addr u
    → IsPayloadOf m addr u
IsPayloadOf-holds {v = v} {m = m} {addr = addr} u same stands holds =
    subst (λ n. IsPayloadOf n addr u) same (subst (λ a. IsPayloadOf v.memory a u) holds.1 (is_payload stands u holds.0))

-- and for the payload that a caller says lives, with what is known of each block of it
pub live_payload : {m : Space} {addr : ℕ} {P : Used → Type 0} → IsLiveIn m addr → AtEachBlock m addr P → (u : Used) × IsPayloadOf m addr u × P u
live_payload (fllen, sllen, v, s, same, stands, (u, holds)) each = (u, IsPayloadOf-holds u same stands holds, each fllen sllen v s u same stands holds)

pub live_one : {m : Space} {addr : ℕ} → IsLiveIn m addr → (u : Used) × IsPayloadOf m addr u
live_one (fllen, sllen, v, s, same, stands, (u, holds)) = (u, IsPayloadOf-holds u same stands holds)

module _ {m : Space} {addr : ℕ} {u : Used} (is : IsPayloadOf m addr u) where
  -- ---- the word before the payload

  module _ (word : ℕ) (read : word ≡ word_at m (addr - 8)) where
    said : Says m u word
    said = subst (Says m u) (sym read) is.says

    -- a word that isn't 0 is the address of a size word
    pub IsReadable-named : word ≢ 0 → IsReadable m word
    IsReadable-named some = grind (arith, said)

    -- the end of the block there, with the flag of its size word, fits in a word
    pub fits_named : (size : ℕ) → word ≢ 0 → size ≡ word_at m word → word + size < 2 ^ 64
    fits_named size some sized = grind (arith, said, sized)

    -- no block is named
    pub begins_first : word ≡ 0 → addr - 16 ≡ u.block.start
    begins_first none = grind (arith, said)

    -- a block is named that ends before the payload
    pub begins_behind : (size : ℕ) → size ≡ word_at m word → word + size < addr → addr - 16 ≡ u.block.start
    begins_behind size sized ends = grind (arith, said, sized)

    -- a block is named that has the payload
    pub begins_there : (size : ℕ) → word ≢ 0 → size ≡ word_at m word → addr ≤ word + size → word ≡ u.block.start
    begins_there size some sized at_most = grind (arith, said)

  -- ---- the bytes from the payload to the block's end

  module _ (block : ℕ) (begins : block ≡ u.block.start) where
    pub IsReadable-block : IsReadable m block
    IsReadable-block = subst (IsReadable m) (sym begins) is.own_word

    -- its size word is the number of its bytes, with the flag
    pub sized : (size : ℕ) → size ≡ word_at m block → size ≡ u.block.len + 1
    sized size read = read ∙ ap (word_at m) begins ∙ is.size

    -- all bytes from the payload to the block's end, and no others
    pub usable-sized : (size : ℕ) → size ≡ word_at m block → (r : Range) → r.start ≡ addr → r.len ≡ block + (size - 1) - addr → r ≡ usable u
    usable-sized size read r start len = grind (arith, sized)

  -- they lie in the memory
  pub LiesIn-usable : LiesIn (usable u) m.start (length m.bytes)
  LiesIn-usable = (omega (arith, is.at, is.in_block, is.from_start), omega (arith, is.at, is.within, is.to_end))

-- by the word before a payload and one size word its block is found
pub words_give_block : WordsGiveBlock
words_give_block fllen sllen v s u stands i =
    let m = v.memory in
    let addr = u.payload in
    let named = word_at m (addr - 8) in
    let is : IsPayloadOf m addr u = is_payload stands u i in
    elim (eqb_tells named 0) [
      | inl none ↦ cond-true _ (addr - 16) _ none.0 ∙ begins_first is named refl none.1
      | inr some ↦ cond-false _ (addr - 16) _ some.0 ∙ elim (cases_lt (named + word_at m named) addr) [
        | inl behind ↦ cond-true _ (addr - 16) named (lt-ltb _ addr behind) ∙ begins_behind is named refl (word_at m named) refl behind
        | inr inside ↦ cond-false _ (addr - 16) named (le-ltb _ addr inside) ∙ begins_there is named refl (word_at m named) some.1 refl inside
      ]
    ]
