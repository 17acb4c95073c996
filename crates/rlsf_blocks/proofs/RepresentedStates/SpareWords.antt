-- A word that no block is made of was written: the allocator represents the states that it represented.
use Rattle.std.proofs.Common.{◌≡◌, ◌≢◌, ℕ, ◌+◌, ◌-◌, ◌%◌, ◌<◌, ◌≤◌, arith, inl, inr, refl, sym, ◌∙◌, subst}
use Rattle.std.proofs.lemmas.Bool.{cases_lt}
use Rattle.rlsf_base.specs.declared.memory.range.Range.{Range}
use Rattle.rlsf_base.specs.Range.{end_of}
use Rattle.rlsf_base.specs.Space.{Space, bytes_in, range_of, word_range, with_word, word_at}
use Rattle.rlsf_base.specs.OpenSpace.{IsOwned, out_with}
use Rattle.rlsf_model.specs.Lists.{IsIn}
use Rattle.rlsf_model.specs.State.{State, Used, usable}
use Rattle.rlsf_model.specs.WellFormed.{IsWellFormed}
use Rattle.rlsf_model.proofs.Payloads.{IsUsed-after_start}
use Rattle.rlsf_model.proofs.Tiling.{LiesInChunk}
use Rattle.rlsf_table.specs.Rewrites.{Rewrites}
use Rattle.rlsf_table.proofs.Tables.FreeTables.{HasTable-Rewrites}
use Rattle.rlsf_table.proofs.Words.Writes.{Rewrites-word}
use Rattle.rlsf_blocks.specs.InBand.{sentinel_of}
use Rattle.rlsf_blocks.specs.Spare.{IsSpareWord}
use Rattle.rlsf_blocks.specs.StandsFor.{contents, StandsFor}
use Rattle.rlsf_table.specs.Table.{Table}
use Rattle.rlsf_blocks.proofs.Deallocate.Addresses.{IsReadable-before}
use Rattle.rlsf_blocks.proofs.RepresentedStates.FreeBlocks.{CanBeBlock-free}
use Rattle.rlsf_blocks.proofs.Words.Apart.{home_of_free, home_of_used, used_in_memory}

module _ {fllen sllen : ℕ} {m : Space} {t : Table} {s : State} (old : StandsFor fllen sllen (contents m t) s) (addr word : ℕ) (is : IsSpareWord m s addr)
    (mine : IsOwned m (word_range addr))
    (n : Space) (start : n.start ≡ m.start) (bytes : n.bytes ≡ with_word m addr word) (out : n.out ≡ out_with m (word_range addr)) where
  w : IsWellFormed fllen sllen (range_of m) s
  w = old.well_formed

  rewrites : Rewrites m n (λ a. a ≡ addr)
  rewrites = Rewrites-word m n addr word (is.0.0, is.0.1, mine) start bytes out

  -- no byte of a chunk is spare before its last 16
  apart : (c : Range) → IsIn c s.chunks → (a : ℕ) → c.start ≤ a → a + 16 < end_of c → a ≢ addr
  apart c i a from to at = omega (arith, is.1 a (omega arith) (omega arith) c i from (omega arith), (w.chunks c i).has_room)

  word_in_chunk : (c : Range) → IsIn c s.chunks → (a : ℕ) → a % 8 ≡ 0 → c.start ≤ a → a + 16 < end_of c → word_at n a ≡ word_at m a
  word_in_chunk c i a whole from to = rewrites.words a whole (omega (arith, (w.chunks c i).lies_in.0)) (apart c i a from to)

  -- neither a block nor the 16 bytes behind it have a spare byte
  word_of_block : (r : Range) → LiesInChunk s r → (a : ℕ) → a % 8 ≡ 0 → r.start ≤ a → a < end_of r + 16 → word_at n a ≡ word_at m a
  word_of_block r home a whole from to = word_in_chunk home.chunk home.is_chunk a whole (omega (arith, home.from)) (omega (arith, home.to))

  word_of_used : (u : Used) → IsIn u s.used → (a : ℕ) → a % 8 ≡ 0 → u.block.start ≤ a → a < end_of u.block + 16 → word_at n a ≡ word_at m a
  word_of_used u i = word_of_block u.block (home_of_used w u i)

  word_of_free : (f : Range) → IsIn f s.free → (a : ℕ) → a % 8 ≡ 0 → f.start ≤ a → a < end_of f + 16 → word_at n a ≡ word_at m a
  word_of_free f i = word_of_block f (home_of_free w f i)

  payload : (u : Used) → IsIn u s.used → bytes_in n (usable u) ≡ bytes_in m (usable u)
  payload u i =
      let used = w.used u i in
      let home = home_of_used w u i in
      rewrites.bytes (usable u) (omega (arith, (used_in_memory w u i).0)) (λ a at. elim (cases_lt a u.block.start) [
        | inl before ↦ inr (omega arith)
        | inr from ↦ elim (cases_lt a (end_of u.block)) [
          | inr behind ↦ inl (omega (arith, used.within))
          | inl within ↦ absurd (apart home.chunk home.is_chunk a (omega (arith, home.from)) (omega (arith, home.to)) at)
        ]
      ])

  pad : (u : Used) → IsIn u s.used → 32 ≤ u.align → word_at n (u.payload - 8) ≡ word_at m (u.payload - 8)
  pad u i wide =
      let used = w.used u i in
      let after_start = IsUsed-after_start u used in
      word_of_used u i (u.payload - 8) (IsReadable-before old u i refl refl wide).0 (omega arith) (omega (arith, used.within))

  -- nor does a free block's third or fourth word
  links : (f : Range) → IsIn f s.free → (f.start + 16 ≢ addr) × (f.start + 24 ≢ addr)
  links f i =
      let home = home_of_free w f i in
      let free = w.free f i in (
        apart home.chunk home.is_chunk (f.start + 16) (omega (arith, home.from)) (omega (arith, home.to)),
        apart home.chunk home.is_chunk (f.start + 24) (omega (arith, home.from)) (omega (arith, home.to, free.some, free.whole.len)),
      )

  pub StandsFor-spare_word : StandsFor fllen sllen (contents n t) s
  StandsFor-spare_word =
      let place : range_of m ≡ range_of n = λ i. record { start = sym start i; len = sym rewrites.length i } in
      record {
        nonzero = omega (arith, start, old.nonzero);
        well_formed = subst (λ r. IsWellFormed fllen sllen r s) place w;
        sizes = record {
          used = λ u i. word_of_used u i u.block.start (omega (arith, (w.used u i).whole.start)) (omega arith) (omega arith) ∙ old.sizes.used u i;
          free = λ f i. word_of_free f i f.start (omega (arith, (w.free f i).whole.start)) (omega arith) (omega arith) ∙ old.sizes.free f i;
          sentinel = λ c i. (let chunk = w.chunks c i in
              word_in_chunk c i (sentinel_of c) (omega (arith, chunk.whole.start, chunk.whole.len, chunk.has_room)) (omega (arith, chunk.has_room)) (omega (arith, chunk.has_room)))
              ∙ old.sizes.sentinel c i;
        };
        previous = record {
          used =
              λ u i. (let whole = (w.used u i).whole in word_of_used u i (end_of u.block + 8) (omega (arith, whole.start, whole.len)) (omega arith) (omega arith))
              ∙ old.previous.used u i;
          free =
              λ f i. (let whole = (w.free f i).whole in word_of_free f i (end_of f + 8) (omega (arith, whole.start, whole.len)) (omega arith) (omega arith))
              ∙ old.previous.free f i;
          first =
              λ c i. (let chunk = w.chunks c i in word_in_chunk c i (c.start + 8) (omega (arith, chunk.whole.start)) (omega arith) (omega (arith, chunk.has_room)))
              ∙ old.previous.first c i;
        };
        payloads = record { bytes = λ u i. payload u i ∙ old.payloads.bytes u i; pad = λ u i wide. pad u i wide ∙ old.payloads.pad u i wide };
        table = HasTable-Rewrites rewrites (CanBeBlock-free old) links old.table;
        own = λ a from unlent c i low high. rewrites.own a (omega (arith, start, from)) ∙ old.own a (omega (arith, start, from)) unlent c i low high;
      }
