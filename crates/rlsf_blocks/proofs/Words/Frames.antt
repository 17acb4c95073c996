-- The words of the old blocks after a hole has been written over, with one word behind it and the links of the free blocks. All
-- that is not in the hole is as it was.
use Rattle.std.proofs.Common.{◌≡◌, ◌≢◌, ℕ, ◌+◌, ◌-◌, ◌%◌, ◌<◌, ◌≤◌, ◌⊎◌, arith, inl, inr, sym}
use Rattle.std.proofs.lemmas.Bool.{cases_lt}
use Rattle.rlsf_base.specs.declared.memory.range.Range.{Range}
use Rattle.rlsf_base.specs.Range.{end_of}
use Rattle.rlsf_base.specs.Space.{Space, bytes_in, range_of, word_at}
use Rattle.rlsf_table.specs.Rewrites.{Rewrites}
use Rattle.rlsf_table.proofs.Words.Writes.{link_place}
use Rattle.rlsf_blocks.specs.Steps.Touched.{Touched, at_link, in_hole, at_other}
use Rattle.rlsf_blocks.specs.InBand.{sentinel_of}
use Rattle.rlsf_model.specs.Lists.{IsIn}
use Rattle.rlsf_model.specs.State.{State, Used, usable}
use Rattle.rlsf_model.specs.WellFormed.{IsWellFormed}
use Rattle.rlsf_model.proofs.Payloads.{IsUsed-aligned, IsUsed-after_start, IsUsed-some}
use Rattle.rlsf_model.proofs.RangeLengths.{wide_whole}
use Rattle.rlsf_blocks.proofs.Words.Apart.{Has, used_free, free_in_memory, used_in_memory}

-- of two ranges that have no address in common, one ends before the other begins
pub sides : (r q : Range) → 0 < r.len → 0 < q.len → ((a : ℕ) → Has r a → Has q a → ⊥) → (end_of r ≤ q.start) ⊎ (end_of q ≤ r.start)
sides r q some more apart = grind (arith, cases_lt)

-- two blocks of complete granules that have no address in common: one ends in the other only where that begins
pub begins_there : (r q : Range) → 0 < q.len → ((a : ℕ) → Has r a → Has q a → ⊥) → Has r (end_of q) → r.start ≡ end_of q
begins_there r q some apart at = grind (arith, cases_lt)

module _ {fllen sllen : ℕ} {m n : Space} {s : State} (w : IsWellFormed fllen sllen (range_of m) s) (hole : Range) (whole : hole.start % 32 ≡ 0) (room : 0 < hole.len)
    (past : ℕ) (second : past % 32 ≡ 8) (not_before : hole.start ≤ past) (not_far : past ≤ end_of hole + 8) (rewrites : Rewrites m n (Touched s.free hole past)) where
  -- the first word of a block that has no address in common with the hole
  first_word : (a : ℕ) → a % 32 ≡ 0 → m.start ≤ a → (Has hole a → ⊥) → word_at n a ≡ word_at m a
  first_word a start in_memory apart = rewrites.words a (omega arith) in_memory go
    where
      go : Touched s.free hole past a → ⊥
      go (at_link l) = elim (link_place s.free (λ f i. (w.free f i).whole.start) a l) [ inl at ↦ omega arith | inr at ↦ omega arith ]
      go (in_hole low high) = apart (record { from = low; to = omega arith })
      go (at_other at) = omega arith

  -- the second word of a block at b
  second_word : (b : ℕ) → b % 32 ≡ 0 → m.start ≤ b → (Has hole b → ⊥) → b + 8 ≢ past → word_at n (b + 8) ≡ word_at m (b + 8)
  second_word b start in_memory apart other = rewrites.words (b + 8) (omega arith) (omega arith) go
    where
      go : Touched s.free hole past (b + 8) → ⊥
      go (at_link l) = elim (link_place s.free (λ f i. (w.free f i).whole.start) (b + 8) l) [ inl at ↦ omega arith | inr at ↦ omega arith ]
      go (in_hole low high) = apart (record { from = omega arith; to = omega arith })
      go (at_other at) = other at

  module _ (u : Used) (i : IsIn u s.used) (apart : (a : ℕ) → Has u.block a → Has hole a → ⊥) where
    pub used_size : word_at n u.block.start ≡ word_at m u.block.start
    used_size =
        let is = w.used u i in
        first_word u.block.start is.whole.start (used_in_memory w u i).0 (λ h. apart u.block.start (record { from = omega arith; to = omega (arith, IsUsed-some u is) }) h)

    pub used_previous : end_of u.block ≢ hole.start → end_of u.block + 8 ≢ past → word_at n (end_of u.block + 8) ≡ word_at m (end_of u.block + 8)
    used_previous start other =
        let is = w.used u i in
        second_word (end_of u.block) (omega (arith, is.whole.start, is.whole.len)) (omega (arith, (used_in_memory w u i).0))
        (λ h. start (sym (begins_there hole u.block (IsUsed-some u is) (λ a hh hu. apart a hu hh) h))) other

    -- what is written lies outside the part of the block from 16 bytes after its start on
    used_rest : (a : ℕ) → Touched s.free hole past a → (low : ℕ) → u.block.start + 16 ≤ low → (end_of u.block ≤ a) ⊎ (a + 8 ≤ low)
    used_rest a t low above = go t
      where
        long : 0 < u.block.len
        long = let is = w.used u i in IsUsed-some u is

        outside : (r : Range) → 0 < r.len → ((b : ℕ) → Has u.block b → Has r b → ⊥) → r.start ≤ a → a + 8 ≤ end_of r
            → (end_of u.block ≤ a) ⊎ (a + 8 ≤ low)
        outside r some parted from to = elim (sides u.block r long some parted) [ inl before ↦ inl (omega arith) | inr behind ↦ inr (omega arith) ]

        go : Touched s.free hole past a → (end_of u.block ≤ a) ⊎ (a + 8 ≤ low)
        go (at_link (g, gi, inl at)) = let free = w.free g gi in
            outside g free.some (λ b hu hg. used_free w u g b i gi hu hg) (omega arith) (omega (arith, free.some, free.whole.len))
        go (at_link (g, gi, inr at)) = let free = w.free g gi in
            outside g free.some (λ b hu hg. used_free w u g b i gi hu hg) (omega arith) (omega (arith, free.some, free.whole.len))
        go (in_hole from to) = outside hole (omega arith) apart from to
        go (at_other at) = elim (sides u.block hole long room apart) [ inl before ↦ inl (omega arith) | inr behind ↦ inr (omega arith) ]

    pub used_bytes : bytes_in n (usable u) ≡ bytes_in m (usable u)
    used_bytes =
        let is = w.used u i in
        rewrites.bytes (usable u) (omega (arith, (used_in_memory w u i).0, IsUsed-after_start u is))
        (λ a t. elim (used_rest a t u.payload (IsUsed-after_start u is)) [ inl past ↦ inl (omega (arith, past, is.within)) | inr below ↦ inr below ])

    pub used_pad : 32 ≤ u.align → word_at n (u.payload - 8) ≡ word_at m (u.payload - 8)
    used_pad wide =
        let is = w.used u i in
        let place = used_in_memory w u i in
        let granule : u.payload % 32 ≡ 0 = wide_whole u.payload u.align is.power wide (IsUsed-aligned u is) in
        let deep : u.block.start + 24 ≤ u.payload - 8 = omega (arith, IsUsed-after_start u is, is.whole.start) in
        rewrites.words (u.payload - 8) (omega arith) (omega (arith, place.0))
        (λ t. elim (used_rest (u.payload - 8) t (u.payload - 8) (omega arith)) [ inl past ↦ omega (arith, past, is.within) | inr below ↦ omega arith ])

  module _ (g : Range) (i : IsIn g s.free) (apart : (a : ℕ) → Has g a → Has hole a → ⊥) where
    pub free_size : word_at n g.start ≡ word_at m g.start
    free_size = let is = w.free g i in
        first_word g.start is.whole.start (free_in_memory w g i).0 (λ h. apart g.start (record { from = omega arith; to = omega (arith, is.some) }) h)

    pub free_previous : end_of g ≢ hole.start → end_of g + 8 ≢ past → word_at n (end_of g + 8) ≡ word_at m (end_of g + 8)
    free_previous start other =
        let is = w.free g i in
        second_word (end_of g) (omega (arith, is.whole.start, is.whole.len)) (omega (arith, (free_in_memory w g i).0))
        (λ h. start (sym (begins_there hole g is.some (λ a hh hg. apart a hg hh) h))) other

  module _ (c : Range) (i : IsIn c s.chunks) where
    pub chunk_first : (Has hole c.start → ⊥) → c.start + 8 ≢ past → word_at n (c.start + 8) ≡ word_at m (c.start + 8)
    chunk_first apart other = let is = w.chunks c i in second_word c.start is.whole.start is.lies_in.0 apart other

    pub chunk_sentinel : (Has hole (sentinel_of c) → ⊥) → word_at n (sentinel_of c) ≡ word_at m (sentinel_of c)
    chunk_sentinel apart = let is = w.chunks c i in
        first_word (sentinel_of c) (omega (arith, is.whole.start, is.whole.len, is.has_room)) (omega (arith, is.lies_in.0, is.has_room)) apart
