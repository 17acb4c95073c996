-- The bytes of a payload are copied into one that is allocated for it, and then its block is deallocated.
use Rattle.std.proofs.Common.{◌≡◌, ℕ, ◌+◌, ◌-◌, ◌<◌, ◌%◌, ◌≤◌, ◌⊎◌, List, None, length, min, take, drop, arith, inl, inr, refl, sym, ◌∙◌, ap, subst}
use Rattle.std.proofs.lemmas.List.{take-take, take_all}
use Rattle.std.specs.List.{splice}
use Rattle.rlsf_base.specs.declared.memory.range.Range.{Range}
use Rattle.rlsf_model_sizes.specs.PowerOfTwo.{IsPowerOfTwo}
use Rattle.rlsf_base.specs.Range.{end_of, range_at, LiesIn}
use Rattle.rlsf_model_sizes.specs.Sizes.{request_size}
use Rattle.rlsf_base.specs.Space.{Space, bytes_in, with_bytes}
use Rattle.rlsf_base.specs.OpenSpace.{IsHere, IsOwned, SameOwn, StaysHere, out_with}
use Rattle.rlsf_base.proofs.Lending.Copied.{out_at-copied, out_at-there, here-copied, is_own-copied}
use Rattle.rlsf_base.proofs.Lending.Present.{own-here, own-inside, own-there}
use Rattle.rlsf_base.proofs.Lending.Replaced.{length-with, bytes_in-with, bytes_in-there}
use Rattle.rlsf_model.specs.Allocate.{given, placed, Places}
use Rattle.rlsf_model.specs.Lists.{IsIn}
use Rattle.rlsf_model.specs.Reallocate.{in_place, Keeps, MovesAway}
use Rattle.rlsf_model.specs.Release.{released}
use Rattle.rlsf_model.specs.State.{State, Used, usable, Holds}
use Rattle.rlsf_model.specs.WellFormed.{IsWellFormed}
use Rattle.rlsf_model.proofs.Changes.{Holds-unique}
use Rattle.rlsf_model.proofs.Allocations.{placed-fits}
use Rattle.rlsf_model.proofs.Choices.{choice-some}
use Rattle.rlsf_model.proofs.Live.{allocated_filled}
use Rattle.rlsf_model.proofs.Payloads.{payload_of-after, usable-short, IsUsed-after_start, IsUsed-some}
use Rattle.rlsf_blocks.specs.Spare.{IsSpare, KeepsSpare}
use Rattle.rlsf_blocks.specs.StandsFor.{contents, StandsFor}
use Rattle.rlsf_blocks.specs.Steps.Resize.{realigned}
use Rattle.rlsf_table.specs.Table.{Table}
use Rattle.rlsf_blocks.proofs.Payloads.Filled.{IsSameOutside, stands_filled}
use Rattle.rlsf_blocks.proofs.Words.Apart.{free_in_memory, usable_units, used_free, used_in_memory}
use Rattle.rlsf_blocks.proofs.Words.Frames.{sides}
use Rattle.rlsf_blocks.proofs.Words.NeverOut.{here_free}

module _ {fllen sllen : ℕ} {memory : Range} {m : Space} {table : Table} {s t : State} (w : IsWellFormed fllen sllen memory s) (u : Used) (i : IsIn u s.used) (size : ℕ)
    (short : in_place s u size ≡ None)
    {addr align : ℕ} (places : Places sllen s size align addr t) (v : StandsFor fllen sllen (contents m table) t) where
  -- the block that was allocated, with these bytes
  abbrev block_with : List ℕ → Used
  block_with bytes = placed places.range size align bytes

  -- the state in which both blocks are used, with these bytes in the new one
  abbrev pub both : List ℕ → State
  both bytes = given sllen s places.range (block_with bytes)

  abbrev new : Used
  new = block_with places.bytes

  Holds-new : Holds t addr new
  Holds-new = subst (λ x. Holds x addr new) (sym places.after) (inl refl, sym places.answer)

  old_stays : IsIn u t.used
  old_stays = subst (λ x. IsIn u x.used) (sym places.after) (inr i)

  shorter : (usable u).len < (usable new).len
  shorter = omega (arith, usable-short w u i size short, payload_of-after places.range.start align)

  pub LiesIn-old : LiesIn (usable u) m.start (length m.bytes)
  LiesIn-old =
      let place = used_in_memory v.well_formed u old_stays in
      let is = w.used u i in
      (omega (arith, place.0, IsUsed-after_start u is), omega (arith, place.1, is.within))

  -- as many bytes lie in the new payload
  pub LiesIn-new : LiesIn (range_at addr (usable u).len) m.start (length m.bytes)
  LiesIn-new =
      let place = used_in_memory v.well_formed new Holds-new.0 in (
        omega (arith, places.answer, place.0, payload_of-after places.range.start align),
        omega (arith, places.answer, place.1, shorter, payload_of-after places.range.start align),
      )

  -- which were a free block's, and so are the memory's own
  pub IsOwned-new : IsPowerOfTwo align → (l : Space) (old : Table) → StandsFor fllen sllen (contents l old) s → SameOwn l m → IsOwned m (range_at addr (usable u).len)
  IsOwned-new power l old first same =
      let f = places.range in
      let is_in = (choice-some sllen (request_size size align) s.free f places.chosen).is_in in
      let after = payload_of-after f.start align in
      let fits = placed-fits w f size align power places.chosen in
      let target = range_at addr (usable u).len in
      own-there l m target (omega (arith, places.answer, after, (free_in_memory first.well_formed f is_in).0)) same
      (own-inside l f target (omega (arith, places.answer, after)) (omega (arith, places.answer, shorter, fits)) (here_free first f is_in))

  -- the old payload is units of 16 bytes, and doesn't overlap the new one
  pub are_units : IsPowerOfTwo align → ((usable u).len % 16 ≡ 0) × ((end_of (usable u) ≤ addr) ⊎ (addr ≤ (usable u).start))
  are_units power =
      let f = places.range in
      let is = w.used u i in
      let is_in = (choice-some sllen (request_size size align) s.free f places.chosen).is_in in
      let fits = placed-fits w f size align power places.chosen in (
        usable_units w u i,
        elim (sides u.block f (IsUsed-some u is) (w.free f is_in).some (λ a hu hf. used_free w u f a i is_in hu hf)) [
          | inl before ↦ inl (omega (arith, before, places.answer, payload_of-after f.start align, is.within))
          | inr behind ↦ inr (omega (arith, behind, places.answer, shorter, fits, IsUsed-after_start u is))
        ],
      )

  -- the bytes of the old payload were copied to the new one
  pub record IsCopied (n : Space) (bytes : List ℕ) : Type 0 where
    pub place : (n.start ≡ m.start) × (length n.bytes ≡ length m.bytes)
    pub own : SameOwn m n
    pub here : StaysHere m n
    pub there : IsHere n (range_at addr (usable u).len)
    pub length : length bytes ≡ end_of new.block - addr
    pub kept : Keeps u.bytes bytes
    pub stands : StandsFor fllen sllen (contents n table) (both bytes)
    pub spare : KeepsSpare m t n (both bytes)

  module _ (power : IsPowerOfTwo align) (l : Space) (old : Table) (first : StandsFor fllen sllen (contents l old) s) (stays : SameOwn l m) {r : Range} (is : r ≡ usable u)
      (n : Space) (start : n.start ≡ m.start) (copied : n.bytes ≡ with_bytes m addr (bytes_in m r))
      (out : n.out ≡ out_with m (range_at addr r.len)) where
    abbrev target : Range
    target = range_at addr (usable u).len

    copied_there : n.bytes ≡ with_bytes m addr (bytes_in m (usable u))
    copied_there = copied ∙ ap (λ q. with_bytes m addr (bytes_in m q)) is

    out_there : n.out ≡ out_with m target
    out_there = out ∙ ap (λ q. out_with m (range_at addr q.len)) is

    long : length u.bytes ≡ (usable u).len
    long = (w.used u i).bytes

    spliced : n.bytes ≡ splice m.bytes (addr - m.start) (addr - m.start + (usable u).len) u.bytes
    spliced = copied_there ∙ ap (with_bytes m addr) (v.payloads.bytes u old_stays) ∙ ap (λ k. splice m.bytes (addr - m.start) (addr - m.start + k) u.bytes) long

    IsSameOutside-copied : IsSameOutside m n (usable new)
    IsSameOutside-copied = record {
      start = start;
      length = length-with m n target u.bytes LiesIn-new long start spliced;
      bytes = λ q from side. bytes_in-with m n target u.bytes LiesIn-new long start spliced q from ((grind (arith, shorter, payload_of-after)));
      out = λ a inside side. out_at-copied m n (usable u) addr LiesIn-old LiesIn-new start copied_there out_there a inside (elim side [
        | inl before ↦ inl (omega (arith, before, places.answer))
        | inr behind ↦ inr (omega (arith, behind, places.answer, shorter, payload_of-after places.range.start align))
      ]);
    }

    -- the first bytes of the new payload are those of the old one
    Keeps-copied : length (bytes_in n (usable new)) ≡ (usable new).len → Keeps u.bytes (bytes_in n (usable new))
    Keeps-copied whole =
        let few : min (length u.bytes) (length (bytes_in n (usable new))) ≡ length u.bytes = omega (arith, whole, long, shorter) in
        let front : take (length u.bytes) (bytes_in n (usable new)) ≡ u.bytes =
        take-take (length u.bytes) (usable new).len (drop (new.payload - n.start) n.bytes) (omega (arith, long, shorter))
        ∙ (λ k. take (long k) (drop (sym places.answer k - n.start) n.bytes))
        ∙ bytes_in-there m n target u.bytes LiesIn-new long start spliced in
        subst (λ k. take k (bytes_in n (usable new)) ≡ take k u.bytes) (sym few) (front ∙ sym (take_all (length u.bytes) u.bytes (omega arith)))

    pub copied_stands : (bytes : List ℕ) × IsCopied n bytes
    copied_stands =
        let (x, fills, stands, spare) = stands_filled v addr new Holds-new n IsSameOutside-copied in
        let same : fills.block ≡ new = Holds-unique v.well_formed addr fills.block new fills.holds Holds-new in
        let bytes = bytes_in n (usable new) in
        let whole : length bytes ≡ end_of new.block - addr = fills.length ∙ ap (λ b. length b.bytes) same ∙ places.length in
        let is_both : x ≡ both bytes = allocated_filled w power places fills in (
          bytes,
          record {
            length = whole;
            kept = Keeps-copied (whole ∙ ap (λ a. end_of new.block - a) places.answer);
            stands = subst (StandsFor fllen sllen (contents n table)) is_both stands;
            spare = subst (KeepsSpare m t n) is_both spare;
            place = (start, IsSameOutside-copied.length);
            own = is_own-copied m n (usable u) addr LiesIn-old LiesIn-new start copied_there out_there (IsOwned-new power l old first stays);
            here = here-copied m n (usable u) addr LiesIn-old LiesIn-new start copied_there out_there;
            there = out_at-there m n (usable u) addr LiesIn-old LiesIn-new start copied_there out_there;
          },
        )

  -- and then the old block was deallocated
  module _ {n : Space} {bytes : List ℕ} (is : IsCopied n bytes) where
    pub IsOwned-old : IsHere m (usable u) → IsOwned n (usable u)
    IsOwned-old here = own-there m n (usable u) (omega (arith, LiesIn-old)) is.own (own-here m (usable u) here)

    pub MovesAway-copied : MovesAway sllen s (realigned u align) size addr (released (both bytes) u)
    MovesAway-copied = record {
      meanwhile = both bytes;
      allocated = record { range = places.range; bytes = bytes; chosen = places.chosen; answer = places.answer; length = is.length; after = refl };
      block = block_with bytes;
      holds = (inl refl, sym places.answer);
      kept = is.kept;
      released = record { block = u; holds = (inr i, refl); after = refl };
    }

    pub KeepsSpare-copied : (l o : Space) → (m.start ≡ l.start) × (length m.bytes ≡ length l.bytes) → KeepsSpare l s m t
        → KeepsSpare n (both bytes) o (released (both bytes) u) → KeepsSpare l s o (released (both bytes) u)
    KeepsSpare-copied l o place first last a from to before after =
        let between : IsSpare t a = subst (λ x. IsSpare x a) (sym places.after) before in
        last a (omega (arith, place.0, is.place.0)) (omega (arith, place.0, place.1, is.place.0, is.place.1)) before after
        ∙ is.spare a (omega (arith, place.0)) (omega (arith, place.0, place.1)) between before
        ∙ first a from to before between
