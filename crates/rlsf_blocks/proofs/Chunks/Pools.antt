-- The chunks of an inserted range are made one after another.
use Rattle.std.proofs.Common.{◌≡◌, ◌≢◌, ℕ, suc, ◌+◌, ◌-◌, ◌<◌, ◌≤◌, List, [], ◌∷◌, ◌*◌, length, Option, Some, None, arith, inl, inr, refl, sym, ◌∙◌, ap, subst}
use mathlib.Core.Path.{ap₂}
use Rattle.rlsf_base.specs.declared.memory.range.Range.{Range}
use Rattle.rlsf_base.specs.Range.{end_of, range_at}
use Rattle.rlsf_model_sizes.specs.Sizes.{max_pool_size}
use Rattle.rlsf_base.specs.OpenSpace.{IsOwned}
use Rattle.rlsf_base.specs.Space.{Space, range_of}
use Rattle.rlsf_base.proofs.Numbers.Roundings.{round32-le}
use Rattle.rlsf_table.specs.Counts.{Costs}
use Rattle.rlsf_table.specs.Table.{Table}
use Rattle.rlsf_model.specs.Insert.{aligned_part, body, bytes_taken, cut, end_of_last, Inserts, IsFresh, with_chunks}
use Rattle.rlsf_model.specs.Laws.{first_length}
use Rattle.rlsf_model.specs.State.{State}
use Rattle.rlsf_model.specs.WellFormed.{IsChunk, IsFree, IsWellFormed}
use Rattle.rlsf_blocks.specs.Steps.Pool.{IsAdded, IsNewChunk, opened}
use Rattle.rlsf_blocks.specs.Spare.{IsSpare, KeepsSpare}
use Rattle.rlsf_blocks.specs.StandsFor.{contents, StandsFor}
use Rattle.rlsf_blocks.proofs.Chunks.NewChunks.{StandsFor-added}
use Rattle.rlsf_blocks.proofs.Words.Apart.{Has}
use Rattle.rlsf_blocks.proofs.Words.Refilled.{KeepsSpare-Touched}
use Rattle.rlsf_blocks.proofs.Words.Stays.{Stays, Stays-rewrites, Stays-same, Stays-then}
use Rattle.rlsf_model.proofs.Coverage.{covers-inside}
use Rattle.rlsf_model.proofs.Cuts.{chunks_are_cut_off_the_front}
use Rattle.rlsf_model.proofs.Insertions.{AreNew, AreNew-cut, IsWellFormed-with_chunk}
use Rattle.rlsf_model.proofs.Names.{with_chunk}

-- ---- the state of the loop

-- all but the last 32 bytes of a chunk can be free
IsFree-body : {fllen sllen : ℕ} {memory : Range} (c : Range) → IsChunk fllen sllen memory c → IsFree fllen sllen (body c)
IsFree-body c chunk = let room = chunk.has_room in
    record { whole = record { start = chunk.whole.start; len = omega (arith, chunk.whole.len) }; some = omega arith; valid = chunk.valid }

first_length-le : (o : Option ℕ) (left : ℕ) → first_length o left ≤ left
first_length-le None left = omega arith
first_length-le (Some most) left = omega arith

-- what is returned once chunks were made up to `start`, with so much left
pub data Answers (r : Range) (all left : List Range) (start : ℕ) : Type 0 where
  no_chunk : all ≡ left → start ≡ (aligned_part r).start → Answers r all left start
  some_chunk : (aligned_part r).start < start → bytes_taken r.start all ≡ Some (end_of_last start left - r.start) → Answers r all left start

-- the chunks of the range r of the memory m0 are made up to `start`, and so much is left
pub record IsFilled (fllen sllen : ℕ) (m0 : Space) (s : State) (r : Range) (m : Space) (table : Table) (start left : ℕ) : Type 0 where
  pub now : State
  pub parts : with_chunks (cut (max_pool_size fllen) (range_at start left)) now ≡ with_chunks (cut (max_pool_size fllen) (aligned_part r)) s
  pub new : AreNew fllen sllen (range_of m) now (cut (max_pool_size fllen) (range_at start left))
  pub answer : Answers r (cut (max_pool_size fllen) (aligned_part r)) (cut (max_pool_size fllen) (range_at start left)) start
  pub stands : StandsFor fllen sllen (contents m table) now
  pub spare : KeepsSpare m0 s m now
  pub place : range_of m ≡ range_of m0
  pub view : m.view ≡ m0.view
  pub none : m0.out ≡ [] → m.out ≡ []
  pub stays : Stays m0 m
  pub untouched : start ≡ (aligned_part r).start → m.bytes ≡ m0.bytes
  pub touches : m.touches + 13 * length (cut (max_pool_size fllen) (range_at start left)) ≤ m0.touches + 13 * length (cut (max_pool_size fllen) (aligned_part r))
  pub grow : m0.touches ≤ m.touches
  pub copied : m.copied ≡ m0.copied
  pub from : (aligned_part r).start ≤ start
  pub to : start + left ≤ end_of r

module _ {fllen sllen : ℕ} {m0 : Space} {table0 : Table} {s : State} (v : StandsFor fllen sllen (contents m0 table0) s) (r : Range) (fresh : IsFresh (range_of m0) s r) where
  pub IsFilled-init : (start left : ℕ) → start ≡ (aligned_part r).start → left ≡ (aligned_part r).len → start ≤ end_of r
      → IsFilled fllen sllen m0 s r m0 table0 start left
  IsFilled-init start left begin whole inside =
      let same : cut (max_pool_size fllen) (range_at start left) ≡ cut (max_pool_size fllen) (aligned_part r) =
      ap₂ (λ a n. cut (max_pool_size fllen) (range_at a n)) begin whole in
      record {
        now = s;
        parts = ap (λ cs. with_chunks cs s) same;
        new = subst (AreNew fllen sllen (range_of m0) s) (sym same) (AreNew-cut v.well_formed r fresh);
        answer = no_chunk (sym same) begin;
        stands = v;
        spare = λ a from to spare_s spare_t. refl;
        place = refl;
        view = refl;
        none = λ none. none;
        stays = Stays-same m0 m0 refl refl;
        untouched = λ at. refl;
        touches = (let count = ap length same in omega arith);
        grow = omega arith;
        copied = refl;
        from = omega arith;
        to = omega arith;
      }

  module _ {m : Space} {table : Table} {start left : ℕ} (filled : IsFilled fllen sllen m0 s r m table start left) (long : 64 ≤ left) where
    -- what is left begins with the longest chunk that may be
    more : cut (max_pool_size fllen) (range_at start left) ≡ range_at start (first_length (max_pool_size fllen) left)
        ∷ cut (max_pool_size fllen) (range_at (start + first_length (max_pool_size fllen) left) (left - first_length (max_pool_size fllen) left))
    more = (chunks_are_cut_off_the_front fllen start left v.well_formed.rows).1 long

    -- it is a new chunk, and the others are new beside it
    new : AreNew fllen sllen (range_of m) filled.now (range_at start (first_length (max_pool_size fllen) left)
        ∷ cut (max_pool_size fllen) (range_at (start + first_length (max_pool_size fllen) left) (left - first_length (max_pool_size fllen) left)))
    new = subst (AreNew fllen sllen (range_of m) filled.now) more filled.new

    -- which is the memory's own, where the range was
    pub IsOwned-next : IsOwned m0 r → IsOwned m (range_at start (first_length (max_pool_size fllen) left))
    IsOwned-next owned a low high = grind (arith, first_length-le, round32-le)

    pub IsNewChunk-next : IsOwned m0 r → IsNewChunk fllen sllen m filled.now (range_at start (first_length (max_pool_size fllen) left))
    IsNewChunk-next owned =
        let c = range_at start (first_length (max_pool_size fllen) left) in
        let chunk = new.chunk c (inl refl) in
        record {
          whole = chunk.whole;
          room = chunk.has_room;
          some = omega (arith, chunk.lies_in.0, filled.stands.nonzero);
          lies_in = chunk.lies_in;
          fresh = λ a low high. omega (arith, new.apart a, covers-inside c a low high);
          block = IsFree-body c chunk;
          own = IsOwned-next owned;
        }

    pub IsFilled-next : IsOwned m0 r → (n : Space) (changed : Table) → IsAdded fllen sllen m n changed filled.now.free (range_at start (first_length (max_pool_size fllen) left))
        → Costs m n 13 0
        → IsFilled fllen sllen m0 s r n changed (start + first_length (max_pool_size fllen) left) (left - first_length (max_pool_size fllen) left)
    IsFilled-next owned n changed added costs =
        let c = range_at start (first_length (max_pool_size fllen) left) in
        let rest = cut (max_pool_size fllen) (range_at (start + first_length (max_pool_size fllen) left) (left - first_length (max_pool_size fllen) left)) in
        let chunk = new.chunk c (inl refl) in
        let t_well_formed = IsWellFormed-with_chunk filled.stands.well_formed c chunk (λ a. omega (arith, new.apart a)) in
        let place : range_of n ≡ range_of m = ap₂ (λ a l. range_at a l) added.rewrites.start added.rewrites.length in
        let fresh_now = IsNewChunk-next owned in
        let shorter : first_length (max_pool_size fllen) left ≤ left = first_length-le (max_pool_size fllen) left in
        record {
          now = with_chunk c filled.now;
          parts = ap (λ cs. with_chunks cs filled.now) (sym more) ∙ filled.parts;
          new =
              subst (λ p. AreNew fllen sllen p (with_chunk c filled.now) rest) (sym place)
              (record { chunk = λ d i. new.chunk d (inr i); apart = λ a. omega (arith, new.apart a) });
          answer = answered filled.answer;
          stands = StandsFor-added filled.stands c chunk.whole chunk.has_room (λ a h. fresh_now.fresh a h.from h.to) fresh_now.own added (c ∷ filled.now.chunks)
              (subst (λ p. IsWellFormed fllen sllen p (with_chunk c filled.now)) (sym place) t_well_formed) (λ d i. i);
          spare = λ a from to spare_s spare_t.
              let spare_now : IsSpare filled.now a = λ d i. spare_t d (inr i) in
              KeepsSpare-Touched filled.stands.well_formed (with_chunk c filled.now) (opened c) (c.start + 8) added.rewrites no_hole no_other a
              (omega (arith, from, ap (λ p. p.start) filled.place)) (omega (arith, to, ap (λ p. p.start) filled.place, ap (λ p. p.len) filled.place)) spare_now spare_t
              ∙ filled.spare a from to spare_s spare_now;
          place = place ∙ filled.place;
          view = costs.view ∙ filled.view;
          none = λ none. costs.none (filled.none none);
          stays = Stays-then filled.stays (Stays-rewrites added.rewrites);
          untouched = λ at. absurd (omega (arith, filled.from, chunk.has_room));
          touches = (let count : length (cut (max_pool_size fllen) (range_at start left)) ≡ suc (length rest) = ap length more in omega (arith, filled.touches, costs.touches));
          grow = omega (arith, costs.grow, filled.grow);
          copied = omega (arith, costs.copied, filled.copied);
          from = omega (arith, filled.from);
          to = omega (arith, filled.to, shorter);
        }
      where
        answered : Answers r (cut (max_pool_size fllen) (aligned_part r)) (cut (max_pool_size fllen) (range_at start left)) start
            → Answers r (cut (max_pool_size fllen) (aligned_part r))
            (cut (max_pool_size fllen) (range_at (start + first_length (max_pool_size fllen) left) (left - first_length (max_pool_size fllen) left)))
            (start + first_length (max_pool_size fllen) left)
        answered (no_chunk same at) =
            let room = (new.chunk (range_at start (first_length (max_pool_size fllen) left)) (inl refl)).has_room in
            some_chunk (omega arith) (ap (bytes_taken r.start) (same ∙ more))
        answered (some_chunk after is) =
            some_chunk (omega arith) (is ∙ ap (λ cs. Some (end_of_last start cs - r.start)) more)

        no_hole : (a : ℕ) → IsSpare (with_chunk (range_at start (first_length (max_pool_size fllen) left)) filled.now) a
            → Has (opened (range_at start (first_length (max_pool_size fllen) left))) a → ⊥
        no_hole a spare h =
            let c = range_at start (first_length (max_pool_size fllen) left) in
            omega (arith, spare c (inl refl) h.from (omega (arith, h.to)), h.to)

        no_other : (a : ℕ) → IsSpare (with_chunk (range_at start (first_length (max_pool_size fllen) left)) filled.now) a → start + 8 ≤ a → a < start + 8 + 8 → ⊥
        no_other a spare low high =
            let c = range_at start (first_length (max_pool_size fllen) left) in
            let room = (new.chunk c (inl refl)).has_room in
            omega (arith, spare c (inl refl) (omega arith) (omega arith))

  pub IsFilled-end : {m : Space} {table : Table} {start left : ℕ} → IsFilled fllen sllen m0 s r m table start left → left < 64 → (reply : Option ℕ)
      → (start ≡ (aligned_part r).start → reply ≡ None) → (start ≢ (aligned_part r).start → reply ≡ Some (start - r.start))
      → (t : State) × Inserts fllen s r reply t × StandsFor fllen sllen (contents m table) t × KeepsSpare m0 s m t
  IsFilled-end {m} {table} {start} {left} filled short reply none some =
      let no_more : cut (max_pool_size fllen) (range_at start left) ≡ [] = (chunks_are_cut_off_the_front fllen start left v.well_formed.rows).0 short in
      (filled.now, record { answer = answered no_more filled.answer; after = sym (ap (λ cs. with_chunks cs filled.now) no_more) ∙ filled.parts }, filled.stands, filled.spare)
    where
      answered : cut (max_pool_size fllen) (range_at start left) ≡ []
          → Answers r (cut (max_pool_size fllen) (aligned_part r)) (cut (max_pool_size fllen) (range_at start left)) start
          → reply ≡ bytes_taken r.start (cut (max_pool_size fllen) (aligned_part r))
      answered no_more (no_chunk same at) = none at ∙ sym (ap (bytes_taken r.start) (same ∙ no_more))
      answered no_more (some_chunk after is) = some (λ at. omega arith) ∙ sym (is ∙ ap (λ cs. Some (end_of_last start cs - r.start)) no_more)

  -- a range with no aligned byte is no chunk
  pub nothing_inserted : (aligned_part r).len ≡ 0 → (t : State) × Inserts fllen s r None t × StandsFor fllen sllen (contents m0 table0) t × KeepsSpare m0 s m0 t
  nothing_inserted none = grind (arith, chunks_are_cut_off_the_front)
