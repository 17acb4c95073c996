-- The chunks of a row are taken out one after another.
use Rattle.std.proofs.Common.{◌≡◌, ℕ, ◌+◌, ◌-◌, ◌*◌, ◌<◌, ◌≤◌, length, arith, inl, inr, refl, sym, ◌∙◌, ap, subst}
use mathlib.Core.Path.{ap₂}
use Rattle.std.proofs.lemmas.Bool.{cases_lt, false_from_ne_true}
use Rattle.rlsf_base.specs.declared.memory.range.Range.{Range}
use Rattle.rlsf_base.specs.Range.{end_of}
use Rattle.rlsf_base.specs.Space.{Space, SamePlace}
use Rattle.rlsf_table.specs.Counts.{Costs}
use Rattle.rlsf_table.specs.Table.{Table}
use Rattle.rlsf_blocks.specs.Spare.{KeepsSpare}
use Rattle.rlsf_blocks.specs.StandsFor.{contents, StandsFor}
use Rattle.rlsf_blocks.specs.Steps.Removal.{IsIdleChunk}
use Rattle.rlsf_blocks.specs.Steps.Walk.{IsSpan}
use Rattle.rlsf_model.specs.ChunkRows.{IsRow}
use Rattle.rlsf_model.specs.Lists.{IsIn}
use Rattle.rlsf_model.specs.Remove.{lies_within, outside_of, removed, IsIdle}
use Rattle.rlsf_model.specs.State.{State, between}
use Rattle.rlsf_model.proofs.Removals.{lies_within-le, lies_within-true, IsIn-outside, IsIn-outside_from}
use Rattle.rlsf_blocks.proofs.Chunks.Filtered.{lies_within-split, length-outside_of_one, outside_of-none, outside_of-twice}
use Rattle.rlsf_blocks.proofs.Words.Apart.{chunk_chunk, home_of_free}
use Rattle.rlsf_blocks.proofs.Words.Stays.{Stays, Stays-same, Stays-then}

-- the chunks of the range q up to `start` are taken out of the state s
pub record IsRemovedTo (fllen sllen : ℕ) (m0 : Space) (s : State) (q : Range) (m : Space) (table : Table) (start : ℕ) : Type 0 where
  pub from : q.start ≤ start
  pub to : start ≤ end_of q
  pub stands : StandsFor fllen sllen (contents m table) (removed (between q.start start) s)
  pub spare : KeepsSpare m0 s m s
  pub edge : start < end_of q → (c : Range) → IsIn c s.chunks → c.start < start → end_of c ≤ start
  pub place : SamePlace m0 m
  pub touches : m.touches + 9 * length (outside_of (between q.start start) s.chunks) ≤ m0.touches + 9 * length s.chunks
  pub grow : m0.touches ≤ m.touches
  pub copied : m.copied ≡ m0.copied
  pub stays : Stays m0 m

module _ {fllen sllen : ℕ} {m0 : Space} {t0 : Table} {s : State} (v : StandsFor fllen sllen (contents m0 t0) s) where
  -- nothing lies in an empty range
  removed-empty : (q : Range) → q.len ≡ 0 → removed q s ≡ s
  removed-empty q empty =
      let chunks = outside_of-none q s.chunks (λ c i. false_from_ne_true (lies_within q c) (λ e. omega (arith, lies_within-true q c e, (v.well_formed.chunks c i).has_room))) in
      let free = outside_of-none q s.free (λ f i. false_from_ne_true (lies_within q f) (λ e. omega (arith, lies_within-true q f e, (v.well_formed.free f i).some))) in
      ap₂ (λ x y. record { chunks = x; used = s.used; free = y }) chunks free

  -- the iterated part of a range lies between the start and the end of the iteration
  pub IsRow-span : (r : Range) (start end : ℕ) → IsSpan r start end → IsRow s r → IsRow s (between start end)
  IsRow-span r start end span row a from to = elim (cases_lt 0 r.len) [
    | inl some ↦
        let (first, last) = span.some some in
        let (c, i, low, at, high, up) = row a (omega (arith, first)) (omega (arith, last, span.within)) in
        (c, i, omega (arith, low, first), at, high, omega (arith, up, last, span.within))
    | inr none ↦ absurd (omega (arith, span.none (omega (arith, none))))
  ]

  pub IsIdle-span : (r : Range) (start end : ℕ) → IsSpan r start end → IsIdle s r → IsIdle s (between start end)
  IsIdle-span r start end span idle a from to = grind (arith, cases_lt)

  pub removed-span : (r : Range) (start end : ℕ) → IsSpan r start end → removed (between start end) s ≡ removed r s
  removed-span r start end span = grind (arith, cases_lt, removed-empty)

  module _ (q : Range) (row : IsRow s q) (idle : IsIdle s q) where
    -- at the beginning all chunks are there
    pub IsRemovedTo-start : IsRemovedTo fllen sllen m0 s q m0 t0 q.start
    IsRemovedTo-start =
        let same = removed-empty (between q.start q.start) (omega arith) in
        record {
          from = omega arith;
          to = omega arith;
          stands = subst (StandsFor fllen sllen (contents m0 t0)) (sym same) v;
          spare = λ a from to here there. refl;
          edge = λ lt c i before. elim (cases_lt q.start (end_of c)) [
            | inr ends ↦ ends
            | inl past ↦
                let (d, j, low, at, high, up) = row q.start (omega arith) lt in
                let is = chunk_chunk v.well_formed c d q.start i j (record { from = omega arith; to = past }) (record { from = at; to = high }) in
                absurd (omega (arith, ap (λ x. x.start) is, low))
          ];
          place = (refl, refl, refl, λ none. none);
          touches = omega (arith, ap (λ (x : State). length x.chunks) same);
          grow = omega arith;
          copied = refl;
          stays = Stays-same m0 m0 refl refl;
        }

    module _ {m : Space} {table : Table} {start : ℕ} (is : IsRemovedTo fllen sllen m0 s q m table start) (more : start < end_of q) where
      -- the chunk that begins there
      next_chunk : (c : Range) × IsIn c s.chunks × (c.start ≡ start) × (end_of c ≤ end_of q) × (start < end_of c)
      next_chunk =
          let (c, i, low, at, high, up) = row start is.from more in
          let begins : c.start ≡ start =
          elim (cases_lt c.start start) [ inl before ↦ absurd (omega (arith, is.edge more c i before, high)) | inr from ↦ omega (arith, from, at) ] in
          (c, i, begins, up, high)

      pub chunk : Range
      chunk = next_chunk.0

      begins : chunk.start ≡ start
      unfolding chunk
      begins = next_chunk.2

      is_chunk : IsIn chunk s.chunks
      unfolding chunk
      is_chunk = next_chunk.1

      ends : end_of chunk ≤ end_of q
      unfolding chunk
      ends = next_chunk.3

      past : start < end_of chunk
      unfolding chunk
      past = next_chunk.4

      still_there : IsIn chunk (outside_of (between q.start start) s.chunks)
      still_there = grind (arith, IsIn-outside_from, chunk, is_chunk, past)

      pub IsIdleChunk-next : IsIdleChunk (removed (between q.start start) s) chunk start
      IsIdleChunk-next = record { is_chunk = still_there; begins = begins; idle = λ a low high. idle a (omega (arith, low, begins, is.from)) (omega (arith, high, ends)) }

      -- a chunk or a free block is on one side of where the chunk begins
      one_side : (f : Range) → IsIn f s.free → f.start < start → end_of f ≤ start
      one_side f i before =
          let home = home_of_free v.well_formed f i in
          omega (arith, home.to, is.edge more home.chunk home.is_chunk (omega (arith, home.from)))

      all_chunk : (end : ℕ) → end_of chunk ≡ end → between start end ≡ chunk
      all_chunk end at = let len : end - start ≡ chunk.len = omega (arith, at, begins) in λ k. record { start = sym begins k; len = len k }

      removed-next : (end : ℕ) → end_of chunk ≡ end → removed chunk (removed (between q.start start) s) ≡ removed (between q.start end) s
      removed-next end at =
          let order : start ≤ end = omega (arith, at, past) in
          let chunks = outside_of-twice (between q.start start) (between start end) (between q.start end) s.chunks
          (λ x i. lies_within-split q.start start end x is.from order (omega (arith, (v.well_formed.chunks x i).has_room)) (is.edge more x i)) in
          let free = outside_of-twice (between q.start start) (between start end) (between q.start end) s.free
          (λ x i. lies_within-split q.start start end x is.from order (v.well_formed.free x i).some (one_side x i)) in
          ap (λ c. removed c (removed (between q.start start) s)) (sym (all_chunk end at)) ∙ ap₂ (λ x y. record { chunks = x; used = s.used; free = y }) chunks free

      -- it was taken out
      pub IsRemovedTo-next : {n : Space} {other : Table} {end : ℕ}
          → StandsFor fllen sllen (contents n other) (removed chunk (removed (between q.start start) s))
          × KeepsSpare m (removed (between q.start start) s) n (removed (between q.start start) s) × (end_of chunk ≡ end)
          → Costs m n 9 0 → Stays m n → IsRemovedTo fllen sllen m0 s q n other end
      IsRemovedTo-next {n} {other} {end} (stands, spare, at) costs stays =
          let next = removed-next end at in
          record {
            from = omega (arith, is.from, at, past);
            to = omega (arith, at, ends);
            stands = subst (StandsFor fllen sllen (contents n other)) next stands;
            spare = λ a from to here there.
                let left : (c : Range) → IsIn c (outside_of (between q.start start) s.chunks) → IsIn c s.chunks =
                λ c i. (IsIn-outside (between q.start start) c s.chunks i).0 in
                spare a (omega (arith, is.place.0, from)) (omega (arith, is.place.0, is.place.1, to)) (λ c i. here c (left c i)) (λ c i. here c (left c i))
                ∙ is.spare a from to here here;
            edge = λ lt c i before. elim (cases_lt c.start start) [
              | inl low ↦ omega (arith, is.edge more c i low, at, past)
              | inr from ↦
                  let room = (v.well_formed.chunks c i).has_room in
                  let same =
                  chunk_chunk v.well_formed c chunk c.start i is_chunk (record { from = omega arith; to = omega arith })
                  (record { from = omega (arith, begins); to = omega (arith, at) }) in
                  omega (arith, ap (λ x. end_of x) same, at)
            ];
            place = (costs.start ∙ is.place.0, costs.length ∙ is.place.1, costs.view ∙ is.place.2, λ none. costs.none (is.place.3 none));
            touches = omega (
              arith,
              costs.touches,
              is.touches,
              ap (λ (x : State). length x.chunks) next,
              length-outside_of_one chunk chunk (outside_of (between q.start start) s.chunks) still_there (lies_within-le chunk chunk (omega arith) (omega arith)),
            );
            grow = omega (arith, is.grow, costs.grow);
            copied = omega (arith, is.copied, costs.copied);
            stays = Stays-then is.stays stays;
          }
