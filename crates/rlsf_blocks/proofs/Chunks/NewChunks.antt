-- A new chunk's words, written where no chunk was: the value represents the state with the chunk.
use Rattle.std.proofs.Common.{◌≡◌, ◌≢◌, ℕ, ◌+◌, ◌≤◌, ◌⊎◌, List, ◌∷◌, arith, inl, inr, sym, ◌∙◌, ap, subst, refl}
use Rattle.rlsf_base.specs.declared.memory.range.Range.{Range}
use Rattle.rlsf_base.specs.Range.{end_of}
use Rattle.rlsf_base.specs.OpenSpace.{IsOwned}
use Rattle.rlsf_base.specs.Space.{Space, range_of, word_at}
use Rattle.rlsf_table.specs.Table.{Table}
use Rattle.rlsf_blocks.specs.Steps.Pool.{IsAdded, opened}
use Rattle.rlsf_blocks.specs.InBand.{sentinel_of}
use Rattle.rlsf_model.specs.Insert.{body}
use Rattle.rlsf_model.specs.Lists.{IsIn}
use Rattle.rlsf_model.specs.State.{State}
use Rattle.rlsf_model.specs.WellFormed.{coverage, itself, IsWhole, IsWellFormed}
use Rattle.rlsf_model.proofs.Tiling.{LiesInChunk}
use Rattle.rlsf_blocks.specs.StandsFor.{contents, StandsFor}
use Rattle.rlsf_blocks.proofs.Words.Apart.{Has, home_of_free, home_of_used}
use Rattle.rlsf_blocks.proofs.RepresentedStates.Neighbours.{Before, free_before, used_before, none_before}
use Rattle.rlsf_blocks.proofs.Words.Refilled.{old_used, IsFreeStill, old_free, new_free, IsChunkStill, old_chunk, new_chunk, StandsFor-rewritten}
use Rattle.rlsf_model.proofs.Coverage.{covers-inside, coverage-IsIn}

module _ {fllen sllen : ℕ} {m n : Space} {table changed : Table} {s : State} (old : StandsFor fllen sllen (contents m table) s) (c : Range) (whole : IsWhole c)
    (room : 64 ≤ c.len)
    (fresh : (a : ℕ) → Has c a → coverage itself s.chunks a ≡ 0) (owned : IsOwned m c) (added : IsAdded fllen sllen m n changed s.free c) where
  w : IsWellFormed fllen sllen (range_of m) s
  w = old.well_formed

  -- an address of an old chunk isn't one of the new chunk
  apart : (d : Range) (a : ℕ) → IsIn d s.chunks → Has d a → Has c a → ⊥
  apart d a i hd hc = omega (arith, fresh a hc, coverage-IsIn itself d s.chunks a i, covers-inside d a hd.from hd.to)

  -- nor is one of a block, which doesn't end where the new chunk begins either
  block_apart : {r : Range} → LiesInChunk s r → (a : ℕ) → Has r a → Has c a → ⊥
  block_apart home a hr = apart home.chunk a home.is_chunk (record { from = omega (arith, home.from, hr.from); to = omega (arith, home.to, hr.to) })

  ends_elsewhere : {r : Range} → LiesInChunk s r → end_of r ≢ c.start
  ends_elsewhere {r} home e =
      apart home.chunk (end_of r) home.is_chunk (record { from = omega (arith, home.from); to = omega (arith, home.to) }) (record { from = omega arith; to = omega arith })

  inside_opened : (a : ℕ) → Has (opened c) a → Has c a
  inside_opened a h = record { from = h.from; to = omega (arith, h.to) }

  module _ (cs : List Range) (t_well_formed : IsWellFormed fllen sllen (range_of n) (record { chunks = cs; used = s.used; free = body c ∷ s.free }))
      (chunks : (d : Range) → IsIn d cs → (d ≡ c) ⊎ IsIn d s.chunks) where
    pub StandsFor-added : StandsFor fllen sllen (contents n changed) (record { chunks = cs; used = s.used; free = body c ∷ s.free })
    StandsFor-added =
        StandsFor-rewritten old (opened c) whole.start (omega arith) (c.start + 8) (omega (arith, whole.start)) (inr refl) (record {
          rewrites = added.rewrites;
          first = λ before. absurd (alone before);
          used_still = λ u i. old_used i (λ a hu hc. block_apart (home_of_used w u i) a hu (inside_opened a hc));
          free_still = free_still;
          chunk_still = chunk_still;
          table = added.table;
          own = λ a from unlent d i low high. elim (chunks d i) [
            | inl same ↦ owned a (omega (arith, low, ap (λ (r : Range). r.start) same)) (omega (arith, high, ap (λ (r : Range). end_of r) same))
            | inr j ↦ old.own a from unlent d j low high
          ];
        }) t_well_formed
      where
        alone : Before s c.start → ⊥
        alone (free_before f i e) = ends_elsewhere (home_of_free w f i) e
        alone (used_before u i e) = ends_elsewhere (home_of_used w u i) e
        alone (none_before d i e) =
            let long = (w.chunks d i).has_room in
            apart d d.start i (record { from = omega arith; to = omega arith }) (record { from = omega arith; to = omega arith })

        free_still : (f : Range) → IsIn f (body c ∷ s.free) → IsFreeStill n s (opened c) f
        free_still f (inl same) = subst (IsFreeStill n s (opened c)) (sym same) (new_free added.size (ap (word_at n) (omega arith) ∙ added.previous))
        free_still f (inr i) = old_free i (λ a hg hc. block_apart (home_of_free w f i) a hg (inside_opened a hc))

        chunk_still : (d : Range) → IsIn d cs → IsChunkStill n s (opened c) d
        chunk_still d i = elim (chunks d i) [
          | inl same ↦ subst (IsChunkStill n s (opened c)) (sym same) (new_chunk added.sentinel added.first)
          | inr j ↦
              let long = (w.chunks d j).has_room in
              old_chunk j (λ h. apart d (sentinel_of d) j (record { from = omega arith; to = omega arith }) (inside_opened (sentinel_of d) h))
              (λ low high. absurd (apart d d.start j (record { from = omega arith; to = omega arith }) (record { from = omega arith; to = omega arith })))
        ]
