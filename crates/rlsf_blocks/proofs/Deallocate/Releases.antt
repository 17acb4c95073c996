-- A used block was joined with its free neighbours: the value represents the state without it.
use Rattle.rlsf_base.proofs.Lending.Present.{own-there}
use Rattle.rlsf_blocks.proofs.Words.NeverOut.{here_free-in, here_behind_free-in, here_released}
use Rattle.std.proofs.Common.{◌≡◌, ℕ, ◌+◌, ◌-◌, ◌≤◌, ◌⊎◌, length, arith, inl, inr, refl, sym, ◌∙◌, ap, subst}
use mathlib.Core.Path.{ap₂}
use Rattle.rlsf_base.specs.declared.memory.range.Range.{Range}
use Rattle.rlsf_base.specs.Range.{end_of, range_at}
use Rattle.rlsf_base.specs.Space.{Space, range_of, word_at}
use Rattle.rlsf_base.specs.OpenSpace.{IsOwned}
use Rattle.rlsf_table.specs.Rewrites.{IsLink, Rewrites}
use Rattle.rlsf_table.specs.Table.{Table}
use Rattle.rlsf_table.proofs.Words.Writes.{before_links, Rewrites-trans, Rewrites-weaken}
use Rattle.rlsf_blocks.specs.Spare.{KeepsSpare}
use Rattle.rlsf_blocks.specs.StandsFor.{contents, StandsFor}
use Rattle.rlsf_blocks.specs.Steps.Join.{IsNextOut, IsPreviousOut, IsNewFreeBlock, union, untouched}
use Rattle.rlsf_blocks.specs.Steps.Rest.{IsInnerRoom}
use Rattle.rlsf_model.specs.Join.{ends_at, starts_at, join}
use Rattle.rlsf_model.specs.Lists.{IsIn, without}
use Rattle.rlsf_model.specs.Release.{released}
use Rattle.rlsf_model.specs.State.{State, Used, others, usable}
use Rattle.rlsf_model.specs.WellFormed.{itself, IsFree, IsWellFormed}
use Rattle.rlsf_model.proofs.Changes.{IsIn-others}
use Rattle.rlsf_model.proofs.Coverage.{covers-inside, coverage-IsIn, IsIn-without}
use Rattle.rlsf_model.proofs.Joins.{left_of}
use Rattle.rlsf_model.proofs.Releases.{IsSound-free, IsWellFormed-released}
use Rattle.rlsf_model.proofs.Tiling.{LiesInChunk, free-le, tiling_of}
use Rattle.rlsf_blocks.proofs.Words.Apart.{Has, used_free, free_in_memory, home_of_free}
use Rattle.rlsf_blocks.proofs.Words.Refilled.{Touched-joined, old_used, IsFreeStill, old_free, new_free, IsRefilled, StandsFor-refilled, KeepsSpare-refilled}

module _ {fllen sllen : ℕ} {m : Space} {t : Table} {s : State} (v : StandsFor fllen sllen (contents m t) s) (u : Used) (i : IsIn u s.used) where
  -- the state without the block
  t_well_formed : IsWellFormed fllen sllen (range_of m) (released s u)
  t_well_formed = IsWellFormed-released v.well_formed u i

  pub is_free : IsFree fllen sllen (union u.block s.free)
  is_free = t_well_formed.free (union u.block s.free) (inl refl)

  pub home : LiesInChunk s (union u.block s.free)
  home = let here = home_of_free t_well_formed (union u.block s.free) (inl refl) in record { chunk = here.chunk; is_chunk = here.is_chunk; from = here.from; to = here.to }

  -- the other free blocks were free, and have no address of it
  pub was_free : (f : Range) → IsIn f (untouched u.block s.free) → IsIn f s.free
  was_free f j = IsIn-without (ends_at u.block.start) f s.free (IsIn-without (starts_at (end_of u.block)) f (without (ends_at u.block.start) s.free) j)

  pub untouched_apart : (f : Range) → IsIn f (untouched u.block s.free) → (a : ℕ) → Has f a → Has (union u.block s.free) a → ⊥
  untouched_apart f j a hf hu = omega (
    arith,
    free-le (released s u) (tiling_of t_well_formed) a,
    covers-inside (union u.block s.free) a hu.from hu.to,
    covers-inside f a hf.from hf.to,
    coverage-IsIn itself f (untouched u.block s.free) a j,
  )

  -- its size word
  pub word_computed : {block word : ℕ} → u.block.start ≡ block → word ≡ word_at m block → word ≡ u.block.len + 1
  word_computed at is = is ∙ ap (word_at m) (sym at) ∙ v.sizes.used u i

  -- where the block ends, by its size word
  pub end_computed : {block word : ℕ} → u.block.start ≡ block → word ≡ word_at m block → end_of u.block ≡ block + (word - 1)
  end_computed {block} {word} at is = omega (arith, at, is ∙ ap (word_at m) (sym at) ∙ v.sizes.used u i)

  -- what was taken out, at the block's own start and end
  pub before_at : {m1 : Space} {x : Table} {block start : ℕ} → u.block.start ≡ block → IsPreviousOut fllen sllen m m1 x s.free block start
      → IsPreviousOut fllen sllen m m1 x s.free u.block.start start
  before_at {m1} {x} {block} {start} at out = subst (λ b. IsPreviousOut fllen sllen m m1 x s.free b start) (sym at) out

  pub behind_at : {m1 m2 : Space} {x : Table} {block end next : ℕ} → u.block.start ≡ block → end_of u.block ≡ end
      → IsNextOut fllen sllen m1 m2 x (without (ends_at block) s.free) end next
      → IsNextOut fllen sllen m1 m2 x (without (ends_at u.block.start) s.free) (end_of u.block) next
  behind_at {m1} {m2} {x} {block} {end} {next} at is out = grind arith

  -- the free blocks before it and behind it were taken out
  module _ {m1 m2 : Space} {t1 t2 : Table} {start next : ℕ} (before : IsPreviousOut fllen sllen m m1 t1 s.free u.block.start start)
      (behind : IsNextOut fllen sllen m1 m2 t2 (without (ends_at u.block.start) s.free) (end_of u.block) next) where
    pub union_start : (union u.block s.free).start ≡ start
    union_start = sym before.begins

    pub start_before : start ≤ end_of u.block
    start_before = omega (arith, before.begins, (left_of u.block.start s.free (v.well_formed.used u i).whole.start (IsSound-free v.well_formed)).order)

    pub union_len : (union u.block s.free).len ≡ end_of u.block - start + next
    union_len = omega (arith, before.begins, behind.end, start_before)

    -- where their union ends is in the memory
    pub union_end : end_of u.block + next + 32 ≤ m.start + length m.bytes
    union_end = omega (arith, (free_in_memory t_well_formed (union u.block s.free) (inl refl)).1, union_start, union_len, start_before)

    pub gone : Rewrites m m2 (IsLink s.free)
    gone = Rewrites-weaken among (Rewrites-trans before.rewrites behind.rewrites)
      where
        among : (a : ℕ) → IsLink s.free a ⊎ IsLink (without (ends_at u.block.start) s.free) a → IsLink s.free a
        among a (inl l) = l
        among a (inr (f, j, at)) = (f, IsIn-without (ends_at u.block.start) f s.free j, at)

    pub IsInnerRoom-union : IsOwned m (usable u) → IsInnerRoom fllen sllen m2 t2 (untouched u.block s.free) (union u.block s.free)
    IsInnerRoom-union own =
        let place = free_in_memory t_well_formed (union u.block s.free) (inl refl) in
        let moved = gone in
        record {
          room = record {
            list = behind.list;
            block = is_free;
            placed = record {
              some = omega (arith, v.nonzero, place.0);
              whole = is_free.whole.start;
              room = omega (arith, is_free.some, is_free.whole.len);
              lies_in = (omega (arith, place.0, moved.start), omega (arith, place.1, moved.start, moved.length));
              own = own-there m m2 (union u.block s.free) (omega arith) moved.own (here_free-in m t_well_formed (here_released v u i own) (union u.block s.free) (inl refl));
            };
            apart = λ a. free-le (released s u) (tiling_of t_well_formed) a;
          };
          not_last = omega (arith, place.1, moved.start, moved.length);
          behind =
              own-there m m2 (range_at (end_of (union u.block s.free)) 16) (omega arith) moved.own
              (here_behind_free-in m t_well_formed (here_released v u i own) (union u.block s.free) (inl refl));
        }

    -- and their union with it was put in front
    module _ {n : Space} {x : Table} (put : IsNewFreeBlock fllen sllen m2 n x (untouched u.block s.free) (union u.block s.free)) where
      pub IsRefilled-released : IsOwned m (usable u) → IsRefilled fllen sllen m n x s (others u.payload s.used) (join u.block s.free) (union u.block s.free)
      IsRefilled-released own =
          let place = free_in_memory t_well_formed (union u.block s.free) (inl refl) in
          record {
            rewrites = Rewrites-weaken (Touched-joined was_free) (Rewrites-trans gone put.rewrites);
            first = put.first ∙ before_links s.free (λ f j. (v.well_formed.free f j).whole.start) gone ((union u.block s.free).start + 8)
                (inr (omega (arith, is_free.whole.start))) (omega (arith, place.0));
            used_still = λ y j. old_used (IsIn-others u.payload y s.used j).0 (λ a hy hu. used_free t_well_formed y (union u.block s.free) a j (inl refl) hy hu);
            free_still = still;
            table = put.table;
            own = here_released v u i own;
          }
        where
          still : (f : Range) → IsIn f (join u.block s.free) → IsFreeStill n s (union u.block s.free) f
          still f (inl same) = subst (IsFreeStill n s (union u.block s.free)) (sym same) (new_free put.size put.behind)
          still f (inr j) = old_free (was_free f j) (untouched_apart f j)

      pub released_stands : IsOwned m (usable u) → StandsFor fllen sllen (contents n x) (released s u) × KeepsSpare m s n (released s u)
      released_stands own =
          let is = is_free in
          let refilled = IsRefilled-released own in
          let same : range_of n ≡ range_of m = ap₂ (λ a l. record { start = a; len = l }) refilled.rewrites.start refilled.rewrites.length in
          let well_formed = subst (λ p. IsWellFormed fllen sllen p (released s u)) (sym same) t_well_formed in (
            StandsFor-refilled v (union u.block s.free) is.whole is.some home refilled well_formed,
            KeepsSpare-refilled v (union u.block s.free) is.whole is.some home refilled,
          )
