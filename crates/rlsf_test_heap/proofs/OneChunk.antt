-- The state of a heap with one chunk of 256 bytes, which a range may be appended to and which may be removed.
use Rattle.std.proofs.Common.{◌≡◌, ℕ, ◌+◌, ◌≤◌, [], ◌∷◌, Option, length, arith, inl, refl, sym, ◌∙◌, ap, subst}
use Rattle.rlsf_base.specs.declared.memory.range.Range.{Range}
use Rattle.rlsf_base.specs.Range.{range_at}
use Rattle.rlsf_model_sizes.specs.Sizes.{max_pool_size}
use Rattle.rlsf_base.specs.Space.{Space, range_of}
use Rattle.rlsf_model.specs.ChunkRows.{IsRow}
use Rattle.rlsf_model.specs.Insert.{Inserts, IsNext, aligned_part, cut, with_chunks}
use Rattle.rlsf_model.specs.Lists.{IsIn}
use Rattle.rlsf_model.specs.Remove.{IsIdle}
use Rattle.rlsf_model.specs.State.{State, empty}
use Rattle.rlsf_model.specs.WellFormed.{coverage, itself}
use Rattle.rlsf_model.proofs.Coverage.{covers-behind}
use Rattle.rlsf_heap.specs.Heap.{HeapView, Steps}

abbrev chunk : Range
chunk = range_at 4096 256

-- the range becomes the chunk
pub one_chunk : (before after : HeapView) → before.state ≡ empty → Steps 59 8 after (λ t. (taken : Option ℕ) × Inserts 59 before.state chunk taken t)
    → (after.state.chunks ≡ chunk ∷ []) × (after.state.used ≡ [])
unfolding Steps
one_chunk before after new ((taken, step), stands) =
    let e : after.state ≡ with_chunks (cut (max_pool_size 59) (aligned_part chunk)) empty = step.after ∙ ap (with_chunks (cut (max_pool_size 59) (aligned_part chunk))) new in
    (ap (λ (s : State). s.chunks) e, ap (λ (s : State). s.used) e)

module _ (s : State) (one : s.chunks ≡ chunk ∷ []) where
  pub is_chunk : IsIn chunk s.chunks
  is_chunk = subst (λ cs. IsIn chunk cs) (sym one) (inl refl)

  -- a range may be appended behind it
  pub next_of_chunk : (m : Space) (len : ℕ) → m.start ≡ 4096 → length m.bytes ≡ 1024 → len ≤ 512 → IsNext (range_of m) s (range_at 4352 len)
  next_of_chunk m len start long short = record {
    fresh = record {
      lies_in = (omega (arith, start), omega (arith, start, long, short));
      apart = λ a low high. ap (λ cs. coverage itself cs a) one
          ∙ ap (λ n. n + 0) (covers-behind chunk a low);
    };
    chunk = chunk;
    is_chunk = is_chunk;
    ends = refl;
  }

  -- each of its addresses is in a chunk
  pub row_of_chunk : IsRow s chunk
  row_of_chunk a from to = (chunk, is_chunk, omega arith, from, to, omega arith)

-- it is idle where nothing is used
pub idle_chunk : (s : State) → s.used ≡ [] → IsIdle s chunk
idle_chunk s none a from to = ap (λ us. coverage (λ u. u.block) us a) none
