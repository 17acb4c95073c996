-- The state in which what a chunk has more is a used block: it is well-formed, and the chunk has grown once the block is released.
use Rattle.std.proofs.Common.{◌≡◌, ◌≢◌, ℕ, ◌+◌, ◌-◌, ◌^◌, ◌<◌, ◌≤◌, not, List, length, arith, refl, sym, subst, inl, inr}
use Rattle.std.proofs.lemmas.Bool.{eq-eqb}
use Rattle.std.proofs.Math.Pow.{pow_mono}
use Rattle.rlsf_base.specs.declared.memory.range.Range.{Range}
use Rattle.rlsf_base.specs.Range.{end_of, range_at}
use Rattle.rlsf_base.proofs.SizeClasses.Reach.{IsValidClass-class_of}
use Rattle.rlsf_base.proofs.SizeMaps.PoolSizes.{max_pool_size-none}
use Rattle.rlsf_model.specs.Insert.{grown}
use Rattle.rlsf_model.specs.Join.{ends_at}
use Rattle.rlsf_model.specs.Lists.{IsIn}
use Rattle.rlsf_model.specs.Release.{released}
use Rattle.rlsf_model.specs.State.{State, Used}
use Rattle.rlsf_model.specs.WellFormed.{covers, coverage, itself, last_bytes, IsChunk, IsUsed, IsWellFormed}
use Rattle.rlsf_model.proofs.Coverage.{inside, before, behind, where_is, covers-inside, covers-split, coverage-IsIn, coverage-without, find-some, IsIn-without}
use Rattle.rlsf_model.proofs.Payloads.{others-none, IsUsed-after_start}
use Rattle.rlsf_model.proofs.Tiling.{block_of, used-le, tiling_of, IsWellFormed-from}
use Rattle.rlsf_model.proofs.Releases.{IsSound-free}
use Rattle.rlsf_blocks.specs.Steps.Extension.{IsExtensible, lengthened, more_block}
use Rattle.rlsf_blocks.proofs.Words.Apart.{Has}

module _ {fllen sllen : ℕ} {memory : Range} {s : State} (w : IsWellFormed fllen sllen memory s) (c : Range) (len : ℕ) (is : IsExtensible fllen memory s c len) where
  pub is_chunk : IsIn c s.chunks
  is_chunk = (find-some (ends_at (end_of c)) c s.chunks is.found).0

  -- the longer chunk
  new_chunk : IsChunk fllen sllen memory (range_at c.start (c.len + len))
  new_chunk =
      let chunk = w.chunks c is_chunk in
      let large = max_pool_size-none fllen is.unlimited in
      let wide : 2 ^ 64 ≤ 2 ^ (5 + fllen) = pow_mono {i = 64} large in
      let room = chunk.has_room in
      let addressable = w.addressable in
      let (from, to) = is.fresh.lies_in in
      record {
        whole = record { start = chunk.whole.start; len = omega (arith, chunk.whole.len, is.whole) };
        lies_in = (omega (arith, chunk.lies_in), omega arith);
        has_room = omega arith;
        valid = (let below : c.len + len - 32 < 2 ^ (5 + fllen) = omega arith in (IsValidClass-class_of sllen (c.len + len - 32) (omega arith) fllen).1 below);
      }

  module _ (bytes : List ℕ) (long : length bytes ≡ len - 16) where
    IsUsed-more : IsUsed (more_block c len bytes)
    IsUsed-more =
        let chunk = w.chunks c is_chunk in
        (grind arith)

    pub IsWellFormed-lengthened : IsWellFormed fllen sllen memory (lengthened c len bytes s)
    IsWellFormed-lengthened =
        let chunk = w.chunks c is_chunk in
        let room = chunk.has_room in
        let some = is.some in
        let c' = range_at c.start (c.len + len) in
        let more = range_at (end_of c - 32) len in
        let sound = IsSound-free w in
        let chunks_out = λ (a : ℕ). coverage-without itself (ends_at (end_of c)) c s.chunks a is.found in
        let last_out = λ (a : ℕ). coverage-without last_bytes (ends_at (end_of c)) c s.chunks a is.found in
        let added = range_at (end_of c) len in
        let longer = λ (a : ℕ). covers-split c.start (end_of c) (end_of c') a (omega arith) (omega arith) c' c added refl refl refl refl refl (omega arith) in
        let span = range_at (end_of c - 32) (len + 32) in
        let span_old =
        λ (a : ℕ). covers-split (end_of c - 32) (end_of c) (end_of c + len) a (omega arith) (omega arith) span (last_bytes c) added refl (omega arith) refl (omega arith)
        refl refl in
        let span_new =
        λ (a : ℕ). covers-split (end_of c - 32) (end_of c' - 32) (end_of c + len) a (omega arith) (omega arith) span more (last_bytes c') refl (omega arith) refl
        (omega arith) refl (omega arith) in
        let clear : (a : ℕ) → covers added a + coverage itself s.chunks a ≤ 1 = λ a. (grind (arith, where_is, inside, before, behind)) in
        IsWellFormed-from (record {
          rows = w.rows;
          row_length = w.row_length;
          addressable = w.addressable;
          chunks = λ d. elim [ inl same ↦ subst (IsChunk fllen sllen memory) (sym same) new_chunk | inr i ↦ w.chunks d (IsIn-without (ends_at (end_of c)) d s.chunks i) ];
          used = λ u. elim [ inl same ↦ subst IsUsed (sym same) IsUsed-more | inr i ↦ w.used u i ];
          whole = sound.whole;
          disjoint = λ a. omega (arith, longer a, chunks_out a, clear a);
          tiled = λ a. omega (arith, longer a, chunks_out a, last_out a, span_old a, span_new a, w.tiled a);
          apart = w.apart;
        })

    -- no used block that was there has the new block's payload
    payload_apart : (u : Used) → IsIn u s.used → u.payload ≢ end_of c - 16
    payload_apart u i same =
        let t = IsWellFormed-lengthened in
        let v = more_block c len bytes in
        let room = (w.chunks c is_chunk).has_room in
        let after = IsUsed-after_start u (w.used u i) in
        let a = end_of c - 17 in
        let iu = w.used u i in
        let here : Has u.block a = record { from = omega (arith, iu.within); to = omega (arith, iu.within) } in
        let one = covers-inside u.block a here.from here.to in
        let two = covers-inside v.block a (omega arith) (omega (arith, is.some, is.whole)) in
        omega (arith, used-le (lengthened c len bytes s) (tiling_of t) a, coverage-IsIn block_of u s.used a i)

    -- once the block is released, the chunk has grown
    pub released-lengthened : released (lengthened c len bytes s) (more_block c len bytes) ≡ grown c len s
    released-lengthened = grind (arith, not, eq-eqb, others-none, payload_apart)
