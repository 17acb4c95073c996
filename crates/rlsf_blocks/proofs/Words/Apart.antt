-- Blocks, chunks and their last bytes have no address in common, so a word of one is no word of another.
use Rattle.std.proofs.Common.{◌≡◌, ℕ, ◌+◌, ◌%◌, ◌<◌, ◌≤◌, arith}
use Rattle.rlsf_base.specs.declared.memory.range.Range.{Range}
use Rattle.rlsf_base.specs.Range.{end_of}
use Rattle.rlsf_model.specs.Lists.{IsIn}
use Rattle.rlsf_model.specs.State.{State, Used, usable}
use Rattle.rlsf_model.specs.WellFormed.{itself, IsWellFormed}
use Rattle.rlsf_model.proofs.Coverage.{covers-inside, coverage-IsIn, coverage-unique}
use Rattle.rlsf_model.proofs.Payloads.{IsUsed-even, IsUsed-some}
use Rattle.rlsf_model.proofs.Tiling.{block_of, blocks-le, free-le, used-le, tiling_of, LiesInChunk, lies_in_chunk, apart_from_last, IsPart-free, IsPart-used}

-- an address of a range
pub record Has (r : Range) (a : ℕ) : Type 0 where
  pub from : r.start ≤ a
  pub to : a < end_of r

module _ {fllen sllen : ℕ} {memory : Range} {s : State} (w : IsWellFormed fllen sllen memory s) where
  pub used_free : (u : Used) (f : Range) (a : ℕ) → IsIn u s.used → IsIn f s.free → Has u.block a → Has f a → ⊥
  used_free u f a iu if hu hf =
      omega (
        arith,
        blocks-le s (tiling_of w) a,
        coverage-IsIn block_of u s.used a iu,
        coverage-IsIn itself f s.free a if,
        covers-inside u.block a hu.from hu.to,
        covers-inside f a hf.from hf.to,
      )

  pub free_free : (f g : Range) (a : ℕ) → IsIn f s.free → IsIn g s.free → Has f a → Has g a → f ≡ g
  free_free f g a if ig hf hg = coverage-unique itself f g s.free a (free-le s (tiling_of w) a) if ig (covers-inside f a hf.from hf.to) (covers-inside g a hg.from hg.to)

  pub used_used : (u v : Used) (a : ℕ) → IsIn u s.used → IsIn v s.used → Has u.block a → Has v.block a → u ≡ v
  used_used u v a iu iv hu hv =
      coverage-unique block_of u v s.used a (used-le s (tiling_of w) a) iu iv (covers-inside u.block a hu.from hu.to) (covers-inside v.block a hv.from hv.to)

  pub chunk_chunk : (c d : Range) (a : ℕ) → IsIn c s.chunks → IsIn d s.chunks → Has c a → Has d a → c ≡ d
  chunk_chunk c d a ic id hc hd = coverage-unique itself c d s.chunks a (w.disjoint a) ic id (covers-inside c a hc.from hc.to) (covers-inside d a hd.from hd.to)

  pub free_last : (f c : Range) (a : ℕ) → IsIn f s.free → IsIn c s.chunks → Has f a → end_of c ≤ a + 32 → a < end_of c → ⊥
  free_last f c a if ic hf low high = apart_from_last s (tiling_of w) f c a (IsPart-free s (tiling_of w) f if) ic hf.from hf.to low high

  pub used_last : (u : Used) (c : Range) (a : ℕ) → IsIn u s.used → IsIn c s.chunks → Has u.block a → end_of c ≤ a + 32 → a < end_of c → ⊥
  used_last u c a iu ic hu low high = apart_from_last s (tiling_of w) u.block c a (IsPart-used s (tiling_of w) u iu) ic hu.from hu.to low high

  -- the chunk that a free range or a used block lies in
  pub home_of_free : (f : Range) → IsIn f s.free → LiesInChunk s f
  home_of_free f i = lies_in_chunk s (tiling_of w) f (w.free f i).some (IsPart-free s (tiling_of w) f i)

  pub home_of_used : (u : Used) → IsIn u s.used → LiesInChunk s u.block
  home_of_used u i = lies_in_chunk s (tiling_of w) u.block (IsUsed-some u (w.used u i)) (IsPart-used s (tiling_of w) u i)

  -- they begin in the memory, and end 32 bytes or more before its end
  pub free_in_memory : (f : Range) → IsIn f s.free → (memory.start ≤ f.start) × (end_of f + 32 ≤ end_of memory)
  free_in_memory f i = let home = home_of_free f i in let placed = (w.chunks home.chunk home.is_chunk).lies_in in
      (omega (arith, home.from, placed.0), omega (arith, home.to, placed.1))

  pub used_in_memory : (u : Used) → IsIn u s.used → (memory.start ≤ u.block.start) × (end_of u.block + 32 ≤ end_of memory)
  used_in_memory u i = let home = home_of_used u i in let placed = (w.chunks home.chunk home.is_chunk).lies_in in
      (omega (arith, home.from, placed.0), omega (arith, home.to, placed.1))

  -- the usable bytes of a used block are units of 16 bytes
  pub usable_units : (u : Used) → IsIn u s.used → (usable u).len % 16 ≡ 0
  usable_units u i = let is = w.used u i in omega (arith, is.whole.start, is.whole.len, IsUsed-even u is, is.within)
