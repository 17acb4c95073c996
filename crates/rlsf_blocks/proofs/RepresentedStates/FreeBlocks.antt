-- The free blocks of a state that a memory represents.
use Rattle.rlsf_blocks.proofs.Words.NeverOut.{here_free}
use Rattle.std.proofs.Common.{ℕ, arith}
use Rattle.rlsf_base.specs.declared.memory.range.Range.{Range}
use Rattle.rlsf_base.specs.Space.{Space}
use Rattle.rlsf_model.specs.Lists.{IsIn}
use Rattle.rlsf_model.specs.State.{State}
use Rattle.rlsf_model.proofs.Tiling.{free-le, tiling_of}
use Rattle.rlsf_table.specs.Rewrites.{CanBeBlock}
use Rattle.rlsf_table.specs.FreeTable.{IsFreeTable}
use Rattle.rlsf_table.specs.Table.{Table}
use Rattle.rlsf_blocks.specs.StandsFor.{contents, StandsFor}
use Rattle.rlsf_blocks.proofs.Words.Apart.{free_in_memory}

module _ {fllen sllen : ℕ} {m : Space} {t : Table} {s : State} (v : StandsFor fllen sllen (contents m t) s) where
  pub CanBeBlock-free : (f : Range) → IsIn f s.free → CanBeBlock m f
  CanBeBlock-free f i =
      let is = v.well_formed.free f i in
      let place = free_in_memory v.well_formed f i in
      record {
        own = here_free v f i;
        some = omega (arith, v.nonzero, place.0);
        whole = is.whole.start;
        room = omega (arith, is.some, is.whole.len);
        lies_in = (place.0, omega (arith, place.1));
      }

  pub IsFreeTable-free : IsFreeTable fllen sllen m t s.free
  IsFreeTable-free = grind (arith, CanBeBlock-free, free-le, tiling_of)
