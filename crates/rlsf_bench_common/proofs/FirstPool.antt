-- The first pool of a memory.
use Rattle.std.proofs.Common.{length, arith, refl}
use Rattle.rlsf_base.specs.declared.memory.range.Range.{Range}
use Rattle.rlsf_base.specs.Range.{LiesIn}
use Rattle.rlsf_base.specs.Space.{Space, range_of}
use Rattle.rlsf_model.specs.Insert.{IsFresh}
use Rattle.rlsf_model.specs.State.{empty}

-- it may be inserted where nothing was inserted before
pub pool_is_fresh : (m : Space) (pool : Range) → LiesIn pool m.start (length m.bytes) → IsFresh (range_of m) empty pool
pool_is_fresh m pool lies = record { lies_in = (omega (arith, lies.0), omega (arith, lies.1)); apart = λ a low high. refl }
