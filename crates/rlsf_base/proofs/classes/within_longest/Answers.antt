use Rattle.std.proofs.Common.{◌^◌, ◌≤◌, ◌+◌, arith, sym}
use Rattle.std.proofs.Math.Pow.{pow_mono}
use Rattle.rlsf_base.proofs.SizeMaps.ChunkLengths.{chunk_length-some}
use Rattle.rlsf_base.proofs.SizeMaps.PoolSizes.{max_pool_size-none}
use Rattle.rlsf_base.proofs.classes.within_longest.Goals as goal

pub returns-in-None : goal.returns-in-None
returns-in-None g c =
    let many : 64 ≤ 5 + g.row.FLLEN = max_pool_size-none g.row.FLLEN (sym c.in-None.ensures) in
    let order : 2 ^ 64 ≤ 2 ^ (5 + g.row.FLLEN) = pow_mono {i = 64} many in
    chunk_length-some g.row.FLLEN c.args.len (omega arith) (omega arith)
