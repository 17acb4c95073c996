use Rattle.std.proofs.Common.{arith}
use Rattle.rlsf_base.proofs.SizeMaps.Doubled.{IsScaled-row_length, parts_few, parts_many}
use Rattle.rlsf_base.proofs.classes.scaled.Goals as goal

pub returns-then-this-ge32 : goal.returns-then-this-ge32
returns-then-this-ge32 g c =
    λ k least. parts_many g.row.SLLEN c.args.size k (IsScaled-row_length g.row.SLLEN c.requires.parameters) least c.if-this-ge32.true

pub returns-else-this-ge32 : goal.returns-else-this-ge32
returns-else-this-ge32 g c =
    λ k least. parts_few g.row.SLLEN c.args.size k (IsScaled-row_length g.row.SLLEN c.requires.parameters) least (omega (arith, c.if-this-ge32.false))
