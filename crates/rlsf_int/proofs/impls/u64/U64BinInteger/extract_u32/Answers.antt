use Rattle.std.proofs.Common.{arith}
use Rattle.std.specs.Int.{w64}
use Rattle.rlsf_int.proofs.Unsigned.{nothing_past, moved_low}
use Rattle.rlsf_int.proofs.impls.u64.U64BinInteger.extract_u32.Goals as goal

pub returns-then-range-ge-BITS : goal.returns-then-range-ge-BITS
returns-then-range-ge-BITS c i = nothing_past w64 c.args.self.now c.args.range.start c.args.range.end i (omega arith) (omega arith)

pub returns-else-range-ge-BITS : goal.returns-else-range-ge-BITS
returns-else-range-ge-BITS c i = moved_low c.args.self.now c.args.range.start c.args.range.end i _ (omega arith) (c.lowest.ensures i)
