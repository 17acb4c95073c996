use Rattle.std.proofs.Common.{◌∙◌, ap, rules}
use Rattle.std.specs.Int.{w32}
use Rattle.rlsf_int.specs.Bits.{ones_below}
use Rattle.rlsf_int.proofs.Signed.{pattern_is}
use Rattle.rlsf_int.proofs.impls.i32.I32BinInteger.count_ones.Goals as goal

pub returns-clause-count : goal.returns-clause-count
returns-clause-count c = c.count_ones.ensures.count ∙ ap (λ n. ones_below n 32) (pattern_is w32 c.args.self.now _ (Prim.search rules) c.cast_unsigned.ensures)
