use Rattle.std.proofs.Common.{rules, subst, ◌≡◌, ◌+◌, ◌&&◌, nat_lt}
use Rattle.std.specs.Int.{w16}
use Rattle.rlsf_int.specs.Bits.{bit}
use Rattle.rlsf_int.proofs.Signed.{pattern_is}
use Rattle.rlsf_int.proofs.impls.i16.I16BinInteger.extract_u32.Goals as goal

pub returns : goal.returns
returns c i =
    let start = c.args.range.start in
    subst (λ n. bit c.extract_u32.result i ≡ (bit n (start + i) && (nat_lt (start + i) c.args.range.end && nat_lt i 32)))
    (pattern_is w16 c.args.self.now _ (Prim.search rules) c.cast_unsigned.ensures) (c.extract_u32.ensures i)
