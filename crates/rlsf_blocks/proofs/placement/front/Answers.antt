-- An alignment below 32 is 16 or less, so it divides the address 16 bytes into a block.
use Rattle.std.proofs.Common.{rules, ◌^◌, ◌<◌, arith}
use Rattle.rlsf_base.proofs.Numbers.PowersOfTwo.{IsPowerOfTwo-le}
use Rattle.rlsf_model.proofs.Payloads.{payload_of-after, payload_of-le}
use Rattle.rlsf_blocks.proofs.placement.front.Goals as goal

pub returns-else-align-ge-GRANULARITY : goal.returns-else-align-ge-GRANULARITY
returns-else-align-ge-GRANULARITY c = record {
  payload =
      let align = c.args.layout.align in
      let power = c.args.layout.valid.aligned in
      let below : align < 2 ^ 5 = omega (arith, c.if-align-ge-GRANULARITY.false, c.align.ensures.value) in
      omega (arith, IsPowerOfTwo-le align 4 power below, payload_of-le c.args.block align c.requires.whole power, payload_of-after c.args.block align);
  length = search rules;
}
