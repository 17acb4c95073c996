use Rattle.std.proofs.Common.{None, Some, [], ◌++◌, length, rules, arith, ap, sym}
use Rattle.rlsf_tlsf.proofs.Arrivals.{well_formed}
use Rattle.rlsf_checked.proofs.Gathered.{all_earlier, first_at, first_in, first_of_last, none_found, none_yet, one_more_pool, row_at}
use Rattle.rlsf_checked.proofs.checked.CheckedTlsf.next_block.Goals as goal

pub loop-pool-init : goal.loop-pool-init
loop-pool-init g c = ([], none_yet _, λ b i. absurd i)

pub iter_blocks-requires : goal.iter_blocks-requires
iter_blocks-requires g c =
    let w = well_formed c.self.inside.heap c.self.invariant.stands in
    (omega arith, row_at w c.self.invariant.pools _ c.deref-pool-items.ensures.value c.loop-pool.pool-index _ c.loop-pool-test.true (search rules))

pub returns-in-Some : goal.returns-in-Some
returns-in-Some g c = rw (← c.self.view_is) (
    let w = well_formed c.self.inside.heap c.self.invariant.stands in
    let (bs, have, none) = rw (← c.self.view_is) at c.loop-pool.invariant in
    let blocks = c.iter_blocks.ensures.blocks in
    let items = c.deref-pool-items.ensures.value in
    first_at w c.self.invariant.pools _ items c.loop-pool.pool-index _ c.loop-pool-test.true (search rules) have c.args.from none c.iter_blocks.result blocks c.in-Some.block
    (first_in c.args.from c.iter_blocks.result blocks.in_order (Some c.in-Some.block) (sym c.in-Some.ensures)))

pub loop-pool-preserved : goal.loop-pool-preserved
loop-pool-preserved g c = rw (← c.self.view_is) (
    let w = well_formed c.self.inside.heap c.self.invariant.stands in
    let (bs, have, none) = rw (← c.self.view_is) at c.loop-pool.invariant in
    let blocks = c.iter_blocks.ensures.blocks in (
      bs ++ c.iter_blocks.result,
      one_more_pool w c.self.invariant.pools _ c.deref-pool-items.ensures.value c.loop-pool.pool-index _ c.loop-pool-test.true (search rules) have _ blocks,
      none_found w c.self.invariant.pools have c.args.from none _ c.iter_blocks.result blocks
          (first_in c.args.from c.iter_blocks.result blocks.in_order None (sym c.in_default.ensures)),
    ))

pub returns : goal.returns
returns g c = rw (← c.self.view_is) (
    let w = well_formed c.self.inside.heap c.self.invariant.stands in
    let (bs, have, none) = rw (← c.self.view_is) at c.loop-pool.invariant in
    let all = all_earlier w c.self.invariant.pools c.loop-pool.pool-index (omega (arith, c.loop-pool-test.false, ap length c.deref-pool-items.ensures.value)) have in
    let last = rw (← c.self.view_is) at c.blocks-2.ensures.blocks in
    first_of_last w c.self.invariant.pools all c.args.from none c.blocks-2.result last c.first_of-2.result (sym c.first_of-2.ensures))
