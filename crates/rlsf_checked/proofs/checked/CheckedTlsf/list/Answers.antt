use Rattle.std.proofs.Common.{[], ◌++◌, length, rules, arith, ap}
use Rattle.rlsf_blocks.proofs.Walking.Listing.{no_listing}
use Rattle.rlsf_tlsf.proofs.Arrivals.{well_formed}
use Rattle.rlsf_checked.proofs.Gathered.{all_earlier, all_of_them, none_yet, one_more_pool, row_at}
use Rattle.rlsf_checked.proofs.checked.CheckedTlsf.list.Goals as goal

pub loop-pool-init : goal.loop-pool-init
loop-pool-init g c = (([], none_yet _, no_listing c.args.from c.args.into.now), omega arith)

pub iter_blocks-requires : goal.iter_blocks-requires
iter_blocks-requires g c =
    let w = well_formed c.self.inside.heap c.self.invariant.stands in
    (omega arith, row_at w c.self.invariant.pools _ c.deref-pool-items.ensures.value c.loop-pool.pool-index _ c.loop-pool-test.true (search rules))

pub loop-pool-preserved : goal.loop-pool-preserved
loop-pool-preserved g c = rw (← c.self.view_is) (
    let w = well_formed c.self.inside.heap c.self.invariant.stands in
    let ((bs, have, listed), fits) = rw (← c.self.view_is) at c.loop-pool.invariant in (
      (
        bs ++ c.iter_blocks.result,
        one_more_pool w c.self.invariant.pools _ c.deref-pool-items.ensures.value c.loop-pool.pool-index _ c.loop-pool-test.true (search rules) have _ c.iter_blocks.ensures.blocks,
        c.list_more-count.ensures.listing bs c.args.into.now listed,
      ),
      c.list_more-count.ensures.fits,
    ))

pub returns : goal.returns
returns g c = rw (← c.self.view_is) (
    let w = well_formed c.self.inside.heap c.self.invariant.stands in
    let ((bs, have, listed), fits) = rw (← c.self.view_is) at c.loop-pool.invariant in
    let all = all_earlier w c.self.invariant.pools c.loop-pool.pool-index (omega (arith, c.loop-pool-test.false, ap length c.deref-pool-items.ensures.value)) have in
    let last = rw (← c.self.view_is) at c.blocks-2.ensures.blocks in
    (bs ++ c.blocks-2.result, all_of_them w c.self.invariant.pools all last, c.list_more.ensures.listing bs c.args.into.now listed))
