use Rattle.std.proofs.Common.{[], ◌++◌, length, rules, arith, ap, refl}
use Rattle.rlsf_tlsf.proofs.Arrivals.{well_formed}
use Rattle.rlsf_checked.proofs.Gathered.{all_earlier, all_of_them, fits, none_yet, one_more_pool, row_at}
use Rattle.rlsf_checked.proofs.Joined.{total-append}
use Rattle.rlsf_checked.proofs.checked.CheckedTlsf.totals.Goals as goal

pub loop-pool-init : goal.loop-pool-init
loop-pool-init g c = ([], none_yet _, record { payloads = refl; used = refl; free = refl; longest = refl }, omega arith)

pub iter_blocks-requires : goal.iter_blocks-requires
iter_blocks-requires g c =
    let w = well_formed c.self.inside.heap c.self.invariant.stands in
    (omega arith, row_at w c.self.invariant.pools _ c.deref-pool-items.ensures.value c.loop-pool.pool-index _ c.loop-pool-test.true (search rules))

pub joined-sum-requires-clause-fits : goal.joined-sum-requires-clause-fits
joined-sum-requires-clause-fits g c =
    let w = well_formed c.self.inside.heap c.self.invariant.stands in
    let (bs, have, sums, few) = rw (← c.self.view_is) at c.loop-pool.invariant in
    let blocks = c.iter_blocks.ensures.blocks in
    let more = one_more_pool w c.self.invariant.pools _ c.deref-pool-items.ensures.value c.loop-pool.pool-index _ c.loop-pool-test.true (search rules) have _ blocks in
    omega (
      arith,
      fits w (bs ++ c.iter_blocks.result) more.in_order (λ b i. ((more.exactly b).0 i).0),
      total-append bs c.iter_blocks.result,
      sums.used,
      sums.free,
      c.totals_of.ensures.totals.used,
      c.totals_of.ensures.totals.free,
    )

pub joined-requires-clause-fits : goal.joined-requires-clause-fits
joined-requires-clause-fits g c =
    let w = well_formed c.self.inside.heap c.self.invariant.stands in
    let (bs, have, sums, few) = rw (← c.self.view_is) at c.loop-pool.invariant in
    let all = all_earlier w c.self.invariant.pools c.loop-pool.pool-index (omega (arith, c.loop-pool-test.false, ap length c.deref-pool-items.ensures.value)) have in
    let both = all_of_them w c.self.invariant.pools all (rw (← c.self.view_is) at c.blocks-2.ensures.blocks) in
    omega (
      arith,
      fits w (bs ++ c.blocks-2.result) both.in_order (λ b i. ((both.exactly b).0 i).0),
      total-append bs c.blocks-2.result,
      sums.used,
      sums.free,
      c.totals_of-2.ensures.totals.used,
      c.totals_of-2.ensures.totals.free,
    )

pub loop-pool-preserved : goal.loop-pool-preserved
loop-pool-preserved g c = rw (← c.self.view_is) (
    let w = well_formed c.self.inside.heap c.self.invariant.stands in
    let (bs, have, sums, few) = rw (← c.self.view_is) at c.loop-pool.invariant in (
      bs ++ c.iter_blocks.result,
      one_more_pool w c.self.invariant.pools _ c.deref-pool-items.ensures.value c.loop-pool.pool-index _ c.loop-pool-test.true (search rules) have _ c.iter_blocks.ensures.blocks,
      c.joined-sum.ensures.totals bs c.iter_blocks.result sums c.totals_of.ensures.totals,
      c.joined-sum.ensures.few,
    ))

pub returns : goal.returns
returns g c = rw (← c.self.view_is) (
    let w = well_formed c.self.inside.heap c.self.invariant.stands in
    let (bs, have, sums, few) = rw (← c.self.view_is) at c.loop-pool.invariant in
    let all = all_earlier w c.self.invariant.pools c.loop-pool.pool-index (omega (arith, c.loop-pool-test.false, ap length c.deref-pool-items.ensures.value)) have in
    let last = rw (← c.self.view_is) at c.blocks-2.ensures.blocks in
    (bs ++ c.blocks-2.result, all_of_them w c.self.invariant.pools all last, c.joined.ensures.totals bs c.blocks-2.result sums c.totals_of-2.ensures.totals))
