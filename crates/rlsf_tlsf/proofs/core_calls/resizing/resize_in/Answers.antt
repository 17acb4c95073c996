use Rattle.std.proofs.Common.{arith}
use Rattle.rlsf_blocks.specs.Laws.{read_from}
use Rattle.rlsf_blocks.proofs.Counting.{Counts-counted_first}
use Rattle.rlsf_tlsf.specs.Cores.{found_cost}
use Rattle.rlsf_tlsf.proofs.Reached.{IsCore-counted, LeavesCore-counted_first, read_from-counted}
use Rattle.rlsf_tlsf.proofs.ResizedInPlace.{fits_found, own_found}
use Rattle.rlsf_tlsf.proofs.core_calls.resizing.resize_in.Goals as goal

pub find_block-block-requires : goal.find_block-block-requires
find_block-block-requires g c =
    let (u, found, own) = c.requires.own in
    (g.row.FLLEN, g.row.SLLEN, c.args.table.now, read_from c.args.memory.now c.args.state.now.state, u, c.requires.core.stands, found)

pub resize_block_in-requires : goal.resize_block_in-requires
resize_block_in-requires g c =
    let (u, found, own) = c.requires.own in
    let v = c.requires.core.stands in
    let counts = c.find_block-block.ensures.counts in
    let start = c.find_block-block.ensures.block g.row.FLLEN g.row.SLLEN c.args.table.now (read_from c.args.memory.now c.args.state.now.state) u v found in (
      omega arith,
      (
        IsCore-counted counts c.requires.core,
        (
          own_found c.args.state.now.state v counts c.args.layout.size u found.0 start own,
          fits_found c.args.state.now.state v counts c.args.layout.size u found.0 start c.args.layout.valid c.is_below_limit.ensures,
        ),
      ),
    )

pub returns : goal.returns
returns g c =
    let counts = c.find_block-block.ensures.counts in
    let e = c.resize_block_in.ensures in
    let o = c.resize_block_in.new.memory in
    rw (← read_from-counted counts c.args.state.now.state) (record {
      left = LeavesCore-counted_first counts e.left;
      step = e.step;
      result = e.result;
      kept = e.kept;
      bounds = e.bounds;
      refused = λ no. let r = e.refused no in
          record { counts = Counts-counted_first c.args.memory.now c.find_block-block.new.memory o (found_cost c.args.align) 2 counts r.counts; table = r.table; state = r.state };
    })
