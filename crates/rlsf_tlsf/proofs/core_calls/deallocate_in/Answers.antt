use Rattle.std.proofs.Common.{arith, sym, subst}
use Rattle.rlsf_base.proofs.Lending.Present.{owned-same}
use Rattle.rlsf_model.specs.State.{Holds, State, usable}
use Rattle.rlsf_blocks.specs.Laws.{read_from}
use Rattle.rlsf_tlsf.proofs.Reached.{IsCore-counted, LeavesCore-counted_first, read_from-counted}
use Rattle.rlsf_tlsf.proofs.core_calls.deallocate_in.Goals as goal

pub find_block-block-requires : goal.find_block-block-requires
find_block-block-requires g c =
    let (u, found, own) = c.requires.own in
    (g.row.FLLEN, g.row.SLLEN, c.args.table.now, read_from c.args.memory.now c.args.state.now.state, u, c.requires.core.stands, found)

pub deallocate_block_in-requires : goal.deallocate_block_in-requires
deallocate_block_in-requires g c =
    let (u, found, own) = c.requires.own in
    let counts = c.find_block-block.ensures.counts in
    let s = read_from c.args.memory.now c.args.state.now.state in
    let start = c.find_block-block.ensures.block g.row.FLLEN g.row.SLLEN c.args.table.now s u c.requires.core.stands found in (
      omega arith,
      (
        IsCore-counted counts c.requires.core,
        (
          u,
          subst (λ (s : State). Holds s c.args.addr u) (sym (read_from-counted counts c.args.state.now.state)) found.0,
          sym start,
          owned-same c.args.memory.now c.find_block-block.new.memory (usable u) counts.start counts.out own,
        ),
      ),
    )

pub returns : goal.returns
returns g c =
    let e = c.deallocate_block_in.ensures in
    rw (← read_from-counted c.find_block-block.ensures.counts c.args.state.now.state) (assumption (LeavesCore-counted_first c.find_block-block.ensures.counts e.left, e))
