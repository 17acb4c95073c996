use Rattle.std.proofs.Common.{◌≡◌, ◌↔◌, true, arith, sym, subst}
use Rattle.rlsf_table.proofs.Parameters.{IsValid-widest}
use Rattle.rlsf_blocks.specs.Consistency.Consistent.{AreConsistent, ArePoolsLegible}
use Rattle.rlsf_heap.specs.Words.{WordsView}
use Rattle.rlsf_heap.proofs.words.HeapWords.are_consistent.Goals as goal

pub are_consistent-requires : goal.are_consistent-requires
are_consistent-requires g c = (
  omega arith,
  (
    IsValid-widest g.FLBitmap.BitPattern.width_limit c.requires.parameters,
    subst (λ (o : WordsView). ArePoolsLegible g.row.FLLEN g.row.SLLEN c.args.pools.now o.memory o.table) (sym c.self.view_is) c.requires.legible,
  ),
)

pub returns : goal.returns
returns g c =
    subst (λ (o : WordsView). (c.are_consistent.result ≡ true) ↔ AreConsistent g.row.FLLEN g.row.SLLEN c.args.pools.now o.memory o.table) c.self.view_is
    c.are_consistent.ensures
