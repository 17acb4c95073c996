use Rattle.std.proofs.Common.{arith}
use Rattle.rlsf_model.specs.Release.{Deallocates}
use Rattle.rlsf_partitions.proofs.Tiles.{HasTiles-released, Stands-stepped}
use Rattle.rlsf_partitions.proofs.partition.Partition.give_back.Goals as goal

pub invariant_of-self : goal.invariant_of-self
invariant_of-self c =
    let i = c.self.inside in
    let addr = c.args.payload.start in
    let step = c.deallocate.ensures.step in
    record {
      stands = Stands-stepped c.deallocate.new.self (Deallocates i.heap.state addr) step;
      narrow = c.self.invariant.narrow;
      enough = c.self.invariant.enough;
      begins = c.self.invariant.begins;
      within = omega (arith, c.self.invariant.within, c.deallocate.ensures.result.gone.count);
      room = λ some. HasTiles-released i.heap c.deallocate.new.self i.layout.size i.count addr step (c.self.invariant.room some);
    }
