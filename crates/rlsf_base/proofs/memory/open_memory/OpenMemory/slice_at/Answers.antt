use Rattle.std.proofs.Common.{◌∙◌, arith}
use Rattle.rlsf_base.proofs.Lending.Placed.{bytes_there, can_lend, placed}
use Rattle.rlsf_base.proofs.memory.open_memory.OpenMemory.slice_at.Goals as goal

pub slice-requires : goal.slice-requires
slice-requires c = can_lend c.self.invariant c.self.view_is c.requires.view (omega arith) c.args.range c.requires.place c.place.ensures c.requires.here

pub returns : goal.returns
returns c =
    let place = placed c.self.invariant c.self.view_is c.requires.view (omega arith) c.args.range c.requires.place c.place.ensures in
    c.slice.ensures ∙ bytes_there c.self.view_is c.args.range place
