use Rattle.std.proofs.Common.{arith, refl}
use Rattle.rlsf_example_libraries.proofs.Queues.{oldest_stored}
use Rattle.rlsf_example_libraries.proofs.messages.Messages.front_len.Goals as goal

pub returns : goal.returns
returns c =
    let entries = c.self.inside.entries in
    let here = c.in_ok-entry.ensures in
    let o = oldest_stored c.self.inside.store entries.items c.in_ok-entry.entry.now c.self.invariant.0 (omega (arith, entries.ok.0, here.variant.0 refl)) here.lookup in
    rw (← c.self.view_is, o.messages, o.len)
