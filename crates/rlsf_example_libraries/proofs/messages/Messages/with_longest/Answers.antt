use Rattle.std.proofs.Common.{◌≡◌, Some, map, sym, subst}
use Rattle.std.proofs.Math.Path.{ap₂}
use Rattle.std.specs.VecDeque.{deque_capacity}
use Rattle.rlsf_base.specs.Range.{range_at}
use Rattle.rlsf_base.specs.Space.{range_of}
use Rattle.rlsf_example_libraries.specs.Queue.{place_of_entry}
use Rattle.rlsf_example_libraries.specs.Stored.{KeepsAt}
use Rattle.rlsf_example_libraries.proofs.Queues.{KeepsLongest-same}
use Rattle.rlsf_example_libraries.proofs.messages.Messages.with_longest.Goals as goal

pub invariant_of-result : goal.invariant_of-result
invariant_of-result c =
    let place : range_of c.args.memory ≡ range_of c.new-store.result.heap.memory = ap₂ range_at (sym c.new-store.ensures.place.0) (sym c.new-store.ensures.place.1) in
    let holds : c.args.capacity ≡ deque_capacity c.in_ok-entries.entries = sym c.in_ok-entries.ensures.exact in
    let none = c.in_ok-entries.ensures.items in (
      subst (λ es. KeepsAt c.new-store.result (map place_of_entry es)) (sym none) c.new-store.ensures.empty,
      KeepsLongest-same (Some c.args.longest) place holds (sym none) (tt, c.fits_messages.ensures.0 c.if-not-fits_messages.false),
    )
