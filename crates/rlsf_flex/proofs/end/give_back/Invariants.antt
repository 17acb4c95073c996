-- Of all ranges that the footers spell from the newest on, some were returned and the others follow.
use Rattle.std.proofs.Common.{◌≡◌, List, length}
use Rattle.rlsf_base.specs.declared.memory.range.Range.{Range}
use Rattle.rlsf_flex.specs.Footers.{AreSpelled}
use Rattle.rlsf_flex.proofs.Ends.{IsAt, ranges_from}
use Rattle.rlsf_flex.proofs.end.give_back.Given as goal

abbrev pub invariant-loop-next : goal.invariant-loop-next
invariant-loop-next g l = record {
  at : (pools : List Range) → AreSpelled l.memory l.fn.newest pools → g.S.FlexSource.owes l.fn.source pools
      → IsAt g.S.FlexSource.owes g.S.FlexSource.leads l.memory pools l.fn.source l.next l.source;
  terms : g.S.FlexSource.terms l.source ≡ g.S.FlexSource.terms l.fn.source;
}

abbrev pub decreases-loop-next : goal.decreases-loop-next
decreases-loop-next g l = ranges_from (length l.memory.bytes) l.memory l.next
