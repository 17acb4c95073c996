-- So many of the newest ranges were returned, and nothing else changed.
use Rattle.std.proofs.Common.{◌≡◌, ◌≤◌, ◌+◌, ◌*◌, true, [], length}
use Rattle.rlsf_flex.specs.Steps.Parts.{flex_over}
use Rattle.rlsf_flex.specs.Steps.Trim.{GaveBack, LeavesPayloads}
use Rattle.rlsf_flex.proofs.parts.Parts.give_idle_back.Given as goal

abbrev pub invariant-loop-count : goal.invariant-loop-count
invariant-loop-count g l = record {
  gone : GaveBack g.row.FLLEN g.row.SLLEN g.S.FlexSource.terms g.S.FlexSource.owes g.S.FlexSource.leads (flex_over l.fn.self) (flex_over l.self) l.count;
  supported : (g.S.FlexSource.terms l.self.source).dealloc ≡ true;
  whole : l.self.tlsf.memory.out ≡ [];
  same : l.count ≡ 0 → l.self ≡ l.fn.self;
  payloads : LeavesPayloads l.fn.self.tlsf l.self.tlsf;
  touches : l.self.tlsf.memory.touches + 9 * length l.self.tlsf.state.chunks ≤ l.fn.self.tlsf.memory.touches + 9 * length l.fn.self.tlsf.state.chunks;
}

abbrev pub decreases-loop-count : goal.decreases-loop-count
decreases-loop-count g l = length l.self.owed.ranges
