use Rattle.rlsf_global.proofs.Journal.Closings.{closed_agreed, closed_history}
use Rattle.rlsf_global.proofs.journaled.Journaled.close.Goals as goal

pub returns : goal.returns
returns c = record {
  strange = c.close.ensures.strange;
  missing = c.close.ensures.missing;
  mismatch = λ e. (c.close.ensures.mismatch.0 e).0;
  agreed = closed_agreed c.into_inner.result c.args.self.callers c.args.passes.items c.close.result c.close.ensures.journal c.close.ensures.agreed;
  history = closed_history c.into_inner.result c.close.result c.close.ensures.journal c.close.ensures.live;
}
