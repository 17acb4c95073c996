use Rattle.std.proofs.Common.{rules, refl, ◌≡◌, ◌++◌}
use Rattle.rlsf_global.specs.Journal.Entries.{receipts_for}
use Rattle.rlsf_global.proofs.journaled.Journaled.step.Goals as goal

pub returns-then-not-matches : goal.returns-then-not-matches
returns-then-not-matches g c = record {
  fits = c.step-reply.ensures.fits;
  receipt = rw (← c.pass.view_is) (
      let receipts : c.push_reserved.new.self.items ≡ c.pass.inside.receipts.items ++ receipts_for c.len-number.result c.args.call c.step-reply.result = search rules in
      (c.len-number.result, receipts));
  caller = rw (← c.pass.view_is) refl;
}
