use Rattle.std.proofs.Common.{sym, ◌∙◌}
use Rattle.rlsf_flex.proofs.FooterWords.{first-none}
use Rattle.rlsf_flex.proofs.end.range_before.Goals as goal

pub returns-then-start-eq0 : goal.returns-then-start-eq0
returns-then-start-eq0 c rest footers some = first-none rest (sym footers.0 ∙ sym c.read_footer-start.ensures.0 ∙ c.if-start-eq0.true) some
