use Rattle.std.proofs.Common.{rules}
use Rattle.rlsf_model_global.proofs.Cursors.{gone_range}
use Rattle.rlsf_flex.proofs.pages.SourceFlexSource.dealloc.Goals as goal

pub returns : goal.returns
returns g c = record {
  leads = search rules;
  owes = λ before after may. gone_range c.args.self.now c.args.range before after may;
}
