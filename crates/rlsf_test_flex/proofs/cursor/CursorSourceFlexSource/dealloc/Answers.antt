use Rattle.std.proofs.Common.{◌++◌, sym, subst}
use Rattle.rlsf_test_flex.specs.Cursor.{CursorMayOwe}
use Rattle.rlsf_test_flex.proofs.Cursors.{gone_range}
use Rattle.rlsf_test_flex.proofs.cursor.CursorSourceFlexSource.dealloc.Goals as goal

pub returns-clause-owes : goal.returns-clause-owes
returns-clause-owes c before after may = subst (λ v. CursorMayOwe v (before ++ after)) (sym c.remember.ensures) (gone_range c.args.self.now c.args.range before after may)
