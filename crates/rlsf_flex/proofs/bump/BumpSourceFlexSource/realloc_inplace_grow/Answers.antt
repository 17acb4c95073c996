use Rattle.std.proofs.Common.{arith, refl}
use Rattle.rlsf_flex.specs.Bump.{bump_terms}
use Rattle.rlsf_flex.proofs.BumpRanges.{bump_end, bump_grows}
use Rattle.rlsf_flex.proofs.bump.BumpSourceFlexSource.realloc_inplace_grow.Goals as goal

pub overflow_add-range : goal.overflow_add-range
overflow_add-range c = omega (arith, bump_end c.args.self.now c.self.inside.space c.self.inside.at c.args.range c.self.view_is c.self.invariant c.requires.outstanding)

pub returns-clause-owes : goal.returns-clause-owes
returns-clause-owes c =
    bump_grows (bump_terms c.args.self.now) c.args.self.now c.self.inside.space c.self.inside.at c.args.range c.args.min_new_len c.args.min_new_len c.in_ok-end.end
    c.self.view_is refl (omega (arith, c.if-self-range.false)) (omega arith) c.requires.longer c.in_ok-end.ensures.0 c.in_ok-end.ensures.1
