use Rattle.std.proofs.Common.{arith, refl}
use Rattle.rlsf_flex.specs.Bump.{bump_terms}
use Rattle.rlsf_flex.proofs.BumpRanges.{bump_gives}
use Rattle.rlsf_flex.proofs.bump.BumpSourceFlexSource.alloc.Goals as goal

pub returns-clause-owes : goal.returns-clause-owes
returns-clause-owes c = bump_gives (record {
  terms = bump_terms c.args.self.now;
  before = c.args.self.now;
  space = c.self.inside.space;
  at = c.self.inside.at;
  fields = c.self.view_is;
  invariant = c.self.invariant;
  in_space = refl;
  power = refl;
  min_size = c.args.min_size;
  start = c.in_ok-start.start;
  len = c.args.min_size;
  end = c.in_ok-end.end;
  rounded = c.in_ok-start.ensures.1;
  long = omega arith;
  ends = c.in_ok-end.ensures.0;
  fits = c.in_ok-end.ensures.1;
})
