use Rattle.std.proofs.Common.{ap, arith, refl}
use Rattle.rlsf.specs.Sources.{bump_gives}
use Rattle.rlsf_example_functions.specs.Rationed.{rationed_terms}
use Rattle.rlsf_example_functions.proofs.source.RationedSourceFlexSource.alloc.Goals as goal

pub returns-clause-owes : goal.returns-clause-owes
returns-clause-owes c = bump_gives (record {
  terms = rationed_terms c.args.self.now;
  before = c.args.self.now.bump;
  space = c.self.inside.space;
  at = c.self.inside.at;
  fields = ap (λ x. x.bump) c.self.view_is;
  invariant = c.self.invariant;
  in_space = refl;
  power = refl;
  min_size = c.args.min_size;
  start = c.in_ok-start.start;
  len = c.args.min_size;
  end = c.in_ok-end.end;
  rounded = c.in_ok-start.ensures.1;
  long = omega arith;
  ends = c.in_ok-end.ensures.0;
  fits = c.in_ok-end.ensures.1;
})
