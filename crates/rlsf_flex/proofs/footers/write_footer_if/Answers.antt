use Rattle.std.proofs.Common.{arith, refl}
use Rattle.rlsf_flex.proofs.Rewritten.{IsFooted-none, IsFooted-written}
use Rattle.rlsf_flex.proofs.footers.write_footer_if.Goals as goal

pub returns-then-not-takes_back : goal.returns-then-not-takes_back
returns-then-not-takes_back g c = record {
  footer = IsFooted-none c.args.takes_back c.args.tlsf.now.memory c.args.range c.args.start c.args.len c.if-not-takes_back.true;
  state = refl;
  stands = c.requires.stands;
  grow = omega arith;
  copied = refl;
}

pub returns : goal.returns
returns g c = record {
  footer =
      IsFooted-written c.args.takes_back c.args.tlsf.now.memory c.write_footer.new.tlsf.memory c.args.range c.args.start c.args.len c.args.start c.args.len
      c.if-not-takes_back.false c.write_footer.ensures.footer refl refl;
  state = c.write_footer.ensures.state;
  stands = c.write_footer.ensures.stands;
  grow = c.write_footer.ensures.grow;
  copied = c.write_footer.ensures.copied;
}
