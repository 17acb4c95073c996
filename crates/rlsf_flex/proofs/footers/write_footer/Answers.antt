use Rattle.std.proofs.Common.{◌+◌, arith, ap, sym, ◌∙◌, subst}
use Rattle.rlsf_blocks.specs.Spare.{IsSpareWord}
use Rattle.rlsf_flex.proofs.FooterWords.{IsSpareWord-place, writes_footer}
use Rattle.rlsf_flex.proofs.footers.write_footer.Goals as goal

pub set_spare_word-requires : goal.set_spare_word-requires
set_spare_word-requires g c =
    (omega arith, subst (IsSpareWord c.args.tlsf.now.memory c.args.tlsf.now.state) (sym c.footer_at-footer.ensures) c.requires.spare.0)

pub set_spare_word-requires-2 : goal.set_spare_word-requires-2
set_spare_word-requires-2 g c =
    let one = c.set_spare_word.ensures in
    let new = c.set_spare_word.new.self in (
      omega arith,
      subst (λ s. IsSpareWord new.memory s (c.footer_at-footer.result + 8)) (sym one.state)
          (IsSpareWord-place c.args.tlsf.now.memory new.memory c.args.tlsf.now.state _ _ one.place (ap (λ a. a + 8) c.footer_at-footer.ensures) c.requires.spare.1),
    )

pub returns : goal.returns
returns g c = record {
  footer =
      let one = c.set_spare_word.ensures in
      let two = c.set_spare_word-2.ensures in
      let (start, len) = c.requires.spare in
      writes_footer c.args.tlsf.now.memory c.set_spare_word.new.self.memory c.set_spare_word-2.new.self.memory c.args.range c.footer_at-footer.result c.args.start c.args.len
      c.footer_at-footer.ensures c.requires.whole start.0 len.0 c.ranges.start.fits c.ranges.len.fits
      one.place one.bytes two.place two.bytes;
  state = c.set_spare_word-2.ensures.state ∙ c.set_spare_word.ensures.state;
  stands = c.set_spare_word-2.ensures.stands;
  grow = omega (arith, c.set_spare_word.ensures.touches, c.set_spare_word-2.ensures.touches);
  copied = c.set_spare_word-2.ensures.copied ∙ c.set_spare_word.ensures.copied;
}
