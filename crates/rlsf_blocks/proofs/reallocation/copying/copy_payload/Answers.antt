use Rattle.std.proofs.Common.{◌-◌, ◌∙◌, sym}
use Rattle.rlsf_base.proofs.Changes.{back-none}
use Rattle.rlsf_blocks.proofs.reallocation.copying.copy_payload.Goals as goal

pub copy_within_whole-requires-clause-whole : goal.copy_within_whole-requires-clause-whole
copy_within_whole-requires-clause-whole g c = c.requires.whole c.if-this-eq1.true

pub returns-then-this-eq1-clause-out : goal.returns-then-this-eq1-clause-out
returns-then-this-eq1-clause-out g c = let m = c.args.memory.now in
    c.copy_within_whole.ensures.out ∙ sym (back-none m.out (c.args.to - m.start) c.args.range.len (c.requires.whole c.if-this-eq1.true))
