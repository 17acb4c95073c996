use Rattle.std.proofs.Common.{◌+◌, ◌-◌, ◌∙◌}
use Rattle.std.specs.List.{splice}
use Rattle.rlsf_base.proofs.memory.copying.copy_unit.Goals as goal

pub returns : goal.returns
returns c =
    let b = c.args.bytes.now in let e = c.write_unit.ensures in let at = c.args.to - b.skip in
    ((e.0.0, e.0.1, e.0.2 ∙ (λ j. splice b.bytes at (at + 16) (c.unit_at-unit.ensures j)), e.0.3, e.0.4), e.1)
