use Rattle.std.proofs.Common.{sym, subst}
use Rattle.rlsf_base.specs.Layout.{IsLayout}
use Rattle.rlsf_base.proofs.Layouts.{IsLayout-padded}
use Rattle.rlsf_base.proofs.memory.layout.Layout.pad_to_align.Goals as goal

pub invariant_of-result : goal.invariant_of-result
invariant_of-result c =
    let layout = c.args.self.now in
    record { valid = subst (λ n. IsLayout n layout.align) (sym c.align_up.ensures.value) (IsLayout-padded layout.size layout.align layout.valid) }
