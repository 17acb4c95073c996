use Rattle.std.proofs.Common.{sym, ◌∙◌}
use Rattle.rlsf_base.proofs.Numbers.PowersOfTwo.{is_power_of_two-iff}
use Rattle.rlsf_offsets.proofs.checked.is_power.Goals as goal

pub returns : goal.returns
returns c =
    let iff = is_power_of_two-iff c.args.n in
    ((λ passed. iff.0 (sym c.is_power_of_two.ensures ∙ passed)), λ power. c.is_power_of_two.ensures ∙ iff.1 power)
