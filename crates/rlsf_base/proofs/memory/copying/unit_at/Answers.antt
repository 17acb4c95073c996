-- The slice has 16 bytes, so its first 16 are all of it.
use Rattle.std.proofs.Common.{◌-◌, ◌∙◌, ap, arith, drop, length, take}
use Rattle.std.proofs.lemmas.List.{take-take}
use Rattle.rlsf_base.proofs.Words.Splices.{length-part}
use Rattle.rlsf_base.proofs.memory.copying.unit_at.Goals as goal

pub returns-in-Some : goal.returns-in-Some
returns-in-Some c =
    let b = c.args.bytes.now in
    c.in-Some.ensures.cases.same ∙ ap (take 16) c.slice.ensures ∙ take-take 16 16 (drop (c.args.place - b.skip) b.bytes) (omega arith)

pub returns-in-None : goal.returns-in-None
returns-in-None c =
    let b = c.args.bytes.now in let long = length-part 16 (c.args.place - b.skip) b.bytes (omega (arith, c.requires.1.0)) in
    absurd (omega (arith, c.in-None.ensures.cases, ap length c.slice.ensures, long))
