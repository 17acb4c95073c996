use Rattle.rlsf_checked.proofs.bytes.fill_all.Goals as goal

pub returns : goal.returns
returns c = c.fill.ensures.after (λ y same. same)
