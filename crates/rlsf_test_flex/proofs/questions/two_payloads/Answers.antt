use Rattle.rlsf_test_flex.proofs.OneByte.{asked_for_two, told}
use Rattle.rlsf_test_flex.proofs.questions.two_payloads.Goals as goal

pub returns : goal.returns
returns c =
    let (ms, one, led_one, answers, w) = told _ _ _ _ _ _ _ c.allocate-first.ensures.step in
    let (ns, two, led_two, _, _) = told _ _ _ _ _ _ _ c.allocate-second.ensures.step in
    let layout = c.from_size_align_unchecked-layout.ensures in
    asked_for_two _ _ _ _ _ _ _ _ _ _ _ _ ms ns c.requires.empty layout.0 layout.1 c.requires.terms c.requires.nothing_asked c.requires.room one answers w led_one two led_two
