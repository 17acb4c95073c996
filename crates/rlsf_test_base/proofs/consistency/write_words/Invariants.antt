use Rattle.std.proofs.Common.{◌≡◌, length}
use Rattle.rlsf_test_base.proofs.consistency.write_words.Given as goal

abbrev pub invariant-loop-i : goal.invariant-loop-i
invariant-loop-i l = (l.memory.start ≡ 4096) × (length l.memory.bytes ≡ length l.initial.memory.bytes)
