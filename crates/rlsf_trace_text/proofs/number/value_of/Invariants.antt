use Rattle.std.proofs.Common.{◌≡◌, ◌<◌, ◌^◌, drop}
use Rattle.std.specs.Str.{all_ascii_digits}
use Rattle.std.specs.Str.Parse.{digits_value, digits_value_after}
use Rattle.rlsf_trace_text.proofs.number.value_of.Given as goal

-- the word is digits if what is left is, and its value is that of what is left behind the digits so far
abbrev pub invariant-loop-byte : goal.invariant-loop-byte
invariant-loop-byte l = record {
  digits : all_ascii_digits l.word ≡ all_ascii_digits (drop l.byte-index l.word);
  value : digits_value 10 l.word ≡ digits_value_after 10 l.value (drop l.byte-index l.word);
  small : l.value < 2 ^ 64;
}
