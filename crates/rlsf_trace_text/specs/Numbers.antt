-- Numbers in decimal.
use Rattle.std.specs.Prelude.{ℕ, ◌+◌, ◌*◌, ◌^◌, List, length, ◌&&◌, Option, Some, None, Result, Ok, Err, nat_lt, nat_le, if◌then◌else◌}
use Rattle.std.specs.Char.{is_ascii_digit, digit_value}
use Rattle.std.specs.Str.{all_ascii_digits}
use Rattle.std.specs.Str.Parse.{digits_value}
use Rattle.rlsf_trace_text.specs.declared.fault.Fault.{Fault}
use Rattle.rlsf_trace_text.specs.declared.fault.Fault.TheVariants.{BadNumber}
use Rattle.rlsf_trace_text.specs.FallibleSteps.{or_fault}

-- the number so far with one more digit, if it is a digit, and 64 bits have room
abbrev pub with_digit : ℕ → ℕ → Option ℕ
with_digit value byte =
    if is_ascii_digit byte && nat_lt (value * 10 + digit_value byte) (2 ^ 64) then Some (value * 10 + digit_value byte) else None

-- the value of ASCII digits, if they are such, and 64 bits have room
unfoldable pub value_of : List ℕ → Option ℕ
value_of word = if all_ascii_digits word && nat_lt (digits_value 10 word) (2 ^ 64) then Some (digits_value 10 word) else None

-- a number has one to twenty digits
unfoldable pub number_of : List ℕ → Result ℕ Fault
number_of word = if nat_lt 0 (length word) && nat_le (length word) 20 then or_fault BadNumber (value_of word) else Err BadNumber

-- a number that a byte has room for
unfoldable pub byte_of : ℕ → Result ℕ Fault
byte_of value = if nat_lt value 256 then Ok value else Err BadNumber
