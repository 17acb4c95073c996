-- Results of the calls as numbers.
use Rattle.std.specs.Prelude.{ℕ, zero, suc, Option, Some, None, Result, Ok, Err}
use Rattle.std.specs.declared.num.NonZeroUsize.{NonZeroUsize}
use Rattle.rlsf_base.specs.Addr.{at}
use Rattle.rlsf_checked.specs.declared.error.CheckedError.{CheckedError}
use Rattle.rlsf_checked.specs.declared.error.CheckedError.TheVariants.{InvalidClasses, OutOfMemory, UnknownAddress, OutOfRange, OutsideMemory, NotBehind, NotNext, TooShort}
use Rattle.rlsf_checked.specs.declared.error.CheckedError.TheVariants.{NoLayout, NoRoom, InUse, NotChunks}
use Rattle.rlsf_pool_calls.specs.declared.answers.Answer.{Answer}

-- the number of an error
abbrev pub error_code : CheckedError → ℕ
error_code InvalidClasses = 1
error_code OutOfMemory = 2
error_code UnknownAddress = 3
error_code OutOfRange = 4
error_code OutsideMemory = 5
error_code NotBehind = 6
error_code NotNext = 7
error_code TooShort = 8
error_code NoLayout = 9
error_code NoRoom = 10
error_code InUse = 15
error_code NotChunks = 16

-- an answer that is an error
abbrev pub refused_by : CheckedError → Answer
refused_by e = record { error = error_code e; value = 0 }

-- a number, or an error
abbrev pub answer_of : Result ℕ CheckedError → Answer
answer_of (Ok n) = record { error = 0; value = n }
answer_of (Err e) = refused_by e

-- an address, or an error
abbrev pub address_answer : Result NonZeroUsize CheckedError → Answer
address_answer (Ok addr) = record { error = 0; value = at addr }
address_answer (Err e) = refused_by e

-- 0, or an error
abbrev pub reply_code : Result (Unit {0}) CheckedError → ℕ
reply_code (Ok x) = 0
reply_code (Err e) = error_code e

-- the value, where there is no error
abbrev pub value_if : ℕ → ℕ → Option ℕ
value_if zero value = Some value
value_if (suc e) value = None

-- the value that is returned, if there is one
abbrev pub answer_value : Answer → Option ℕ
answer_value a = value_if a.error a.value
