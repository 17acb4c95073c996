use Rattle.std.proofs.Common.{sym, ap}
use Rattle.rlsf_pool_calls.specs.Answers.{error_code}
use Rattle.rlsf_pool_calls.proofs.answers.number.Goals as goal

pub returns-in-NotBehind : goal.returns-in-NotBehind
returns-in-NotBehind c = ap error_code (sym c.in-NotBehind.is)
