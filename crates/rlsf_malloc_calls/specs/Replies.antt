-- The numbers that calls return.
use Rattle.std.specs.Prelude.{ℕ}
use Rattle.rlsf_malloc_calls.specs.declared.replies.Reply.{Reply}

-- the address of a payload whose size was changed, or 0
abbrev pub reply_number : Reply → ℕ
reply_number r = r.number
