-- Where the reference model's calls lead, except for the bytes of payloads.
use Rattle.std.specs.Prelude.{ℕ, [], ◌∷◌, map, find, ◌==◌, Option, Some, None}
use Rattle.rlsf_base.specs.declared.memory.range.Range.{Range}
use Rattle.rlsf_model_sizes.specs.Sizes.{max_pool_size, request_size}
use Rattle.rlsf_model.specs.Allocate.{choice, given, placed}
use Rattle.rlsf_model.specs.Insert.{aligned_part, appended, cut, with_chunks}
use Rattle.rlsf_model.specs.Reallocate.{Plan, plan}
use Rattle.rlsf_model.specs.Release.{released}
use Rattle.rlsf_model.specs.State.{State, Used, others}

-- a used block without its bytes
abbrev pub bare_used : Used → Used
bare_used u = record { block = u.block; payload = u.payload; align = u.align; bytes = [] }

-- a state without the bytes of its used blocks
abbrev pub bare : State → State
bare s = record { chunks = s.chunks; used = map bare_used s.used; free = s.free }

-- the state once a range was inserted
abbrev pub inserted : ℕ → Range → State → State
inserted fllen r s = with_chunks (cut (max_pool_size fllen) (aligned_part r)) s

-- the state once a range was inserted behind a chunk
abbrev pub appended_to : ℕ → Range → State → State
appended_to fllen r s = appended (max_pool_size fllen) r s

-- the state once the free range that was chosen, if any, gave its front to a payload
abbrev pub given_if : ℕ → ℕ → ℕ → State → Option Range → State
given_if sllen size align s None = s
given_if sllen size align s (Some f) = given sllen s f (placed f size align [])

-- the state once a layout was allocated
abbrev pub allocated : ℕ → ℕ → ℕ → State → State
allocated sllen size align s = given_if sllen size align s (choice sllen (request_size size align) s.free)

-- the state once the used block that was found, if any, was released
abbrev pub released_if : State → Option Used → State
released_if s None = s
released_if s (Some u) = released s u

-- the used block whose caller has the address
abbrev pub used_at : ℕ → State → Option Used
used_at addr s = find (λ u. u.payload == addr) s.used

-- the state once the payload at the address was deallocated
abbrev pub deallocated : ℕ → State → State
deallocated addr s = released_if s (used_at addr s)

-- the state once the used block got another size by a plan, or elsewhere
abbrev pub moved_by : ℕ → State → Used → ℕ → Option Plan → State
moved_by sllen s u size None = released (allocated sllen size u.align s) u
moved_by sllen s u size (Some p) =
    record { chunks = s.chunks; used = record { block = p.block; payload = p.payload; align = u.align; bytes = [] } ∷ others u.payload s.used; free = p.free }

-- the state once the used block that was found, if any, got another size
abbrev pub moved_if : ℕ → State → ℕ → Option Used → State
moved_if sllen s size None = s
moved_if sllen s size (Some u) = moved_by sllen s u size (plan s u size)

-- the state once the payload at the address got another size
abbrev pub reallocated : ℕ → ℕ → ℕ → State → State
reallocated sllen addr size s = moved_if sllen s size (used_at addr s)
