-- What a memory ends as, once a `&mut` into its bytes has ended.
use Rattle.std.specs.Prelude.{ℕ, ◌+◌, ◌-◌, List, drop}
use Rattle.std.specs.Borrow.{Fml, MutBor, Array, Lends, u8}
use Rattle.std.specs.List.{splice, refill}
use Rattle.rlsf_base.specs.contracts.memory.Memory as memory
use Rattle.rlsf_base.specs.contracts.memory.open_memory.OpenMemory as open_memory
use Rattle.rlsf_base.specs.Space.{Space}

-- old, with its len elements from index i on as w has them: w is cut to len, or filled up from old
abbrev pub refilled : {X : Type 0} → List X → ℕ → ℕ → List X → List X
refilled old i len w = splice old i (i + len) (refill len (drop i old) w)

-- a memory, with w in the place of its len bytes from the address at on
abbrev pub lent_space : Space → ℕ → ℕ → List ℕ → Space
lent_space m at len w = record { start = m.start; bytes = refilled m.bytes (at - m.start) len w; touches = m.touches; copied = m.copied; view = m.view; out = m.out }

-- the memory ends with what r leaves in its len bytes from the address at on, and else as it was
abbrev pub LendsSpaceBytes : MutBor Space → ℕ → ℕ → MutBor (List ℕ) → Fml
LendsSpaceBytes m at len r = Lends memory.the_row (Array u8 0) m r (lent_space m.now at len)

-- the same of a memory from which bytes can leave
abbrev pub LendsOpenBytes : MutBor Space → ℕ → ℕ → MutBor (List ℕ) → Fml
LendsOpenBytes m at len r = Lends open_memory.the_row (Array u8 0) m r (lent_space m.now at len)
