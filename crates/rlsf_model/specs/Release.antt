-- A used block becomes free.
use Rattle.std.specs.Prelude.{◌≡◌, ℕ}
use Rattle.rlsf_model.specs.Join.{join}
use Rattle.rlsf_model.specs.State.{State, Used, Holds, others}

-- the state without the used block u, whose range is joined to the free ranges
abbrev pub released : State → Used → State
released s u = record { chunks = s.chunks; used = others u.payload s.used; free = join u.block s.free }

-- the used block at the address is released
pub record Deallocates (s : State) (addr : ℕ) (t : State) : Type 0 where
  pub block : Used
  pub holds : Holds s addr block
  pub after : t ≡ released s block
