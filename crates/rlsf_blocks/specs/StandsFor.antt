-- What a value of the allocator represents.
use Rattle.std.specs.Prelude.{◌≡◌, ℕ, ◌<◌, ◌≤◌, ◌⊎◌, true}
use Rattle.rlsf_base.specs.Out.{is_own}
use Rattle.rlsf_base.specs.declared.memory.range.Range.{Range}
use Rattle.rlsf_base.specs.Range.{end_of}
use Rattle.rlsf_base.specs.Space.{Space, out_at, range_of}
use Rattle.rlsf_model.specs.Lists.{IsIn}
use Rattle.rlsf_table.specs.Table.{Table, HasTable}
use Rattle.rlsf_blocks.specs.InBand.{HasSizes, HasPrevious, HasPayloads}
use Rattle.rlsf_model.specs.State.{State, Used}
use Rattle.rlsf_model.specs.WellFormed.{IsWellFormed}

-- the allocator as contracts see it: its memory and its class table
pub record Contents : Type 0 where
  pub memory : Space
  pub table : Table

-- the contents by their parts
abbrev pub contents : Space → Table → Contents
contents m t = record { memory = m; table = t }

-- an address that no caller may use: outside the usable bytes of each live payload
abbrev pub IsUnlent : State → ℕ → Type 0
IsUnlent s a = (u : Used) → IsIn u s.used → (a < u.payload) ⊎ (end_of u.block ≤ a)

-- each byte of a chunk is the memory's own, but for the usable bytes of live payloads. A byte outside of all chunks may be out
abbrev pub OwnsChunks : Space → State → Type 0
OwnsChunks m s = (a : ℕ) → m.start ≤ a → IsUnlent s a → (c : Range) → IsIn c s.chunks → c.start ≤ a → a < end_of c → is_own (out_at m a) ≡ true

-- The state is well-formed, and in chunks only usable bytes of live payloads may be out. The words in the memory and the class table encode the
-- state. No byte has the address 0
pub record StandsFor (fllen sllen : ℕ) (v : Contents) (s : State) : Type 0 where
  pub nonzero : 0 < v.memory.start
  pub well_formed : IsWellFormed fllen sllen (range_of v.memory) s
  pub sizes : HasSizes v.memory s
  pub previous : HasPrevious v.memory s
  pub payloads : HasPayloads v.memory s
  pub table : HasTable fllen sllen v.memory v.table s.free
  pub own : OwnsChunks v.memory s
