-- What is true of every reachable state of the reference model that asks a source for memory.
use Rattle.std.specs.Prelude.{◌≡◌, ℕ, ◌+◌, ◌≤◌, ◌<◌, ◌||◌, true, List, [], ◌∷◌, Option, Some, None}
use Rattle.rlsf_base.specs.declared.memory.range.Range.{Range}
use Rattle.rlsf_base.specs.Range.{end_of, LiesIn}
use Rattle.rlsf_model_sizes.specs.Rounding.{round32}
use Rattle.rlsf_model.specs.ChunkRows.{IsRow}
use Rattle.rlsf_model.specs.FlexState.{FlexState, KeptPool}
use Rattle.rlsf_model.specs.Insert.{IsClear}
use Rattle.rlsf_model.specs.Lists.{IsIn}
use Rattle.rlsf_model.specs.State.{State, between}
use Rattle.rlsf_model.specs.Terms.{Terms}
use Rattle.rlsf_model.specs.WellFormed.{coverage, itself, IsWellFormed}

-- the ranges that are outstanding: they lie in the space, each has room for a chunk, and no two overlap
pub record AreOutstanding (space : Range) (pools : List Range) : Type 0 where
  pub in_space : (p : Range) → IsIn p pools → LiesIn p space.start space.len
  pub long : (p : Range) → IsIn p pools → 64 ≤ p.len
  pub disjoint : (a : ℕ) → coverage itself pools a ≤ 1

-- the chunk lies in one of the ranges
abbrev pub IsHoused : List Range → Range → Type 0
IsHoused pools c = (p : Range) × IsIn p pools × (p.start ≤ c.start) × (end_of c ≤ end_of p)

-- each of the chunks lies in one of the ranges
abbrev pub AreHoused : List Range → List Range → Type 0
AreHoused pools chunks = (c : Range) → IsIn c chunks → IsHoused pools c

-- The kept pool is the newest range, up to the end of a chunk there. Fewer than 64 bytes are left behind it, and none of
-- these is in a chunk.
pub record IsKeptPool (t : Terms) (k : KeptPool) (pools chunks : List Range) : Type 0 where
  pub rest : List Range
  pub split : pools ≡ k.range ∷ rest
  pub keeping : (t.dealloc || t.grow) ≡ true
  pub within : k.len ≤ k.range.len
  pub nearly : k.range.len < k.len + 64
  pub last : (c : Range) × IsIn c chunks × (end_of c ≡ k.range.start + k.len)
  pub unused : IsClear (between (k.range.start + k.len) (end_of k.range)) chunks

-- A range has a pool of so many bytes: its chunks are a row from its start rounded up to 32 on, up to that many bytes behind the start.
-- Fewer than 64 bytes are left behind them, and none of these is in a chunk.
pub record IsPool (s : State) (range : Range) (len : ℕ) : Type 0 where
  pub some : round32 range.start < range.start + len
  pub within : len ≤ range.len
  pub nearly : range.len < len + 64
  pub row : IsRow s (between (round32 range.start) (range.start + len))
  pub unused : IsClear (between (range.start + len) (end_of range)) s.chunks

-- so has each of some ranges
abbrev pub ArePools : State → List Range → Type 0
ArePools s ranges = (p : Range) → IsIn p ranges → (len : ℕ) × IsPool s p len

-- none is kept where there is none, or where the source can neither grow a range nor take one back
abbrev pub IsNewest : Terms → Option KeptPool → List Range → List Range → Type 0
IsNewest t None pools chunks = (t.dealloc || t.grow) ≡ true → pools ≡ []
IsNewest t (Some k) pools chunks = IsKeptPool t k pools chunks

-- The reference model's own state is well-formed. The source's space lies in the memory. The ranges are outstanding there and house
-- all chunks, each as a pool of its own. The kept pool is the newest range.
pub record IsFlexWellFormed (fllen sllen : ℕ) (memory : Range) (t : Terms) (s : FlexState) : Type 0 where
  pub machine : IsWellFormed fllen sllen memory s.machine
  pub space : LiesIn t.space memory.start memory.len
  pub pools : AreOutstanding t.space s.pools
  pub housed : AreHoused s.pools s.machine.chunks
  pub newest : IsNewest t s.kept s.pools s.machine.chunks
  pub pooled : ArePools s.machine s.pools
