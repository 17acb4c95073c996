-- A chunk grows: for a while what it has more is a used block.
use Rattle.std.specs.Prelude.{◌≡◌, ℕ, ◌+◌, ◌-◌, ◌%◌, ◌<◌, List, ◌∷◌, None, Some, find}
use Rattle.rlsf_base.specs.declared.memory.range.Range.{Range}
use Rattle.rlsf_base.specs.Range.{end_of, range_at}
use Rattle.rlsf_model_sizes.specs.Sizes.{max_pool_size}
use Rattle.rlsf_base.specs.Space.{Space, range_of}
use Rattle.rlsf_table.specs.Table.{Table}
use Rattle.rlsf_blocks.specs.StandsFor.{contents, StandsFor}
use Rattle.rlsf_model.specs.Insert.{IsFresh}
use Rattle.rlsf_model.specs.Join.{ends_at}
use Rattle.rlsf_model.specs.Lists.{without}
use Rattle.rlsf_model.specs.State.{State, Used}

-- a chunk can grow by so many bytes: it is found by its end, the bytes behind it are fresh, and chunks have no greatest length
pub record IsExtensible (fllen : ℕ) (memory : Range) (s : State) (c : Range) (n : ℕ) : Type 0 where
  pub unlimited : max_pool_size fllen ≡ None
  pub found : find (ends_at (end_of c)) s.chunks ≡ Some c
  pub some : 0 < n
  pub whole : n % 32 ≡ 0
  pub fresh : IsFresh memory s (range_at (end_of c) n)

-- this is true of the chunk that ends at the address and can grow by so many bytes, in each represented state
abbrev pub AtEachExtensible : ℕ → ℕ → Space → Table → ℕ → ℕ → (State → Range → Type 0) → Type 0
AtEachExtensible fllen sllen m t end n P = (s : State) (c : Range) → StandsFor fllen sllen (contents m t) s → IsExtensible fllen (range_of m) s c n → end_of c ≡ end
    → P s c

-- the used block of n bytes from a chunk's last 32 bytes on
abbrev pub more_block : Range → ℕ → List ℕ → Used
more_block c n bytes = record { block = range_at (end_of c - 32) n; payload = end_of c - 16; align = 1; bytes = bytes }

-- the chunk c grows by n bytes: its old last 32 bytes and the new bytes but the last 32 are a used block
abbrev pub lengthened : Range → ℕ → List ℕ → State → State
lengthened c n bytes s = record {
  chunks = range_at c.start (c.len + n) ∷ without (ends_at (end_of c)) s.chunks;
  used = more_block c n bytes ∷ s.used;
  free = s.free;
}
