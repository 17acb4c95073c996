-- What the calls on a core require and ensure that give a payload another size without moving it.
use Rattle.std.specs.Prelude.{◌≡◌, ◌≢◌, ◌≤◌, ℕ, Bool, true, false, Option, Some, None}
use Rattle.rlsf_base.specs.Space.{Space}
use Rattle.rlsf_model.specs.Callers.{align_at, bytes_at}
use Rattle.rlsf_model.specs.Sized.{IsSizedFor, live_count}
use Rattle.rlsf_model.specs.State.{Holds, State, Used}
use Rattle.rlsf_table.specs.Counts.{Counts}
use Rattle.rlsf_table.specs.Table.{Table}
use Rattle.rlsf_blocks.specs.Steps.Resize.{IsOwnedBehind}

-- a used block, which begins at `block`, has the payload at the address, and its bytes behind its end of that size are the memory's own
abbrev pub IsOwnBehind : Space → State → ℕ → ℕ → ℕ → Type 0
IsOwnBehind m s addr block size = (u : Used) × Holds s addr u × (u.block.start ≡ block) × IsOwnedBehind m u size

-- the address of a payload that got another size, or none if it kept its own
abbrev pub stayed_if : Bool → ℕ → Option ℕ
stayed_if true addr = Some addr
stayed_if false addr = None

-- what of the payloads a call keeps that may give the one at the address another size
pub record KeepsPayloadsResizing (before after : State) (addr : ℕ) : Type 0 where
  -- all payloads have their addresses and alignments
  pub aligns : align_at after ≡ align_at before
  -- the other payloads have the bytes that they had
  pub bytes : (a : ℕ) → a ≢ addr → bytes_at after a ≡ bytes_at before a
  -- as many payloads are live as before
  pub count : live_count after ≡ live_count before
  -- the chunks
  pub chunks : after.chunks ≡ before.chunks

-- it stays sized for all bounds that include this size, and the alignment of the payload at the address
abbrev pub KeepsBoundsThere : ℕ → State → State → ℕ → ℕ → Type 0
KeepsBoundsThere sllen before after addr size =
    (count most widest align : ℕ) → IsSizedFor sllen count most widest before → align_at before addr ≡ Some align → size ≤ most → align ≤ widest
    → IsSizedFor sllen count most widest after

-- a refused call changes nothing of a core but the number of word accesses
pub record KeepsCore (m n : Space) (x y : Table) (s t : State) (most : ℕ) : Type 0 where
  -- no byte of the memory
  pub counts : Counts m n most
  -- nor the class table
  pub table : y ≡ x
  -- nor what is kept of the state
  pub state : t ≡ s
