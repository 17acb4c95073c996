-- What a lock owns and shares: what a mutex does whose value has the lock's identity.
use Rattle.std.specs.Prelude.{List}
use base.Fml.{Lft, Fml, ffalse}
use mir.Val.{Val}
use denote.RattleType.{RattleType}
use denote.RawPtr.{Ptr, block_ptr, null_ptr}
use denote.Sharing.{said}
use Rattle.core.specs.contracts.marker.Brand as brand
use Rattle.core.specs.contracts.sync.Mutex as mutex
use Rattle.core.specs.contracts.mem.manually_drop.ManuallyDrop as manually
use Rattle.rlsf_heap.specs.Heap.{Identity}
use Rattle.rlsf_shared_heap.specs.contracts.shared.held.Held as held

-- the mutex of an identity, as it lies in memory
abbrev pub lock_row : (T : RattleType) → (T.Denot → Identity) → Identity → RattleType
lock_row T identity i = manually.the_row (mutex.the_row (held.the_row T brand.the_row (record { identity = identity }) (record { name = i })))

-- what such a lock owns
abbrev pub lock_owns : (T : RattleType) → (T.Denot → Identity) → Identity → List Val → Fml
lock_owns T identity i = (lock_row T identity i).own_val (record { value = tt })

-- what a `&` to it holds
abbrev pub lock_shares : (T : RattleType) → (T.Denot → Identity) → Identity → Ptr → Lft → Fml
lock_shares T identity i (block_ptr b o) = (lock_row T identity i).shr_at (record { value = tt }) b o
lock_shares T identity i null_ptr = said ffalse
