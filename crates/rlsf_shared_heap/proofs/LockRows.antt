-- The laws of a lock, as it lies in memory.
use denote.RattleType.{RattleType}
use denote.Param.Laws.{Laws}
use Rattle.rlsf_heap.specs.Heap.{Identity}
use Rattle.rlsf_shared_heap.specs.Locks.{lock_row}
use mathlib.Core.List.{[], ◌++◌, mem-append_left, not-mem-nil}
use base.Fml.{Lft, Incl}
use base.Meet.{within_both}
use denote.Param.Send.{IsSend, IsSync, sendable}
use Rattle.core.proofs.sync.Sent.{Mutex-send, Mutex-sync}
use Rattle.core.specs.contracts.marker.Brand as brand
use Rattle.core.specs.contracts.sync.Mutex as mutex
use Rattle.core.specs.contracts.mem.manually_drop.ManuallyDrop as manually
use Rattle.core.proofs.marker.Brand.TheLaws as brand_laws
use Rattle.core.proofs.sync.Mutex.TheLaws as mutex_laws
use Rattle.core.proofs.mem.manually_drop.ManuallyDrop.TheLaws as manually_laws
use Rattle.rlsf_shared_heap.specs.contracts.shared.held.Held as held
use Rattle.rlsf_shared_heap.specs.declared.shared.held.Identified as identified
use Rattle.rlsf_shared_heap.specs.declared.shared.held.Named as named
use Rattle.rlsf_shared_heap.proofs.shared.held.Held.TheLaws as held_laws
use Rattle.rlsf_shared_heap.specs.contracts.shared.lock.Lock as lock

-- the mutex of a name, not to be dropped
abbrev pub mutex_row : (T B : RattleType) → identified.Ghosts T.Denot → named.Ghosts B.Denot → RattleType
mutex_row T B g g' = manually.the_row (mutex.the_row (held.the_row T B g g'))

pub mutex_laws_of : (T B : RattleType) (g : identified.Ghosts T.Denot) (g' : named.Ghosts B.Denot) → Laws T → Laws B → Laws (mutex_row T B g g')
mutex_laws_of T B g g' LT LB =
    let H : RattleType = held.the_row T B g g' in
    manually_laws.the_row_laws (mutex.the_row H) (mutex_laws.the_row_laws H (held_laws.the_row_laws T B g g' LT LB))

pub row_laws : (T : RattleType) (g : identified.Ghosts T.Denot) → Laws T → (i : Identity) → Laws (lock_row T g.identity i)
row_laws T g L i = mutex_laws_of T brand.the_row g (record { name = i }) L brand_laws.the_row_laws

-- ---- a lock lives as long as its value

none : (κ : Lft) → Incl κ []
none κ a m = absurd (not-mem-nil m)

alone : (κ ν : Lft) → Incl κ ν → Incl κ (ν ++ [])
alone κ ν h = within_both κ ν [] h (none κ)

twice : (κ ν : Lft) → Incl κ ν → Incl κ ((ν ++ []) ++ (ν ++ []))
twice κ ν h = within_both κ (ν ++ []) (ν ++ []) (alone κ ν h) (alone κ ν h)

module _ (T : RattleType) (g : identified.Ghosts T.Denot) (i : Identity) where
  first : Incl (lock.the_written T g).lives T.lives
  first a m = mem-append_left _ (mem-append_left [] m)

  pub lives_as : Incl (lock.the_written T g).lives (lock_row T g.identity i).lives
  lives_as =
      let κ : Lft = (lock.the_written T g).lives in
      let h : Incl κ ((T.lives ++ []) ++ (T.lives ++ [])) = twice κ T.lives first in
      let u = twice κ _ h in
      let m = within_both κ _ _ (alone κ _ h) (alone κ _ u) in
      twice κ _ m

-- ---- a lock may cross threads, and be used in several, where its value may cross

module _ (T : RattleType) (g : identified.Ghosts T.Denot) (s : IsSend T) (i : Identity) where
  abbrev H : RattleType
  H = held.the_row T brand.the_row g (record { name = i })

  held_send : IsSend H
  held_send = search denote.Param.Send.sendable depth 20

  mutex_sent : IsSend (mutex.the_row H)
  mutex_sent = Mutex-send H held_send

  mutex_shared : IsSync (mutex.the_row H)
  mutex_shared = Mutex-sync H held_send

  pub row_send : IsSend (lock_row T g.identity i)
  row_send = let sent : IsSend (mutex.the_row H) = mutex_sent in search denote.Param.Send.sendable depth 20

  pub row_sync : IsSync (lock_row T g.identity i)
  row_sync = let shared : IsSync (mutex.the_row H) = mutex_shared in search denote.Param.Send.sendable depth 20

pub lock_send : (T : RattleType) (g : identified.Ghosts T.Denot) → IsSend T → IsSend (lock.the_row T g)
lock_send T g s = record { owned = λ i vs. ((λ _. tt), (row_send T g s i).owned (record { value = tt }) vs); leaving = λ k d w. tt }

pub lock_sync : (T : RattleType) (g : identified.Ghosts T.Denot) → IsSend T → IsSync (lock.the_row T g)
lock_sync T g s = record { shared = λ i b o κ. (row_sync T g s i).shared (record { value = tt }) b o κ }
