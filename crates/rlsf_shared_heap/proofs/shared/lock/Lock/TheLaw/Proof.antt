-- A `&` to a lock is one to the lock of its name.
use base.Fml.{Incl-trans}
use denote.Memory.{part_of}
use denote.RattleType.{RattleType}
use denote.Param.Laws.{Laws}
use Rattle.rlsf_shared_heap.specs.declared.shared.held.Identified as identified
use Rattle.rlsf_shared_heap.proofs.LockRows.{lives_as, row_laws}
use Rattle.rlsf_shared_heap.proofs.shared.lock.Lock.TheLaw.Statement.{statement}

pub shares : (T : RattleType) (g : identified.Ghosts T.Denot) (L : Laws T) → statement T g L
unfolding part_of
shares T g L = record {
  shares = λ M 𝓤 𝓛 d κ ts b o inc sp. (row_laws T g L d).shares 𝓛 (record { value = tt }) κ ts b o (Incl-trans inc (lives_as T g d)) sp;
  shr_laws = λ d. (row_laws T g L d).shr_laws (record { value = tt });
}
