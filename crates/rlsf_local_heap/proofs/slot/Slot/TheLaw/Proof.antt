-- A `&` to it is a borrow of the whole, which the thread's token opens. Assumes `Logic`.
use mathlib.Core.List.{[], ◌∷◌}
use base.Fraction.{full_share}
use base.Fml.{fbor}
use types.Logic.{lfts}
use types.Kit.{‵, raw, later, ◌$◌, ◌∵◌, !, qed, use1, await, updating, now, done}
use types.Na.{na_bor, bor_na}
use denote.Memory.{part_at, part_of}
use denote.RattleType.{RattleType}
use denote.Param.Laws.{Laws}
use Rattle.rlsf_local_heap.specs.declared.slot.Identified.{Ghosts}
use denote.Hidden.{guarded_shr_laws}
use Rattle.rlsf_local_heap.specs.contracts.slot.Slot as C
use Rattle.rlsf_local_heap.proofs.slot.Slot.TheLaw.Statement.{statement}

pub shares : (T : RattleType) (g : Ghosts T.Denot) (L : Laws T) → statement T g L
unfolding part_of
shares T g L = record {
  shr_laws = λ d b o. guarded_shr_laws (b, o) (part_at (C.the_written T g) full_share d b o);
  shares = λ M 𝓤 𝓛 d κ ts b o inc sp.
      let P = part_at (C.the_written T g) full_share d b o in
      qed 𝓛 (‵ (fbor κ P) ∷ raw (lfts 𝓛 ts) ∷ []) ∵ updating ! $ use1 𝓛 (later (‵ (na_bor κ (b, o) P))) (bor_na 𝓛 κ (b, o) P) $ await ! tt $ now ! $
      done !;
}
