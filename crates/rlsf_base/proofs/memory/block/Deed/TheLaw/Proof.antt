-- Shows that a `&` to a deed holds nothing. Assumes `Logic`.
use denote.RattleType.{RattleType}
use denote.RawPtr.{RawPtr}
use denote.Param.Laws.{Laws}
use denote.Param.Shared.{copy_shared}
use denote.SharingLaws.{nothing_shr_laws}
use denote.Struct.Laws.{field_copy}
use denote.Struct.Lending.{of_Lends, Lends-nothing}
use Rattle.core.specs.declared.alloc.Allocator.{Ghosts}
use Rattle.core.specs.contracts.marker.PhantomData as marker
use Rattle.rlsf_base.specs.contracts.memory.block.Deed as C
use Rattle.rlsf_base.proofs.memory.block.Deed.TheLaw.Statement.{statement}

pub shares : (A : RattleType) (g : Ghosts A.Denot) (P : Laws A) → statement A g P
shares A g P =
    of_Lends (C.struct A g) (C.the_codes A.Denot A.coded (marker.the_row RawPtr).coded) (C.the_heap A g) (C.the_lent A g) (λ d p. nothing_shr_laws)
    (copy_shared (marker.the_field RawPtr) (field_copy (marker.the_type RawPtr) tt), tt) (λ M 𝓤 𝓛 d p. Lends-nothing 𝓛 (C.the_heap A g d) (C.the_row A g).lives)
