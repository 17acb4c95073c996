-- Shows that a `&` to the owner of a block's bytes reaches each byte. Assumes `Logic`.
use mathlib.Core.List.{[]}
use base.Fml.{Incl-refl}
use denote.RawPtr.{RawPtr}
use denote.Param.Shared.{copy_shared}
use denote.Struct.Laws.{field_copy}
use denote.Struct.Lending.{of_Lends}
use Rattle.core.specs.contracts.marker.PhantomData as marker
use Rattle.rlsf_base.specs.contracts.memory.block.Bytes as C
use Rattle.rlsf_base.proofs.memory.block.Bytes.TheLaw.Statement.{statement}
use Rattle.rlsf_base.proofs.RawBlock.Sharing.{bytes_lent_laws, Lends-bytes}

pub shares : statement
shares = of_Lends C.struct (C.the_codes (marker.the_row RawPtr).coded) C.the_heap C.the_lent
    (λ d p. bytes_lent_laws d.at d.skip d.bytes d.out) (copy_shared (marker.the_field RawPtr) (field_copy (marker.the_type RawPtr) tt), tt)
    (λ M 𝓤 𝓛 d p. Lends-bytes 𝓛 (C.the_row).lives (Incl-refl []) d.at d.skip d.bytes d.out d.units)
