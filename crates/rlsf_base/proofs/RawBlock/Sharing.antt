-- A `&` to bytes is made where one to each of them is. Assumes `Logic`.
use Rattle.std.proofs.Common.{ℕ, suc, ◌+◌, ◌^◌, List, [], ◌∷◌, length, w8, refl}
use seplogic.Ra.Ura.{Ura}
use mir.Syntax.{ty_int}
use base.Fml.{Lft, Incl, Fml, ftrue, ffalse, fsep, flt, froom}
use types.Logic.{Logic}
use denote.Builtin.{u8}
use denote.Plain.{uint_row_laws}
use denote.Param.Laws.{Laws, of_field}
use denote.Param.Shared.{copy_shared}
use denote.RawPtr.{Ptr, block_ptr, null_ptr}
use denote.Sharing.{ShrLaws, said}
use denote.SharingLaws.{nothing_shr_laws, beside_shr_laws, said_shr_laws}
use denote.Shares.{Shares-less}
use denote.Struct.Field.{u8-field}
use denote.Struct.Laws.{u8-laws, u8-copy}
use denote.Struct.Lending.{Lends, Lends-both, Lends-first, Lends-nothing, Lends-said, Lends-false}
use Rattle.rlsf_base.specs.Out.{Change, Kept, here, raw, out, kept_at}
use Rattle.rlsf_base.specs.Steps.Ownership.{byte_in, held, byte_shown, bytes_shown, ways_of, own_unit, bytes_own, bytes_lent}

u8_laws : Laws u8
u8_laws = of_field u8-field u8-laws refl (copy_shared u8-field u8-copy)

byte_laws : (t : Kept) (x b o : ℕ) → ShrLaws (byte_shown t x b o)
byte_laws here x b o = uint_row_laws w8 x b o
byte_laws raw x b o = nothing_shr_laws
byte_laws out x b o = nothing_shr_laws

shown_laws : (is : ℕ → Kept) (k : ℕ) (xs : List ℕ) (b o : ℕ) → ShrLaws (bytes_shown is k xs b o)
shown_laws is k [] b o = nothing_shr_laws
shown_laws is k (x ∷ xs) b o = beside_shr_laws (byte_shown (is k) x b o) (bytes_shown is (suc k) xs b (o + 1)) (byte_laws (is k) x b o) (shown_laws is (suc k) xs b (o + 1))

pub bytes_lent_laws : (p : Ptr) (skip : ℕ) (bs : List ℕ) (cs : List Change) → ShrLaws (bytes_lent p skip bs cs)
bytes_lent_laws (block_ptr b o) skip bs cs =
    let small : Fml = flt (length bs) (2 ^ 63) in
    beside_shr_laws (said small) (bytes_shown (kept_at cs) 0 bs b (skip + o)) (said_shr_laws small tt) (shown_laws (kept_at cs) 0 bs b (skip + o))
bytes_lent_laws null_ptr skip bs cs = said_shr_laws ffalse tt

module _ {M : Type 1} {𝓤 : Ura M} (𝓛 : Logic 𝓤) (l : Lft) (inc : Incl l u8.lives) where
  Lends-byte : (t : Kept) (x b o : ℕ) → Lends 𝓛 (byte_in t x b o) (byte_shown t x b o) l
  Lends-byte here x b o = λ κ ts. Shares-less 𝓛 u8 u8.lives l inc (u8_laws.shares 𝓛) x κ ts b o
  Lends-byte raw x b o = Lends-nothing 𝓛 (froom (ty_int w8) b o) l
  Lends-byte out x b o = Lends-nothing 𝓛 ftrue l

  Lends-held : (is : ℕ → Kept) (k b o : ℕ) (bs : List ℕ) → Lends 𝓛 (held is k bs b o) (bytes_shown is k bs b o) l
  Lends-held is k b o [] = Lends-nothing 𝓛 ftrue l
  Lends-held is k b o (x ∷ bs) =
      Lends-both 𝓛 (byte_in (is k) x b o) (held is (suc k) bs b (o + 1)) (byte_shown (is k) x b o) (bytes_shown is (suc k) bs b (o + 1)) l
      (Lends-byte (is k) x b o) (Lends-held is (suc k) b (o + 1) bs)

  -- the ways show nothing
  pub Lends-bytes : (p : Ptr) (skip : ℕ) (bs : List ℕ) (cs : List Change) (units : ℕ) → Lends 𝓛 (bytes_own p skip bs cs units) (bytes_lent p skip bs cs) l
  Lends-bytes (block_ptr b o) skip bs cs units =
      let small : Fml = flt (length bs) (2 ^ 63) in let bytes : Fml = held (kept_at cs) 0 bs b (skip + o) in let the_ways : Fml =
      ways_of (own_unit cs skip (length bs)) 0 units b o in
      Lends-both 𝓛 small (fsep bytes the_ways) (said small) (bytes_shown (kept_at cs) 0 bs b (skip + o)) l (Lends-said 𝓛 small tt l)
      (Lends-first 𝓛 bytes the_ways (bytes_shown (kept_at cs) 0 bs b (skip + o)) l (Lends-held (kept_at cs) 0 b (skip + o) bs))
  Lends-bytes null_ptr skip bs cs units = Lends-false 𝓛 (said ffalse) l
