-- What a `&` to a slot gives, and the right to deallocate a block.
use Rattle.std.specs.Prelude.{ℕ, zero, suc, ◌+◌, ◌-◌, ◌/◌, ◌^◌, ◌<◌, List}
use mir.Syntax.{Ty, Width, w128, ty_int, ty_array}
use mir.Val.{Val, bytes}
use prog.Align.{align_w}
use base.Fraction.{full_share}
use prog.Memory.{size}
use base.Fml.{Lft, Fml, ftrue, fsep, fex, ffalse, froom, fwand}
use denote.RattleType.{RattleType}
use denote.Memory.{cell_at}
use denote.RawPtr.{Ptr, block_ptr, null_ptr}
use denote.Sharing.{said}
use denote.Hidden.{guarded}
use Rattle.rlsf_base.specs.Ledger.{extent, ticket_owns}
use Rattle.rlsf_base.specs.UnitPayload.{IsUnitPointer}
use Rattle.rlsf_heap.specs.Heap.{Identity}
use Rattle.rlsf_heap.specs.Units.{payload_len}

module _ (F : RattleType) (I : F.Denot → Fml) where
  -- fields of which I holds, in memory
  abbrev pub fields_with : ℕ → ℕ → Fml
  fields_with b o = fex (List Val) (λ vs. fsep (cell_at full_share F.mir vs b o) (fex F.Denot (λ i. fsep (F.own_val i vs) (I i))))

  -- they are reached with the thread's token, and I holds again afterwards
  abbrev pub behind_a_ref : Ptr → Lft → Fml
  behind_a_ref (block_ptr b o) = guarded (b, o) (fields_with b o)
  behind_a_ref null_ptr = said ffalse

-- n integers of w bytes
abbrev pub grains : Width → ℕ → Ty
grains w n = ty_array (ty_int w) n

-- the way back of each of n units from o on: from integers of w bytes to room that is aligned to 16
abbrev pub ways_back : Width → ℕ → ℕ → ℕ → Fml
ways_back w zero b o = ftrue
ways_back w (suc n) b o = fsep (fwand (froom (grains w (16 / bytes w)) b o) (froom (ty_int w128) b o)) (ways_back w n b (o + 16))

-- what a block has beside its first n bytes, of a payload of m bytes at p: room for the others, as integers of w bytes, and the ways of its units
abbrev pub beside_value : Width → ℕ → ℕ → Ptr → Fml
beside_value w n m (block_ptr b o) = fsep (froom (grains w ((m - n) / bytes w)) b (o + n)) (ways_back w (m / 16) b o)
beside_value w n m null_ptr = ffalse

-- what the payload of a block for a τ at p has beside the τ
abbrev pub block_beside : Ty → Ptr → Fml
block_beside τ p = beside_value (align_w τ) (size τ) (payload_len (size τ)) p

-- the right to deallocate a block for a τ at p: the ticket for the payload that holds it, and what that payload has beside the τ
abbrev pub block_token : Identity → Ty → Ptr → Fml
block_token h τ p = fex ℕ (λ start. fex ℕ (λ key. fex (IsUnitPointer h.home p start (payload_len (size τ)) × (size τ < 2 ^ 63)) (λ _.
    fsep (ticket_owns h.ledger key (extent start (payload_len (size τ)) 16)) (block_beside τ p))))
