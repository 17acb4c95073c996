-- What the manual proofs share about owners that they take apart: an owner's bytes, the parts of a caller's block, and where units are placed. Assumes `Logic`.
use Rattle.std.proofs.Common.{◌≡◌, ℕ, ◌+◌, ◌^◌, ◌<◌, List, [], ◌∷◌, length, sym, ap, subst, ◌∙◌, arith}
use seplogic.Ra.Ura.{Ura}
use mir.Val.{Val}
use base.Fml.{ftrue, feq}
use base.Logic.{never, id⊢}
use types.Logic.{Logic}
use types.Kit.{Item, Goal, Seq, ‵, ◌⊛◌, ◌$◌, some, use1, pick, drop, move, split, fsplit, flt_l}
use denote.Builtin.{usize}
use denote.Laws.{Is, shows}
use denote.RattleType.{Valss}
use denote.RawPtr.{Ptr, block_ptr, in_a_block, ◌+ₚ◌}
use denote.Steps.{peeks}
use Rattle.rlsf_base.specs.OpenSpace.{Home, place_in}
use Rattle.rlsf_base.specs.Out.{Change, kept_at}
use Rattle.rlsf_base.specs.Steps.Ownership.{bytes_own, held, own_unit, ways_of}
use Rattle.rlsf_base.specs.UnitPayload.{IsUnitPointer, pointer_to}
use Rattle.rlsf_base.specs.declared.memory.view.View.{View}
use Rattle.rlsf_base.proofs.memory.block.RawParts.TheLaws.{lowers as parts_lowers}
use Rattle.rlsf_base.specs.contracts.memory.block.Base as base_type
use Rattle.rlsf_base.specs.contracts.memory.block.Bytes as bytes_type
use Rattle.rlsf_base.specs.contracts.memory.block.RawParts as parts_type

module _ {M : Type 1} {𝓤 : Ura M} {𝓛 : Logic 𝓤} {K : Type 0} {Γ : List (Item 𝓤)} {G : Goal 𝓤 𝓛.H} where
  -- an owner's bytes lie in a block: there they are, with the ways of their units
  pub in_its_block : K → (p : Ptr) (skip : ℕ) (bs : List ℕ) (out : List Change) (units : ℕ)
      → ((b o : ℕ) → p ≡ block_ptr b o → length bs < 2 ^ 63
      → Seq K 𝓛 (‵ (held (kept_at out) 0 bs b (skip + o)) ∷ ‵ (ways_of (own_unit out skip (length bs)) 0 units b o) ∷ Γ) G)
      → Seq K 𝓛 (‵ (bytes_own p skip bs out units) ∷ Γ) G
  in_its_block t p skip bs out units inside =
      in_a_block t p (λ q. bytes_own q skip bs out units) (id⊢ 𝓤 (never 𝓤)) (λ b o e. fsplit t $ flt_l t (λ small. fsplit t $ inside b o e small))

  -- of the parts of a caller's block only the bytes are owned
  pub bytes_of_parts : K → (r : (parts_type.the_row).Denot)
      → (Is parts_type.the_row r (parts_lowers.lowered r ∷ []) → Seq K 𝓛 (‵ (bytes_own r.bytes.at r.bytes.skip r.bytes.bytes r.bytes.out r.bytes.units) ∷ Γ) G)
      → Seq K 𝓛 (‵ ((parts_type.the_row).own_val r (parts_lowers.lowered r ∷ [])) ∷ Γ) G
  bytes_of_parts t r inside =
      peeks t parts_type.the_row (Is parts_type.the_row) (shows 𝓛 parts_type.the_row) r (parts_lowers.lowered r ∷ []) (λ is.
      use1 𝓛 (some (λ (us : Valss (base_type.the_row ∷ usize ∷ usize ∷ bytes_type.the_row ∷ [])). ‵ (feq (List Val) (parts_lowers.lowered r ∷ []) _) ⊛
      (‵ ((base_type.the_row).own_val r.base us.0) ⊛
      (‵ (usize.own_val r.start us.1.0) ⊛ (‵ (usize.own_val r.len us.1.1.0) ⊛ (‵ ((bytes_type.the_row).own_val r.bytes us.1.1.1.0) ⊛ ‵ ftrue)))))) (id⊢ 𝓤 _) $
      pick t (λ us. split t $ drop t $ split t $ drop t $ split t $ drop t $ split t $ drop t $ split t $ fsplit t $ drop t $ move t (1 ∷ []) $ drop t $ inside is))

-- units at a place of a block are placed where the view's pointer points
pub placed_in_block : (view : View) (home : Home) (b o addr place len asked : ℕ) → view.base.ptr ≡ block_ptr b o → place ≡ place_in view addr → asked ≡ len
    → IsUnitPointer home (pointer_to view addr) addr asked → IsUnitPointer home (block_ptr b (place + o)) addr len
placed_in_block view home b o addr place len asked here placed same is =
    let swapped : place + o ≡ o + place = omega arith in
    let pointed : pointer_to view addr ≡ block_ptr b (place + o) =
    ap (λ (k : ℕ). view.base.ptr +ₚ k) (sym placed) ∙ ap (λ (q : Ptr). q +ₚ place) here ∙ ap (λ (k : ℕ). block_ptr b k) (sym swapped) in
    subst (λ (u : Ptr × ℕ). IsUnitPointer home u.0 addr u.1) (λ i. (pointed i, same i)) is
