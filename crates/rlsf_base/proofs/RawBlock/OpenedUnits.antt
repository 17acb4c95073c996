-- Units of 16 bytes are opened to bytes, with a way back for each unit: so any run of units can become room for a type again. Assumes `Logic`.
use Rattle.std.proofs.Common.{◌≡◌, ℕ, zero, suc, ◌+◌, ◌*◌, [], ◌∷◌, refl, ◌∙◌, arith, w8}
use seplogic.Ra.Ura.{Ura}
use mir.Syntax.{w128, ty_int}
use base.Logic.{SProp, ent, sep, apply∗}
use base.Fml.{Fml, ftrue, fsep, fwand, froom}
use prog.Align.{dv_one}
use types.Logic.{Logic, sem}
use types.Kit.{‵, raw, ◌⊛◌, ◌$◌, ◌∵◌, !, qed, by, move, drop, use0, use1, use2, split, fsplit, fjoin, rewrite, done}
use denote.RawPtr.Room.{room_cut, room_glue, past, past_bytes}
use denote.Steps.{nothing}
use Rattle.rlsf_base.specs.Steps.Ownership.{bytes_ty, units_ty}

-- the way back of each of n units from o on
abbrev pub ways : ℕ → ℕ → ℕ → Fml
ways zero b o = ftrue
ways (suc n) b o = fsep (fwand (froom (bytes_ty 16) b o) (froom (ty_int w128) b o)) (ways n b (o + 16))

module _ {M : Type 1} {𝓤 : Ura M} (𝓛 : Logic 𝓤) (b : ℕ) where
  open 𝓛 use {H}

  abbrev Room : ℕ → ℕ → SProp 𝓤
  Room n o = H.room (bytes_ty n) b o

  behind : (m o : ℕ) → past (ty_int w8) m o ≡ m + o
  behind m o = past_bytes m o ∙ omega arith

  pub opened : (n o : ℕ) → ent 𝓤 (H.room (units_ty n) b o) (sep 𝓤 (Room (n * 16) o) (sem 𝓛 (ways n b o)))
  opened zero o = qed 𝓛 (raw (H.room (units_ty zero) b o) ∷ []) ∵ drop ! $ nothing ! $ use0 𝓛 (raw (Room 0 o)) (𝓛.laws.room_nil (ty_int w8) b o) $ done !
  opened (suc n) o =
      qed 𝓛 (raw (H.room (units_ty (suc n)) b o) ∷ []) ∵
      use1 𝓛 (raw (H.room (ty_int w128) b o) ⊛ raw (H.room (units_ty n) b (o + 16))) (𝓛.laws.room_uncons (ty_int w128) n b o) $ split ! $
      use1 𝓛 (raw (Room 16 o) ⊛ ‵ (fwand (froom (bytes_ty 16) b o) (froom (ty_int w128) b o))) (𝓛.laws.room_as (ty_int w128) (bytes_ty 16) b o refl (dv_one 16)) $ split !
      $ move ! (2 ∷ []) $
      use1 𝓛 (raw (Room (n * 16) (o + 16)) ⊛ ‵ (ways n b (o + 16))) (opened n (o + 16)) $ split ! $ move ! (2 ∷ 0 ∷ []) $
      rewrite ! 1 (λ (k : ℕ). raw (Room (n * 16) k)) {x = past (ty_int w8) 16 o} {y = o + 16} (let e : o + 16 ≡ past (ty_int w8) 16 o = omega (arith, behind 16 o) in e) refl $
      use2 𝓛 (raw (Room (16 + n * 16) o)) (room_glue 𝓛 (ty_int w8) 16 (n * 16) b o) $
      rewrite ! 0 (λ (k : ℕ). raw (Room k o)) {x = suc n * 16} {y = 16 + n * 16} (let e : 16 + n * 16 ≡ suc n * 16 = omega arith in e) refl $ move ! (2 ∷ 1 ∷ []) $ fjoin !
      $ move ! (1 ∷ 0 ∷ []) $ done !

  pub closed : (n o : ℕ) → ent 𝓤 (sep 𝓤 (Room (n * 16) o) (sem 𝓛 (ways n b o))) (H.room (units_ty n) b o)
  closed zero o = qed 𝓛 (raw (Room (zero * 16) o) ∷ ‵ (ways zero b o) ∷ []) ∵ drop ! $ drop ! $ by ! (𝓛.laws.room_nil (ty_int w128) b o)
  closed (suc n) o =
      qed 𝓛 (raw (Room (suc n * 16) o) ∷ ‵ (ways (suc n) b o) ∷ []) ∵ move ! (1 ∷ []) $ fsplit ! $ move ! (2 ∷ []) $
      rewrite ! 0 (λ (k : ℕ). raw (Room k o)) {x = 16 + n * 16} {y = suc n * 16} (let e : suc n * 16 ≡ 16 + n * 16 = omega arith in e) refl $
      use1 𝓛 (raw (Room 16 o) ⊛ raw (Room (n * 16) (past (ty_int w8) 16 o))) (room_cut 𝓛 (ty_int w8) 16 (n * 16) b o) $ split ! $
      rewrite ! 1 (λ (k : ℕ). raw (Room (n * 16) k)) {x = o + 16} {y = past (ty_int w8) 16 o} (let e : past (ty_int w8) 16 o ≡ o + 16 = omega (arith, behind 16 o) in e) refl $
      move ! (0 ∷ 2 ∷ []) $ use2 𝓛 (raw (H.room (ty_int w128) b o)) (apply∗ 𝓤 (Room 16 o) (H.room (ty_int w128) b o)) $ move ! (1 ∷ 2 ∷ []) $
      use2 𝓛 (raw (H.room (units_ty n) b (o + 16))) (closed n (o + 16)) $ move ! (1 ∷ 0 ∷ []) $ by ! (𝓛.laws.room_cons (ty_int w128) n b o)
