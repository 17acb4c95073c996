-- The code of an export: it makes a reference of its pointer, passes it on with the other arguments, and returns what the call returned.
use Rattle.rlsf_c_lemmas.proofs.Walking.{ℕ, List, [], ◌∷◌, refl, w64, id⊢, vptr, Val, WpFn, fact, raw, ◌⊛◌, later, ◌$◌, ◌∵◌, !, qed, done, move, use1}
use Rattle.rlsf_c_lemmas.proofs.Walking.{split, await, enter, of_opd, addr, stop, no_more, and_then, returns, alloc_all, pass_all, free_all, look_at, get, through, sets, lands_as}
use Rattle.rlsf_c_lemmas.proofs.Walking.{heard, named}
use Rattle.rlsf_c_lemmas.proofs.Parameters.{Parameters, none, numbers, mutable, shared}
use Prim.Native.Nat.{zero, suc, ◌+◌}
use base.Logic.{SProp, ent, sep}
use lib.Dec.{T}
use mir.Syntax.{Ty, ty_ptr, ty_int, ty_ref, mut, imm, erased, Local, local, value_local, Callee, Fn, Opd, Body, place, copy, assign, seq, call, return, rv_opd}
use mir.Syntax.{addr_of, aggregate, deref, field}
use mir.Val.{has_ty, WT}
use prog.Wp.{Calls, Loops}
use seplogic.Ra.Ura.{Ura}
use sound.WpLaws.{FmC}
use types.ByLocal.{get_in, look_in_at}
use types.Logic.{Logic}
use types.Part.{agg, sub, whole}
use types.Run.{fld, from, hop}
use denote.Memory.{lone, pointee}
use denote.RattleType.{RattleType}
use denote.Slice.{slice_ty}
use denote.Triple.Call.{calls_from}

abbrev words : ℕ → List Local → List Local
words zero ls = ls
words (suc n) ls = local (ty_int w64) value_local ∷ words n ls

-- the locals from i on
abbrev copies : ℕ → ℕ → List Opd → List Opd
copies i zero xs = xs
copies i (suc n) xs = copy (place i []) ∷ copies (i + 1) n xs

-- The function has ls lifetimes, n arguments after its pointer, and these locals. Local i is for the pointer, and the next for the reference. What
-- lies behind the handle has the type ρ.
abbrev function : ℕ → ℕ → List Local → ℕ → Ty → Body → Fn
function ls n locals i ρ rest = record {
  lifetimes = ls;
  outlives = [];
  ty_params = [];
  givens = 0;
  params = n + 1;
  locals = locals;
  body = seq (assign (place i []) (rv_opd (copy (place 1 [])))) (seq (assign (place (i + 1) []) (addr_of (place i (deref ρ ∷ [])))) rest);
}

-- a pointer, and a reference to what has the type ν there
abbrev pointers : Ty → List Local → List Local
pointers ν ls = local ty_ptr value_local ∷ local (ty_ref erased mut ν) value_local ∷ ls

-- n numbers, and a result of the type τ
abbrev pub passing : ℕ → Ty → Ty → Ty → Callee → Fn
passing n τ ρ ν callee = function 0 n (local τ value_local ∷ local ty_ptr value_local ∷ words n (pointers ν [])) (n + 2) ρ
    (seq (call callee (copy (place (n + 3) []) ∷ copies 2 n []) (place 0 [])) return)

-- n numbers and a slice of E that the call reads
abbrev pub passing_shared : RattleType → ℕ → Ty → Ty → Ty → Callee → Fn
passing_shared E n τ ρ ν callee =
    function 1 (n + 1)
    (local τ value_local ∷ local ty_ptr value_local ∷ words n (local (slice_ty (ty_ref (named 0) imm (pointee E.written))) value_local ∷ pointers ν [])) (n + 3) ρ
    (seq (call callee (copy (place (n + 4) []) ∷ copies 2 (n + 1) []) (place 0 [])) return)

-- n numbers and a slice of E that the call may change, which is lent again
abbrev pub passing_mutable : RattleType → ℕ → Ty → Ty → Ty → Callee → Fn
passing_mutable E n τ ρ ν callee =
    function 1 (n + 1)
    (local τ value_local ∷ local ty_ptr value_local ∷ words n (local (slice_ty (ty_ref (named 0) mut (pointee E.written))) value_local
    ∷ pointers ν (local (ty_ref erased mut (pointee E.written)) value_local ∷ local (slice_ty (ty_ref erased mut (pointee E.written))) value_local ∷ []))) (n + 3) ρ
    (seq (assign (place (n + 5) []) (addr_of (place (n + 2) (field 0 ∷ deref (lone E.mir) ∷ []))))
    (seq (assign (place (n + 6) []) (aggregate (copy (place (n + 5) []) ∷ copy (place (n + 2) (field 1 ∷ [])) ∷ [])))
    (seq (call callee (copy (place (n + 4) []) ∷ copies 2 n (copy (place (n + 6) []) ∷ [])) (place 0 [])) return)))

module _ {M : Type 1} {𝓤 : Ura M} (𝓛 : Logic 𝓤) (C : Calls 𝓤 𝓛.H) (Λ : Loops 𝓤 𝓛.H) (callee : Callee) (τ : Ty) where
  -- the function does what the call does, where ghost state is updated before and after it
  abbrev pub PassesOn : {m : ℕ} → Parameters 𝓛 m → Fn → Type 2
  PassesOn Q code = (b o : ℕ) (x : Q.Read) → Q.Fit x → (before : SProp 𝓤) (after post : Val → SProp 𝓤)
      → ent 𝓤 before (𝓛.H.⇛ (C callee (vptr b o ∷ Q.machine x) after))
      → ((v : Val) → ent 𝓤 (after v) (𝓛.H.⇛ (sep 𝓤 (post v) (fact 𝓤 (T (has_ty τ v) × WT v)))))
      → ent 𝓤 before (WpFn 𝓤 𝓛.H C Λ code (vptr b o ∷ Q.machine x) post)

  module _ (framed : FmC 𝓤 𝓛.H 𝓛.laws C) (ρ ν : Ty) where
    pub passes0 : PassesOn {m = 0} none (passing 0 τ ρ ν callee)
    passes0 b o x fit before after post calls back =
        qed 𝓛 (raw before ∷ []) ∵ enter ! _ _ _ _ _ $ alloc_all ! (λ l. pass_all ! refl ((tt, tt), tt) $
        sets ! (of_opd ! (get ! refl)) refl (tt, tt) $ sets ! (addr ! (through ! refl (stop !))) refl (tt, tt) $
        use1 𝓛 (later (raw (C callee (vptr b o ∷ (numbers {𝓛 = 𝓛} {m = 0} 0 none).machine x) after))) calls $ await ! tt $
        calls_from ! framed _ _ after (id⊢ 𝓤 _) (and_then ! (get ! refl) (no_more !)) (λ v.
        use1 𝓛 (later (raw (post v) ⊛ raw (fact 𝓤 (T (has_ty τ v) × WT v)))) (back v) $ await ! tt $ split ! $ move ! (1 ∷ []) $ heard ! _ (λ typed.
        lands_as ! refl refl typed $ returns ! (look_at ! 0 refl) $ free_all ! refl $ done !)))

    pub passes1 : PassesOn {m = 0} (numbers 1 none) (passing 1 τ ρ ν callee)
    passes1 b o x fit before after post calls back =
        qed 𝓛 (raw before ∷ []) ∵ enter ! _ _ _ _ _ $ alloc_all ! (λ l. pass_all ! refl ((tt, tt), ((tt, fit.0), tt)) $
        sets ! (of_opd ! (get ! refl)) refl (tt, tt) $ sets ! (addr ! (through ! refl (stop !))) refl (tt, tt) $
        use1 𝓛 (later (raw (C callee (vptr b o ∷ (numbers {𝓛 = 𝓛} {m = 0} 1 none).machine x) after))) calls $ await ! tt $
        calls_from ! framed _ _ after (id⊢ 𝓤 _) (and_then ! (get ! refl) (and_then ! (get ! refl) (no_more !))) (λ v.
        use1 𝓛 (later (raw (post v) ⊛ raw (fact 𝓤 (T (has_ty τ v) × WT v)))) (back v) $ await ! tt $ split ! $ move ! (1 ∷ []) $ heard ! _ (λ typed.
        lands_as ! refl refl typed $ returns ! (look_at ! 0 refl) $ free_all ! refl $ done !)))

    pub passes2 : PassesOn {m = 0} (numbers 2 none) (passing 2 τ ρ ν callee)
    passes2 b o x fit before after post calls back =
        qed 𝓛 (raw before ∷ []) ∵ enter ! _ _ _ _ _ $ alloc_all ! (λ l. pass_all ! refl ((tt, tt), ((tt, fit.0), ((tt, fit.1.0), tt))) $
        sets ! (of_opd ! (get ! refl)) refl (tt, tt) $ sets ! (addr ! (through ! refl (stop !))) refl (tt, tt) $
        use1 𝓛 (later (raw (C callee (vptr b o ∷ (numbers {𝓛 = 𝓛} {m = 0} 2 none).machine x) after))) calls $ await ! tt $
        calls_from ! framed _ _ after (id⊢ 𝓤 _) (and_then ! (get ! refl) (and_then ! (get ! refl) (and_then ! (get ! refl) (no_more !)))) (λ v.
        use1 𝓛 (later (raw (post v) ⊛ raw (fact 𝓤 (T (has_ty τ v) × WT v)))) (back v) $ await ! tt $ split ! $ move ! (1 ∷ []) $ heard ! _ (λ typed.
        lands_as ! refl refl typed $ returns ! (look_at ! 0 refl) $ free_all ! refl $ done !)))

    pub passes3 : PassesOn {m = 0} (numbers 3 none) (passing 3 τ ρ ν callee)
    passes3 b o x fit before after post calls back =
        qed 𝓛 (raw before ∷ []) ∵ enter ! _ _ _ _ _ $ alloc_all ! (λ l. pass_all ! refl ((tt, tt), ((tt, fit.0), ((tt, fit.1.0), ((tt, fit.1.1.0), tt)))) $
        sets ! (of_opd ! (get ! refl)) refl (tt, tt) $ sets ! (addr ! (through ! refl (stop !))) refl (tt, tt) $
        use1 𝓛 (later (raw (C callee (vptr b o ∷ (numbers {𝓛 = 𝓛} {m = 0} 3 none).machine x) after))) calls $ await ! tt $
        calls_from ! framed _ _ after (id⊢ 𝓤 _) (and_then ! (get ! refl) (and_then ! (get ! refl) (and_then ! (get ! refl) (and_then ! (get ! refl) (no_more !))))) (λ v.
        use1 𝓛 (later (raw (post v) ⊛ raw (fact 𝓤 (T (has_ty τ v) × WT v)))) (back v) $ await ! tt $ split ! $ move ! (1 ∷ []) $ heard ! _ (λ typed.
        lands_as ! refl refl typed $ returns ! (look_at ! 0 refl) $ free_all ! refl $ done !)))

    pub passes_shared2 : (E : RattleType) → PassesOn (numbers 2 (shared E)) (passing_shared E 2 τ ρ ν callee)
    passes_shared2 E b o x fit before after post calls back =
        qed 𝓛 (raw before ∷ []) ∵ enter ! _ _ _ _ _ $ alloc_all ! (λ l. pass_all ! refl ((tt, tt), ((tt, fit.0), ((tt, fit.1.0), ((tt, (tt, (fit.1.1, tt))), tt)))) $
        sets ! (of_opd ! (get ! refl)) refl (tt, tt) $ sets ! (addr ! (through ! refl (stop !))) refl (tt, tt) $
        use1 𝓛 (later (raw (C callee (vptr b o ∷ (numbers {𝓛 = 𝓛} 2 (shared E)).machine x) after))) calls $ await ! tt $
        calls_from ! framed _ _ after (id⊢ 𝓤 _) (and_then ! (get ! refl) (and_then ! (get ! refl) (and_then ! (get ! refl) (and_then ! (get ! refl) (no_more !))))) (λ v.
        use1 𝓛 (later (raw (post v) ⊛ raw (fact 𝓤 (T (has_ty τ v) × WT v)))) (back v) $ await ! tt $ split ! $ move ! (1 ∷ []) $ heard ! _ (λ typed.
        lands_as ! refl refl typed $ returns ! (look_at ! 0 refl) $ free_all ! refl $ done !)))

    pub passes_mutable1 : (E : RattleType) → PassesOn (numbers 1 (mutable E)) (passing_mutable E 1 τ ρ ν callee)
    passes_mutable1 E b o x fit before after post calls back =
        qed 𝓛 (raw before ∷ []) ∵ enter ! _ _ _ _ _ $ alloc_all ! (λ l. pass_all ! refl ((tt, tt), ((tt, fit.0), ((tt, (tt, (fit.1, tt))), tt))) $
        sets ! (of_opd ! (get ! refl)) refl (tt, tt) $ sets ! (addr ! (through ! refl (stop !))) refl (tt, tt) $
        sets ! (addr ! (from ! (fld ! refl (hop ! (look_in_at ! 3 (sub ! 0 refl (whole !))) (stop !))))) refl (tt, tt) $
        sets ! (agg ! (and_then ! (get ! refl) (and_then ! (get_in ! (fld ! refl (stop !)) (sub ! 1 refl (whole !))) (no_more !)))) refl (tt, (tt, (fit.1, tt))) $
        use1 𝓛 (later (raw (C callee (vptr b o ∷ (numbers {𝓛 = 𝓛} 1 (mutable E)).machine x) after))) calls $ await ! tt $
        calls_from ! framed _ _ after (id⊢ 𝓤 _) (and_then ! (get ! refl) (and_then ! (get ! refl) (and_then ! (get ! refl) (no_more !)))) (λ v.
        use1 𝓛 (later (raw (post v) ⊛ raw (fact 𝓤 (T (has_ty τ v) × WT v)))) (back v) $ await ! tt $ split ! $ move ! (1 ∷ []) $ heard ! _ (λ typed.
        lands_as ! refl refl typed $ returns ! (look_at ! 0 refl) $ free_all ! refl $ done !)))

    pub passes_mutable2 : (E : RattleType) → PassesOn (numbers 2 (mutable E)) (passing_mutable E 2 τ ρ ν callee)
    passes_mutable2 E b o x fit before after post calls back =
        qed 𝓛 (raw before ∷ []) ∵ enter ! _ _ _ _ _ $ alloc_all ! (λ l. pass_all ! refl ((tt, tt), ((tt, fit.0), ((tt, fit.1.0), ((tt, (tt, (fit.1.1, tt))), tt)))) $
        sets ! (of_opd ! (get ! refl)) refl (tt, tt) $ sets ! (addr ! (through ! refl (stop !))) refl (tt, tt) $
        sets ! (addr ! (from ! (fld ! refl (hop ! (look_in_at ! 4 (sub ! 0 refl (whole !))) (stop !))))) refl (tt, tt) $
        sets ! (agg ! (and_then ! (get ! refl) (and_then ! (get_in ! (fld ! refl (stop !)) (sub ! 1 refl (whole !))) (no_more !)))) refl (tt, (tt, (fit.1.1, tt))) $
        use1 𝓛 (later (raw (C callee (vptr b o ∷ (numbers {𝓛 = 𝓛} 2 (mutable E)).machine x) after))) calls $ await ! tt $
        calls_from ! framed _ _ after (id⊢ 𝓤 _) (and_then ! (get ! refl) (and_then ! (get ! refl) (and_then ! (get ! refl) (and_then ! (get ! refl) (no_more !))))) (λ v.
        use1 𝓛 (later (raw (post v) ⊛ raw (fact 𝓤 (T (has_ty τ v) × WT v)))) (back v) $ await ! tt $ split ! $ move ! (1 ∷ []) $ heard ! _ (λ typed.
        lands_as ! refl refl typed $ returns ! (look_at ! 0 refl) $ free_all ! refl $ done !)))
