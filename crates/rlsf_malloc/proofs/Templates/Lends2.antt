-- Exports that lend the heap behind the handle to a call with two numbers, and return what it returns.
use Rattle.rlsf_malloc_calls.proofs.Walking.{ℕ, [], ◌∷◌, ◌++◌, refl, w64, proved, full_share, ftrue, WpFn, fact, tables, ‵, raw, ◌⊛◌, some, prop, ◌$◌, ◌∵◌, ! }
use Rattle.rlsf_malloc_calls.proofs.Walking.{qed, done, move, keep, drop, split, join, fpack, pick, suffices, group, enter, of_opd, addr, stop, no_more, and_then}
use Rattle.rlsf_malloc_calls.proofs.Walking.{returns, alloc_all, pass_all, free_all, look_at, get, through, sets, lands_as, yes, uint_vals, uint_Tells, Ptr, RawPtr}
use Rattle.rlsf_malloc_calls.proofs.Walking.{block_ptr, lies_at, rawptr_vals, rawptr_Tells, plain, nothing, owned, heard, on_entry, walk_of}
use Rattle.rlsf_malloc_calls.proofs.Walking.{Goes-dropped, ends_at, framed, usize, uint_Makes, Is, Val, Ura, sep, Logic, sem, Model, Closed, Running, Fn, Callee}
use Rattle.rlsf_malloc_calls.proofs.Walking.{Ty, local, value_local, ty_ptr, ty_int, ty_ref, erased, mut, seq, assign, place, rv_opd, copy, addr_of, deref, call}
use Rattle.rlsf_malloc_calls.proofs.Walking.{return, RattleType, Ended, Clauses, closing, Meets, Good}
use Rattle.rlsf_malloc.proofs.Steps.{called, changes, lends_heap}
use Rattle.rlsf_malloc.proofs.HeapKinds.{Kind, row}
use Rattle.rlsf_malloc.proofs.Templates.Signatures.{exported, kept, numbers, stayed}
use Rattle.rlsf_c_lemmas.proofs.Lending.{in_its_block}
use contract.Lifetimes.{Lfts}
use denote.RattleType.{Denots}
use denote.Signature.{types_at}
use Rattle.rlsf_malloc.specs.Handle.{HoldsValue, HoldsSome}

-- the code
abbrev pub function : Ty → Ty → Ty → Callee → Fn
function σ τ θ callee = record {
  lifetimes = 0;
  outlives = [];
  ty_params = [];
  givens = 0;
  params = 3;
  locals =
      local θ value_local ∷ local ty_ptr value_local ∷ local (ty_int w64) value_local
      ∷ local (ty_int w64) value_local ∷ local ty_ptr value_local ∷ local (ty_ref erased mut σ) value_local ∷ [];
  body =
      seq (assign (place 4 []) (rv_opd (copy (place 1 [])))) (
      seq (assign (place 5 []) (addr_of (place 4 (deref τ ∷ [])))) (
      seq (call callee (copy (place 5 []) ∷ copy (place 2 []) ∷ copy (place 3 []) ∷ []) (place 0 [])) (
      return)));
}

module _ (K : Kind) (S : (row K).Denot → Type 0)
    (A : RattleType)
    (Fact : (row K).Denot → ℕ → ℕ → Type 0)
    (Post : (row K).Denot → ℕ → ℕ → A.Denot → (row K).Denot → Type 0) where
  abbrev R : RattleType
  R = row K

  -- what the call asks of the heap and its other arguments, and what it does
  abbrev Asked : (κs : Lfts 5) → R.Denot → Denots (types_at (numbers 5 2) κs) → Type 0
  Asked κs v a = S v × Fact v a.0 a.1.0

  abbrev Did : (κs : Lfts 5) → R.Denot → Denots (types_at (numbers 5 2) κs) → A.Denot → R.Denot → Type 0
  Did κs v a r w = Post v a.0 a.1.0 r w

  abbrev lent : Ended
  lent = called K (numbers 5 2) (kept 5 2) A

  module _ {M : Type 1} {𝓤 : Ura M} (𝓛 : Logic 𝓤) where
    abbrev pub outer : Clauses 𝓤 (exported 2 A)
    outer κs a = record {
      ghost = R.Denot;
      requires = λ g. sep 𝓤 (sem 𝓛 (HoldsValue R S a.0 g)) (fact 𝓤 (Fact g a.1.0 a.1.1.0));
      ensures = λ g r end. sem 𝓛 (HoldsSome R a.0 (λ w. Post g a.1.0 a.1.1.0 r w));
    }

    abbrev pub inner : Clauses 𝓤 lent
    inner = changes 𝓛 K (numbers 5 2) (kept 5 2) A Asked Did

  pub exports : {M : Type 1} (𝓤 : Ura M) (𝓛 : Logic 𝓤) (𝓜 : Model 𝓤 𝓛.H) (𝓡 : Running 𝓤 𝓛.H 𝓜) (σ τ θ : Ty) (key callee : Callee)
      → ((r : A.Denot) (v : Val) → Is A r (v ∷ []) → Good θ v)
      → Closed 𝓤 𝓛.H (tables 𝓤 𝓛.H 𝓜 𝓡 𝓡.env).C (tables 𝓤 𝓛.H 𝓜 𝓡 𝓡.env).Λ key (function σ τ θ callee)
      → Meets 𝓛 lent.signature (𝓡.run (𝓡.env callee)) (closing 𝓛 lent (inner 𝓛))
      → Meets 𝓛 (exported 2 A).signature (𝓡.run (𝓡.env key)) (closing 𝓛 (exported 2 A) (outer 𝓛))
  exports 𝓤 𝓛 𝓜 𝓡 σ τ θ key callee good closed met =
      let c = outer 𝓛 in let W = walk_of 𝓛 (exported 2 A) (stayed 2 A) c in let 𝓣 = tables 𝓤 𝓛.H 𝓜 𝓡 𝓡.env in
      let goes = Goes-dropped 𝓛 0 (plain (λ _. usize)) yes (λ κs x w. refl) in
      let is_framed = framed 𝓤 𝓛.H 𝓜 𝓣 in
      proved 𝓛 (exported 2 A) (stayed 2 A) c 𝓜 𝓡 (Goes-dropped 𝓛 0 (plain (λ _. RawPtr)) yes (λ κs x w. refl), (goes, (goes, tt))) key (function σ τ θ callee) closed
      (λ κs. (rawptr_vals, (uint_vals w64, (uint_vals w64, tt)))) (λ κs. (rawptr_Tells, (uint_Tells w64, (uint_Tells w64, tt)))) (λ κs qs bounds a g are.
      let n = a.1.0 in let k = a.1.1.0 in let s : Ptr → W.Ghost = λ p. ((κs, qs, bounds, (p, (n, (k, tt))), (rawptr_vals p, (uint_vals w64 n, (uint_vals w64 k, tt)))), g) in
      qed 𝓛 (raw (on_entry 𝓛 (exported 2 A).signature κs qs a (s a.0).0.4) ∷ (some (λ (_ : S g). ‵ (lies_at R full_share a.0 g)) ⊛ raw (fact 𝓤 (Fact g n k))) ∷ []) ∵ drop ! $
      split ! $ pick ! (λ ready. move ! (1 ∷ []) $ heard ! (Fact g n k) (λ known.
      in_its_block ! R g a.0 (λ p. prop (WpFn 𝓤 𝓛.H 𝓣.C 𝓣.Λ (function σ τ θ callee) (rawptr_vals p ++ uint_vals w64 n ++ uint_vals w64 k ++ []) (W.post (s p)))) (λ b o.
      enter ! _ _ _ _ _ $ alloc_all ! (λ l. pass_all ! refl ((tt, tt), ((tt, record { fits = are.1.0.1 }), ((tt, record { fits = are.1.1.0.1 }), tt))) $
      sets ! (of_opd ! (get ! refl)) refl (tt, tt) $ sets ! (addr ! (through ! refl (stop !))) refl (tt, tt) $ nothing ! $ move ! (1 ∷ 0 ∷ []) $
      lends_heap ! is_framed K (numbers 5 2) (kept 5 2) A Asked Did met b o g (λ κs. (n, (k, tt))) (λ κs. (uint_vals w64 n, (uint_vals w64 k, tt))) _ (λ κs. refl)
      (λ κs. qed 𝓛 (‵ ftrue ∷ []) ∵ owned ! usize _ (uint_Makes 𝓛 w64) k _ (refl, are.1.1.0.1) $ join ! $ owned ! usize _ (uint_Makes 𝓛 w64) n _ (refl, are.1.0.1) $
      join ! $ done !) (λ κs. (ready, known)) (λ i. and_then ! (get ! refl) (and_then ! (get ! refl) (and_then ! (get ! refl) (no_more !))))
      (λ v κs r w is did. let typed = good r v is in lands_as ! refl refl typed $
      -- [the heap; what was returned; the locals]
      returns ! (look_at ! 0 refl) $ free_all ! refl $ keep ! (0 ∷ 1 ∷ []) $
      fpack ! ((w : R.Denot) × Post g n k r w) (λ t. lies_at R full_share (block_ptr b o) t.0) (w, did) $ move ! (1 ∷ []) $
      suffices ! _ (ends_at 𝓛 (exported 2 A) (stayed 2 A) c (s (block_ptr b o)) v r (tt, (tt, (tt, tt))) (tt, (tt, (tt, tt)))) $
      nothing ! $ nothing ! $ join ! $ nothing ! $ join ! $ nothing ! $ join ! $ nothing ! $ group ! 3 $ done !))))))
