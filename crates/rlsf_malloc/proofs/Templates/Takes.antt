-- Exports that take a payload from the caller, and lend the heap behind the handle to a call that consumes it.
use Rattle.rlsf_malloc_calls.proofs.Walking.{ℕ, [], ◌∷◌, ◌++◌, refl, ap, w64, proved, full_share, vunit, WpFn, fact, tables, ‵, raw, ◌⊛◌, some, prop, ◌$◌}
use Rattle.rlsf_malloc_calls.proofs.Walking.{◌∵◌, !, qed, done, move, keep, drop, split, join, fpack, feq_i, pick, suffices, group, enter, of_opd, addr, stop}
use Rattle.rlsf_malloc_calls.proofs.Walking.{no_more, and_then, returns, alloc_all, pass_all, free_all, look_at, get, through, sets, lands_as, yes, uint_vals}
use Rattle.rlsf_malloc_calls.proofs.Walking.{uint_Tells, Ptr, RawPtr, block_ptr, lies_at, rawptr_vals, rawptr_Tells, plain, nothing, owned, heard, on_entry}
use Rattle.rlsf_malloc_calls.proofs.Walking.{walk_of, Goes-dropped, ends_at, framed, usize, unit, only, unit_lit, uint_Makes, Is, Val, Ura, sep}
use Rattle.rlsf_malloc_calls.proofs.Walking.{Logic, sem, Model, Closed, Running, Fn, Callee, Ty, local, value_local, ty_ptr, ty_int, ty_ref, ty_unit, erased, mut}
use Rattle.rlsf_malloc_calls.proofs.Walking.{seq, assign, place, rv_opd, copy, opd_unit, addr_of, deref, call, return, RattleType, Ended, Clauses, closing}
use Rattle.rlsf_malloc_calls.proofs.Walking.{Meets, Good}
use Rattle.rlsf_malloc.proofs.Steps.{Payloads, called, changes, lends_heap, taken, takes, takes_payload}
use Rattle.rlsf_malloc.proofs.HeapKinds.{Kind, row}
use Rattle.rlsf_malloc.proofs.Templates.Signatures.{exported, kept_and, number_and, stayed}
use Rattle.rlsf_c_lemmas.proofs.Lending.{in_its_block}
use contract.Lifetimes.{Lfts}
use denote.RattleType.{Denots}
use denote.Signature.{types_at}
use Rattle.rlsf_malloc.specs.Handle.{HoldsValue, HoldsSome}

-- the code
abbrev pub function : Ty → Ty → Ty → Callee → Callee → Fn
function σ τ θ source callee = record {
  lifetimes = 0;
  outlives = [];
  ty_params = [];
  givens = 0;
  params = 2;
  locals =
      local ty_unit value_local ∷ local ty_ptr value_local ∷ local (ty_int w64) value_local
      ∷ local θ value_local ∷ local ty_unit value_local ∷ local ty_ptr value_local
      ∷ local (ty_ref erased mut σ) value_local ∷ local θ value_local ∷ [];
  body =
      seq (call source (copy (place 2 []) ∷ []) (place 3 [])) (
      seq (assign (place 5 []) (rv_opd (copy (place 1 [])))) (
      seq (assign (place 6 []) (addr_of (place 5 (deref τ ∷ [])))) (
      seq (assign (place 7 []) (rv_opd (copy (place 3 [])))) (
      seq (call callee (copy (place 6 []) ∷ copy (place 2 []) ∷ copy (place 7 []) ∷ []) (place 4 [])) (
      seq (assign (place 0 []) (rv_opd opd_unit)) (
      return))))));
}

-- what an export does to a heap of the type R and a payload that its caller owns
pub record Export (R : RattleType) (P : Payloads) : Type 2 where
  pub S : R.Denot → Type 0
  pub Fact : R.Denot → P.D → ℕ → Type 0
  pub Asks : R.Denot → ℕ → P.Q.Denot → Type 0
  pub Post : R.Denot → ℕ → P.Q.Denot → R.Denot → Type 0
  pub Outer : R.Denot → P.D → ℕ → R.Denot → Type 0
  pub asks : (v : R.Denot) (d : P.D) (x : ℕ) (q : P.Q.Denot) → S v → Fact v d x → P.Makes x d q → Asks v x q
  pub packs : (v : R.Denot) (d : P.D) (x : ℕ) (q : P.Q.Denot) (w : R.Denot) → S v → Fact v d x → P.Makes x d q → Post v x q w → Outer v d x w

module _ (K : Kind) (P : Payloads) (T : Export (row K) P) where
  abbrev R : RattleType
  R = row K

  open P use {Q, D, owns, Makes}
  open T use {S, Fact, Asks, Post, Outer, asks, packs}

  -- what the call asks of the heap and its other arguments, and what it does
  abbrev Asked : (κs : Lfts 5) → R.Denot → Denots (types_at (number_and 0 Q) κs) → Type 0
  Asked κs v a = Asks v a.0 a.1.0

  abbrev Did : (κs : Lfts 5) → R.Denot → Denots (types_at (number_and 0 Q) κs) → unit.Denot → R.Denot → Type 0
  Did κs v a r w = Post v a.0 a.1.0 w

  abbrev lent : Ended
  lent = called K (number_and 0 Q) (kept_and 0 Q) unit

  module _ {M : Type 1} {𝓤 : Ura M} (𝓛 : Logic 𝓤) where
    abbrev pub outer : Clauses 𝓤 (exported 1 unit)
    outer κs a = record {
      ghost = R.Denot × D;
      requires = λ g. sep 𝓤 (sem 𝓛 (HoldsValue R S a.0 g.0)) (sep 𝓤 (sem 𝓛 (owns g.1)) (fact 𝓤 (Fact g.0 g.1 a.1.0)));
      ensures = λ g r end. sem 𝓛 (HoldsSome R a.0 (λ w. Outer g.0 g.1 a.1.0 w));
    }

    abbrev pub inner : Clauses 𝓤 lent
    inner = changes 𝓛 K (number_and 0 Q) (kept_and 0 Q) unit Asked Did

  pub exports : {M : Type 1} (𝓤 : Ura M) (𝓛 : Logic 𝓤) (𝓜 : Model 𝓤 𝓛.H) (𝓡 : Running 𝓤 𝓛.H 𝓜) (σ τ θ : Ty) (key source callee : Callee)
      → ((r : Q.Denot) (v : Val) → Is Q r (v ∷ []) → Good θ v)
      → Closed 𝓤 𝓛.H (tables 𝓤 𝓛.H 𝓜 𝓡 𝓡.env).C (tables 𝓤 𝓛.H 𝓜 𝓡 𝓡.env).Λ key (function σ τ θ source callee)
      → Meets 𝓛 (taken Q).signature (𝓡.run (𝓡.env source)) (closing 𝓛 (taken Q) (takes 𝓛 Q owns Makes))
      → Meets 𝓛 lent.signature (𝓡.run (𝓡.env callee)) (closing 𝓛 lent (inner 𝓛))
      → Meets 𝓛 (exported 1 unit).signature (𝓡.run (𝓡.env key)) (closing 𝓛 (exported 1 unit) (outer 𝓛))
  exports 𝓤 𝓛 𝓜 𝓡 σ τ θ key source callee good closed source_met met =
      let c = outer 𝓛 in let W = walk_of 𝓛 (exported 1 unit) (stayed 1 unit) c in let 𝓣 = tables 𝓤 𝓛.H 𝓜 𝓡 𝓡.env in
      let goes = Goes-dropped 𝓛 0 (plain (λ _. usize)) yes (λ κs x w. refl) in let is_framed = framed 𝓤 𝓛.H 𝓜 𝓣 in
      proved 𝓛 (exported 1 unit) (stayed 1 unit) c 𝓜 𝓡 (Goes-dropped 𝓛 0 (plain (λ _. RawPtr)) yes (λ κs x w. refl), (goes, tt)) key (function σ τ θ source callee) closed
      (λ κs. (rawptr_vals, (uint_vals w64, tt))) (λ κs. (rawptr_Tells, (uint_Tells w64, tt))) (λ κs qs bounds a g are.
      let x = a.1.0 in let s : Ptr → W.Ghost = λ p. ((κs, qs, bounds, (p, (x, tt)), (rawptr_vals p, (uint_vals w64 x, tt))), g) in
      qed 𝓛 (raw (on_entry 𝓛 (exported 1 unit).signature κs qs a (s a.0).0.4) ∷ (some (λ (_ : S g.0). ‵ (lies_at R full_share a.0 g.0)) ⊛ (‵ (owns g.1) ⊛
      raw (fact 𝓤 (Fact g.0 g.1 x)))) ∷ []) ∵ drop ! $
      split ! $ pick ! (λ ready. move ! (1 ∷ []) $ split ! $ move ! (1 ∷ []) $ heard ! (Fact g.0 g.1 x) (λ known. move ! (1 ∷ []) $
      in_its_block ! R g.0 a.0 (λ p. prop (WpFn 𝓤 𝓛.H 𝓣.C 𝓣.Λ (function σ τ θ source callee) (rawptr_vals p ++ uint_vals w64 x ++ []) (W.post (s p)))) (λ b o.
      enter ! _ _ _ _ _ $ alloc_all ! (λ l. pass_all ! refl ((tt, tt), ((tt, record { fits = are.1.0.1 }), tt)) $
      -- [the heap; what the caller gives up; the locals]
      move ! (1 ∷ []) $ takes_payload ! is_framed Q owns Makes source_met g.1 x are.1.0.1 (λ i. and_then ! (get ! refl) (no_more !)) (λ u q is_q made.
      let typed_q = good q u is_q in lands_as ! refl refl typed_q $
      -- [the payload; the heap; the locals]
      sets ! (of_opd ! (get ! refl)) refl (tt, tt) $ sets ! (addr ! (through ! refl (stop !))) refl (tt, tt) $ sets ! (of_opd ! (get ! refl)) refl typed_q $
      move ! (1 ∷ 0 ∷ []) $
      lends_heap ! is_framed K (number_and 0 Q) (kept_and 0 Q) unit Asked Did met b o g.0 (λ κs. (x, (q, tt))) (λ κs. (uint_vals w64 x, (u ∷ [], tt))) _ (λ κs. refl)
      (λ κs. qed 𝓛 (‵ (Q.own_val q (u ∷ [])) ∷ []) ∵ nothing ! $ move ! (1 ∷ 0 ∷ []) $ join ! $ owned ! usize _ (uint_Makes 𝓛 w64) x _ (refl, are.1.0.1) $ join ! $
      done !) (λ κs. asks g.0 g.1 x q ready known made) (λ i. and_then ! (get ! refl) (and_then ! (get ! refl) (and_then ! (get ! refl) (no_more !))))
      (λ v κs r w is did. lands_as ! (ap only is) refl (tt, tt) $
      -- [the heap; nothing; the locals]
      sets ! (of_opd ! (unit_lit !)) refl (tt, tt) $ returns ! (look_at ! 0 refl) $ free_all ! refl $ keep ! (0 ∷ []) $
      fpack ! ((w : R.Denot) × Outer g.0 g.1 x w) (λ t. lies_at R full_share (block_ptr b o) t.0) (w, packs g.0 g.1 x q w ready known made did) $
      feq_i ! _ (vunit ∷ []) _ refl $
      suffices ! _ (ends_at 𝓛 (exported 1 unit) (stayed 1 unit) c (s (block_ptr b o)) vunit tt (tt, (tt, tt)) (tt, (tt, tt))) $
      nothing ! $ nothing ! $ join ! $ nothing ! $ join ! $ nothing ! $ group ! 3 $ done !)))))))
