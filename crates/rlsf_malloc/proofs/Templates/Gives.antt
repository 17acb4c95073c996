-- Exports that lend the heap behind the handle to a call with n numbers, and pass what it returns to the caller.
use Rattle.rlsf_malloc_calls.proofs.Walking.{◌≡◌, ℕ, [], ◌∷◌, ◌++◌, refl, sym, w64, proved, full_share, ftrue, WpFn, tables, ‵, raw, some, prop, ◌$◌, ◌∵◌, ! }
use Rattle.rlsf_malloc_calls.proofs.Walking.{qed, done, move, keep, drop, join, pick, suffices, group, enter, of_opd, addr, stop, no_more, and_then, returns}
use Rattle.rlsf_malloc_calls.proofs.Walking.{alloc_all, pass_all, free_all, look_at, get, through, sets, lands_as, yes, uint_vals, uint_Tells, uint_Lawful, Ptr}
use Rattle.rlsf_malloc_calls.proofs.Walking.{RawPtr, block_ptr, lies_at, rawptr_vals, rawptr_Tells, plain, nothing, owned, on_entry, walk_of, Goes-dropped}
use Rattle.rlsf_malloc_calls.proofs.Walking.{ends_at, framed, usize, uint_Makes, Ura, Logic, sem, Model, Closed, Running, Fn, Callee, Ty, local, value_local}
use Rattle.rlsf_malloc_calls.proofs.Walking.{ty_ptr, ty_int, ty_ref, erased, mut, seq, assign, place, rv_opd, copy, addr_of, deref, call, return, RattleType}
use Rattle.rlsf_malloc_calls.proofs.Walking.{Ended, Clauses, closing, Meets}
use Rattle.rlsf_malloc_calls.proofs.PassedNumbers.{finished, passes, passes_number}
use Rattle.rlsf_malloc.proofs.Steps.{called, changes, gives_out, lends_heap}
use Rattle.rlsf_malloc.proofs.HeapKinds.{Kind, row}
use Rattle.rlsf_malloc.proofs.Templates.Signatures.{Numbers, copies, exported, kept, numbers, read, stayed, words}
use Rattle.rlsf_c_lemmas.proofs.Lending.{in_its_block}
use contract.Lifetimes.{Lfts}
use denote.Memory.{lone}
use denote.RattleType.{Denots}
use denote.Signature.{types_at}
use Rattle.rlsf_heap.specs.Heap.{HeapView, PayloadView}
use Rattle.rlsf_heap.specs.Thin.{owns_reply}
use Rattle.rlsf_heap.specs.contracts.thin.ThinPayload as payload
use Rattle.rlsf_heap.proofs.thin.ThinPayload.TheLaws as payload_laws
use Rattle.rlsf_malloc_calls.specs.Calls.{IsReady}
use Rattle.rlsf_malloc.specs.Handle.{HoldsValue, HoldsBeside}
use Prim.Native.Nat.{◌+◌}

-- the code
abbrev pub function : ℕ → Ty → Ty → Ty → Callee → Callee → Fn
function n σ τ θ callee finish = record {
  lifetimes = 0;
  outlives = [];
  ty_params = [];
  givens = 0;
  params = n + 1;
  locals =
      local (ty_int w64) value_local ∷ local ty_ptr value_local
      ∷ words n (local θ value_local ∷ local ty_ptr value_local ∷ local (ty_ref erased mut σ) value_local ∷ local θ value_local ∷ []);
  body =
      seq (assign (place (n + 3) []) (rv_opd (copy (place 1 [])))) (
      seq (assign (place (n + 4) []) (addr_of (place (n + 3) (deref τ ∷ [])))) (
      seq (call callee (copy (place (n + 4) []) ∷ copies 2 n) (place (n + 2) [])) (
      seq (assign (place (n + 5) []) (rv_opd (copy (place (n + 2) [])))) (
      seq (call finish (copy (place (n + 5) []) ∷ []) (place 0 [])) (
      return)))));
}

abbrev Q : RattleType
Q = payload.the_row

-- `Allocated` says of the heap before, the numbers, the payload and the heap after what an allocation did
module _ (n : ℕ) (K : Kind) (Allocated : HeapView → Numbers n → PayloadView → HeapView → Type 0) where
  abbrev R : RattleType
  R = row K

  abbrev Outer : R.Denot → Numbers n → ℕ → R.Denot → PayloadView → Type 0
  Outer v ns r w p = (p.start ≡ r) × Allocated v ns p w

  -- what the call asks of the heap and its other arguments, and what it does
  abbrev Asked : (κs : Lfts 5) → R.Denot → Denots (types_at (numbers 5 n) κs) → Type 0
  Asked κs v a = IsReady v

  abbrev Did : (κs : Lfts 5) → R.Denot → Denots (types_at (numbers 5 n) κs) → Q.Denot → R.Denot → Type 0
  Did κs v a q w = (q.addr ≡ q.of.start) × Allocated v (read 5 n κs a) q.of w

  abbrev lent : Ended
  lent = called K (numbers 5 n) (kept 5 n) Q

  module _ {M : Type 1} {𝓤 : Ura M} (𝓛 : Logic 𝓤) where
    abbrev pub outer : Clauses 𝓤 (exported n usize)
    outer κs a = record {
      ghost = R.Denot;
      requires = λ g. sem 𝓛 (HoldsValue R IsReady a.0 g);
      ensures = λ g r end. sem 𝓛 (HoldsBeside R a.0 PayloadView (λ w y. Outer g (read 0 n κs a.1) r w y) (λ w y. owns_reply y));
    }

    abbrev pub inner : Clauses 𝓤 lent
    inner = changes 𝓛 K (numbers 5 n) (kept 5 n) Q Asked Did

  -- such exports meet their contracts
  abbrev pub Met : Type 1 → Type 2
  Met M = (𝓤 : Ura M) (𝓛 : Logic 𝓤) (𝓜 : Model 𝓤 𝓛.H) (𝓡 : Running 𝓤 𝓛.H 𝓜) (σ τ : Ty) (key callee finish : Callee)
      → Closed 𝓤 𝓛.H (tables 𝓤 𝓛.H 𝓜 𝓡 𝓡.env).C (tables 𝓤 𝓛.H 𝓜 𝓡 𝓡.env).Λ key (function n σ τ (lone Q.mir) callee finish)
      → Meets 𝓛 lent.signature (𝓡.run (𝓡.env callee)) (closing 𝓛 lent (inner 𝓛))
      → Meets 𝓛 (finished Q).signature (𝓡.run (𝓡.env finish)) (closing 𝓛 (finished Q) (passes 𝓛 Q (λ q. q.addr) (λ q. owns_reply q.of)))
      → Meets 𝓛 (exported n usize).signature (𝓡.run (𝓡.env key)) (closing 𝓛 (exported n usize) (outer 𝓛))

module _ (K : Kind) (Allocated : HeapView → Numbers 1 → PayloadView → HeapView → Type 0) where
  pub exports1 : {M : Type 1} → Met 1 K Allocated M
  exports1 𝓤 𝓛 𝓜 𝓡 σ τ key callee finish closed met finish_met =
      let c = outer 1 K Allocated 𝓛 in let W = walk_of 𝓛 (exported 1 usize) (stayed 1 usize) c in let 𝓣 = tables 𝓤 𝓛.H 𝓜 𝓡 𝓡.env in
      let goes = Goes-dropped 𝓛 0 (plain (λ _. usize)) yes (λ κs x w. refl) in let is_framed = framed 𝓤 𝓛.H 𝓜 𝓣 in
      proved 𝓛 (exported 1 usize) (stayed 1 usize) c 𝓜 𝓡 (Goes-dropped 𝓛 0 (plain (λ _. RawPtr)) yes (λ κs x w. refl), (goes, tt))
      key (function 1 σ τ (lone Q.mir) callee finish) closed
      (λ κs. (rawptr_vals, (uint_vals w64, tt))) (λ κs. (rawptr_Tells, (uint_Tells w64, tt))) (λ κs qs bounds a g are.
      let n = a.1.0 in let s : Ptr → W.Ghost = λ p. ((κs, qs, bounds, (p, (n, tt)), (rawptr_vals p, (uint_vals w64 n, tt))), g) in
      qed 𝓛 (raw (on_entry 𝓛 (exported 1 usize).signature κs qs a (s a.0).0.4) ∷ some (λ (_ : IsReady g). ‵ (lies_at (row K) full_share a.0 g)) ∷ []) ∵ drop ! $
      pick ! (λ ready.
      in_its_block ! (row K) g a.0 (λ p. prop (WpFn 𝓤 𝓛.H 𝓣.C 𝓣.Λ (function 1 σ τ (lone Q.mir) callee finish) (rawptr_vals p ++ uint_vals w64 n ++ []) (W.post (s p)))) (λ b o.
      enter ! _ _ _ _ _ $ alloc_all ! (λ l. pass_all ! refl ((tt, tt), ((tt, record { fits = are.1.0.1 }), tt)) $
      sets ! (of_opd ! (get ! refl)) refl (tt, tt) $ sets ! (addr ! (through ! refl (stop !))) refl (tt, tt) $ nothing ! $ move ! (1 ∷ 0 ∷ []) $
      lends_heap ! is_framed K (numbers 5 1) (kept 5 1) Q (Asked 1 K Allocated) (Did 1 K Allocated) met b o g
      (λ κs. (n, tt)) (λ κs. (uint_vals w64 n, tt)) _ (λ κs. refl)
      (λ κs. qed 𝓛 (‵ ftrue ∷ []) ∵ owned ! usize _ (uint_Makes 𝓛 w64) n _ (refl, are.1.0.1) $ join ! $ done !) (λ κs. ready) (λ i. and_then ! (get ! refl)
      (and_then ! (get ! refl) (no_more !)))
      (λ v κs r w is did. let typed = ((payload_laws.the_row_laws.lawful 𝓛).typed r _ is).0 in lands_as ! refl refl typed $
      -- [the heap; what was returned; the locals]
      move ! (1 ∷ []) $ sets ! (of_opd ! (get ! refl)) refl typed $
      passes_number ! is_framed Q (λ q. q.addr) (λ q. owns_reply q.of) finish_met r v (λ i. and_then ! (get ! refl) (no_more !))
      (λ h m is_m at. lands_as ! refl refl ((uint_Lawful 𝓛 w64).typed m _ is_m).0 $
      -- [what the caller gets; the number; the heap; the locals]
      returns ! (look_at ! 0 refl) $ free_all ! refl $ keep ! (0 ∷ 2 ∷ 1 ∷ []) $
      gives_out ! (row K) w b o PayloadView (λ i. Outer 1 K Allocated g (n, tt) i) (λ i w y. owns_reply y) m r.addr at
      (r.of, (sym did.0, did.1), refl) $ move ! (1 ∷ []) $
      suffices ! _ (ends_at 𝓛 (exported 1 usize) (stayed 1 usize) c (s (block_ptr b o)) h m (tt, (tt, tt)) (tt, (tt, tt))) $
      nothing ! $ nothing ! $ join ! $ nothing ! $ join ! $ nothing ! $ group ! 3 $ done !))))))

module _ (K : Kind) (Allocated : HeapView → Numbers 2 → PayloadView → HeapView → Type 0) where
  pub exports2 : {M : Type 1} → Met 2 K Allocated M
  exports2 𝓤 𝓛 𝓜 𝓡 σ τ key callee finish closed met finish_met =
      let c = outer 2 K Allocated 𝓛 in let W = walk_of 𝓛 (exported 2 usize) (stayed 2 usize) c in let 𝓣 = tables 𝓤 𝓛.H 𝓜 𝓡 𝓡.env in
      let goes = Goes-dropped 𝓛 0 (plain (λ _. usize)) yes (λ κs x w. refl) in let is_framed = framed 𝓤 𝓛.H 𝓜 𝓣 in
      proved 𝓛 (exported 2 usize) (stayed 2 usize) c 𝓜 𝓡 (Goes-dropped 𝓛 0 (plain (λ _. RawPtr)) yes (λ κs x w. refl), (goes, (goes, tt)))
      key (function 2 σ τ (lone Q.mir) callee finish) closed
      (λ κs. (rawptr_vals, (uint_vals w64, (uint_vals w64, tt)))) (λ κs. (rawptr_Tells, (uint_Tells w64, (uint_Tells w64, tt)))) (λ κs qs bounds a g are.
      let n = a.1.0 in let k = a.1.1.0 in let s : Ptr → W.Ghost = λ p. ((κs, qs, bounds, (p, (n, (k, tt))), (rawptr_vals p, (uint_vals w64 n, (uint_vals w64 k, tt)))), g) in
      qed 𝓛 (raw (on_entry 𝓛 (exported 2 usize).signature κs qs a (s a.0).0.4) ∷ some (λ (_ : IsReady g). ‵ (lies_at (row K) full_share a.0 g)) ∷ []) ∵ drop ! $
      pick ! (λ ready.
      in_its_block ! (row K) g a.0
      (λ p. prop (WpFn 𝓤 𝓛.H 𝓣.C 𝓣.Λ (function 2 σ τ (lone Q.mir) callee finish) (rawptr_vals p ++ uint_vals w64 n ++ uint_vals w64 k ++ []) (W.post (s p)))) (λ b o.
      enter ! _ _ _ _ _ $ alloc_all ! (λ l. pass_all ! refl ((tt, tt), ((tt, record { fits = are.1.0.1 }), ((tt, record { fits = are.1.1.0.1 }), tt))) $
      sets ! (of_opd ! (get ! refl)) refl (tt, tt) $ sets ! (addr ! (through ! refl (stop !))) refl (tt, tt) $ nothing ! $ move ! (1 ∷ 0 ∷ []) $
      lends_heap ! is_framed K (numbers 5 2) (kept 5 2) Q (Asked 2 K Allocated) (Did 2 K Allocated) met b o g
      (λ κs. (n, (k, tt))) (λ κs. (uint_vals w64 n, (uint_vals w64 k, tt))) _ (λ κs. refl)
      (λ κs. qed 𝓛 (‵ ftrue ∷ []) ∵ owned ! usize _ (uint_Makes 𝓛 w64) k _ (refl, are.1.1.0.1) $ join ! $ owned ! usize _ (uint_Makes 𝓛 w64) n _ (refl, are.1.0.1) $
      join ! $ done !) (λ κs. ready) (λ i. and_then ! (get ! refl) (and_then ! (get ! refl) (and_then ! (get ! refl) (no_more !))))
      (λ v κs r w is did. let typed = ((payload_laws.the_row_laws.lawful 𝓛).typed r _ is).0 in lands_as ! refl refl typed $
      -- [the heap; what was returned; the locals]
      move ! (1 ∷ []) $ sets ! (of_opd ! (get ! refl)) refl typed $
      passes_number ! is_framed Q (λ q. q.addr) (λ q. owns_reply q.of) finish_met r v (λ i. and_then ! (get ! refl) (no_more !))
      (λ h m is_m at. lands_as ! refl refl ((uint_Lawful 𝓛 w64).typed m _ is_m).0 $
      -- [what the caller gets; the number; the heap; the locals]
      returns ! (look_at ! 0 refl) $ free_all ! refl $ keep ! (0 ∷ 2 ∷ 1 ∷ []) $
      gives_out ! (row K) w b o PayloadView (λ i. Outer 2 K Allocated g (n, (k, tt)) i) (λ i w y. owns_reply y) m r.addr at
      (r.of, (sym did.0, did.1), refl) $ move ! (1 ∷ []) $
      suffices ! _ (ends_at 𝓛 (exported 2 usize) (stayed 2 usize) c (s (block_ptr b o)) h m (tt, (tt, (tt, tt))) (tt, (tt, (tt, tt)))) $
      nothing ! $ nothing ! $ join ! $ nothing ! $ join ! $ nothing ! $ join ! $ nothing ! $ group ! 3 $ done !))))))
