-- Exports that take a payload from the caller, lend the heap behind the handle to a call on it with n numbers more, and pass what it returns to the caller.
use Rattle.rlsf_malloc_calls.proofs.Walking.{◌≡◌, ℕ, [], ◌∷◌, ◌++◌, refl, w64, proved, full_share, WpFn, fact, tables, ‵, raw, ◌⊛◌, some, prop, ◌$◌, ◌∵◌}
use Rattle.rlsf_malloc_calls.proofs.Walking.{ !, qed, done, move, keep, drop, split, join, pick, suffices, group, enter, of_opd, addr, stop, no_more, and_then}
use Rattle.rlsf_malloc_calls.proofs.Walking.{returns, alloc_all, pass_all, free_all, look_at, get, through, sets, lands_as, yes, uint_vals, uint_Tells}
use Rattle.rlsf_malloc_calls.proofs.Walking.{uint_Lawful, Ptr, RawPtr, block_ptr, lies_at, rawptr_vals, rawptr_Tells, plain, nothing, owned, heard, on_entry}
use Rattle.rlsf_malloc_calls.proofs.Walking.{walk_of, Goes-dropped, ends_at, framed, usize, uint_Makes, Ura, Fml, sep, Logic, sem, Fn, Callee, Ty, local}
use Rattle.rlsf_malloc_calls.proofs.Walking.{value_local, ty_ptr, ty_int, ty_ref, erased, mut, seq, assign, place, rv_opd, copy, addr_of, deref, call, return}
use Rattle.rlsf_malloc_calls.proofs.Walking.{RattleType, Ended, Clauses}
use Rattle.rlsf_malloc_calls.proofs.PassedNumbers.{passes_number}
use Rattle.rlsf_malloc.proofs.Steps.{Payloads, Trades, called, changes, gives_out, lends_heap, takes_payload}
use Rattle.rlsf_malloc.proofs.HeapKinds.{Kind, row}
use Rattle.rlsf_malloc.proofs.Templates.Signatures.{Numbers, copies, exported, kept_and, number_and, read, stayed, words}
use Rattle.rlsf_c_lemmas.proofs.Lending.{in_its_block}
use contract.Lifetimes.{Lfts}
use denote.RattleType.{Denots}
use denote.Signature.{types_at}
use Rattle.rlsf_malloc.specs.Handle.{HoldsValue, HoldsBeside}
use Prim.Native.Nat.{suc, ◌+◌}

-- the code
abbrev pub function : ℕ → Ty → Ty → Ty → Ty → Callee → Callee → Callee → Fn
function n σ τ θ ζ source callee finish = record {
  lifetimes = 0;
  outlives = [];
  ty_params = [];
  givens = 0;
  params = n + 2;
  locals =
      local (ty_int w64) value_local ∷ local ty_ptr value_local ∷ local (ty_int w64) value_local
      ∷ words n (local θ value_local ∷ local ζ value_local ∷ local ty_ptr value_local
      ∷ local (ty_ref erased mut σ) value_local ∷ local θ value_local ∷ local ζ value_local ∷ []);
  body =
      seq (call source (copy (place 2 []) ∷ []) (place (n + 3) [])) (
      seq (assign (place (n + 5) []) (rv_opd (copy (place 1 [])))) (
      seq (assign (place (n + 6) []) (addr_of (place (n + 5) (deref τ ∷ [])))) (
      seq (assign (place (n + 7) []) (rv_opd (copy (place (n + 3) [])))) (
      seq (call callee (copy (place (n + 6) []) ∷ copy (place 2 []) ∷ copy (place (n + 7) []) ∷ copies 3 n) (place (n + 4) [])) (
      seq (assign (place (n + 8) []) (rv_opd (copy (place (n + 4) [])))) (
      seq (call finish (copy (place (n + 8) []) ∷ []) (place 0 [])) (
      return)))))));
}

-- what an export does to a heap of the type R and a payload that its caller owns
pub record Export (n : ℕ) (R : RattleType) (P : Payloads) : Type 2 where
  pub S : R.Denot → Type 0
  pub Z : RattleType
  pub num : Z.Denot → ℕ
  pub gives : Z.Denot → Fml
  pub Fact : R.Denot → P.D → ℕ → Numbers n → Type 0
  pub Asks : R.Denot → ℕ → P.Q.Denot → Numbers n → Type 0
  pub Post : R.Denot → ℕ → P.Q.Denot → Numbers n → Z.Denot → R.Denot → Type 0
  pub Outer : R.Denot → P.D → ℕ → Numbers n → ℕ → R.Denot → P.D → Type 0
  pub asks : (v : R.Denot) (d : P.D) (x : ℕ) (ns : Numbers n) (q : P.Q.Denot) → S v → Fact v d x ns → P.Makes x d q → Asks v x q ns
  pub packs : (v : R.Denot) (d : P.D) (x : ℕ) (ns : Numbers n) (q : P.Q.Denot) (z : Z.Denot) (w : R.Denot) → S v → Fact v d x ns → P.Makes x d q → Post v x q ns z w
      → (y : P.D) × Outer v d x ns (num z) w y × (gives z ≡ P.owns y)

module _ (n : ℕ) (K : Kind) (P : Payloads) (T : Export n (row K) P) where
  abbrev R : RattleType
  R = row K

  open P use {Q, D, owns}
  open T use {S, Z, num, gives, Fact, Asks, Post, Outer}

  -- what the call asks of the heap and its other arguments, and what it does
  abbrev Asked : (κs : Lfts 5) → R.Denot → Denots (types_at (number_and n Q) κs) → Type 0
  Asked κs v a = Asks v a.0 a.1.0 (read 5 n κs a.1.1)

  abbrev Did : (κs : Lfts 5) → R.Denot → Denots (types_at (number_and n Q) κs) → Z.Denot → R.Denot → Type 0
  Did κs v a r w = Post v a.0 a.1.0 (read 5 n κs a.1.1) r w

  abbrev lent : Ended
  lent = called K (number_and n Q) (kept_and n Q) Z

  module _ {M : Type 1} {𝓤 : Ura M} (𝓛 : Logic 𝓤) where
    abbrev pub outer : Clauses 𝓤 (exported (suc n) usize)
    outer κs a = record {
      ghost = R.Denot × D;
      requires = λ g. sep 𝓤 (sem 𝓛 (HoldsValue R S a.0 g.0)) (sep 𝓤 (sem 𝓛 (owns g.1)) (fact 𝓤 (Fact g.0 g.1 a.1.0 (read 0 n κs a.1.1))));
      ensures = λ g r end. sem 𝓛 (HoldsBeside R a.0 D (λ w y. Outer g.0 g.1 a.1.0 (read 0 n κs a.1.1) r w y) (λ w y. owns y));
    }

    abbrev pub inner : Clauses 𝓤 lent
    inner = changes 𝓛 K (number_and n Q) (kept_and n Q) Z Asked Did

  -- such exports meet their contracts
  abbrev pub Met : Type 1 → Type 2
  Met M = Trades M (exported (suc n) usize) lent (λ 𝓤 𝓛. outer 𝓛) (λ 𝓤 𝓛. inner 𝓛) P Z num gives (function n)

module _ (K : Kind) (P : Payloads) (T : Export 0 (row K) P) where
  open P use {Q, D, owns, Makes}
  open T use {S, Z, num, gives, Fact, Outer, asks, packs}

  pub exports0 : {M : Type 1} → Met 0 K P T M
  exports0 𝓤 𝓛 𝓜 𝓡 σ τ θ ζ key source callee finish good good_reply closed source_met met finish_met =
      let c = outer 0 K P T 𝓛 in let W = walk_of 𝓛 (exported 1 usize) (stayed 1 usize) c in let 𝓣 = tables 𝓤 𝓛.H 𝓜 𝓡 𝓡.env in
      let goes = Goes-dropped 𝓛 0 (plain (λ _. usize)) yes (λ κs x w. refl) in let is_framed = framed 𝓤 𝓛.H 𝓜 𝓣 in
      proved 𝓛 (exported 1 usize) (stayed 1 usize) c 𝓜 𝓡 (Goes-dropped 𝓛 0 (plain (λ _. RawPtr)) yes (λ κs x w. refl), (goes, tt))
      key (function 0 σ τ θ ζ source callee finish) closed
      (λ κs. (rawptr_vals, (uint_vals w64, tt))) (λ κs. (rawptr_Tells, (uint_Tells w64, tt))) (λ κs qs bounds a g are.
      let x = a.1.0 in let s : Ptr → W.Ghost = λ p. ((κs, qs, bounds, (p, (x, tt)), (rawptr_vals p, (uint_vals w64 x, tt))), g) in
      qed 𝓛 (raw (on_entry 𝓛 (exported 1 usize).signature κs qs a (s a.0).0.4) ∷ (some (λ (_ : S g.0). ‵ (lies_at (row K) full_share a.0 g.0)) ⊛ (‵ (owns g.1) ⊛
      raw (fact 𝓤 (Fact g.0 g.1 x tt)))) ∷ []) ∵ drop ! $
      split ! $ pick ! (λ ready. move ! (1 ∷ []) $ split ! $ move ! (1 ∷ []) $ heard ! (Fact g.0 g.1 x tt) (λ known. move ! (1 ∷ []) $
      in_its_block ! (row K) g.0 a.0 (λ p. prop (WpFn 𝓤 𝓛.H 𝓣.C 𝓣.Λ (function 0 σ τ θ ζ source callee finish) (rawptr_vals p ++ uint_vals w64 x ++ []) (W.post (s p)))) (λ b o.
      enter ! _ _ _ _ _ $ alloc_all ! (λ l. pass_all ! refl ((tt, tt), ((tt, record { fits = are.1.0.1 }), tt)) $
      -- [the heap; what the caller gives up; the locals]
      move ! (1 ∷ []) $ takes_payload ! is_framed Q owns Makes source_met g.1 x are.1.0.1 (λ i. and_then ! (get ! refl) (no_more !)) (λ u q is_q made.
      let typed_q = good q u is_q in lands_as ! refl refl typed_q $
      -- [the payload; the heap; the locals]
      sets ! (of_opd ! (get ! refl)) refl (tt, tt) $ sets ! (addr ! (through ! refl (stop !))) refl (tt, tt) $ sets ! (of_opd ! (get ! refl)) refl typed_q $
      move ! (1 ∷ 0 ∷ []) $
      lends_heap ! is_framed K (number_and 0 Q) (kept_and 0 Q) Z (Asked 0 K P T) (Did 0 K P T) met b o g.0
      (λ κs. (x, (q, tt))) (λ κs. (uint_vals w64 x, (u ∷ [], tt))) _ (λ κs. refl)
      (λ κs. qed 𝓛 (‵ (Q.own_val q (u ∷ [])) ∷ []) ∵ nothing ! $ move ! (1 ∷ 0 ∷ []) $ join ! $ owned ! usize _ (uint_Makes 𝓛 w64) x _ (refl, are.1.0.1) $ join ! $
      done !) (λ κs. asks g.0 g.1 x tt q ready known made) (λ i. and_then ! (get ! refl) (and_then ! (get ! refl) (and_then ! (get ! refl) (no_more !))))
      (λ v κs r w is did. let typed = good_reply r v is in lands_as ! refl refl typed $
      -- [the heap; what was returned; the locals]
      move ! (1 ∷ []) $ sets ! (of_opd ! (get ! refl)) refl typed $
      passes_number ! is_framed Z num gives finish_met r v (λ i. and_then ! (get ! refl) (no_more !))
      (λ h m is_m at. lands_as ! refl refl ((uint_Lawful 𝓛 w64).typed m _ is_m).0 $
      -- [what the caller gets; the number; the heap; the locals]
      returns ! (look_at ! 0 refl) $ free_all ! refl $ keep ! (0 ∷ 2 ∷ 1 ∷ []) $
      gives_out ! (row K) w b o D (λ i. Outer g.0 g.1 x tt i) (λ i w y. owns y) m (num r) at (packs g.0 g.1 x tt q r w ready known made did) $ move ! (1 ∷ []) $
      suffices ! _ (ends_at 𝓛 (exported 1 usize) (stayed 1 usize) c (s (block_ptr b o)) h m (tt, (tt, tt)) (tt, (tt, tt))) $
      nothing ! $ nothing ! $ join ! $ nothing ! $ join ! $ nothing ! $ group ! 3 $ done !))))))))

module _ (K : Kind) (P : Payloads) (T : Export 1 (row K) P) where
  open P use {Q, D, owns, Makes}
  open T use {S, Z, num, gives, Fact, Outer, asks, packs}

  pub exports1 : {M : Type 1} → Met 1 K P T M
  exports1 𝓤 𝓛 𝓜 𝓡 σ τ θ ζ key source callee finish good good_reply closed source_met met finish_met =
      let c = outer 1 K P T 𝓛 in let W = walk_of 𝓛 (exported 2 usize) (stayed 2 usize) c in let 𝓣 = tables 𝓤 𝓛.H 𝓜 𝓡 𝓡.env in
      let goes = Goes-dropped 𝓛 0 (plain (λ _. usize)) yes (λ κs x w. refl) in let is_framed = framed 𝓤 𝓛.H 𝓜 𝓣 in
      proved 𝓛 (exported 2 usize) (stayed 2 usize) c 𝓜 𝓡 (Goes-dropped 𝓛 0 (plain (λ _. RawPtr)) yes (λ κs x w. refl), (goes, (goes, tt)))
      key (function 1 σ τ θ ζ source callee finish) closed
      (λ κs. (rawptr_vals, (uint_vals w64, (uint_vals w64, tt)))) (λ κs. (rawptr_Tells, (uint_Tells w64, (uint_Tells w64, tt)))) (λ κs qs bounds a g are.
      let x = a.1.0 in let n = a.1.1.0 in let s : Ptr → W.Ghost = λ p. ((κs, qs, bounds, (p, (x, (n, tt))), (rawptr_vals p, (uint_vals w64 x, (uint_vals w64 n, tt)))), g) in
      qed 𝓛 (raw (on_entry 𝓛 (exported 2 usize).signature κs qs a (s a.0).0.4) ∷ (some (λ (_ : S g.0). ‵ (lies_at (row K) full_share a.0 g.0)) ⊛ (‵ (owns g.1) ⊛
      raw (fact 𝓤 (Fact g.0 g.1 x (n, tt))))) ∷ []) ∵ drop ! $
      split ! $ pick ! (λ ready. move ! (1 ∷ []) $ split ! $ move ! (1 ∷ []) $ heard ! (Fact g.0 g.1 x (n, tt)) (λ known. move ! (1 ∷ []) $
      in_its_block ! (row K) g.0 a.0 (λ p. prop (WpFn 𝓤 𝓛.H 𝓣.C 𝓣.Λ (function 1 σ τ θ ζ source callee finish) (rawptr_vals p ++ uint_vals w64 x ++ uint_vals w64 n ++ [])
      (W.post (s p)))) (λ b o.
      enter ! _ _ _ _ _ $ alloc_all ! (λ l. pass_all ! refl ((tt, tt), ((tt, record { fits = are.1.0.1 }), ((tt, record { fits = are.1.1.0.1 }), tt))) $
      -- [the heap; what the caller gives up; the locals]
      move ! (1 ∷ []) $ takes_payload ! is_framed Q owns Makes source_met g.1 x are.1.0.1 (λ i. and_then ! (get ! refl) (no_more !)) (λ u q is_q made.
      let typed_q = good q u is_q in lands_as ! refl refl typed_q $
      -- [the payload; the heap; the locals]
      sets ! (of_opd ! (get ! refl)) refl (tt, tt) $ sets ! (addr ! (through ! refl (stop !))) refl (tt, tt) $ sets ! (of_opd ! (get ! refl)) refl typed_q $
      move ! (1 ∷ 0 ∷ []) $
      lends_heap ! is_framed K (number_and 1 Q) (kept_and 1 Q) Z (Asked 1 K P T) (Did 1 K P T) met b o g.0 (λ κs. (x, (q, (n, tt))))
      (λ κs. (uint_vals w64 x, (u ∷ [], (uint_vals w64 n, tt)))) _ (λ κs. refl)
      (λ κs. qed 𝓛 (‵ (Q.own_val q (u ∷ [])) ∷ []) ∵ nothing ! $ owned ! usize _ (uint_Makes 𝓛 w64) n _ (refl, are.1.1.0.1) $ join ! $ move ! (1 ∷ 0 ∷ []) $ join ! $
      owned ! usize _ (uint_Makes 𝓛 w64) x _ (refl, are.1.0.1) $ join ! $ done !) (λ κs. asks g.0 g.1 x (n, tt) q ready known made) (λ i. and_then ! (get ! refl)
      (and_then ! (get ! refl) (and_then ! (get ! refl) (and_then ! (get ! refl) (no_more !)))))
      (λ v κs r w is did. let typed = good_reply r v is in lands_as ! refl refl typed $
      -- [the heap; what was returned; the locals]
      move ! (1 ∷ []) $ sets ! (of_opd ! (get ! refl)) refl typed $
      passes_number ! is_framed Z num gives finish_met r v (λ i. and_then ! (get ! refl) (no_more !))
      (λ h m is_m at. lands_as ! refl refl ((uint_Lawful 𝓛 w64).typed m _ is_m).0 $
      -- [what the caller gets; the number; the heap; the locals]
      returns ! (look_at ! 0 refl) $ free_all ! refl $ keep ! (0 ∷ 2 ∷ 1 ∷ []) $
      gives_out ! (row K) w b o D (λ i. Outer g.0 g.1 x (n, tt) i) (λ i w y. owns y) m (num r) at (packs g.0 g.1 x (n, tt) q r w ready known made did) $ move ! (1 ∷ []) $
      suffices ! _ (ends_at 𝓛 (exported 2 usize) (stayed 2 usize) c (s (block_ptr b o)) h m (tt, (tt, (tt, tt))) (tt, (tt, (tt, tt)))) $
      nothing ! $ nothing ! $ join ! $ nothing ! $ join ! $ nothing ! $ join ! $ nothing ! $ group ! 3 $ done !))))))))

module _ (K : Kind) (P : Payloads) (T : Export 2 (row K) P) where
  open P use {Q, D, owns, Makes}
  open T use {S, Z, num, gives, Fact, Outer, asks, packs}

  pub exports2 : {M : Type 1} → Met 2 K P T M
  exports2 𝓤 𝓛 𝓜 𝓡 σ τ θ ζ key source callee finish good good_reply closed source_met met finish_met =
      let c = outer 2 K P T 𝓛 in let W = walk_of 𝓛 (exported 3 usize) (stayed 3 usize) c in let 𝓣 = tables 𝓤 𝓛.H 𝓜 𝓡 𝓡.env in
      let goes = Goes-dropped 𝓛 0 (plain (λ _. usize)) yes (λ κs x w. refl) in let is_framed = framed 𝓤 𝓛.H 𝓜 𝓣 in
      proved 𝓛 (exported 3 usize) (stayed 3 usize) c 𝓜 𝓡 (Goes-dropped 𝓛 0 (plain (λ _. RawPtr)) yes (λ κs x w. refl), (goes, (goes, (goes, tt))))
      key (function 2 σ τ θ ζ source callee finish) closed
      (λ κs. (rawptr_vals, (uint_vals w64, (uint_vals w64, (uint_vals w64, tt))))) (λ κs. (rawptr_Tells, (uint_Tells w64, (uint_Tells w64, (uint_Tells w64, tt)))))
      (λ κs qs bounds a g are.
      let x = a.1.0 in let n = a.1.1.0 in let k = a.1.1.1.0 in
      let s : Ptr → W.Ghost = λ p. ((κs, qs, bounds, (p, (x, (n, (k, tt)))), (rawptr_vals p, (uint_vals w64 x, (uint_vals w64 n, (uint_vals w64 k, tt))))), g) in
      qed 𝓛 (raw (on_entry 𝓛 (exported 3 usize).signature κs qs a (s a.0).0.4) ∷ (some (λ (_ : S g.0). ‵ (lies_at (row K) full_share a.0 g.0)) ⊛ (‵ (owns g.1) ⊛
      raw (fact 𝓤 (Fact g.0 g.1 x (n, (k, tt)))))) ∷ []) ∵ drop ! $
      split ! $ pick ! (λ ready. move ! (1 ∷ []) $ split ! $ move ! (1 ∷ []) $ heard ! (Fact g.0 g.1 x (n, (k, tt))) (λ known. move ! (1 ∷ []) $
      in_its_block ! (row K) g.0 a.0 (λ p. prop (WpFn 𝓤 𝓛.H 𝓣.C 𝓣.Λ (function 2 σ τ θ ζ source callee finish)
      (rawptr_vals p ++ uint_vals w64 x ++ uint_vals w64 n ++ uint_vals w64 k ++ []) (W.post (s p)))) (λ b o.
      enter ! _ _ _ _ _ $ alloc_all ! (λ l. pass_all ! refl
      ((tt, tt), ((tt, record { fits = are.1.0.1 }), ((tt, record { fits = are.1.1.0.1 }), ((tt, record { fits = are.1.1.1.0.1 }), tt)))) $
      -- [the heap; what the caller gives up; the locals]
      move ! (1 ∷ []) $ takes_payload ! is_framed Q owns Makes source_met g.1 x are.1.0.1 (λ i. and_then ! (get ! refl) (no_more !)) (λ u q is_q made.
      let typed_q = good q u is_q in lands_as ! refl refl typed_q $
      -- [the payload; the heap; the locals]
      sets ! (of_opd ! (get ! refl)) refl (tt, tt) $ sets ! (addr ! (through ! refl (stop !))) refl (tt, tt) $ sets ! (of_opd ! (get ! refl)) refl typed_q $
      move ! (1 ∷ 0 ∷ []) $
      lends_heap ! is_framed K (number_and 2 Q) (kept_and 2 Q) Z (Asked 2 K P T) (Did 2 K P T) met b o g.0 (λ κs. (x, (q, (n, (k, tt)))))
      (λ κs. (uint_vals w64 x, (u ∷ [], (uint_vals w64 n, (uint_vals w64 k, tt))))) _ (λ κs. refl)
      (λ κs. qed 𝓛 (‵ (Q.own_val q (u ∷ [])) ∷ []) ∵ nothing ! $ owned ! usize _ (uint_Makes 𝓛 w64) k _ (refl, are.1.1.1.0.1) $ join ! $
      owned ! usize _ (uint_Makes 𝓛 w64) n _ (refl, are.1.1.0.1) $ join ! $ move ! (1 ∷ 0 ∷ []) $ join ! $ owned ! usize _ (uint_Makes 𝓛 w64) x _ (refl, are.1.0.1) $
      join ! $ done !) (λ κs. asks g.0 g.1 x (n, (k, tt)) q ready known made) (λ i. and_then ! (get ! refl) (and_then ! (get ! refl) (and_then ! (get ! refl)
      (and_then ! (get ! refl) (and_then ! (get ! refl) (no_more !))))))
      (λ v κs r w is did. let typed = good_reply r v is in lands_as ! refl refl typed $
      -- [the heap; what was returned; the locals]
      move ! (1 ∷ []) $ sets ! (of_opd ! (get ! refl)) refl typed $
      passes_number ! is_framed Z num gives finish_met r v (λ i. and_then ! (get ! refl) (no_more !))
      (λ h m is_m at. lands_as ! refl refl ((uint_Lawful 𝓛 w64).typed m _ is_m).0 $
      -- [what the caller gets; the number; the heap; the locals]
      returns ! (look_at ! 0 refl) $ free_all ! refl $ keep ! (0 ∷ 2 ∷ 1 ∷ []) $
      gives_out ! (row K) w b o D (λ i. Outer g.0 g.1 x (n, (k, tt)) i) (λ i w y. owns y) m (num r) at
      (packs g.0 g.1 x (n, (k, tt)) q r w ready known made did) $ move ! (1 ∷ []) $
      suffices ! _ (ends_at 𝓛 (exported 3 usize) (stayed 3 usize) c (s (block_ptr b o)) h m (tt, (tt, (tt, (tt, tt)))) (tt, (tt, (tt, (tt, tt))))) $
      nothing ! $ nothing ! $ join ! $ nothing ! $ join ! $ nothing ! $ join ! $ nothing ! $ join ! $ nothing ! $ group ! 3 $ done !))))))))
