-- Exports that lend the words behind the handle to a call, pass it a slice that is only read, and return a number.
use Rattle.rlsf_malloc_calls.proofs.Walking.{ℕ, List, [], ◌∷◌, ◌++◌, refl, w64, proved, full_share, id⊢, ftrue, flft, vptr, WpFn, fact, tables, ‵, raw, ◌⊛◌, some, later}
use Rattle.rlsf_malloc_calls.proofs.Walking.{prop, ◌$◌, ◌∵◌, !, qed, done, move, keep, drop, use0, use1, use2, use3, split, join, fsplit, fpack, pick}
use Rattle.rlsf_malloc_calls.proofs.Walking.{await, suffices, group, lft_end, enter, of_opd, addr, stop, no_more, and_then, returns, alloc_all, pass_all, free_all}
use Rattle.rlsf_malloc_calls.proofs.Walking.{look_at, get, through, sets, lands_as, yes, ref_back, part_at, Ptr, RawPtr, block_ptr, lies_at}
use Rattle.rlsf_malloc_calls.proofs.Walking.{rawptr_vals, rawptr_Tells, plain, nothing, heard, calls_at, lasts, triple_of, Stays, walk_of, stay_dropped}
use Rattle.rlsf_malloc_calls.proofs.Walking.{Goes-dropped, ends_at, framed, usize, Is, shows, peeks, uint_Lawful, Ura, sep, Logic, sem}
use Rattle.rlsf_malloc_calls.proofs.Walking.{Model, Closed, Running, Fn, Callee, Ty, local, value_local, ty_ptr, ty_int, ty_ref, erased, mut, seq, assign, place}
use Rattle.rlsf_malloc_calls.proofs.Walking.{rv_opd, copy, addr_of, deref, call, return, RattleType, RefMutOf, Ended, Clauses, closing, Meets}
use mir.Syntax.{named}
use denote.RattleType.{owns}
use denote.Builtin.{SliceRefOf}
use denote.Signature.{shr_slice_of}
use denote.Slice.{ShrSlice, shr_slice_vals, shr_slice_Tells}
use Rattle.rlsf_c_lemmas.proofs.Lending.{in_its_block, lends}
use contract.BorrowLft.{⊑_static}
use contract.Lifetimes.{toks}
use Rattle.rlsf_model_sizes.specs.SizeClass.{IsValid}
use Rattle.rlsf_malloc.proofs.HeapKinds.{Kind, words}
use Rattle.rlsf_malloc.proofs.Steps.{at_row, row_lasts, lasting, tokens, all_shares}
use Rattle.rlsf_malloc.specs.Handle.{HoldsValue, HoldsSome}
use denote.Memory.{lone}

-- the code
abbrev pub function : Ty → Ty → Callee → Fn
function σ τ callee = record {
  lifetimes = 1;
  outlives = [];
  ty_params = [];
  givens = 0;
  params = 2;
  locals =
      local (ty_int w64) value_local ∷ local ty_ptr value_local ∷ local (lone (ShrSlice (named 0) [] usize).mir) value_local ∷ local ty_ptr value_local
      ∷ local (ty_ref erased mut σ) value_local ∷ [];
  body =
      seq (assign (place 3 []) (rv_opd (copy (place 1 [])))) (
      seq (assign (place 4 []) (addr_of (place 3 (deref τ ∷ [])))) (
      seq (call callee (copy (place 4 []) ∷ copy (place 2 []) ∷ []) (place 0 [])) (
      return)));
}

-- its signature, and that of what it calls
abbrev pub exported : Ended
exported = record {
  signature = record {
    lifetimes = 1;
    outlives = [];
    params = plain (λ κs. RawPtr) ∷ SliceRefOf (0 ∷ []) tt (plain (λ κs. usize)) (λ κs. tt) ∷ [];
    result = plain (λ κs. usize);
  };
  kept = (yes, (yes, tt));
}

abbrev pub called : Kind → Ended
called K = record {
  signature = record {
    lifetimes = 6;
    outlives = record { long = 2; long_ok = tt; short = named 0; short_ok = tt } ∷ record { long = 3; long_ok = tt; short = named 0; short_ok = tt } ∷ [];
    params = RefMutOf (0 ∷ []) tt (plain (λ κs. words K)) (λ κs. tt) ∷ SliceRefOf (1 ∷ []) tt (plain (λ κs. usize)) (λ κs. tt) ∷ [];
    result = plain (λ κs. usize);
  };
  kept = (yes, (yes, tt));
}

abbrev stayed : Stays exported.signature.params exported.kept
stayed = (stay_dropped _ yes, (stay_dropped _ yes, tt))

module _ (K : Kind) (S : (words K).Denot → Type 0) (Fact : (words K).Denot → List ℕ → Type 0)
    (Post : (words K).Denot → List ℕ → ℕ → (words K).Denot → Type 0) where
  abbrev R : RattleType
  R = words K

  abbrev Asks : R.Denot → List ℕ → Type 0
  Asks v ns = IsValid K.ghosts.width K.ghosts.width K.rows K.classes × Fact v ns

  module _ {M : Type 1} {𝓤 : Ura M} (𝓛 : Logic 𝓤) where
    abbrev pub outer : Clauses 𝓤 exported
    outer κs a = record {
      ghost = R.Denot;
      requires = λ g. sep 𝓤 (sem 𝓛 (HoldsValue R S a.0 g)) (fact 𝓤 (Fact g a.1.0.now));
      ensures = λ g r end. sem 𝓛 (HoldsSome R a.0 (λ w. Post g a.1.0.now r w));
    }

    abbrev pub inner : Clauses 𝓤 (called K)
    inner κs a = record {
      ghost = Unit {0};
      requires = λ _. at_row 𝓛 (words K) K κs.1.1 (Asks a.0.now a.1.0.now);
      ensures = λ _ r end. fact 𝓤 (Post a.0.now a.1.0.now r end.0.now);
    }

  pub exports : {M : Type 1} (𝓤 : Ura M) (𝓛 : Logic 𝓤) (𝓜 : Model 𝓤 𝓛.H) (𝓡 : Running 𝓤 𝓛.H 𝓜) (σ τ : Ty) (key callee : Callee)
      → Closed 𝓤 𝓛.H (tables 𝓤 𝓛.H 𝓜 𝓡 𝓡.env).C (tables 𝓤 𝓛.H 𝓜 𝓡 𝓡.env).Λ key (function σ τ callee)
      → Meets 𝓛 (called K).signature (𝓡.run (𝓡.env callee)) (closing 𝓛 (called K) (inner 𝓛))
      → Meets 𝓛 exported.signature (𝓡.run (𝓡.env key)) (closing 𝓛 exported (outer 𝓛))
  exports 𝓤 𝓛 𝓜 𝓡 σ τ key callee closed met =
      let c = outer 𝓛 in let W = walk_of 𝓛 exported stayed c in let 𝓣 = tables 𝓤 𝓛.H 𝓜 𝓡 𝓡.env in
      proved 𝓛 exported stayed c 𝓜 𝓡
      (Goes-dropped 𝓛 1 (plain (λ _. RawPtr)) yes (λ κs x w. refl), (Goes-dropped 𝓛 1 (shr_slice_of (0 ∷ []) tt (plain (λ _. usize))) yes (λ κs x w. refl), tt))
      key (function σ τ callee) closed
      (λ κs. (rawptr_vals, (shr_slice_vals, tt))) (λ κs. (rawptr_Tells, (shr_slice_Tells (named 0) κs.0 usize, tt))) (λ κs qs bounds a before are.
      let κ = κs.0 in let q = qs.0 in let z' = a.1.0 in
      let s : Ptr → W.Ghost = λ p. ((κs, qs, bounds, (p, (z', tt)), (rawptr_vals p, (shr_slice_vals z', tt))), before) in
      qed 𝓛 (((‵ (flft κ q) ⊛ ‵ ftrue) ⊛ ‵ (owns (RawPtr ∷ ShrSlice (named 0) κ usize ∷ []) a (s a.0).0.4))
      ∷ (some (λ (_ : S before). ‵ (lies_at R full_share a.0 before)) ⊛ raw (fact 𝓤 (Fact before z'.now))) ∷ []) ∵
      move ! (1 ∷ []) $ split ! $ pick ! (λ ready. move ! (1 ∷ []) $ heard ! (Fact before z'.now) (λ live. move ! (1 ∷ []) $
      split ! $ split ! $ move ! (2 ∷ []) $ fsplit ! $ drop ! $ fsplit ! $ keep ! (4 ∷ 0 ∷ 2 ∷ []) $
      -- [the words; the slice; the token of κ]
      in_its_block ! R before a.0 (λ p. prop (WpFn 𝓤 𝓛.H 𝓣.C 𝓣.Λ (function σ τ callee) (rawptr_vals p ++ shr_slice_vals z' ++ []) (W.post (s p)))) (λ b o.
      enter ! _ _ _ _ _ $ alloc_all ! (λ l. pass_all ! refl ((tt, tt), ((tt, (tt, (record { fits = are.1.0.0.1.0 }, tt))), tt)) $
      lends ! tt R before b o (λ α γ.
      -- [the loan; what the lender keeps; the token of α; the slice; the token of κ; the locals]
      sets ! (of_opd ! (get ! refl)) refl (tt, tt) $ sets ! (addr ! (through ! refl (stop !))) refl (tt, tt) $
      let G = triple_of 𝓛 (called K).signature (closing 𝓛 (called K) (inner 𝓛)) in
      let y : G.Ghost = (
        (
          (α ∷ [], (κ, lasting 𝓛)),
          (full_share, (q, all_shares 𝓛)),
          (⊑_static (α ∷ []), (⊑_static (α ∷ []), tt)),
          (record { ref_ptr = (b, o); ghost_name = γ; now = before }, (z', tt)),
          (vptr b o ∷ [], (shr_slice_vals z', tt)),
        ),
        tt,
      ) in
      nothing ! $ move ! (4 ∷ 0 ∷ []) $ join ! $ move ! (1 ∷ 0 ∷ []) $ join ! $
      -- [the arguments; what the lender keeps; the token of α; the token of κ; the locals]
      use0 𝓛 (raw (toks 𝓛 4 (lasting 𝓛) (all_shares 𝓛))) (tokens 𝓛) $ move ! (4 ∷ 0 ∷ []) $ join ! $ move ! (3 ∷ 0 ∷ []) $ join ! $ join ! $
      use0 𝓛 (raw (at_row 𝓛 R K (lasting 𝓛) (Asks before z'.now))) (row_lasts 𝓛 R K K.words_small (Asks before z'.now) (K.valid, live)) $
      move ! (1 ∷ 0 ∷ []) $ use2 𝓛 (raw (G.pre y)) (id⊢ 𝓤 _) $
      calls_at ! (framed 𝓤 𝓛.H 𝓜 (tables 𝓤 𝓛.H 𝓜 𝓡 𝓡.env)) G met y (and_then ! (get ! refl) (and_then ! (get ! refl) (no_more !))) (λ v.
      use1 𝓛 (later (some (λ (r : ℕ). ((‵ (flft (α ∷ []) full_share) ⊛ (‵ (flft κ q) ⊛ raw (toks 𝓛 4 (lasting 𝓛) (all_shares 𝓛)))) ⊛ ‵ (usize.own_val r (v ∷ []))) ⊛
      some (λ (ws : R.Denot × (Unit {0} × Unit {0})). ‵ (lasts (called K) y.0.0 y.0.3 ws) ⊛ raw (fact 𝓤 (Post before z'.now r ws.0)))))) (id⊢ 𝓤 _) $
      await ! tt $ pick ! (λ r. split ! $ split ! $ split ! $ lft_end ! tt $
      move ! (1 ∷ []) $ split ! $ move ! (1 ∷ []) $ drop ! $ nothing ! $ move ! (1 ∷ 0 ∷ []) $ join ! $ move ! (2 ∷ 1 ∷ []) $
      peeks ! usize (Is usize) (shows 𝓛 usize) r (v ∷ []) (λ is. lands_as ! refl refl ((uint_Lawful 𝓛 w64).typed r _ is).0 $
      -- [the result; α is over; the token of κ; what the call left; what the lender keeps; the locals]
      move ! (3 ∷ []) $ pick ! (λ ws. split ! $ move ! (1 ∷ []) $ heard ! (Post before z'.now r ws.0) (λ did. fsplit ! $ fsplit ! $
      -- [the words' last value; their borrow; what says nothing; the result; α is over; the token of κ; what the lender keeps]
      move ! (4 ∷ 6 ∷ 0 ∷ []) $ use3 𝓛 (later (‵ (part_at R full_share ws.0 b o))) (ref_back 𝓛 R (α ∷ []) γ ws.0 b o) $ await ! tt $
      -- [the words; the borrow; what says nothing; the result; the token of κ; the locals]
      returns ! (look_at ! 0 refl) $ free_all ! refl $ keep ! (0 ∷ 3 ∷ 4 ∷ []) $
      fpack ! ((w : R.Denot) × Post before z'.now r w) (λ t. lies_at R full_share (block_ptr b o) t.0) (ws.0, did) $
      suffices ! _ (ends_at 𝓛 exported stayed c (s (block_ptr b o)) v r (tt, (tt, tt)) (tt, (tt, tt))) $
      nothing ! $ nothing ! $ join ! $ nothing ! $ join ! $ move ! (3 ∷ 0 ∷ 2 ∷ []) $ group ! 3 $ done !)))))))))))
