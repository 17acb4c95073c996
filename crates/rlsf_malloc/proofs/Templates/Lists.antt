-- Exports that lend the heap behind the handle to a call with three numbers, pass a slice on, and return a number.
use Rattle.rlsf_malloc_calls.proofs.Walking.{ℕ, [], ◌∷◌, ◌++◌, refl, w64, proved, full_share, id⊢, ftrue, flft, vptr, WpFn, fact, tables, ‵, raw, ◌⊛◌, some, later}
use Rattle.rlsf_malloc_calls.proofs.Walking.{prop, ◌$◌, ◌∵◌, !, qed, done, move, keep, drop, use0, use1, use2, use3, split, join, fsplit, fjoin, fpack, feq_l, pick}
use Rattle.rlsf_malloc_calls.proofs.Walking.{await, suffices, group, lft_end, enter, of_opd, addr, stop, no_more, and_then, returns, alloc_all, pass_all, free_all}
use Rattle.rlsf_malloc_calls.proofs.Walking.{look_at, get, through, sets, lands_as, yes, ref_back, part_at, uint_vals, uint_Tells, Ptr, RawPtr, block_ptr, lies_at}
use Rattle.rlsf_malloc_calls.proofs.Walking.{rawptr_vals, rawptr_Tells, plain, nothing, owned, heard, calls_at, lasts, triple_of, Stays, walk_of, stay_dropped}
use Rattle.rlsf_malloc_calls.proofs.Walking.{Goes-dropped, ends_at, framed, usize, uint_Makes, Is, shows, peeks, uint_Lawful, Ura, sep, Logic, sem}
use Rattle.rlsf_malloc_calls.proofs.Walking.{Model, Closed, Running, Fn, Callee, Ty, local, value_local, ty_ptr, ty_int, ty_ref, erased, mut, seq, assign, place}
use Rattle.rlsf_malloc_calls.proofs.Walking.{rv_opd, copy, addr_of, deref, call, return, RattleType, RefMutOf, Ended, Clauses, closing, Meets}
use Rattle.std.proofs.Common.{List}
use mir.Syntax.{aggregate, field, named}
use denote.RattleType.{owns}
use types.Run.{from, fld, hop}
use types.ByLocal.{get_in, look_in_at}
use types.Part.{agg, sub, whole}
use denote.Builtin.{SliceRefMutOf}
use denote.Slice.{MutSlice, mut_slice_vals, mut_slice_Tells}
use denote.Triple.Walked.{gave_slice, Goes-gave_slice}
use Rattle.rlsf_c_lemmas.proofs.Lending.{in_its_block, lends}
use contract.BorrowLft.{⊑_static}
use contract.Lifetimes.{toks}
use Rattle.rlsf_malloc.proofs.HeapKinds.{Kind, row}
use Rattle.rlsf_malloc.proofs.Steps.{at_kind, kind_lasts, lasting, tokens, all_shares}
use Rattle.rlsf_malloc.specs.Handle.{HoldsValue, HoldsSome}
use denote.Memory.{lone}

-- the code
abbrev pub function : Ty → Ty → Callee → Fn
function σ τ callee = record {
  lifetimes = 1;
  outlives = [];
  ty_params = [];
  givens = 0;
  params = 5;
  locals =
      local (ty_int w64) value_local ∷ local ty_ptr value_local ∷ local (ty_int w64) value_local ∷ local (ty_int w64) value_local
      ∷ local (ty_int w64) value_local ∷ local (lone (MutSlice (named 0) [] usize).mir) value_local ∷ local ty_ptr value_local
      ∷ local (ty_ref erased mut σ) value_local ∷ local (ty_ref erased mut (ty_int w64)) value_local
      ∷ local (lone (MutSlice erased [] usize).mir) value_local ∷ [];
  body =
      seq (assign (place 6 []) (rv_opd (copy (place 1 [])))) (
      seq (assign (place 7 []) (addr_of (place 6 (deref τ ∷ [])))) (
      seq (assign (place 8 []) (addr_of (place 5 (field 0 ∷ deref (ty_int w64) ∷ [])))) (
      seq (assign (place 9 []) (aggregate (copy (place 8 []) ∷ copy (place 5 (field 1 ∷ [])) ∷ []))) (
      seq (call callee (copy (place 7 []) ∷ copy (place 2 []) ∷ copy (place 3 []) ∷ copy (place 4 []) ∷ copy (place 9 []) ∷ []) (place 0 [])) (
      return)))));
}

-- its signature, and that of what it calls
abbrev pub exported : Ended
exported = record {
  signature = record {
    lifetimes = 1;
    outlives = [];
    params = plain (λ κs. RawPtr) ∷ plain (λ κs. usize) ∷ plain (λ κs. usize) ∷ plain (λ κs. usize) ∷ SliceRefMutOf (0 ∷ []) tt (plain (λ κs. usize)) (λ κs. tt) ∷ [];
    result = plain (λ κs. usize);
  };
  kept = (yes, (yes, (yes, (yes, (yes, tt)))));
}

abbrev pub called : Kind → Ended
called K = record {
  signature = record {
    lifetimes = 6;
    outlives = record { long = 2; long_ok = tt; short = named 0; short_ok = tt } ∷ record { long = 3; long_ok = tt; short = named 0; short_ok = tt } ∷ [];
    params = RefMutOf (0 ∷ []) tt (plain (λ κs. row K)) (λ κs. tt) ∷ plain (λ κs. usize) ∷ plain (λ κs. usize) ∷ plain (λ κs. usize)
        ∷ SliceRefMutOf (1 ∷ []) tt (plain (λ κs. usize)) (λ κs. tt) ∷ [];
    result = plain (λ κs. usize);
  };
  kept = (yes, (yes, (yes, (yes, (yes, tt)))));
}

abbrev stayed : Stays exported.signature.params exported.kept
stayed = (stay_dropped _ yes, (stay_dropped _ yes, (stay_dropped _ yes, (stay_dropped _ yes, (gave_slice (0 ∷ []) tt (plain (λ _. usize)), tt)))))

module _ (K : Kind) (S : (row K).Denot → Type 0) (Fact : (row K).Denot → ℕ → ℕ → Type 0)
    (Post : (row K).Denot → ℕ → ℕ → ℕ → List ℕ → ℕ → List ℕ → (row K).Denot → Type 0) where
  abbrev R : RattleType
  R = row K

  module _ {M : Type 1} {𝓤 : Ura M} (𝓛 : Logic 𝓤) where
    abbrev pub outer : Clauses 𝓤 exported
    outer κs a = record {
      ghost = R.Denot;
      requires = λ g. sep 𝓤 (sem 𝓛 (HoldsValue R S a.0 g)) (fact 𝓤 (Fact g a.1.0 a.1.1.0));
      ensures = λ g r end. sem 𝓛 (HoldsSome R a.0 (λ w. Post g a.1.0 a.1.1.0 a.1.1.1.0 a.1.1.1.1.0.now r end.1.1.1.1.0.now w));
    }

    abbrev pub inner : Clauses 𝓤 (called K)
    inner κs a = record {
      ghost = Unit {0};
      requires = λ _. at_kind 𝓛 K κs.1.1 (S a.0.now × Fact a.0.now a.1.0 a.1.1.0);
      ensures = λ _ r end. fact 𝓤 (Post a.0.now a.1.0 a.1.1.0 a.1.1.1.0 a.1.1.1.1.0.now r end.1.1.1.1.0.now end.0.now);
    }

  pub exports : {M : Type 1} (𝓤 : Ura M) (𝓛 : Logic 𝓤) (𝓜 : Model 𝓤 𝓛.H) (𝓡 : Running 𝓤 𝓛.H 𝓜) (σ τ : Ty) (key callee : Callee)
      → Closed 𝓤 𝓛.H (tables 𝓤 𝓛.H 𝓜 𝓡 𝓡.env).C (tables 𝓤 𝓛.H 𝓜 𝓡 𝓡.env).Λ key (function σ τ callee)
      → Meets 𝓛 (called K).signature (𝓡.run (𝓡.env callee)) (closing 𝓛 (called K) (inner 𝓛))
      → Meets 𝓛 exported.signature (𝓡.run (𝓡.env key)) (closing 𝓛 exported (outer 𝓛))
  exports 𝓤 𝓛 𝓜 𝓡 σ τ key callee closed met =
      let c = outer 𝓛 in let W = walk_of 𝓛 exported stayed c in let 𝓣 = tables 𝓤 𝓛.H 𝓜 𝓡 𝓡.env in
      let goes = Goes-dropped 𝓛 1 (plain (λ _. usize)) yes (λ κs x w. refl) in
      proved 𝓛 exported stayed c 𝓜 𝓡
      (Goes-dropped 𝓛 1 (plain (λ _. RawPtr)) yes (λ κs x w. refl), (goes, (goes, (goes, (Goes-gave_slice 𝓛 1 0 tt (plain (λ _. usize)), tt)))))
      key (function σ τ callee) closed
      (λ κs. (rawptr_vals, (uint_vals w64, (uint_vals w64, (uint_vals w64, (mut_slice_vals, tt))))))
      (λ κs. (rawptr_Tells, (uint_Tells w64, (uint_Tells w64, (uint_Tells w64, (mut_slice_Tells (named 0) κs.0 usize, tt)))))) (λ κs qs bounds a before are.
      let κ = κs.0 in let q = qs.0 in let x = a.1.0 in let y' = a.1.1.0 in let u' = a.1.1.1.0 in let z' = a.1.1.1.1.0 in
      let s : Ptr → W.Ghost =
      λ p. ((κs, qs, bounds, (p, (x, (y', (u', (z', tt))))), (rawptr_vals p, (uint_vals w64 x, (uint_vals w64 y', (uint_vals w64 u', (mut_slice_vals z', tt)))))), before) in
      let Owed : Type 0 = S before × Fact before x y' in
      qed 𝓛 (((‵ (flft κ q) ⊛ ‵ ftrue) ⊛ ‵ (owns (RawPtr ∷ usize ∷ usize ∷ usize ∷ MutSlice (named 0) κ usize ∷ []) a (s a.0).0.4))
      ∷ (some (λ (_ : S before). ‵ (lies_at R full_share a.0 before)) ⊛ raw (fact 𝓤 (Fact before x y'))) ∷ []) ∵
      move ! (1 ∷ []) $ split ! $ pick ! (λ ready. move ! (1 ∷ []) $ heard ! (Fact before x y') (λ live. move ! (1 ∷ []) $
      split ! $ split ! $ move ! (2 ∷ []) $ fsplit ! $ drop ! $ fsplit ! $ drop ! $ fsplit ! $ drop ! $ fsplit ! $ drop ! $ fsplit ! $ keep ! (4 ∷ 0 ∷ 2 ∷ []) $
      -- [the heap; the numbers; the token of κ]
      in_its_block ! R before a.0
      (λ p. prop (WpFn 𝓤 𝓛.H 𝓣.C 𝓣.Λ (function σ τ callee) (rawptr_vals p ++ uint_vals w64 x ++ uint_vals w64 y' ++ uint_vals w64 u' ++ mut_slice_vals z' ++ [])
      (W.post (s p)))) (λ b o.
      enter ! _ _ _ _ _ $ alloc_all !
      (λ l. pass_all ! refl (
        (tt, tt),
        (
          (tt, record { fits = are.1.0.1 }),
          ((tt, record { fits = are.1.1.0.1 }), ((tt, record { fits = are.1.1.1.0.1 }), ((tt, (tt, (record { fits = are.1.1.1.1.0.0.1.0 }, tt))), tt))),
        ),
      ) $
      lends ! tt R before b o (λ α γ.
      -- [the loan; what the lender keeps; the token of α; the numbers; the token of κ; the locals]
      sets ! (of_opd ! (get ! refl)) refl (tt, tt) $ sets ! (addr ! (through ! refl (stop !))) refl (tt, tt) $
      sets ! (addr ! (from ! (fld ! refl (hop ! (look_in_at ! 5 (sub ! 0 refl (whole !))) (stop !))))) refl (tt, tt) $
      sets ! (agg ! (and_then ! (get ! refl) (and_then ! (get_in ! (fld ! refl (stop !)) (sub ! 1 refl (whole !))) (no_more !)))) refl
      (tt, (tt, (record { fits = are.1.1.1.1.0.0.1.0 }, tt))) $
      let G = triple_of 𝓛 (called K).signature (closing 𝓛 (called K) (inner 𝓛)) in
      let y : G.Ghost = (
        (
          (α ∷ [], (κ, lasting 𝓛)),
          (full_share, (q, all_shares 𝓛)),
          (⊑_static (α ∷ []), (⊑_static (α ∷ []), tt)),
          (record { ref_ptr = (b, o); ghost_name = γ; now = before }, (x, (y', (u', (z', tt))))),
          (vptr b o ∷ [], (uint_vals w64 x, (uint_vals w64 y', (uint_vals w64 u', (mut_slice_vals z', tt))))),
        ),
        tt,
      ) in
      nothing ! $ move ! (4 ∷ 0 ∷ []) $ join ! $ owned ! usize _ (uint_Makes 𝓛 w64) u' _ (refl, are.1.1.1.0.1) $ join ! $
      owned ! usize _ (uint_Makes 𝓛 w64) y' _ (refl, are.1.1.0.1) $ join ! $ owned ! usize _ (uint_Makes 𝓛 w64) x _ (refl, are.1.0.1) $ join ! $ move ! (1 ∷ 0 ∷ []) $
      join ! $
      -- [the arguments; what the lender keeps; the token of α; the token of κ; the locals]
      use0 𝓛 (raw (toks 𝓛 4 (lasting 𝓛) (all_shares 𝓛))) (tokens 𝓛) $ move ! (4 ∷ 0 ∷ []) $ join ! $ move ! (3 ∷ 0 ∷ []) $ join ! $ join ! $
      use0 𝓛 (raw (at_kind 𝓛 K (lasting 𝓛) Owed)) (kind_lasts 𝓛 K Owed (ready, live)) $
      move ! (1 ∷ 0 ∷ []) $ use2 𝓛 (raw (G.pre y)) (id⊢ 𝓤 _) $
      calls_at ! (framed 𝓤 𝓛.H 𝓜 (tables 𝓤 𝓛.H 𝓜 𝓡 𝓡.env)) G met y
      (and_then ! (get ! refl) (and_then ! (get ! refl) (and_then ! (get ! refl) (and_then ! (get ! refl) (and_then ! (get ! refl) (no_more !)))))) (λ v.
      use1 𝓛 (later (some (λ (r : ℕ). ((‵ (flft (α ∷ []) full_share) ⊛ (‵ (flft κ q) ⊛ raw (toks 𝓛 4 (lasting 𝓛) (all_shares 𝓛)))) ⊛ ‵ (usize.own_val r (v ∷ []))) ⊛
      some (λ (ws : R.Denot × (Unit {0} × (Unit {0} × (Unit {0} × (List ℕ × Unit {0}))))). ‵ (lasts (called K) y.0.0 y.0.3 ws) ⊛ raw
      (fact 𝓤 (Post before x y' u' z'.now r ws.1.1.1.1.0 ws.0)))))) (id⊢ 𝓤 _) $
      await ! tt $ pick ! (λ r. split ! $ split ! $ split ! $ lft_end ! tt $
      move ! (1 ∷ []) $ split ! $ move ! (1 ∷ []) $ drop ! $ nothing ! $ move ! (1 ∷ 0 ∷ []) $ join ! $ move ! (2 ∷ 1 ∷ []) $
      peeks ! usize (Is usize) (shows 𝓛 usize) r (v ∷ []) (λ is. lands_as ! refl refl ((uint_Lawful 𝓛 w64).typed r _ is).0 $
      -- [the result; α is over; the token of κ; what the call left; what the lender keeps; the locals]
      move ! (3 ∷ []) $ pick ! (λ ws. split ! $ move ! (1 ∷ []) $ heard ! (Post before x y' u' z'.now r ws.1.1.1.1.0 ws.0) (λ did. fsplit ! $ fsplit ! $
      move ! (2 ∷ []) $ fsplit ! $ drop ! $ fsplit ! $ drop ! $ fsplit ! $ drop ! $ fsplit ! $ fsplit ! $ fsplit ! $ move ! (1 ∷ []) $ feq_l ! (λ long. fjoin ! $
      -- [what says the last numbers; nothing; the heap's last value; its borrow; the result; α is over; the token of κ; what the lender keeps]
      move ! (5 ∷ 7 ∷ 2 ∷ []) $ use3 𝓛 (later (‵ (part_at R full_share ws.0 b o))) (ref_back 𝓛 R (α ∷ []) γ ws.0 b o) $ await ! tt $
      -- [the heap; what says the last numbers; nothing; the borrow; the result; the token of κ; the locals]
      returns ! (look_at ! 0 refl) $ free_all ! refl $ keep ! (0 ∷ 1 ∷ 4 ∷ 5 ∷ []) $
      fpack ! ((w : R.Denot) × Post before x y' u' z'.now r ws.1.1.1.1.0 w) (λ t. lies_at R full_share (block_ptr b o) t.0) (ws.0, did) $
      move ! (1 ∷ []) $
      suffices ! _ (ends_at 𝓛 exported stayed c (s (block_ptr b o)) v r (tt, (tt, (tt, (tt, (ws.1.1.1.1.0, tt))))) (tt, (tt, (tt, (tt, (long, tt)))))) $
      nothing ! $ move ! (1 ∷ 0 ∷ []) $ join ! $ nothing ! $ join ! $ nothing ! $ join ! $ nothing ! $ join ! $ nothing ! $ join ! $ move ! (3 ∷ 0 ∷ 2 ∷ []) $ group ! 3 $
      done !))))))))))))
