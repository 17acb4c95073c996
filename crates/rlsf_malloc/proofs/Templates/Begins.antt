-- Exports that make a memory of addresses, and write a heap over it to the room behind the handle.
use Rattle.rlsf_malloc_calls.proofs.Walking.{◌≡◌, ℕ, [], ◌∷◌, ◌++◌, refl, w64, proved, full_share, id⊢, ftrue, vunit, WpFn, fact, tables, ‵, raw, ◌⊛◌, some, later}
use Rattle.rlsf_malloc_calls.proofs.Walking.{prop, ◌$◌, ◌∵◌, !, qed, done, move, keep, drop, use0, use1, use2, split, join, fsplit, fpack, feq_i, pick, await}
use Rattle.rlsf_malloc_calls.proofs.Walking.{suffices, group, enter, of_opd, stop, no_more, and_then, returns, alloc_all, pass_all, free_all, look_at, get, through}
use Rattle.rlsf_malloc_calls.proofs.Walking.{sets, lands_as, yes, part_at, uint_vals, uint_Tells, Ptr, RawPtr, block_ptr, lies_at, rawptr_vals, rawptr_Tells, plain}
use Rattle.rlsf_malloc_calls.proofs.Walking.{nothing, owned, heard, calls_at, lasts, triple_of, Stays, walk_of, stay_dropped, Goes-dropped, ends_at, framed, usize}
use Rattle.rlsf_malloc_calls.proofs.Walking.{unit, unit_lit, uint_Makes, Is, shows, peeks, fact_i, emp, Val, Ura, sep, Logic, sem, Model, Closed, Running, Fn}
use Rattle.rlsf_malloc_calls.proofs.Walking.{Callee, Ty, local, value_local, ty_ptr, ty_int, ty_unit, seq, assign, place, rv_opd, copy, opd_unit, deref, call}
use Rattle.rlsf_malloc_calls.proofs.Walking.{return, RattleType, Ended, Clauses, closing, Meets, Good, in_a_block, regoal}
use Rattle.std.proofs.Common.{List, length, ap, sym, ◌∙◌}
use base.Fml.{froom}
use borrow.Table.OneValue.{part_in}
use denote.Memory.{lone}
use denote.RattleType.{owns}
use denote.RawPtr.{room_at, rawptr_Makes, rawptr_Lawful}
use types.Run.{assigns, init}
use Rattle.std_heap.proofs.Handle.{heap_val, heap_Tells}
use Rattle.std_heap.specs.contracts.Global.{the_row as Heap}
use Rattle.rlsf_base.specs.Changes.{left}
use Rattle.rlsf_base.specs.OpenSpace.{IsAway, place_in}
use Rattle.rlsf_base.specs.Out.{Change}
use Rattle.rlsf_base.specs.RawParts.{CanStart}
use Rattle.rlsf_base.specs.Space.{Space, range_of}
use Rattle.rlsf_base.specs.Steps.Ownership.{IsInBlock}
use Rattle.rlsf_base.specs.contracts.memory.open_memory.OpenMemory.{the_row as M}
use Rattle.rlsf_base.proofs.memory.open_memory.OpenMemory.TheLaws as memory_laws
use Rattle.rlsf_base.specs.contracts.memory.open_memory.OpenMemory.over_addresses as g
use Rattle.rlsf_model_sizes.specs.SizeClass.{IsValid}
use Rattle.rlsf_malloc.proofs.HeapKinds.{Kind, row}
use Rattle.rlsf_malloc.proofs.Steps.{at_kind, kind_lasts, lasting, tokens, all_shares}
use Rattle.rlsf_malloc_calls.specs.Calls.{IsAllOut}
use Rattle.rlsf_malloc.specs.Handle.{HoldsSome}
use contract.Lifetimes.{toks}

-- nothing has changed
abbrev no_changes : List Change
no_changes = []

-- the code
abbrev pub function : Ty → Ty → Callee → Fn
function τ μ callee = record {
  lifetimes = 0;
  outlives = [];
  ty_params = [];
  givens = 0;
  params = 5;
  locals =
      local ty_unit value_local ∷ local ty_ptr value_local ∷ local (lone Heap.mir) value_local ∷ local ty_ptr value_local
      ∷ local (ty_int w64) value_local ∷ local (ty_int w64) value_local ∷ local μ value_local ∷ local ty_ptr value_local
      ∷ local τ value_local ∷ local μ value_local ∷ [];
  body =
      seq (call g.Key.name (copy (place 2 []) ∷ copy (place 3 []) ∷ copy (place 4 []) ∷ copy (place 5 []) ∷ []) (place 6 [])) (
      seq (assign (place 7 []) (rv_opd (copy (place 1 [])))) (
      seq (assign (place 9 []) (rv_opd (copy (place 6 [])))) (
      seq (call callee (copy (place 9 []) ∷ []) (place 8 [])) (
      seq (assign (place 7 (deref τ ∷ [])) (rv_opd (copy (place 8 [])))) (
      seq (assign (place 0 []) (rv_opd opd_unit)) (
      return))))));
}

-- its signature, and that of what it calls
abbrev pub exported : Ended
exported = record {
  signature = record {
    lifetimes = 0;
    outlives = [];
    params = plain (λ κs. RawPtr) ∷ plain (λ κs. Heap) ∷ plain (λ κs. RawPtr) ∷ plain (λ κs. usize) ∷ plain (λ κs. usize) ∷ [];
    result = plain (λ κs. unit);
  };
  kept = (yes, (yes, (yes, (yes, (yes, tt)))));
}

abbrev pub called : Kind → Ended
called K = record { signature = record { lifetimes = 4; outlives = []; params = plain (λ κs. M) ∷ []; result = plain (λ κs. row K) }; kept = (yes, tt) }

abbrev stayed : Stays exported.signature.params exported.kept
stayed = (stay_dropped _ yes, (stay_dropped _ yes, (stay_dropped _ yes, (stay_dropped _ yes, (stay_dropped _ yes, tt)))))

module _ (K : Kind) (IsMade : Space → (row K).Denot → Type 0) (Fresh : Ptr → ℕ → ℕ → (row K).Denot → Type 0) where
  abbrev R : RattleType
  R = row K

  module _ {M' : Type 1} {𝓤 : Ura M'} (𝓛 : Logic 𝓤) where
    abbrev pub outer : Clauses 𝓤 exported
    outer κs a = record {
      ghost = Unit {0};
      requires = λ _. sep 𝓤 (sem 𝓛 (room_at R a.0)) (fact 𝓤 (CanStart a.1.1.1.0 a.1.1.1.1.0 × IsInBlock a.1.1.0));
      ensures = λ _ r end. sem 𝓛 (HoldsSome R a.0 (λ v. Fresh a.1.1.0 a.1.1.1.0 a.1.1.1.1.0 v));
    }

    abbrev pub inner : Clauses 𝓤 (called K)
    inner κs a = record {
      ghost = Unit {0};
      requires = λ _. at_kind 𝓛 K κs (IsValid K.ghosts.width K.ghosts.width K.rows K.classes × IsAllOut a.0);
      ensures = λ _ r end. fact 𝓤 (IsMade a.0 r);
    }

  pub exports : ((p : Ptr) (start len : ℕ) (m : Space) (v : R.Denot) → IsMade m v → m.start ≡ start → length m.bytes ≡ len
      → (m.view.base.ptr ≡ p) × (place_in m.view start ≡ 0) → IsAway m (range_of m) → Fresh p start len v)
      → {M' : Type 1} (𝓤 : Ura M') (𝓛 : Logic 𝓤) (𝓜 : Model 𝓤 𝓛.H) (𝓡 : Running 𝓤 𝓛.H 𝓜) (key callee : Callee)
      → ((v : R.Denot) (w : Val) → Is R v (w ∷ []) → Good (lone R.mir) w)
      → Closed 𝓤 𝓛.H (tables 𝓤 𝓛.H 𝓜 𝓡 𝓡.env).C (tables 𝓤 𝓛.H 𝓜 𝓡 𝓡.env).Λ key (function (lone R.mir) (lone M.mir) callee)
      → Meets 𝓛 g.signature (𝓡.run (𝓡.env g.Key.name)) (g.spec 𝓛 𝓜.mem 𝓡.returns)
      → Meets 𝓛 (called K).signature (𝓡.run (𝓡.env callee)) (closing 𝓛 (called K) (inner 𝓛))
      → Meets 𝓛 exported.signature (𝓡.run (𝓡.env key)) (closing 𝓛 exported (outer 𝓛))
  exports fresh 𝓤 𝓛 𝓜 𝓡 key callee good closed source_met met =
      let c = outer 𝓛 in let W = walk_of 𝓛 exported stayed c in let 𝓣 = tables 𝓤 𝓛.H 𝓜 𝓡 𝓡.env in let code = function (lone R.mir) (lone M.mir) callee in
      let goes = Goes-dropped 𝓛 0 (plain (λ _. usize)) yes (λ κs x w. refl) in let goes_ptr = Goes-dropped 𝓛 0 (plain (λ _. RawPtr)) yes (λ κs x w. refl) in
      proved 𝓛 exported stayed c 𝓜 𝓡 (goes_ptr, (Goes-dropped 𝓛 0 (plain (λ _. Heap)) yes (λ κs x w. refl), (goes_ptr, (goes, (goes, tt)))))
      key code closed
      (λ κs. (rawptr_vals, ((λ _. heap_val ∷ []), (rawptr_vals, (uint_vals w64, (uint_vals w64, tt))))))
      (λ κs. (rawptr_Tells, (heap_Tells, (rawptr_Tells, (uint_Tells w64, (uint_Tells w64, tt)))))) (λ κs qs bounds a none are.
      let h = a.1.0 in let p = a.1.1.0 in let start = a.1.1.1.0 in let len = a.1.1.1.1.0 in
      let s : Ptr → W.Ghost =
      λ q. ((κs, qs, bounds, (q, (h, (p, (start, (len, tt))))), (rawptr_vals q, (heap_val ∷ [], (rawptr_vals p, (uint_vals w64 start, (uint_vals w64 len, tt)))))), none) in
      let Asked : Type 0 = CanStart start len × IsInBlock p in
      qed 𝓛 ((‵ ftrue ⊛ ‵ (owns (RawPtr ∷ Heap ∷ RawPtr ∷ usize ∷ usize ∷ []) a (s a.0).0.4))
      ∷ (‵ (room_at R a.0) ⊛ raw (fact 𝓤 Asked)) ∷ []) ∵
      split ! $ move ! (1 ∷ []) $ fsplit ! $ move ! (1 ∷ []) $ fsplit ! $ keep ! (4 ∷ 0 ∷ []) $ split ! $ move ! (1 ∷ []) $
      heard ! Asked (λ asked.
      -- [the room; the allocator's handle]
      in_a_block ! a.0 (λ q. room_at R q) (id⊢ 𝓤 _) (λ b o e.
      regoal ! (λ q. prop (WpFn 𝓤 𝓛.H 𝓣.C 𝓣.Λ code (rawptr_vals q ++ (heap_val ∷ []) ++ rawptr_vals p ++ uint_vals w64 start ++ uint_vals w64 len ++ [])
      (W.post (s q)))) e refl $
      use1 𝓛 (‵ (froom (lone R.mir) b o)) (id⊢ 𝓤 _) $
      enter ! _ _ _ _ _ $ alloc_all !
      (λ l. pass_all ! refl (
        (tt, tt),
        ((tt, ((tt, tt), tt)), (((rawptr_Lawful 𝓛).typed p _ refl).0, ((tt, record { fits = are.1.1.1.0.1 }), ((tt, record { fits = are.1.1.1.1.0.1 }), tt)))),
      ) $
      let G = triple_of 𝓛 g.signature (g.spec 𝓛 𝓜.mem 𝓡.returns) in
      let z : G.Ghost = ((tt, tt, tt, (h, (p, (start, (len, tt)))), (heap_val ∷ [], (rawptr_vals p, (uint_vals w64 start, (uint_vals w64 len, tt))))), tt) in
      let Owed1 : Type 0 = CanStart start len in let Owed2 : Type 0 = IsInBlock p in
      move ! (1 ∷ []) $ nothing ! $ owned ! usize _ (uint_Makes 𝓛 w64) len _ (refl, are.1.1.1.1.0.1) $ join ! $
      owned ! usize _ (uint_Makes 𝓛 w64) start _ (refl, are.1.1.1.0.1) $ join ! $ owned ! RawPtr _ (rawptr_Makes 𝓛) p _ refl $ join ! $ move ! (1 ∷ 0 ∷ []) $ join ! $
      nothing ! $ join ! $
      use0 𝓛 (raw (fact 𝓤 Owed2)) (fact_i 𝓤 Owed2 (emp 𝓤) asked.1) $ use0 𝓛 (raw (fact 𝓤 Owed1)) (fact_i 𝓤 Owed1 (emp 𝓤) asked.0) $ join ! $
      move ! (1 ∷ 0 ∷ []) $ use2 𝓛 (raw (G.pre z)) (id⊢ 𝓤 _) $
      calls_at ! (framed 𝓤 𝓛.H 𝓜 (tables 𝓤 𝓛.H 𝓜 𝓡 𝓡.env)) G source_met z
      (and_then ! (get ! refl) (and_then ! (get ! refl) (and_then ! (get ! refl) (and_then ! (get ! refl) (no_more !))))) (λ v.
      use1 𝓛 (later (some (λ (m : (M).Denot). (‵ ftrue ⊛ ‵ ((M).own_val m (v ∷ []))) ⊛
      some (λ (ws : Unit {0} × (Unit {0} × (Unit {0} × (Unit {0} × Unit {0})))). ‵ (lasts g.ended z.0.0 z.0.3 ws) ⊛
      (raw (fact 𝓤 (m.start ≡ start)) ⊛
      (raw (fact 𝓤 (length m.bytes ≡ len)) ⊛
      (raw (fact 𝓤 ((m.touches ≡ 0) × (m.copied ≡ 0))) ⊛
      (raw (fact 𝓤 ((m.view.base.ptr ≡ p) × (place_in m.view start ≡ 0))) ⊛
      (raw (fact 𝓤 (IsAway m (range_of m))) ⊛ raw (fact 𝓤 (m.out ≡ left 0 len no_changes))))))))))) (id⊢ 𝓤 _) $
      await ! tt $ pick ! (λ m. split ! $ split ! $ drop ! $
      peeks ! M (Is M) (shows 𝓛 M) m (v ∷ [])
      (λ is_memory. let memory_typed = ((memory_laws.the_row_laws.lawful 𝓛).typed m _ is_memory).0 in lands_as ! refl refl memory_typed $
      move ! (1 ∷ []) $ pick ! (λ ws. split ! $ drop ! $ split ! $ heard ! _ (λ its_start. split ! $ heard ! _ (λ its_len. split ! $ drop ! $ split ! $ heard ! _ (λ its_block.
      split ! $ heard ! _ (λ its_away. heard ! _ (λ its_out.
      let all_out : IsAllOut m = its_out ∙ ap (λ n. left 0 n no_changes) (sym its_len) in
      sets ! (of_opd ! (get ! refl)) refl (tt, tt) $ sets ! (of_opd ! (get ! refl)) refl memory_typed $
      -- [the memory; the room; the locals]
      let T = triple_of 𝓛 (called K).signature (closing 𝓛 (called K) (inner 𝓛)) in
      let y : T.Ghost = ((lasting 𝓛, all_shares 𝓛, tt, (m, tt), (v ∷ [], tt)), tt) in
      nothing ! $ move ! (1 ∷ 0 ∷ []) $ join ! $ use0 𝓛 (raw (toks 𝓛 4 (lasting 𝓛) (all_shares 𝓛))) (tokens 𝓛) $ join ! $
      use0 𝓛 (raw (at_kind 𝓛 K (lasting 𝓛) (IsValid K.ghosts.width K.ghosts.width K.rows K.classes × IsAllOut m))) (kind_lasts 𝓛 K _ (K.valid, all_out)) $ move ! (1 ∷ 0 ∷ []) $
      use2 𝓛 (raw (T.pre y)) (id⊢ 𝓤 _) $
      calls_at ! (framed 𝓤 𝓛.H 𝓜 (tables 𝓤 𝓛.H 𝓜 𝓡 𝓡.env)) T met y
      (and_then ! (get ! refl) (no_more !)) (λ w.
      use1 𝓛 (later (some (λ (made : R.Denot). (raw (toks 𝓛 4 (lasting 𝓛) (all_shares 𝓛)) ⊛ ‵ (R.own_val made (w ∷ []))) ⊛
      some (λ (ws' : Unit {0} × Unit {0}). ‵ (lasts (called K) y.0.0 y.0.3 ws') ⊛ raw (fact 𝓤 (IsMade m made)))))) (id⊢ 𝓤 _) $
      await ! tt $ pick ! (λ made. split ! $ split ! $ drop ! $
      peeks ! R (Is R) (shows 𝓛 R) made (w ∷ []) (λ is_heap. let typed = good made w is_heap in lands_as ! refl refl typed $
      move ! (1 ∷ []) $ pick ! (λ ws'. split ! $ drop ! $ heard ! _ (λ is_made.
      -- [the heap; the room; the locals]
      assigns ! (of_opd ! (get ! refl)) (through ! refl (stop !)) (init ! 1 refl typed) $
      move ! (1 ∷ 0 ∷ []) $ use2 𝓛 (‵ (part_at R full_share made b o)) (part_in 𝓛 R refl full_share made b o w) $
      sets ! (of_opd ! (unit_lit !)) refl (tt, tt) $
      returns ! (look_at ! 0 refl) $ free_all ! refl $ keep ! (0 ∷ []) $
      fpack ! ((v : R.Denot) × Fresh p start len v) (λ x. lies_at R full_share (block_ptr b o) x.0)
      (made, fresh p start len m made is_made its_start its_len its_block its_away) $ feq_i ! _ (vunit ∷ []) _ refl $
      suffices ! _ (ends_at 𝓛 exported stayed c (s (block_ptr b o)) vunit tt (tt, (tt, (tt, (tt, (tt, tt))))) (tt, (tt, (tt, (tt, (tt, tt)))))) $
      nothing ! $ nothing ! $ join ! $ nothing ! $ join ! $ nothing ! $ join ! $ nothing ! $ join ! $ nothing ! $ join ! $ nothing ! $ group ! 3 $ done !))))))))))))))))))
