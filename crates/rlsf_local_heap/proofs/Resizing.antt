-- `grow` and `shrink`, whose code is the same: it gives the block to `resized` as a value, and takes apart what that returns. Assumes `Logic`.
use Rattle.std.proofs.Common.{◌≡◌, ℕ, List, [], ◌∷◌, ◌++◌, MatchResult, Ok, Err, refl, ap, ◌∙◌, ◌^◌, ◌≤◌, true, false, sym, lit<, w8, w64}
use seplogic.Ra.Ura.{Ura}
use mir.Val.{Val, vcons, vnil, of_list, vint, vptr}
use base.Logic.{never, fst∗, SProp, sep, emp, id⊢}
use base.Fml.{ffalse, fsep}
use types.Logic.{Logic, sem}
use types.Kit.{Item, Goal, Seq, ‵, ◌$◌, move, drop, rewrite, fsplit, fpick, feq_l, raw, ◌⊛◌, some, later, prop, at_ret, ◌∵◌, !, qed, by, keep, use0, use1, split, split3, join}
use types.Kit.{pick, regoal, fjoin, feq_i, flt_i, await}
use types.Match.{live, vrt, in_variant}
use denote.RattleType.{RattleType, owns}
use denote.RawPtr.{Ptr, block_ptr, null_ptr, in_a_block, ptr_val}
use denote.Shadow.{pure_l}
use denote.Steps.{only, nothing, heard}
use Rattle.std.specs.Allocator.{array_of, block_with_items, FitsBlock}
use Rattle.rlsf_heap.specs.Heap.{Identity}
use Rattle.rlsf_local_heap.specs.Ownership.{block_token}
use Rattle.rlsf_local_heap.proofs.SmallerUnits.{list_val, list_own, list_told, list_made}
use contract.BorrowLft.{◌⊑◌}
use contract.Monad.{fact, fact_i}
use types.Part.{whole, sub, agg}
use types.Run.{stop, fld, lit, of_opd, no_more, and_then, first, switches_on, exec, returns, enter}
use types.ByLocal.{alloc_all, pass_all, free_all, look_at, get, get_in, get_tag, sets, sets_last, lands_as, env}
use denote.Param.{param, layout, bounded}
use denote.Signature.{types_at}
use denote.Triple.Entry.{alive}
use denote.Triple.Call.{calls_at}
use Rattle.core.proofs.alloc.Calls.{Answer, answer_val, Answer-Ok, Answer-err}
use Rattle.core.proofs.alloc.Shapes.{after, head, arm_body}
use Rattle.core.proofs.atomic.Steps.{fm}
use Rattle.std.proofs.raw_atomic.Walks.{proved_at, leaves}
use mir.Syntax.{Ty, Fn, Args, Callee, Dict, a_type, dcons, dnil, local, value_local, ty_ref, ty_ptr, ty_int, named, imm, place, field, variant, copy, int, rv_opd, aggregate, seq}
use mir.Syntax.{assign, call, switch, arm, no_default, return}
use prog.Model.{Model}
use prog.Wp.{Env, Calls, Loops, WpFn, Closed}
use contract.Running.{Running, tables}
use denote.Triple.Clauses.{Ended, Clauses, Lasts, lasts, closing}
use denote.Triple.Spec.{Meets, triple_of}
use denote.Triple.Walked.{walk_of}
use Rattle.rlsf_base.proofs.RawBlock.Walks.{then_runs}
use Rattle.rlsf_local_heap.specs.contracts.local.LocalHeapAllocator.grow.{ended, clauses}
use Rattle.rlsf_heap.proofs.ThinValues.{dropped, all_go}
use Rattle.core.specs.contracts.result.Result as result
use Rattle.rlsf_local_heap.specs.contracts.buffer.Buffer as buffer
use Rattle.core.specs.contracts.alloc.AllocError as error
use Rattle.core.specs.contracts.marker.PhantomData as marker
use Rattle.rlsf_local_heap.specs.declared.slot.Identified
use Rattle.rlsf_local_heap.specs.declared.unit_heap.UnitHeap
use Rattle.rlsf_local_heap.specs.contracts.local.LocalHeap.resized as callee
use Rattle.rlsf_local_heap.specs.contracts.local.LocalHeap.resized.Key as callee_key

-- ---- the two cases of what `resized` returns. Assumes `Logic`

module _ (R : RattleType) where
  abbrev Buf : RattleType
  Buf = buffer.the_row R

  abbrev pub Resized : RattleType
  Resized = result.the_row Buf Buf

  abbrev pub Told : Buf.Denot → ℕ → ℕ → ℕ → Resized.Denot → Type 0
  Told x len old new r = MatchResult r (λ b. (b.heap ≡ x.heap) × (b.len ≡ len) × (b.cap ≡ new) × (b.items ≡ x.items))
      (λ b. (b.ptr ≡ x.ptr) × (b.heap ≡ x.heap) × (b.len ≡ len) × (b.cap ≡ old) × (b.items ≡ x.items))

  module _ {M : Type 1} {𝓤 : Ura M} {𝓛 : Logic 𝓤} {K : Type 0} {Γ : List (Item 𝓤)} {G : Goal 𝓤 𝓛.H} where
    pub resized : K → (x : Buf.Denot) (len old new : ℕ) (r : Resized.Denot) (v : Val) → Told x len old new r
        → ((b o : ℕ) → v ≡ live 0 (vcons (list_val (block_ptr b o)) vnil) → Seq K 𝓛 (‵ (block_with_items (block_token x.heap) R (block_ptr b o) len new x.items) ∷ Γ) G)
        → (v ≡ live 1 (vcons (list_val x.ptr) vnil) → Seq K 𝓛 (‵ (block_with_items (block_token x.heap) R x.ptr len old x.items) ∷ Γ) G)
        → Seq K 𝓛 (‵ (Resized.own_val r (v ∷ [])) ∷ Γ) G
    resized t x len old new (Ok w) v told moved kept =
        fpick t (λ us. fsplit t $
        feq_l t (λ is. fpick t (λ vss. fsplit t $ feq_l t (λ is'. fsplit t $ move t (1 ∷ []) $ drop t $ fsplit t $ pure_l t (list_own w.ptr vss.0) (λ s.
        rewrite t 0 (λ (u : Identity × ℕ × ℕ × List R.Denot). ‵ (block_with_items (block_token u.0) R w.ptr u.1 u.2 u.3)) (λ i. (told.0 i, told.1 i, told.2 i, told.3 i)) refl $
        in_a_block t w.ptr (λ p. block_with_items (block_token x.heap) R p len new x.items)
        (fst∗ 𝓤 (never 𝓤) (sem 𝓛 (fsep ffalse (block_token x.heap (array_of R new) null_ptr)))) (λ b o at.
        moved b o (ap only is ∙ ap (λ (xs : List Val). live 0 (of_list xs)) (is' ∙ ap (λ (xs : List Val). xs ++ []) (list_told w.ptr vss.0 s).0)
        ∙ ap (λ (p : Ptr). live 0 (vcons (list_val p) vnil)) at)))))))
    resized t x len old new (Err w) v told moved kept =
        fpick t (λ us. fsplit t $
        feq_l t (λ is. fpick t (λ vss. fsplit t $ feq_l t (λ is'. fsplit t $ move t (1 ∷ []) $ drop t $ fsplit t $ pure_l t (list_own w.ptr vss.0) (λ s.
        rewrite t 0 (λ (u : Ptr × Identity × ℕ × ℕ × List R.Denot). ‵ (block_with_items (block_token u.1) R u.0 u.2 u.3 u.4))
        (λ i. (told.0 i, told.1 i, told.2 i, told.3 i, told.4 i)) refl $
        kept (ap only is ∙ ap (λ (xs : List Val). live 1 (of_list xs)) (is' ∙ ap (λ (xs : List Val). xs ++ []) (list_told w.ptr vss.0 s).0)
        ∙ ap (λ (p : Ptr). live 1 (vcons (list_val p) vnil)) told.0))))))

module _ (T X : RattleType) (gU : UnitHeap.Ghosts T.Denot) (dU : Dict) (gI : Identified.Ghosts T.Denot) (dI dd : Dict) where
  abbrev R : RattleType
  R = param 1 X

  abbrev pub args : Args
  args = bounded (a_type ∷ a_type ∷ []) (T, (X, tt)) (dcons dU (dcons dI (dcons dd dnil)))

  -- the code of both
  abbrev pub function : Ty → Fn
  function σ = record {
    lifetimes = 1;
    outlives = (1, 0) ∷ [];
    ty_params = [];
    givens = 0;
    params = 5;
    locals =
        local (layout Answer) value_local ∷ local (ty_ref (named 0) imm σ) value_local ∷ local ty_ptr value_local
        ∷ local (ty_int w64) value_local ∷ local (ty_int w64) value_local ∷ local (ty_int w64) value_local
        ∷ local ty_ptr value_local ∷ local (layout (Resized R)) value_local ∷ local (layout (marker.the_row R)) value_local
        ∷ local (layout (buffer.the_row R)) value_local ∷ local (layout Answer) value_local ∷ local (layout error.the_row) value_local ∷ [];
    body =
        seq (assign (place 8 []) (aggregate [])) (
        seq (assign (place 9 []) (aggregate (copy (place 2 []) ∷ copy (place 8 []) ∷ []))) (
        seq (call (callee_key.name args) (copy (place 1 []) ∷ copy (place 9 []) ∷ copy (place 3 []) ∷ copy (place 4 []) ∷ copy (place 5 []) ∷ []) (place 7 [])) (
        seq (switch (copy (place 7 (variant 0 ∷ field 0 ∷ [])))
        (arm (0 ∷ [])
        (seq (assign (place 6 []) (rv_opd (copy (place 7 (variant 0 ∷ field 1 ∷ field 0 ∷ []))))) (assign (place 10 []) (aggregate (int w8 0 ∷ copy (place 6 []) ∷ []))))
        (arm (1 ∷ []) (seq (assign (place 11 []) (aggregate [])) (assign (place 10 []) (aggregate (int w8 1 ∷ copy (place 11 []) ∷ [])))) no_default))) (
        seq (assign (place 0 []) (rv_opd (copy (place 10 [])))) (
        return)))));
  }

  abbrev En₀ : Ended
  En₀ = ended T X gU dU gI dI dd

  module _ {M : Type 1} {𝓤 : Ura M} (𝓛 : Logic 𝓤) (𝓜 : Model 𝓤 𝓛.H) (𝓡 : Running 𝓤 𝓛.H 𝓜) (Asked : ℕ → ℕ → ℕ → Type 0) where
    open 𝓛 use {H}

    abbrev C : Calls 𝓤 H
    C = (tables 𝓤 H 𝓜 𝓡 𝓡.env).C

    abbrev Λ : Loops 𝓤 H
    Λ = (tables 𝓤 H 𝓜 𝓡 𝓡.env).Λ

    abbrev those : Clauses 𝓤 En₀
    those = clauses T X gU dU gI dI dd 𝓛 𝓜.mem 𝓡.returns

    -- the contract of both, over what is asked of the numbers
    abbrev pub resizing : Clauses 𝓤 En₀
    resizing κs a = record {
      ghost = (those κs a).ghost;
      requires = λ xs. sep 𝓤 (fact 𝓤 (κs.1.0 ⊑ T.lives)) (sep 𝓤 (fact 𝓤 (κs.1.1.0 ⊑ X.lives)) (sep 𝓤 (fact 𝓤 (Asked a.1.1.0 a.1.1.1.0 a.1.1.1.1.0))
          (sem 𝓛 (block_with_items (block_token a.0.now.slot.heap) R a.1.0 a.1.1.0 a.1.1.1.0 xs))));
      ensures = (those κs a).ensures;
    }

    pub resizes : ((len old new : ℕ) → Asked len old new → (len ≤ old) × (len ≤ new) × FitsBlock R old × FitsBlock R new)
        → (σ : Ty) (key : Callee) → Closed 𝓤 H C Λ key (function σ)
        → Meets 𝓛 (callee.signature T X gU dU gI dI dd) (𝓡.run (𝓡.env (callee_key.name args))) (callee.spec T X gU dU gI dI dd 𝓛 𝓜.mem 𝓡.returns)
        → Meets 𝓛 En₀.signature (𝓡.run (𝓡.env key)) (closing 𝓛 En₀ resizing)
    resizes enough σ key closed met =
        let fn : Fn = function σ in let c = resizing in let stays = dropped En₀.signature.params En₀.kept in
        proved_at 𝓛 En₀ stays c 𝓜 𝓡
        (all_go 𝓛 3 En₀.signature.params En₀.kept ((λ κs x f. tt), ((λ κs x f. tt), ((λ κs x f. tt), ((λ κs x f. tt), ((λ κs x f. tt), tt))))))
        key fn closed (λ z are.
        let Post : Val → SProp 𝓤 = (walk_of 𝓛 En₀ stays c).post z in
        let a = z.0.3 in
        let vss = z.0.4 in
        let r₀ : Identity = a.0.now.slot.heap in
        let from = a.1.0 in
        let len = a.1.1.0 in
        let old = a.1.1.1.0 in
        let new = a.1.1.1.1.0 in
        let xs = z.1 in
        let me : Val = vptr a.0.ref_ptr.0 a.0.ref_ptr.1 in
        let InT : Type 0 = z.0.0.1.0 ⊑ T.lives in
        let InX : Type 0 = z.0.0.1.1.0 ⊑ X.lives in
        let k = triple_of 𝓛 (callee.signature T X gU dU gI dI dd) (callee.spec T X gU dU gI dI dd 𝓛 𝓜.mem 𝓡.returns) in
        let Sized : Type 0 = (len ≤ old) × (len ≤ new) × FitsBlock R old × FitsBlock R new in
        let Said : Type 0 = Asked len old new in
        qed 𝓛 ((raw (alive 𝓛 En₀.signature z.0.0 z.0.1) ⊛ ‵ (owns (types_at En₀.signature.params z.0.0) a vss))
        ∷ (raw (fact 𝓤 InT) ⊛ raw (fact 𝓤 InX) ⊛ raw (fact 𝓤 Said) ⊛ ‵ (block_with_items (block_token r₀) R from len old xs)) ∷ []) ∵
        move ! (1 ∷ []) $ split3 ! $ heard ! InT (λ inT. heard ! InX (λ inX. split ! $ heard ! Said (λ asked.
        in_a_block ! from (λ p. block_with_items (block_token r₀) R p len old xs) (fst∗ 𝓤 (never 𝓤) (sem 𝓛 (fsep ffalse (block_token r₀ (array_of R old) null_ptr)))) (λ b o e.
        let p : Ptr = block_ptr b o in
        let x : (buffer.the_row R).Denot = record { ptr = p; marker = record {}; heap = r₀; len = len; cap = old; items = xs } in
        let y : k.Ghost = (
          (
            z.0.0,
            z.0.1,
            z.0.2,
            (a.0, (x, (len, (old, (new, tt))))),
            (me ∷ [], (list_val p ∷ [], (vint w64 len ∷ [], (vint w64 old ∷ [], (vint w64 new ∷ [], tt))))),
          ),
          tt,
        ) in
        let First : Type 0 = (r₀ ≡ r₀) × (len ≡ len) × (old ≡ old) in
        use0 𝓛 (‵ (list_own p (list_val p ∷ []))) (list_made 𝓛 p tt) $ fjoin ! $
        nothing ! $ flt_i ! new (2 ^ 64) are.1.1.1.1.0.1 $ feq_i ! (List Val) (vint w64 new ∷ []) (vint w64 new ∷ []) refl $ fjoin ! $ fjoin ! $
        flt_i ! old (2 ^ 64) are.1.1.1.0.1 $ feq_i ! (List Val) (vint w64 old ∷ []) (vint w64 old ∷ []) refl $ fjoin ! $ fjoin ! $
        flt_i ! len (2 ^ 64) are.1.1.0.1 $ feq_i ! (List Val) (vint w64 len ∷ []) (vint w64 len ∷ []) refl $ fjoin ! $ fjoin ! $ move ! (1 ∷ 0 ∷ []) $ fjoin ! $
        move ! (1 ∷ []) $ split ! $ move ! (1 ∷ []) $ fsplit ! $ fsplit ! $ keep ! (1 ∷ 4 ∷ 3 ∷ []) $
        feq_i ! (List Val) (me ∷ []) (me ∷ []) refl $ fjoin ! $ fjoin ! $ move ! (1 ∷ 0 ∷ []) $ join ! $
        use0 𝓛 (raw (fact 𝓤 Sized)) (fact_i 𝓤 Sized (emp 𝓤) (enough len old new asked)) $ use0 𝓛 (raw (fact 𝓤 First)) (fact_i 𝓤 First (emp 𝓤) (refl, refl, refl)) $ join ! $
        use0 𝓛 (raw (fact 𝓤 InX)) (fact_i 𝓤 InX (emp 𝓤) inX) $ join ! $ use0 𝓛 (raw (fact 𝓤 InT)) (fact_i 𝓤 InT (emp 𝓤) inT) $ join ! $
        move ! (1 ∷ 0 ∷ []) $ join ! $ use1 𝓛 (raw (k.pre y)) (id⊢ 𝓤 _) $
        regoal ! (λ (us : List Val). prop (WpFn 𝓤 H C Λ fn us Post))
        (λ i. are.0.0 i ++ ((are.1.0 ∙ ap (λ (u : Ptr). ptr_val u ∷ []) e) i ++ (are.1.1.0.0 i ++ (are.1.1.1.0.0 i ++ (are.1.1.1.1.0.0 i ++ []))))) refl $
        enter ! C Λ fn (me ∷ vptr b o ∷ vint w64 len ∷ vint w64 old ∷ vint w64 new ∷ []) Post $
        alloc_all ! (λ l. pass_all ! refl
        ((tt, tt), ((tt, tt), ((tt, record { fits = are.1.1.0.1 }), ((tt, record { fits = are.1.1.1.0.1 }), ((tt, record { fits = are.1.1.1.1.0.1 }), tt))))) $
        let En : Env 𝓤 𝓛.H = env fn.locals l in
        sets ! (agg ! (no_more !)) refl (tt, tt) $
        sets ! (agg ! (and_then ! (get ! refl) (and_then ! (get ! refl) (no_more !)))) refl (tt, (tt, (tt, tt))) $
        calls_at ! (fm 𝓛 𝓜 𝓡) k met y
        (and_then ! (get ! refl) (and_then ! (get ! refl) (and_then ! (get ! refl) (and_then ! (get ! refl) (and_then ! (get ! refl) (no_more !)))))) (λ v.
        use1 𝓛 (later (some (λ (r : (Resized R).Denot). (raw (alive 𝓛 En₀.signature z.0.0 z.0.1) ⊛ ‵ ((Resized R).own_val r (v ∷ []))) ⊛ some
        (λ (ls : Lasts (callee.ended T X gU dU gI dI dd) z.0.0 y.0.3). ‵ (lasts (callee.ended T X gU dU gI dI dd) z.0.0 y.0.3 ls) ⊛
        raw (fact 𝓤 (Told R x len old new r)))))) (id⊢ 𝓤 (k.post y v)) $
        await ! tt $ pick ! (λ r. split ! $ move ! (1 ∷ []) $ pick ! (λ _. split ! $ drop ! $ heard ! (Told R x len old new r) (λ said. split ! $ move ! (1 ∷ []) $
        resized R ! x len old new r v said
        (λ b' o' is'. let p' : Ptr = block_ptr b' o' in lands_as ! (is') refl (tt, (record { fits = lit< tt }, ((tt, (tt, tt)), tt))) $
        first ! $ switches_on ! (get_tag ! (vrt ! refl (fld ! refl (stop !))) (whole !)) $
        exec ! C Λ En (arm_body 0 (head (after 3 fn.body))) (then_runs 𝓛 C Λ En (after 4 fn.body) (at_ret En Post)) $
        sets ! (of_opd ! (get_in ! (vrt ! refl (fld ! refl (fld ! refl (stop !)))) (sub ! 0 refl (in_variant ! 0 0 refl refl (whole !))))) refl (tt, tt) $
        sets_last ! (agg ! (and_then ! (lit ! tt) (and_then ! (get ! refl) (no_more !)))) refl (tt, (record { fits = lit< tt }, (tt, tt))) $
        exec ! C Λ En (after 4 fn.body) (at_ret En Post) $
        sets ! (of_opd ! (get ! refl)) refl (tt, (record { fits = lit< tt }, (tt, tt))) $
        returns ! (look_at ! 0 refl) $ free_all ! refl $
        use0 𝓛 (‵ (Answer.own_val (Ok p') (answer_val true b' o' ∷ []))) (Answer-Ok 𝓛 b' o') $
        nothing ! $ nothing ! $ fjoin ! $ nothing ! $ fjoin ! $ nothing ! $ fjoin ! $ nothing ! $ fjoin ! $ nothing ! $ fjoin ! $ move ! (3 ∷ 0 ∷ 1 ∷ 2 ∷ []) $
        by ! (leaves 𝓛 En₀ stays c z (answer_val true b' o') (Ok p') (tt, (tt, (tt, (tt, (tt, tt))))) (tt, (tt, (tt, (tt, (tt, tt)))))))
        (λ is'. rewrite ! 0 (λ (u : Ptr). ‵ (block_with_items (block_token r₀) R u len old xs)) (sym e) refl $
        lands_as ! (is') refl (tt, (record { fits = lit< tt }, ((tt, (tt, tt)), tt))) $
        first ! $ switches_on ! (get_tag ! (vrt ! refl (fld ! refl (stop !))) (whole !)) $
        exec ! C Λ En (arm_body 1 (head (after 3 fn.body))) (then_runs 𝓛 C Λ En (after 4 fn.body) (at_ret En Post)) $
        sets ! (agg ! (no_more !)) refl (tt, tt) $
        sets_last ! (agg ! (and_then ! (lit ! tt) (and_then ! (get ! refl) (no_more !)))) refl (tt, (record { fits = lit< tt }, (tt, tt))) $
        exec ! C Λ En (after 4 fn.body) (at_ret En Post) $
        sets ! (of_opd ! (get ! refl)) refl (tt, (record { fits = lit< tt }, (tt, tt))) $
        returns ! (look_at ! 0 refl) $ free_all ! refl $
        use0 𝓛 (‵ (Answer.own_val (Err (record {})) (answer_val false 0 0 ∷ []))) (Answer-err 𝓛) $
        nothing ! $ nothing ! $ fjoin ! $ nothing ! $ fjoin ! $ nothing ! $ fjoin ! $ nothing ! $ fjoin ! $ nothing ! $ fjoin ! $ move ! (3 ∷ 0 ∷ 1 ∷ 2 ∷ []) $
        by ! (leaves 𝓛 En₀ stays c z (answer_val false 0 0) (Err (record {})) (tt, (tt, (tt, (tt, (tt, tt))))) (tt, (tt, (tt, (tt, (tt, tt)))))))))))))))))
