-- `rlsf_offsets_init` makes a space by `OffsetSpace::new`, writes it to the room behind the handle, and lends it to `OffsetSpace::status`.
use Rattle.rlsf_c_lemmas.proofs.Walking.{◌≡◌, ℕ, [], ◌∷◌, ◌++◌, refl, sym, ap, ◌∙◌, w64, proved, full_share, id⊢, ftrue, flft, flent, named, vptr, WpFn, fact}
use Rattle.rlsf_c_lemmas.proofs.Walking.{tables, ‵, raw, ◌⊛◌, some, later, prop, ◌$◌, ◌∵◌, !, qed, done, move, keep, drop, use1, use2, use3, split, join, fsplit, fpack}
use Rattle.rlsf_c_lemmas.proofs.Walking.{pick, await, regoal, suffices, group, lft_new, lft_end, Body, enter, of_opd, addr, stop, no_more, and_then, returns, alloc_all, pass_all}
use Rattle.rlsf_c_lemmas.proofs.Walking.{free_all, look_at, get, through, sets, lands_as, usize, subst, yes, Is, shows, lends_ref, ref_back, part_at, mem, uint_Makes, uint_vals}
use Rattle.rlsf_c_lemmas.proofs.Walking.{uint_Tells, uint_Lawful, Ptr, RawPtr, block_ptr, lies_at, in_a_block, rawptr_vals, rawptr_Tells, MutRef, plain, nothing, owned, heard}
use Rattle.rlsf_c_lemmas.proofs.Walking.{peeks}
use Rattle.rlsf_c_lemmas.proofs.Walking.{calls_at, lasts, triple_of, Stays, walk_of, stay_dropped, Goes-dropped, ends_at, framed}
use base.Fml.{froom}
use types.Run.{assigns, init}
use borrow.Table.OneValue.{part_in}
use denote.RattleType.{owns}
use denote.Memory.{lone}
use denote.RawPtr.{room_at}
use Rattle.std_heap.proofs.Handle.{heap_val, heap_Tells}
use Rattle.std_heap.specs.contracts.Global.{the_row as Heap}
use Rattle.rlsf_pool.specs.Handle.{SomeSpace}
use Rattle.rlsf_pool_calls.specs.Spaces.{SpaceValue, IsSpaceMade, space_status}
use Rattle.rlsf_pool.specs.contracts.offsets.rlsf_offsets_init as f
use Rattle.rlsf_pool.proofs.offsets.rlsf_offsets_init.Statement.{statement}
use Rattle.rlsf_pool.proofs.offsets.rlsf_offsets_init.Code as code
use Rattle.rlsf_pool_calls.specs.contracts.space.OffsetSpace.{the_row as R}
use Rattle.rlsf_pool_calls.proofs.space.OffsetSpace.TheLaws as laws
use Rattle.rlsf_pool_calls.specs.contracts.space.OffsetSpace.new as n
use Rattle.rlsf_pool_calls.proofs.space.OffsetSpace.new.Met.{met as new_met}
use Rattle.rlsf_pool_calls.specs.contracts.space.OffsetSpace.status as g
use Rattle.rlsf_pool_calls.proofs.space.OffsetSpace.status.Met.{met}

abbrev stayed : Stays f.ended.signature.params f.ended.kept
stayed = (stay_dropped _ yes, (stay_dropped _ yes, (stay_dropped _ yes, (stay_dropped _ yes, tt))))

pub rlsf_offsets_init_spec : {M : Type 1} → statement M
rlsf_offsets_init_spec 𝓤 𝓛 𝓜 𝓡 wired =
    let c = f.clauses 𝓛 𝓜.mem 𝓡.returns in let W = walk_of 𝓛 f.ended stayed c in let 𝓣 = tables 𝓤 𝓛.H 𝓜 𝓡 𝓡.env in
    let goes = Goes-dropped 𝓛 0 (plain (λ _. usize)) yes (λ κs x w. refl) in
    proved 𝓛 f.ended stayed c 𝓜 𝓡
    (Goes-dropped 𝓛 0 (plain (λ _. RawPtr)) yes (λ κs x w. refl), (Goes-dropped 𝓛 0 (plain (λ _. Heap)) yes (λ κs x w. refl), (goes, (goes, tt))))
    f.Key.name code.function (code.unfolded 𝓤 𝓛.H 𝓜 𝓡 wired)
    (λ κs. (rawptr_vals, ((λ _. heap_val ∷ []), (uint_vals w64, (uint_vals w64, tt)))))
    (λ κs. (rawptr_Tells, (heap_Tells, (uint_Tells w64, (uint_Tells w64, tt))))) (λ κs qs bounds a none are.
    let h = a.1.0 in let x = a.1.1.0 in let y' = a.1.1.1.0 in
    let s : Ptr → W.Ghost =
    λ p. ((κs, qs, bounds, (p, (h, (x, (y', tt)))), (rawptr_vals p, (heap_val ∷ [], (uint_vals w64 x, (uint_vals w64 y', tt))))), tt) in
    qed 𝓛 ((‵ ftrue ⊛ ‵ (owns (RawPtr ∷ Heap ∷ usize ∷ usize ∷ []) a (s a.0).0.4)) ∷ ‵ (room_at R a.0) ∷ []) ∵
    split ! $ move ! (1 ∷ []) $ fsplit ! $ move ! (1 ∷ []) $ fsplit ! $ keep ! (4 ∷ 0 ∷ []) $
    -- [the room; the heap's handle]
    in_a_block ! a.0 (λ p. room_at R p) (id⊢ 𝓤 _) (λ b o e.
    regoal ! (λ p. prop (WpFn 𝓤 𝓛.H 𝓣.C 𝓣.Λ code.function (rawptr_vals p ++ (heap_val ∷ []) ++ uint_vals w64 x ++ uint_vals w64 y' ++ [])
    (W.post (s p)))) e refl $
    use1 𝓛 (‵ (froom (lone R.mir) b o)) (id⊢ 𝓤 _) $
    enter ! _ _ _ _ _ $ alloc_all !
    (λ l. pass_all ! refl (
      (tt, tt),
      ((tt, ((tt, tt), tt)), ((tt, record { fits = are.1.1.0.1 }), ((tt, record { fits = are.1.1.1.0.1 }), tt))),
    ) $
    sets ! (of_opd ! (get ! refl)) refl (tt, tt) $
    let N = triple_of 𝓛 n.signature (n.spec 𝓛 𝓜.mem 𝓡.returns) in
    let m : N.Ghost = ((tt, tt, tt, (h, (x, (y', tt))), (heap_val ∷ [], (uint_vals w64 x, (uint_vals w64 y', tt)))), tt) in
    move ! (1 ∷ []) $ nothing ! $ owned ! usize _ (uint_Makes 𝓛 w64) y' _ (refl, are.1.1.1.0.1) $
    join ! $ owned ! usize _ (uint_Makes 𝓛 w64) x _ (refl, are.1.1.0.1) $ join ! $ move ! (1 ∷ 0 ∷ []) $ join ! $ nothing ! $ join ! $ nothing ! $
    move ! (1 ∷ 0 ∷ []) $ use2 𝓛 (raw (N.pre m)) (id⊢ 𝓤 _) $
    calls_at ! (framed 𝓤 𝓛.H 𝓜 (tables 𝓤 𝓛.H 𝓜 𝓡 𝓡.env)) N (new_met 𝓤 𝓛 𝓜 𝓡 (code.calls-rlsf_pool_calls::space::OffsetSpace::new 𝓡.env wired)) m
    (and_then ! (get ! refl) (and_then ! (get ! refl) (and_then ! (get ! refl) (no_more !)))) (λ w.
    use1 𝓛 (later (some (λ (made : SpaceValue). (‵ ftrue ⊛ ‵ (R.own_val made (w ∷ []))) ⊛
    some (λ (ws : Unit {0} × (Unit {0} × (Unit {0} × Unit {0}))). ‵ (lasts n.ended m.0.0 m.0.3 ws) ⊛ raw (fact 𝓤 (IsSpaceMade x y' made))))))
    (id⊢ 𝓤 _) $
    await ! tt $ pick ! (λ made. split ! $ split ! $ drop ! $
    peeks ! R (Is R) (shows 𝓛 R) made (w ∷ []) (λ is_pool. let typed = ((laws.the_row_laws.lawful 𝓛).typed made _ is_pool).0 in lands_as ! refl refl typed $
    -- [the space; what the call left; the room; the locals]
    move ! (1 ∷ []) $ pick ! (λ ws'. split ! $ drop ! $ heard ! _ (λ is_made.
    assigns ! (of_opd ! (get ! refl)) (through ! refl (stop !)) (init ! 1 refl typed) $
    move ! (1 ∷ 0 ∷ []) $ use2 𝓛 (‵ (part_at R full_share made b o)) (part_in 𝓛 R refl full_share made b o w) $
    -- [the space; the locals]
    lft_new ! tt (λ α. move ! (1 ∷ []) $
    use1 𝓛 (later (some (λ (γ : ℕ). ‵ ((MutRef (named 0) (α ∷ []) R).own_val (record { ref_ptr = (b, o); ghost_name = γ; now = made }) (vptr b o ∷ [])) ⊛ ‵
    (flent (α ∷ []) (Body (mem R) b o γ)))))
    (lends_ref 𝓛 R (named 0) (α ∷ []) made b o) $ await ! tt $ pick ! (λ γ. split ! $
    -- [the loan; what the lender keeps; the token; the locals]
    sets ! (of_opd ! (get ! refl)) refl (tt, tt) $ sets ! (addr ! (through ! refl (stop !))) refl (tt, tt) $
    let G = triple_of 𝓛 g.signature (g.spec 𝓛 𝓜.mem 𝓡.returns) in
    let y : G.Ghost = (((α ∷ [], tt), (full_share, tt), tt, (record { ref_ptr = (b, o); ghost_name = γ; now = made }, tt), (vptr b o ∷ [], tt)), tt) in
    nothing ! $ move ! (1 ∷ 0 ∷ []) $ join ! $ nothing ! $ move ! (3 ∷ 0 ∷ []) $ join ! $ join ! $ nothing ! $ move ! (1 ∷ 0 ∷ []) $
    use2 𝓛 (raw (G.pre y)) (id⊢ 𝓤 _) $
    calls_at ! (framed 𝓤 𝓛.H 𝓜 (tables 𝓤 𝓛.H 𝓜 𝓡 𝓡.env)) G (met 𝓤 𝓛 𝓜 𝓡 (code.calls-rlsf_pool_calls::space::OffsetSpace::status 𝓡.env wired)) y
    (and_then ! (get ! refl) (no_more !)) (λ v.
    use1 𝓛 (later (some (λ (r : ℕ). ((‵ (flft (α ∷ []) full_share) ⊛ ‵ ftrue) ⊛ ‵ (usize.own_val r (v ∷ []))) ⊛
    some (λ (ws : SpaceValue × Unit {0}). ‵ (lasts g.ended y.0.0 y.0.3 ws) ⊛ raw (fact 𝓤 ((r ≡ space_status made) × (ws.0 ≡ made))))))) (id⊢ 𝓤 _) $
    await ! tt $ pick ! (λ r. split ! $ split ! $ split ! $ lft_end ! tt $ move ! (2 ∷ []) $
    peeks ! usize (Is usize) (shows 𝓛 usize) r (v ∷ []) (λ is. lands_as ! refl refl ((uint_Lawful 𝓛 w64).typed r _ is).0 $
    move ! (3 ∷ []) $ pick ! (λ ws. split ! $ move ! (1 ∷ []) $ heard ! _ (λ did. fsplit ! $ fsplit ! $
    move ! (4 ∷ 6 ∷ 0 ∷ []) $ use3 𝓛 (later (‵ (part_at R full_share ws.0 b o))) (ref_back 𝓛 R (α ∷ []) γ ws.0 b o) $ await ! tt $
    returns ! (look_at ! 0 refl) $ free_all ! refl $ keep ! (0 ∷ 3 ∷ []) $
    fpack ! (SomeSpace (λ v. IsSpaceMade x y' v × (r ≡ space_status v))) (λ x. lies_at R full_share (block_ptr b o) x.0)
    (ws.0, (subst (IsSpaceMade x y') (sym did.1) is_made, did.0 ∙ ap space_status (sym did.1))) $ move ! (1 ∷ []) $
    suffices ! _ (ends_at 𝓛 f.ended stayed c (s (block_ptr b o)) v r (tt, (tt, (tt, (tt, tt)))) (tt, (tt, (tt, (tt, tt))))) $
    nothing ! $ nothing ! $ join ! $ nothing ! $ join ! $ nothing ! $ join ! $ nothing ! $ join ! $ nothing ! $ group ! 3 $ done !)))))))))))))))
