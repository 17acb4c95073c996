-- Shows that `deallocate` makes the units' room of the bytes again, and hands it back with the allocator's token. Assumes `Logic`.
use Rattle.std.proofs.Common.{◌≡◌, ℕ, ◌+◌, ◌*◌, ◌^◌, ◌<◌, List, [], ◌∷◌, ◌++◌, length, refl, ap, ◌∙◌, arith, lit<, w64}
use mir.Syntax.{Ty, Fn, Args, a_type, dcons, dnil, place}
use mir.Val.{Val, vint, vptr, vunit}
use mir.MapTy.{inst_fn}
use base.Logic.{SProp, never, id⊢, apply∗}
use base.Fml.{Lft, Share, Fml, ftrue, flft, froom, fwand}
use types.Logic.{sem}
use prog.Capped.{capped_is}
use prog.Wp.{Env, WpFn}
use contract.BorrowLft.{◌⊑◌, ⊑_trans}
use contract.Monad.{fact}
use contract.Running.{tables}
use types.Kit.{‵, raw, ◌⊛◌, given, later, prop, settles, at_ret, ◌$◌, ◌∵◌, !, qed, by, move, drop as skips, use1, use2, use3, split, join, learn, rewrite, regoal}
use types.Kit.{fsplit, fjoin, feq_i, flt_l, await}
use types.Part.{whole, sub}
use types.Run.{stop, fld, lit, unit_lit, of_opd, bin, no_more, and_then, first, blocks, exec, returns, enter}
use types.ByLocal.{alloc_all, pass_all, free_all, look_at, get, get_in, sets, lands_last, env}
use denote.RattleType.{RattleType, owns}
use denote.RawPtr.{Ptr, block_ptr, in_a_block}
use denote.Param.{param, bounded}
use denote.Signature.{types_at}
use denote.Steps.{nothing, heard}
use denote.Triple.Entry.{alive}
use denote.Triple.Call.{calls_at_last}
use denote.Triple.Walked.{Stays, walk_of}
use Rattle.core.proofs.alloc.Calls.{Al, seen, Gives, at_gives, Gives-goes, Gives-Gives}
use Rattle.core.proofs.alloc.Shapes.{after}
use Rattle.core.proofs.atomic.Steps.{fm}
use Rattle.std.proofs.raw_atomic.Walks.{proved_at, leaves}
use Rattle.rlsf_base.specs.Steps.Ownership.{bytes_ty, units_ty, bytes_own, deed_owns, ways_of, begins_in, own_unit}
use Rattle.rlsf_base.specs.Out.{kept_at}
use Rattle.rlsf_base.specs.Changes.{IsOwn}
use Rattle.rlsf_base.proofs.RawBlock.Dropped.{all_dropped, all_go}
use Rattle.rlsf_base.proofs.RawBlock.Rows.{held-room}
use Rattle.rlsf_base.proofs.RawBlock.Units.{ways-same, unit-all}
use Rattle.rlsf_base.proofs.RawBlock.Values.{base_val, base_told, mark_val, mark_told}
use Rattle.rlsf_base.proofs.RawBlock.Walks.{then_runs, out_of_block}
use Rattle.rlsf_base.specs.contracts.memory.block.deallocate.{ended, clauses}
use Rattle.rlsf_base.specs.contracts.memory.block.deallocate.Key.{name as #self}
use Rattle.rlsf_base.proofs.memory.block.deallocate.Statement.{statement}
use Rattle.rlsf_base.proofs.memory.block.deallocate.Code as compiled

pub deallocate_spec : {M : Type 1} → statement M
deallocate_spec 𝓤 𝓛 𝓜 𝓡 wired A L g d dd met md =
    let En₀ = ended A g d dd in
    let c = clauses A g d dd 𝓛 𝓜.mem 𝓡.returns in
    let args : Args = bounded (a_type ∷ []) (A, tt) (dcons d (dcons dd dnil)) in
    let fn : Fn = inst_fn args compiled.function in
    let stays : Stays En₀.signature.params En₀.kept = all_dropped En₀.signature.params En₀.kept in
    let C = (tables 𝓤 𝓛.H 𝓜 𝓡 𝓡.env).C in
    let Λ = (tables 𝓤 𝓛.H 𝓜 𝓡 𝓡.env).Λ in
    proved_at 𝓛 En₀ stays c 𝓜 𝓡
    (all_go 𝓛 2 En₀.signature.params En₀.kept ((λ κs x f. tt), ((λ κs x f. tt), ((λ κs x f. tt), ((λ κs x f. tt), ((λ κs x f. tt), tt))))))
    (#self args) fn (compiled.unfolded 𝓤 𝓛.H 𝓜 𝓡 wired (A, tt) d dd) (λ z are.
    let Post : Val → SProp 𝓤 = (walk_of 𝓛 En₀ stays c).post z in
    let a = z.0.3 in let vss = z.0.4 in
    let Y : Al = record { row = A; laws = L; g = g; d = d; drops = dd } in
    let κ : Lft = z.0.0.0 in let q : Share = z.0.1.0 in let Z : RattleType = param 0 A in
    let h = a.0.now in let handle = a.0.ref_ptr in
    let base = a.1.0 in let units = a.1.1.0 in let bytes = a.1.1.1.0 in let deed = a.1.1.1.1.0 in
    let bs = bytes.bytes in let skip = bytes.skip in let τ : Ty = units_ty units in
    let Lies : Type 0 = (bytes.at ≡ base.ptr) × (bytes.units ≡ units) × IsOwn bytes.out 0 (length bs) × (units * 16 < 2 ^ 63) in
    let Due : Type 0 = (deed.at ≡ base.ptr) × (deed.units ≡ units) × (deed.skip ≡ skip) × (deed.len ≡ length bs) × (deed.alloc ≡ h) in
    qed 𝓛 ((raw (alive 𝓛 En₀.signature z.0.0 z.0.1) ⊛ ‵ (owns (types_at En₀.signature.params z.0.0) a vss))
    ∷ (raw (fact 𝓤 (z.0.0.1.0 ⊑ A.lives)) ⊛ raw (fact 𝓤 Lies) ⊛ raw (fact 𝓤 Due)) ∷ []) ∵
    move ! (1 ∷ []) $ split ! $ heard ! (z.0.0.1.0 ⊑ A.lives) (λ le. split ! $ heard ! Lies (λ lies. heard ! Due (λ due. split ! $ move ! (1 ∷ []) $
    fsplit ! $ fsplit ! $ skips ! $ use1 𝓛 (‵ (seen Y κ handle h)) (id⊢ 𝓤 _) $ move ! (1 ∷ []) $ fsplit ! $ skips ! $ fsplit ! $ skips ! $ fsplit ! $ fsplit ! $ skips
    ! $
    move ! (1 ∷ []) $ fsplit ! $ fsplit ! $ skips ! $ move ! (1 ∷ []) $ skips ! $
    -- [the deed; the bytes; the allocator; the tokens]
    move ! (1 ∷ []) $ rewrite ! 0 (λ (p : Ptr). ‵ (bytes_own p skip bs bytes.out bytes.units)) lies.0 refl $
    in_a_block ! base.ptr (λ p. bytes_own p skip bs bytes.out bytes.units) (id⊢ 𝓤 (never 𝓤)) (λ b o e. fsplit ! $ flt_l ! (λ small. fsplit ! $
    rewrite ! 1 (λ (k : ℕ). ‵ (ways_of (own_unit bytes.out skip (length bs)) 0 k b o)) lies.1 refl $
    rewrite ! 1 (λ (F : Fml). ‵ F)
    (ways-same 𝓛 b (own_unit bytes.out skip (length bs)) (begins_in skip (length bs)) 0 units o (λ u. unit-all bytes.out skip (length bs) u lies.2)) refl $
    use1 𝓛 (‵ (froom (bytes_ty (length bs)) b (skip + o))) (held-room 𝓛 b (kept_at bytes.out) 0 bs (skip + o) lies.2) $
    rewrite ! 2 (λ (u : A.Denot × Ptr × ℕ × ℕ × ℕ). ‵ (deed_owns (g.dealloc_token u.0) u.1 u.2 u.3 u.4))
    (λ i. (due.4 i, (due.0 ∙ e) i, due.1 i, due.2 i, due.3 i)) refl $
    -- [the room; the ways; the deed; the allocator; the tokens]
    let back : Fml = fwand (ways_of (begins_in skip (length bs)) 0 units b o) (froom τ b o) in
    move ! (2 ∷ []) $ fsplit ! $ move ! (2 ∷ 1 ∷ 3 ∷ 0 ∷ []) $ use2 𝓛 (‵ back) (apply∗ 𝓤 (𝓛.H.room (bytes_ty (length bs)) b (skip + o)) (sem 𝓛 back)) $
    move ! (1 ∷ 0 ∷ []) $ use2 𝓛 (‵ (froom τ b o)) (apply∗ 𝓤 (sem 𝓛 (ways_of (begins_in skip (length bs)) 0 units b o)) (𝓛.H.room τ b o)) $
    -- [the room; the allocator's token; the allocator; the tokens]
    move ! (3 ∷ []) $ use1 𝓛 (‵ (flft κ q) ⊛ ‵ (flft z.0.0.1.0 z.0.1.1.0) ⊛ ‵ ftrue) (id⊢ 𝓤 _) $ split ! $ move ! (4 ∷ 0 ∷ []) $ join ! $ move !
    (2 ∷ 3 ∷ 0 ∷ []) $
    let y = at_gives Y 𝓛 𝓜.mem 𝓡.returns κ q handle h b o (units * 16) 16 τ in
    let fits : units * 16 < 2 ^ 64 = omega (arith, lies.3) in
    regoal ! (λ (us : List Val). prop (WpFn 𝓤 𝓛.H C Λ fn us Post))
    (λ i. are.0.0 i ++ ((base_told base.ptr vss.1.0 are.1.0 ∙ ap (λ (p : Ptr). base_val p ∷ []) e) i ++ (are.1.1.0.0 i
    ++ (mark_told vss.1.1.1.0 are.1.1.1.0.0 i ++ (mark_told vss.1.1.1.1.0 are.1.1.1.1.0.0 i ++ []))))) refl $
    enter ! C Λ fn (vptr handle.0 handle.1 ∷ base_val (block_ptr b o) ∷ vint w64 units ∷ mark_val ∷ mark_val ∷ []) Post $
    alloc_all ! (λ l. pass_all ! refl ((tt, tt), ((tt, (tt, tt)), ((tt, record { fits = are.1.1.0.1 }), ((tt, (tt, tt)), ((tt, (tt, tt)), tt))))) $ let En : Env 𝓤 𝓛.H =
    env fn.locals l in
    first ! $ blocks ! $ sets ! (bin ! (get ! refl) (lit ! tt) (record { fits = fits })) refl (tt, record { fits = fits }) $
    use3 𝓛 (raw ((Gives Y 𝓛 𝓜.mem 𝓡.returns).pre y))
    (Gives-goes Y 𝓛 𝓜.mem 𝓡.returns κ q handle h (⊑_trans κ z.0.0.1.0 A.lives z.0.2.0 le) b o (units * 16) 16 τ (capped_is (units * 16) fits) refl fits (lit< tt)) $
    calls_at_last ! (fm 𝓛 𝓜 𝓡) (Gives Y 𝓛 𝓜.mem 𝓡.returns) (met.deallocate dd) y
    (and_then ! (get ! refl) (and_then ! (get_in ! (fld ! refl (stop !)) (sub ! 0 refl (whole !))) (and_then ! (get ! refl) (and_then ! (lit ! tt) (no_more !))))) (λ v.
    use1 𝓛 (later (given (v ≡ vunit) (‵ (flft κ q)))) (Gives-Gives Y 𝓛 𝓜.mem 𝓡.returns κ q handle h b o (units * 16) 16 τ v) $ await ! tt $ learn !
    (λ is. join ! $
    regoal ! (λ (u : Val). settles En (place 6 []) u (out_of_block 𝓛 (then_runs 𝓛 C Λ En (after 1 fn.body) (at_ret En Post)))) (is) refl $ lands_last ! refl (tt, tt) $
    exec ! C Λ En (after 1 fn.body) (at_ret En Post) $ sets ! (of_opd ! (unit_lit !)) refl (tt, tt) $ returns ! (look_at ! 0 refl) $ free_all ! refl $
    feq_i ! (List Val) (vunit ∷ []) (vunit ∷ []) refl $ nothing ! $ nothing ! $ nothing ! $ fjoin ! $ nothing ! $ fjoin ! $ nothing ! $ fjoin ! $ nothing ! $ fjoin ! $ nothing
    ! $ fjoin ! $ move ! (3 ∷ 0 ∷ 2 ∷ 1 ∷ []) $
    by ! (leaves 𝓛 En₀ stays c z vunit tt (tt, (tt, (tt, (tt, (tt, tt))))) (tt, (tt, (tt, (tt, (tt, tt)))))))))))))))
