-- Shows that `allocate` requests units. It keeps the bytes after the first, with the ways of the units and the way back. Assumes `Logic`.
use Rattle.std.proofs.Common.{◌≡◌, ℕ, ◌+◌, ◌*◌, ◌^◌, ◌<◌, ◌≤◌, List, [], ◌∷◌, ◌++◌, length, refl, arith, lit<, w64, Some, None}
use mir.Syntax.{Ty, Fn, Args, a_type, dcons, dnil}
use mir.Val.{Val, vint, vptr, vcons, vnil}
use mir.MapTy.{inst_fn}
use base.Logic.{SProp, emp, id⊢}
use base.Fml.{Lft, Share, Fml, ftrue, flft, froom, fwand}
use prog.Capped.{capped_is}
use prog.Wp.{Env, WpFn}
use contract.BorrowLft.{◌⊑◌, ⊑_trans}
use contract.Monad.{fact, fact_i}
use contract.Running.{tables}
use types.Kit.{‵, raw, ◌⊛◌, later, prop, at_ret, ◌$◌, ◌∵◌, !, qed, by, move, drop as skips, use0, use1, use2, use3, split, join, regoal, rewrite, fsplit, fjoin}
use types.Kit.{flt_i, await}
use types.Part.{whole, agg}
use types.Match.{live, vrt, in_variant}
use types.Run.{stop, fld, lit, of_opd, bin, no_more, and_then, first, switches_on, exec, returns, enter}
use types.ByLocal.{alloc_all, pass_all, free_all, look_at, get, get_in, get_tag, sets, sets_last, lands_as, env}
use denote.RattleType.{RattleType, owns}
use denote.RawPtr.{Ptr, block_ptr}
use denote.Param.{param, bounded}
use denote.Signature.{types_at, type_at}
use denote.Steps.{nothing, heard}
use denote.Struct.Tuple.{Tuple}
use denote.Triple.Entry.{alive}
use denote.Triple.Call.{calls_at}
use denote.Triple.Walked.{Stays, walk_of}
use Rattle.core.proofs.alloc.Calls.{Al, seen, Takes, at_takes, Answered, Takes-goes, Takes-gives, answers}
use Rattle.core.proofs.alloc.Shapes.{after, head, arm_body}
use Rattle.core.proofs.atomic.Steps.{fm}
use Rattle.core.proofs.option.Made.{Some-of, none_of}
use Rattle.std.proofs.raw_atomic.Walks.{proved_at, leaves}
use Rattle.rlsf_base.specs.Steps.Ownership.{bytes_ty, units_ty, held, ways_of, begins_in, own_unit}
use Rattle.rlsf_base.specs.Out.{Change, raw as raw', kept_at}
use Rattle.rlsf_base.specs.Changes.{came_raw}
use Rattle.rlsf_base.proofs.RawBlock.Dropped.{all_dropped, all_go}
use Rattle.rlsf_base.proofs.RawBlock.Rooms.{retypes}
use Rattle.rlsf_base.proofs.RawBlock.Rows.{room-held}
use Rattle.rlsf_base.proofs.Changes.{changed-there, raw-own}
use Rattle.std.proofs.Common.{replicate, sym, ap, ◌∙◌}
use Rattle.std.proofs.lemmas.List.{length-replicate}
use Rattle.rlsf_base.proofs.RawBlock.Units.{ways-same, unit-all}
use Rattle.rlsf_base.proofs.RawBlock.Values.{base_val, base_own, base_made, mark_val, mark_own, mark_made, three_val, three_of}
use Rattle.rlsf_base.proofs.RawBlock.Walks.{then_runs}
use Rattle.rlsf_base.specs.contracts.memory.block.Base as base_type
use Rattle.rlsf_base.specs.contracts.memory.block.Bytes as owner
use Rattle.rlsf_base.specs.contracts.memory.block.Deed as deed
use Rattle.rlsf_base.specs.contracts.memory.block.allocate.{ended, clauses}
use Rattle.rlsf_base.specs.contracts.memory.block.allocate.Key.{name as #self}
use Rattle.rlsf_base.proofs.memory.block.allocate.Statement.{statement}
use Rattle.rlsf_base.proofs.memory.block.allocate.Code as compiled

pub allocate_spec : {M : Type 1} → statement M
allocate_spec 𝓤 𝓛 𝓜 𝓡 wired A L g d dd met md =
    let En₀ = ended A g d dd in
    let c = clauses A g d dd 𝓛 𝓜.mem 𝓡.returns in
    let args : Args = bounded (a_type ∷ []) (A, tt) (dcons d (dcons dd dnil)) in
    let fn : Fn = inst_fn args compiled.function in
    let stays : Stays En₀.signature.params En₀.kept = all_dropped En₀.signature.params En₀.kept in
    let C = (tables 𝓤 𝓛.H 𝓜 𝓡 𝓡.env).C in
    let Λ = (tables 𝓤 𝓛.H 𝓜 𝓡 𝓡.env).Λ in
    proved_at 𝓛 En₀ stays c 𝓜 𝓡
    (all_go 𝓛 2 En₀.signature.params En₀.kept ((λ κs x f. tt), ((λ κs x f. tt), ((λ κs x f. tt), ((λ κs x f. tt), tt)))))
    (#self args) fn (compiled.unfolded 𝓤 𝓛.H 𝓜 𝓡 wired (A, tt) d dd) (λ z are.
    let Post : Val → SProp 𝓤 = (walk_of 𝓛 En₀ stays c).post z in
    let a = z.0.3 in let vss = z.0.4 in
    let Y : Al = record { row = A; laws = L; g = g; d = d; drops = dd } in
    let κ : Lft = z.0.0.0 in let q : Share = z.0.1.0 in let Z : RattleType = param 0 A in
    let h = a.0.now in let at = a.0.ref_ptr in
    let units = a.1.0 in let skip = a.1.1.0 in let len = a.1.1.1.0 in
    let τ : Ty = units_ty units in
    let y = at_takes Y 𝓛 𝓜.mem 𝓡.returns κ q at h (units * 16) 16 τ in
    let Out : RattleType = type_at En₀.signature.result z.0.0 in
    let Three : RattleType = Tuple (base_type.the_row ∷ owner.the_row ∷ deed.the_row Z g ∷ []) in
    let Asked : Type 0 = (units * 16 < 2 ^ 63) × (skip + len ≤ units * 16) in
    qed 𝓛 ((raw (alive 𝓛 En₀.signature z.0.0 z.0.1) ⊛ ‵ (owns (types_at En₀.signature.params z.0.0) a vss))
    ∷ (raw (fact 𝓤 (z.0.0.1.0 ⊑ A.lives)) ⊛ raw (fact 𝓤 Asked)) ∷ []) ∵
    move ! (1 ∷ []) $ split ! $ heard ! (z.0.0.1.0 ⊑ A.lives) (λ le. heard ! Asked (λ asked. split ! $ move ! (1 ∷ []) $
    fsplit ! $ fsplit ! $ skips ! $ move ! (1 ∷ []) $ skips ! $ use1 𝓛 (‵ (seen Y κ at h)) (id⊢ 𝓤 _) $ move ! (1 ∷ []) $ use1 𝓛
    (‵ (flft κ q) ⊛ ‵ (flft z.0.0.1.0 z.0.1.1.0) ⊛ ‵ ftrue) (id⊢ 𝓤 _) $ split ! $ move ! (2 ∷ 0 ∷ []) $
    let small : units * 16 < 2 ^ 64 = omega (arith, asked.0) in
    regoal ! (λ (us : List Val). prop (WpFn 𝓤 𝓛.H C Λ fn us Post)) (λ i. are.0.0 i ++ (are.1.0.0 i ++ (are.1.1.0.0 i ++ (are.1.1.1.0.0 i ++ [])))) refl $
    enter ! C Λ fn (vptr at.0 at.1 ∷ vint w64 units ∷ vint w64 skip ∷ vint w64 len ∷ []) Post $
    alloc_all ! (λ l. pass_all ! refl ((tt, tt), ((tt, record { fits = are.1.0.1 }), ((tt, record { fits = are.1.1.0.1 }), ((tt, record { fits = are.1.1.1.0.1 }), tt)))) $
    let En : Env 𝓤 𝓛.H = env fn.locals l in
    sets ! (bin ! (get ! refl) (lit ! tt) (record { fits = small })) refl (tt, record { fits = small }) $
    use2 𝓛 (raw ((Takes Y 𝓛 𝓜.mem 𝓡.returns).pre y))
    (Takes-goes Y 𝓛 𝓜.mem 𝓡.returns κ q at h (⊑_trans κ z.0.0.1.0 A.lives z.0.2.0 le) (units * 16) 16 τ (capped_is (units * 16) small) refl small (lit< tt)) $
    calls_at ! (fm 𝓛 𝓜 𝓡) (Takes Y 𝓛 𝓜.mem 𝓡.returns) (met.allocate dd) y (and_then ! (get ! refl) (and_then ! (get ! refl) (and_then ! (lit ! tt) (no_more !))))
    (λ v.
    use1 𝓛 (later (raw (Answered Y 𝓛 𝓜.mem 𝓡.returns h τ v) ⊛ ‵ (flft κ q))) (Takes-gives Y 𝓛 𝓜.mem 𝓡.returns κ q at h (units * 16) 16 τ v) $ await !
    tt $ split ! $
    answers Y ! 𝓜.mem 𝓡.returns h τ v
    (λ b o e. move ! (2 ∷ 3 ∷ []) $ join ! $ move ! (1 ∷ 2 ∷ []) $ lands_as ! (e) refl (tt, (record { fits = lit< tt }, (tt, tt))) $
    first ! $ switches_on ! (get_tag ! (vrt ! refl (fld ! refl (stop !))) (whole !)) $ exec ! C Λ En (arm_body 0 (head (after 2 fn.body)))
    (then_runs 𝓛 C Λ En (after 3 fn.body) (at_ret En Post)) $
    sets ! (of_opd ! (get_in ! (vrt ! refl (fld ! refl (stop !))) (in_variant ! 0 0 refl refl (whole !)))) refl (tt, tt) $
    sets ! (agg ! (and_then ! (get ! refl) (no_more !))) refl (tt, (tt, tt)) $
    sets ! (agg ! (no_more !)) refl (tt, tt) $ sets ! (agg ! (and_then ! (get ! refl) (no_more !))) refl (tt, (tt, tt)) $
    sets ! (agg ! (no_more !)) refl (tt, tt) $ sets ! (agg ! (and_then ! (get ! refl) (no_more !))) refl (tt, (tt, tt)) $
    sets ! (agg ! (and_then ! (get ! refl) (and_then ! (get ! refl) (and_then ! (get ! refl) (no_more !))))) refl (tt, ((tt, tt), ((tt, tt), ((tt, tt), tt)))) $
    sets_last ! (agg ! (and_then ! (lit ! tt) (and_then ! (get ! refl) (no_more !)))) refl (tt, (record { fits = lit< tt }, (((tt, tt), ((tt, tt), ((tt, tt), tt))), tt))) $
    exec ! C Λ En (after 3 fn.body) (at_ret En Post) $
    sets ! (of_opd ! (get ! refl)) refl (tt, (record { fits = lit< tt }, (((tt, tt), ((tt, tt), ((tt, tt), tt))), tt))) $
    returns ! (look_at ! 0 refl) $ free_all ! refl $
    -- [the room; the allocator's token; the tokens]
    let p : Ptr = block_ptr b o in
    let x : (base_type.the_row).Denot = record { ptr = p } in
    let bs : List ℕ = replicate len 0 in let no_changes : List Change = [] in let cs = came_raw 0 len no_changes in let as_many : length bs ≡ len = length-replicate len 0 in
    let bytes : (owner.the_row).Denot = record { mark = record {}; at = p; skip = skip; bytes = bs; out = cs; of = (0, 0); units = units } in
    let right : (deed.the_row Z g).Denot = record { mark = record {}; at = p; units = units; skip = skip; len = len; alloc = h } in
    let v : Val = three_val (base_val p) mark_val mark_val in
    let back : Fml = fwand (froom (bytes_ty len) b (skip + o)) (fwand (ways_of (begins_in skip len) 0 units b o) (froom τ b o)) in
    use1 𝓛 (‵ (froom (bytes_ty len) b (skip + o)) ⊛ ‵ (ways_of (begins_in skip len) 0 units b o) ⊛ ‵ back) (retypes 𝓛 b units skip len o asked.1) $ split ! $ move !
    (1 ∷ []) $ split ! $
    -- [the ways; the way back; the room; the allocator's token; the tokens]
    move ! (3 ∷ 1 ∷ []) $ fjoin ! $ use0 𝓛 (‵ (mark_own (mark_val ∷ []))) (mark_made 𝓛) $ fjoin ! $ move ! (2 ∷ 1 ∷ []) $
    rewrite ! 0 (λ (k : ℕ). ‵ (froom (bytes_ty k) b (skip + o))) (sym as_many) refl $
    use1 𝓛 (‵ (held (kept_at cs) 0 bs b (skip + o)))
    (room-held 𝓛 b (kept_at cs) 0 bs (skip + o) (λ j lo hi. changed-there raw' no_changes 0 len j lo (omega (arith, hi, as_many)))) $
    rewrite ! 1 (λ (F : Fml). ‵ F)
    (sym (ways-same 𝓛 b (own_unit cs skip (length bs)) (begins_in skip len) 0 units o
    (λ u. ap (λ k. own_unit cs skip k u) as_many ∙ unit-all cs skip len u (raw-own no_changes 0 len)))) refl $ fjoin ! $
    flt_i ! (length bs) (2 ^ 63) (omega (arith, asked.0, asked.1, as_many)) $ fjoin ! $
    use0 𝓛 (‵ (mark_own (mark_val ∷ []))) (mark_made 𝓛) $ fjoin ! $ use0 𝓛 (‵ (base_own p (base_val p ∷ []))) (base_made 𝓛 p) $
    use3 𝓛 (‵ (Three.own_val (x, bytes, right) (v ∷ []))) (three_of 𝓛 base_type.the_row owner.the_row (deed.the_row Z g) x bytes right (base_val p) mark_val mark_val) $
    use1 𝓛 (‵ (Out.own_val (Some (x, bytes, right)) (live 1 (vcons v vnil) ∷ []))) (Some-of 𝓛 Three (x, bytes, right) v) $
    let Lies : Type 0 = (p ≡ p) × (skip ≡ skip) × (length bs ≡ len) × (cs ≡ cs) × (units ≡ units) in
    let Due : Type 0 = (p ≡ p) × (units ≡ units) × (skip ≡ skip) × (len ≡ len) × (h ≡ h) in
    use0 𝓛 (raw (fact 𝓤 Due)) (fact_i 𝓤 Due (emp 𝓤) (refl, refl, refl, refl, refl)) $
    use0 𝓛 (raw (fact 𝓤 Lies)) (fact_i 𝓤 Lies (emp 𝓤) (refl, refl, as_many, refl, refl)) $ join ! $
    nothing ! $ nothing ! $ fjoin ! $ nothing ! $ fjoin ! $ nothing ! $ fjoin ! $ nothing ! $ fjoin ! $ move ! (3 ∷ 0 ∷ 2 ∷ 1 ∷ []) $
    by ! (leaves 𝓛 En₀ stays c z (live 1 (vcons v vnil)) (Some (x, bytes, right)) (tt, (tt, (tt, (tt, tt)))) (tt, (tt, (tt, (tt, tt))))))
    (λ e. join ! $ lands_as ! (e) refl (tt, (record { fits = lit< tt }, (tt, tt))) $
    first ! $ switches_on ! (get_tag ! (vrt ! refl (fld ! refl (stop !))) (whole !)) $ exec ! C Λ En (arm_body 1 (head (after 2 fn.body)))
    (then_runs 𝓛 C Λ En (after 3 fn.body) (at_ret En Post)) $
    sets_last ! (agg ! (and_then ! (lit ! tt) (no_more !))) refl (tt, (record { fits = lit< tt }, tt)) $
    exec ! C Λ En (after 3 fn.body) (at_ret En Post) $ sets ! (of_opd ! (get ! refl)) refl (tt, (record { fits = lit< tt }, tt)) $
    returns ! (look_at ! 0 refl) $ free_all ! refl $
    use0 𝓛 (‵ (Out.own_val None (live 0 vnil ∷ []))) (none_of 𝓛 Three) $ use0 𝓛 (raw (fact 𝓤 (Unit {0}))) (fact_i 𝓤 (Unit {0}) (emp 𝓤) (tt)) $
    use0 𝓛 (raw (fact 𝓤 (Unit {0}))) (fact_i 𝓤 (Unit {0}) (emp 𝓤) (tt)) $ join ! $
    nothing ! $ nothing ! $ fjoin ! $ nothing ! $ fjoin ! $ nothing ! $ fjoin ! $ nothing ! $ fjoin ! $ move ! (3 ∷ 0 ∷ 2 ∷ 1 ∷ []) $
    by ! (leaves 𝓛 En₀ stays c z (live 0 vnil) None (tt, (tt, (tt, (tt, tt)))) (tt, (tt, (tt, (tt, tt)))))))))))
