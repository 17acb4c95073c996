-- Shows that `slice_mut` lends a run of the bytes, and that the owner's bytes follow what is written there. Assumes `Logic`.
use Rattle.std.proofs.Common.{◌≡◌, ℕ, ◌+◌, ◌-◌, ◌*◌, ◌^◌, ◌<◌, ◌≤◌, List, [], ◌∷◌, ◌++◌, length, take, drop, refl, sym, ap, subst}
use Rattle.std.proofs.Common.{◌∙◌, arith, length-take, length-drop, length-append, take_at, w64}
use seplogic.Ra.Ura.{Ura}
use base.Fraction.{full_share}
use mir.Syntax.{named}
use mir.Val.{Val, vptr}
use base.Logic.{ent, sep, never, id⊢}
use base.Fml.{Fml, GName, ftrue, fsep, fat, flft}
use contract.Monad.{fact}
use contract.Running.{tables}
use types.Logic.{Logic, sem}
use types.Kit.{‵, raw, ◌⊛◌, some, later, await, pick, at_ret, ◌$◌, ◌∵◌, !, qed, by, move, keep, use1, use2, split, join, group, rewrite, suffices, frame, fsplit}
use types.Kit.{fsplit3, fjoin, fpack, flt_i, flt_l, done}
use types.Part.{whole, sub, agg}
use types.Run.{stop, fld, of_opd, and_then, no_more, bin, first, blocks, exec, returns, enter}
use types.ByLocal.{alloc_all, pass_all, free_all, look_at, get, get_in, is, sets, sets_last, take_at as lift_at, give_at, env}
use types.SemTy.{cells}
use denote.RattleType.{owns}
use denote.Memory.{mem, cell_at, part_of}
use denote.Param.{layout}
use denote.RawPtr.{Ptr, block_ptr, in_a_block}
use denote.Ref.{MutBor, mut_vals, mut_Tells}
use denote.Plain.{uint_vals, uint_Tells}
use denote.Builtin.{u8}
use denote.Follow.{follows}
use denote.FollowSlice.{Elements, lends_Elements}
use denote.Array.{Array}
use denote.Signature.{types_at}
use denote.Slice.{MutSlice, slice_val}
use denote.Steps.{nothing, heard, opens}
use denote.Struct.Struct.{Struct}
use denote.Struct.Owning.{shape}
use denote.Triple.Walked.{says, Stays, walk_of, ends_at}
use Rattle.core.proofs.alloc.Shapes.{after}
use Rattle.std.proofs.raw_atomic.Walks.{proved}
use Rattle.rlsf_base.specs.Out.{kept_at}
use Rattle.rlsf_base.specs.Changes.{AreBytesHere}
use Rattle.rlsf_base.specs.Steps.Owners.{HasHere}
use Rattle.rlsf_base.specs.Steps.Ownership.{held, bytes_own, ways_of, own_unit}
use Rattle.rlsf_base.specs.Lends.{refilled}
use Rattle.rlsf_base.specs.Steps.LentParts.{owner_with}
use Rattle.rlsf_base.proofs.RawBlock.Rows.{Row, Around, run_out, run_in}
use Rattle.rlsf_base.proofs.RawBlock.Values.{base_val, base_vals, base_Tells, base_typed}
use Rattle.rlsf_base.proofs.RawBlock.Dropped.{all_dropped, all_go}
use Rattle.rlsf_base.specs.contracts.memory.block.Bytes as owner
use Rattle.rlsf_base.specs.contracts.memory.block.Base as base_type
use Rattle.rlsf_base.specs.contracts.memory.block.Bytes.slice_mut as f
use Rattle.rlsf_base.proofs.memory.block.Bytes.slice_mut.Statement.{statement}
use Rattle.rlsf_base.proofs.memory.block.Bytes.slice_mut.Code as code
use Rattle.std.specs.List.{refill}

module _ {M : Type 1} {𝓤 : Ura M} (𝓛 : Logic 𝓤) (rb ro b o : ℕ) (d : (owner.the_row).Denot) (i len : ℕ) (vs : List Val) where
  abbrev the_ways : Fml
  the_ways = ways_of (own_unit d.out d.skip (length d.bytes)) 0 d.units b o

  -- all but the run
  abbrev Rest : Fml
  Rest =
      fsep (Around 𝓛 b (kept_at d.out) (d.skip + o) d.bytes i len)
      (fsep (fsep the_ways ((Struct (shape owner.the_type)).own_val (tt, tt) vs)) (cell_at full_share (owner.the_row).mir vs rb ro))

  abbrev new : List ℕ → (owner.the_row).Denot
  new ws = owner_with d (refilled d.bytes i len ws)

  back : d.at ≡ block_ptr b o → i + len ≤ length d.bytes → AreBytesHere d.out i len → length d.bytes < 2 ^ 63 → (ws : List ℕ) → length ws ≡ len
      → ent 𝓤 (sep 𝓤 (sem 𝓛 (cells (mem u8) ws b (i + (d.skip + o)))) (sem 𝓛 Rest)) (sem 𝓛 ((mem owner.the_row).own_at (new ws) rb ro))
  unfolding part_of
  back e within inside small ws same =
      let old = drop i d.bytes in let bs = refilled d.bytes i len ws in let end = drop (i + len) d.bytes in
      let all : refill len old ws ≡ ws = take_at ws (drop (length ws) old) len same in
      let long : length bs ≡ length d.bytes =
      ap (λ l. length (take i d.bytes ++ (l ++ end))) all
      ∙ omega (arith, length-append (take i d.bytes) (ws ++ end), length-append ws end, length-take i d.bytes, length-drop (i + len) d.bytes) in
      qed 𝓛 (‵ (cells (mem u8) ws b (i + (d.skip + o))) ∷ ‵ Rest ∷ []) ∵ move ! (1 ∷ []) $ fsplit ! $ move ! (2 ∷ 0 ∷ []) $
      use2 𝓛 (‵ (held (kept_at d.out) 0 (take i d.bytes ++ (ws ++ end)) b (d.skip + o))) (run_in 𝓛 b d.out (d.skip + o) d.bytes i len within inside ws (sym same)) $
      rewrite ! 0 (λ (l : List ℕ). ‵ (held (kept_at d.out) 0 (take i d.bytes ++ (l ++ end)) b (d.skip + o))) (sym all) refl $ move ! (1 ∷ []) $ fsplit ! $ fsplit ! $
      -- [the ways; the mark; its cell; the bytes]
      rewrite ! 0 (λ (k : ℕ). ‵ (ways_of (own_unit d.out d.skip k) 0 d.units b o)) (sym long) refl $ move ! (3 ∷ 0 ∷ []) $ fjoin ! $
      flt_i ! (length bs) (2 ^ 63) (omega (arith, long, small)) $ fjoin ! $
      rewrite ! 0 (λ (p : Ptr). ‵ (bytes_own p d.skip bs d.out d.units)) (sym e) refl $ move ! (1 ∷ 0 ∷ []) $ fjoin ! $ move ! (1 ∷ 0 ∷ []) $ fjoin ! $
      fpack ! (List Val) (λ us. fsep (cell_at full_share (owner.the_row).mir us rb ro) ((owner.the_row).own_val (new ws) us)) vs $ done !

pub slice_mut_spec : {M : Type 1} → statement M
slice_mut_spec 𝓤 𝓛 𝓜 𝓡 wired =
    let stayed : Stays f.ended.signature.params f.ended.kept = all_dropped f.ended.signature.params f.ended.kept in
    let c = f.clauses 𝓛 𝓜.mem 𝓡.returns in let W = walk_of 𝓛 f.ended stayed c in let 𝓣 = tables 𝓤 𝓛.H 𝓜 𝓡 𝓡.env in
    proved 𝓛 f.ended stayed c 𝓜 𝓡
    (all_go 𝓛 1 f.ended.signature.params f.ended.kept ((λ κs x w. tt), ((λ κs x w. tt), ((λ κs x w. tt), ((λ κs x w. tt), tt)))))
    f.Key.name code.function (code.unfolded 𝓤 𝓛.H 𝓜 𝓡 wired)
    (λ κs. (mut_vals, (base_vals, (uint_vals w64, (uint_vals w64, tt)))))
    (λ κs. (mut_Tells (named 0) κs.0 owner.the_row, (base_Tells, (uint_Tells w64, (uint_Tells w64, tt))))) (λ κs qs bounds a g are.
    let κ = κs.0 in let q = qs.0 in let rb = a.0.ref_ptr.0 in let ro = a.0.ref_ptr.1 in let γ = a.0.ghost_name in let d = a.0.now in let base = a.1.0 in let place = a.1.1.0 in
    let len = a.1.1.1.0 in
    let Asked : Type 0 = (base.ptr ≡ d.at) × HasHere d place len in
    let y : W.Ghost = ((κs, qs, bounds, a, (mut_vals a.0, (base_vals base, (uint_vals w64 place, (uint_vals w64 len, tt))))), g) in
    qed 𝓛 (((‵ (flft κ q) ⊛ ‵ ftrue) ⊛ ‵ (owns (types_at f.signature.params κs) a y.0.4)) ∷ raw (fact 𝓤 Asked) ∷ []) ∵
    move ! (1 ∷ []) $ heard ! Asked (λ asked. split ! $ split ! $ move ! (2 ∷ []) $ fsplit ! $ fsplit3 ! $ keep ! (1 ∷ 2 ∷ 4 ∷ []) $
    enter ! _ _ _ _ _ $ alloc_all ! (λ l. pass_all ! refl ((tt, tt), (base_typed base.ptr, ((tt, record { fits = are.1.1.0.1 }), ((tt, record { fits = are.1.1.1.0.1 }), tt)))) $
    opens ! tt owner.the_row {h = d} rb ro (λ vs. move ! (1 ∷ []) $ fsplit ! $ move ! (1 ∷ []) $
    in_a_block ! d.at (λ p. bytes_own p d.skip d.bytes d.out d.units) (id⊢ 𝓤 (never 𝓤)) (λ b o e. fsplit ! $ flt_l ! (λ small.
    fsplit ! $ move ! (1 ∷ 2 ∷ []) $ fjoin ! $ move ! (1 ∷ []) $
    -- [the bytes; the mark; its cell; the open borrow; ..]
    let i = place - d.skip in let xs = take len (drop i d.bytes) in let at = i + (d.skip + o) in
    let within : i + len ≤ length d.bytes = omega (arith, asked.1.0) in
    let long : length xs ≡ len = omega (arith, length-take len (drop i d.bytes), length-drop i d.bytes, within) in
    let there : place + o ≡ at = omega (arith, asked.1.0) in
    let way : (ws : List ℕ) → length ws ≡ length xs
    → ent 𝓤 (sep 𝓤 (sem 𝓛 (cells (mem u8) ws b at)) (sem 𝓛 (Rest 𝓛 rb ro b o d i len vs)))
    (sem 𝓛 ((mem owner.the_row).own_at (new 𝓛 rb ro b o d i len vs ws) rb ro))
    = λ ws same. back 𝓛 rb ro b o d i len vs e within asked.1.1 small ws (same ∙ long) in
    lift_at ! 2 $ rewrite ! 0 (λ (p : Ptr). ‵ (fat full_share (layout base_type.the_row) (l 2) 0 (base_val p))) (asked.0 ∙ e) refl $ give_at ! 2 $
    first ! $ blocks ! $ sets ! (is ! (bin ! (get_in ! (fld ! refl (stop !)) (sub ! 0 refl (whole !))) (get ! refl) tt) (ap (λ (k : ℕ). vptr b k) there)) refl (tt, tt) $
    use1 𝓛 (‵ (Row 𝓛 b at xs) ⊛ ‵ (Around 𝓛 b (kept_at d.out) (d.skip + o) d.bytes i len)) (run_out 𝓛 b d.out (d.skip + o) d.bytes i len within asked.1.1) $ split !
    $
    sets_last ! (agg ! (and_then ! (get ! refl) (and_then ! (get ! refl) (no_more !)))) refl (tt, (tt, (record { fits = are.1.1.1.0.1 }, tt))) $
    exec ! 𝓣.C 𝓣.Λ (env code.Mir.locals l) (after 1 (code.function).body) (at_ret _ (W.post y)) $ sets ! (of_opd ! (get ! refl)) refl
    (tt, (tt, (record { fits = are.1.1.1.0.1 }, tt))) $
    move ! (2 ∷ 3 ∷ []) $ fjoin ! $ move ! (2 ∷ 0 ∷ []) $ fjoin ! $ move ! (2 ∷ 3 ∷ 4 ∷ 1 ∷ 0 ∷ []) $ group ! 5 $
    let roomy : length xs < 2 ^ 64 = omega (arith, small, long, within) in let fitting : length xs * 1 < 2 ^ 63 = omega (arith, small, long, within) in
    let left_over = sem 𝓛 (Rest 𝓛 rb ro b o d i len vs) in let written = new 𝓛 rb ro b o d i len vs in let coded = (owner.the_row).coded.code d in
    use1 𝓛 (later (some (λ (δ : GName). raw (Elements 𝓛 owner.the_row u8 written (named 0) κ q rb ro b at γ xs (roomy, fitting) left_over way δ))))
    (lends_Elements 𝓛 owner.the_row u8 written (named 0) κ q rb ro b at γ xs (roomy, fitting) left_over way coded coded) $ await ! tt $ pick ! (λ δ.
    let r : MutBor (List ℕ) = record { ref_ptr = (b, at); ghost_name = δ; now = xs } in
    let v = slice_val (b, at) (length xs) in
    let exits : ent 𝓤 (Elements 𝓛 owner.the_row u8 written (named 0) κ q rb ro b at γ xs (roomy, fitting) left_over way δ) (W.post y v)
    = qed 𝓛 (‵ ((MutSlice (named 0) κ u8).own_val r (v ∷ [])) ∷ ‵ (flft κ q) ∷ ‵ (follows owner.the_row (Array u8 0) γ δ written) ∷ []) ∵
    suffices ! _ (ends_at 𝓛 f.ended stayed c y v r (tt, (tt, (tt, (tt, tt)))) (tt, (tt, (tt, (tt, tt))))) $
    nothing ! $ nothing ! $ fjoin ! $ nothing ! $ fjoin ! $ nothing ! $ fjoin ! $ nothing ! $ fjoin ! $ join ! $ nothing ! $ move ! (2 ∷ 0 ∷ []) $ join ! $ join ! $ frame ! $
    says ! refl $ done ! in
    returns ! (look_at ! 0 refl) $ free_all ! refl $ keep ! (0 ∷ []) $
    by ! (subst (λ (k : ℕ). ent 𝓤 (Elements 𝓛 owner.the_row u8 written (named 0) κ q rb ro b at γ xs (roomy, fitting) left_over way δ) (W.post y (slice_val (b, at) k)))
    long
    exits))))))))
