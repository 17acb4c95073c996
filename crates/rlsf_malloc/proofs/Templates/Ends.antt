-- Exports that take the heap from behind the handle, and pass its bytes to the caller.
use Rattle.rlsf_malloc_calls.proofs.Walking.{◌≡◌, ℕ, [], ◌∷◌, ◌++◌, refl, proved, full_share, id⊢, ftrue, vunit, WpFn, fact, tables, ‵, raw, ◌⊛◌, some, later, prop}
use Rattle.rlsf_malloc_calls.proofs.Walking.{◌$◌, ◌∵◌, !, qed, done, move, drop, use0, use1, use2, split, join, fpack, feq_i, pick, await, rewrite, suffices, group}
use Rattle.rlsf_malloc_calls.proofs.Walking.{enter, of_opd, stop, no_more, and_then, returns, alloc_all, pass_all, free_all, look_at, get, through, sets, lands_as}
use Rattle.rlsf_malloc_calls.proofs.Walking.{yes, Ptr, RawPtr, block_ptr, lies_at, rawptr_vals, rawptr_Tells, plain, nothing, heard, calls_at, lasts, on_entry}
use Rattle.rlsf_malloc_calls.proofs.Walking.{triple_of, Stays, walk_of, stay_dropped, Goes-dropped, ends_at, framed, unit, unit_lit, Is, shows, peeks, fact_i, emp}
use Rattle.rlsf_malloc_calls.proofs.Walking.{Val, Ura, sep, Logic, sem, Model, Closed, Running, Fn, Callee, Ty, local, value_local, ty_ptr, ty_unit, seq}
use Rattle.rlsf_malloc_calls.proofs.Walking.{assign, place, rv_opd, copy, opd_unit, deref, call, return, RattleType, Ended, Clauses, Lasts, closing, Meets, Good}
use Rattle.rlsf_malloc_calls.proofs.Walking.{◌∙◌, in_a_block, regoal}
use Rattle.std.proofs.Common.{List, length}
use base.Fml.{fat}
use borrow.Table.OneValue.{part_out}
use denote.Memory.{lone}
use denote.RawPtr.{room_at, rawptr_Lawful}
use types.Run.{forget, load, look}
use Rattle.rlsf_base.specs.OpenSpace.{Home}
use Rattle.rlsf_base.specs.Out.{Change}
use Rattle.rlsf_base.specs.RawParts.{LiesAtBlock}
use Rattle.rlsf_base.specs.Steps.Ownership.{lent_at}
use Rattle.rlsf_base.specs.contracts.memory.block.RawParts as parts
use Rattle.rlsf_base.proofs.memory.block.RawParts.TheLaws as parts_laws
use Rattle.rlsf_base.specs.contracts.memory.block.RawParts.release_lent as k
use Rattle.rlsf_malloc.proofs.HeapKinds.{Kind, row}
use Rattle.rlsf_malloc.proofs.Steps.{at_kind, kind_lasts, lasting, tokens, all_shares}
use contract.Lifetimes.{toks}
use Rattle.rlsf_malloc.specs.Handle.{HoldsValue, rest_of}
use Rattle.rlsf_malloc_calls.specs.Parts.{ArePartsOf, first_of}

abbrev P : RattleType
P = parts.the_row

-- the code
abbrev pub function : Ty → Ty → Callee → Fn
function τ π callee = record {
  lifetimes = 0;
  outlives = [];
  ty_params = [];
  givens = 0;
  params = 1;
  locals =
      local ty_unit value_local ∷ local ty_ptr value_local ∷ local π value_local ∷ local ty_ptr value_local
      ∷ local τ value_local ∷ local ty_ptr value_local ∷ local π value_local ∷ [];
  body =
      seq (assign (place 3 []) (rv_opd (copy (place 1 [])))) (
      seq (assign (place 4 []) (rv_opd (copy (place 3 (deref τ ∷ []))))) (
      seq (call callee (copy (place 4 []) ∷ []) (place 2 [])) (
      seq (assign (place 6 []) (rv_opd (copy (place 2 [])))) (
      seq (call k.Key.name (copy (place 6 []) ∷ []) (place 5 [])) (
      seq (assign (place 0 []) (rv_opd opd_unit)) (
      return))))));
}

-- its signature, and that of what it calls
abbrev pub exported : Ended
exported = record { signature = record { lifetimes = 0; outlives = []; params = plain (λ κs. RawPtr) ∷ []; result = plain (λ κs. unit) }; kept = (yes, tt) }

abbrev pub called : Kind → Ended
called K = record { signature = record { lifetimes = 4; outlives = []; params = plain (λ κs. row K) ∷ []; result = plain (λ κs. parts.the_row) }; kept = (yes, tt) }

abbrev stayed : Stays exported.signature.params exported.kept
stayed = (stay_dropped _ yes, tt)

module _ (K : Kind) (S Fact Asked : (row K).Denot → Type 0) (home : (row K).Denot → Home) (changes : (row K).Denot → List Change)
    (told : (row K).Denot → Type 0) where
  abbrev R : RattleType
  R = row K

  module _ {M : Type 1} {𝓤 : Ura M} (𝓛 : Logic 𝓤) where
    abbrev pub outer : Clauses 𝓤 exported
    outer κs a = record {
      ghost = R.Denot;
      requires = λ v. sep 𝓤 (sem 𝓛 (HoldsValue R S a.0 v)) (fact 𝓤 (Fact v));
      ensures = λ v r end. sep 𝓤 (sem 𝓛 (room_at R a.0)) (sem 𝓛 (rest_of (home v) (changes v) (told v)));
    }

    abbrev pub inner : Clauses 𝓤 (called K)
    inner κs a = record { ghost = Unit {0}; requires = λ _. at_kind 𝓛 K κs (Asked a.0); ensures = λ _ r end. fact 𝓤 (ArePartsOf (home a.0) (changes a.0) (told a.0) r) }

  pub exports : ((v : R.Denot) → S v → Fact v → Asked v)
      → {M : Type 1} (𝓤 : Ura M) (𝓛 : Logic 𝓤) (𝓜 : Model 𝓤 𝓛.H) (𝓡 : Running 𝓤 𝓛.H 𝓜) (key callee : Callee)
      → ((v : R.Denot) (w : Val) → Is R v (w ∷ []) → Good (lone R.mir) w)
      → Closed 𝓤 𝓛.H (tables 𝓤 𝓛.H 𝓜 𝓡 𝓡.env).C (tables 𝓤 𝓛.H 𝓜 𝓡 𝓡.env).Λ key (function (lone R.mir) (lone P.mir) callee)
      → Meets 𝓛 (called K).signature (𝓡.run (𝓡.env callee)) (closing 𝓛 (called K) (inner 𝓛))
      → Meets 𝓛 k.signature (𝓡.run (𝓡.env k.Key.name)) (k.spec 𝓛 𝓜.mem 𝓡.returns)
      → Meets 𝓛 exported.signature (𝓡.run (𝓡.env key)) (closing 𝓛 exported (outer 𝓛))
  exports asks 𝓤 𝓛 𝓜 𝓡 key callee good closed met release_met =
      let c = outer 𝓛 in let W = walk_of 𝓛 exported stayed c in let 𝓣 = tables 𝓤 𝓛.H 𝓜 𝓡 𝓡.env in let code = function (lone R.mir) (lone P.mir) callee in
      proved 𝓛 exported stayed c 𝓜 𝓡 (Goes-dropped 𝓛 0 (plain (λ _. RawPtr)) yes (λ κs x w. refl), tt)
      key code closed
      (λ κs. (rawptr_vals, tt)) (λ κs. (rawptr_Tells, tt)) (λ κs qs bounds a before are.
      let s : Ptr → W.Ghost = λ p. ((κs, qs, bounds, (p, tt), (rawptr_vals p, tt)), before) in let m = home before in let cs = changes before in let is_told = told before in
      qed 𝓛 (raw (on_entry 𝓛 exported.signature κs qs a (s a.0).0.4) ∷ (some (λ (_ : S before). ‵ (lies_at R full_share a.0 before)) ⊛ raw (fact 𝓤 (Fact before))) ∷ [])
      ∵ drop ! $ split ! $ pick ! (λ ready. move ! (1 ∷ []) $ heard ! (Fact before) (λ known.
      in_a_block ! a.0 (λ p. lies_at R full_share p before) (id⊢ 𝓤 _) (λ b o e.
      regoal ! (λ p. prop (WpFn 𝓤 𝓛.H 𝓣.C 𝓣.Λ code (rawptr_vals p ++ []) (W.post (s p)))) e refl $
      use1 𝓛 (some (λ (v : Val). ‵ (fat full_share (lone R.mir) b o v) ⊛ ‵ (R.own_val before (v ∷ [])))) (part_out 𝓛 R refl full_share before b o) $
      pick ! (λ v. split ! $ move ! (1 ∷ []) $
      peeks ! R (Is R) (shows 𝓛 R) before (v ∷ []) (λ is. let typed = good before v is in
      -- [the heap; its cell]
      enter ! _ _ _ _ _ $ alloc_all ! (λ l. pass_all ! refl ((tt, tt), tt) $
      sets ! (of_opd ! (get ! refl)) refl (tt, tt) $
      sets ! (of_opd ! (load ! (through ! refl (stop !)) (look ! 1 refl))) refl typed $ forget ! 1 refl $
      let G = triple_of 𝓛 (called K).signature (closing 𝓛 (called K) (inner 𝓛)) in
      let y : G.Ghost = ((lasting 𝓛, all_shares 𝓛, tt, (before, tt), (v ∷ [], tt)), tt) in
      nothing ! $ move ! (1 ∷ 0 ∷ []) $ join ! $ use0 𝓛 (raw (toks 𝓛 4 (lasting 𝓛) (all_shares 𝓛))) (tokens 𝓛) $ join ! $
      use0 𝓛 (raw (at_kind 𝓛 K (lasting 𝓛) (Asked before))) (kind_lasts 𝓛 K (Asked before) (asks before ready known)) $
      move ! (1 ∷ 0 ∷ []) $ use2 𝓛 (raw (G.pre y)) (id⊢ 𝓤 _) $
      calls_at ! (framed 𝓤 𝓛.H 𝓜 (tables 𝓤 𝓛.H 𝓜 𝓡 𝓡.env)) G met y
      (and_then ! (get ! refl) (no_more !)) (λ u.
      use1 𝓛 (later (some (λ (r : P.Denot). (raw (toks 𝓛 4 (lasting 𝓛) (all_shares 𝓛)) ⊛ ‵ (P.own_val r (u ∷ []))) ⊛
      some (λ (ws : Lasts (called K) (lasting 𝓛) (before, tt)). ‵ (lasts (called K) y.0.0 y.0.3 ws) ⊛ raw (fact 𝓤 (ArePartsOf m cs is_told r)))))) (id⊢ 𝓤 _) $
      await ! tt $ pick ! (λ r. split ! $ split ! $ drop ! $
      peeks ! P (Is P) (shows 𝓛 P) r (u ∷ [])
      (λ is_parts. let parts_typed = ((parts_laws.the_row_laws.lawful 𝓛).typed r _ is_parts).0 in lands_as ! refl refl parts_typed $
      move ! (1 ∷ []) $ pick ! (λ ws. split ! $ drop ! $ heard ! (ArePartsOf m cs is_told r) (λ ended.
      sets ! (of_opd ! (get ! refl)) refl parts_typed $
      -- [the parts; the room; the locals]
      let T = triple_of 𝓛 k.signature (k.spec 𝓛 𝓜.mem 𝓡.returns) in
      let z : T.Ghost = ((tt, tt, tt, (r, tt), (u ∷ [], tt)), tt) in
      let Owed : Type 0 = LiesAtBlock r in
      nothing ! $ move ! (1 ∷ 0 ∷ []) $ join ! $ nothing ! $ join ! $ use0 𝓛 (raw (fact 𝓤 Owed)) (fact_i 𝓤 Owed (emp 𝓤) ended.2) $
      move ! (1 ∷ 0 ∷ []) $ use2 𝓛 (raw (T.pre z)) (id⊢ 𝓤 _) $
      calls_at ! (framed 𝓤 𝓛.H 𝓜 (tables 𝓤 𝓛.H 𝓜 𝓡 𝓡.env)) T release_met z
      (and_then ! (get ! refl) (no_more !)) (λ w.
      use1 𝓛 (later (some (λ (q : Ptr). (‵ ftrue ⊛ ‵ (RawPtr.own_val q (w ∷ []))) ⊛
      some (λ (ws' : Lasts k.ended tt (r, tt)). ‵ (lasts k.ended z.0.0 z.0.3 ws') ⊛ (‵ (lent_at q r.start r.bytes.bytes r.bytes.out) ⊛ raw (fact 𝓤 (q ≡ r.base.ptr)))))))
      (id⊢ 𝓤 _) $
      await ! tt $ pick ! (λ q. split ! $ split ! $ drop ! $
      peeks ! RawPtr (Is RawPtr) (shows 𝓛 RawPtr) q (w ∷ []) (λ is_ptr. lands_as ! refl refl ((rawptr_Lawful 𝓛).typed q _ is_ptr).0 $ drop ! $
      pick ! (λ ws'. split ! $ drop ! $ split ! $ move ! (1 ∷ []) $ heard ! _ (λ there.
      rewrite ! 0 (λ (x : Ptr × ℕ × List Change). ‵ (lent_at x.0 x.1 r.bytes.bytes x.2)) (λ i. ((there ∙ ended.0) i, ended.1 i, ended.4 i)) refl $
      fpack ! ((bytes : List ℕ) × (length bytes ≡ m.len) × is_told) (λ x. lent_at (first_of m) m.start x.0 cs) (r.bytes.bytes, ended.3, ended.5) $
      sets ! (of_opd ! (unit_lit !)) refl (tt, tt) $
      returns ! (look_at ! 0 refl) $ free_all ! refl $ move ! (1 ∷ 0 ∷ []) $ join ! $
      suffices ! _ (ends_at 𝓛 exported stayed c (s (block_ptr b o)) vunit tt (tt, tt) (tt, tt)) $
      feq_i ! _ (vunit ∷ []) _ refl $ nothing ! $ nothing ! $ join ! $ nothing ! $ group ! 3 $ done !)))))))))))))))))
