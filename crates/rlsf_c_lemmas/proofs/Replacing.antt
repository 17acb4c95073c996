-- An export that replaces what lies behind its handle by what a call makes of it.
use Rattle.rlsf_c_lemmas.proofs.Walking.{◌≡◌, [], ◌∷◌, ◌++◌, refl, proved, full_share, id⊢, ftrue, Val, vunit, WpFn, fact, tables, ‵, raw, ◌⊛◌, some, later}
use Rattle.rlsf_c_lemmas.proofs.Walking.{prop, ◌$◌, ◌∵◌, !, qed, done, move, drop, use1, use2, split, join, feq_i, pick, await, regoal, suffices, group, enter, of_opd}
use Rattle.rlsf_c_lemmas.proofs.Walking.{stop, no_more, and_then, returns, alloc_all, pass_all, free_all, look_at, get, through, sets, lands_as, yes, Is, shows, Ptr, RawPtr}
use Rattle.rlsf_c_lemmas.proofs.Walking.{block_ptr}
use Rattle.rlsf_c_lemmas.proofs.Walking.{lies_at, in_a_block, rawptr_vals, rawptr_Tells, plain, nothing, peeks, calls_at, lasts, on_entry, heard, fpack, keep, part_at}
use Rattle.rlsf_c_lemmas.proofs.Walking.{triple_of, Stays}
use Rattle.rlsf_c_lemmas.proofs.Walking.{walk_of, stay_dropped, Goes-dropped, ends_at, framed}
use Rattle.rlsf_c_lemmas.proofs.Contracts.{Returned}
use base.Fml.{fat, fex}
use base.Logic.{emp}
use borrow.Table.OneValue.{part_in, part_out}
use contract.Running.{Running}
use denote.Builtin.{unit}
use denote.Memory.{lone}
use denote.RattleType.{RattleType}
use denote.Signature.{Signature}
use denote.Triple.Clauses.{Clauses, Ended, Lasts, closing}
use denote.Triple.Spec.{Meets}
use mir.Syntax.{Ty, ty_ptr, ty_unit, local, value_local, Callee, Fn, place, copy, assign, seq, call, return, rv_opd, opd_unit, deref}
use prog.Model.{Model}
use prog.Wp.{Closed}
use seplogic.Ra.Ura.{Ura}
use types.Logic.{Logic, sem}
use types.Run.{assigns, forget, init, load, look, unit_lit}

-- the code: it reads the value, which has the type ρ, calls, and writes the result
abbrev replacing : Ty → Callee → Fn
replacing ρ callee = record {
  lifetimes = 0;
  outlives = [];
  ty_params = [];
  givens = 0;
  params = 1;
  locals = local ty_unit value_local ∷ local ty_ptr value_local ∷ local ty_ptr value_local ∷ local ρ value_local ∷ local ty_ptr value_local ∷ local ρ value_local ∷ [];
  body = seq (assign (place 2 []) (rv_opd (copy (place 1 [])))) (seq (assign (place 4 []) (rv_opd (copy (place 1 []))))
      (seq (assign (place 5 []) (rv_opd (copy (place 4 (deref ρ ∷ []))))) (seq (call callee (copy (place 5 []) ∷ []) (place 3 []))
      (seq (assign (place 2 (deref ρ ∷ [])) (rv_opd (copy (place 3 [])))) (seq (assign (place 0 []) (rv_opd opd_unit)) return)))));
}

-- R is the type of what lies behind the handle
module _ {M : Type 1} {𝓤 : Ura M} (𝓛 : Logic 𝓤) (𝓜 : Model 𝓤 𝓛.H) (𝓡 : Running 𝓤 𝓛.H 𝓜) (held : Returned) (one : held.row.mir ≡ lone held.row.mir ∷ [])
    (Did : held.row.Denot → held.row.Denot → Type 0) where
  abbrev R : RattleType
  R = held.row

  abbrev signature : Signature
  signature = record { lifetimes = 0; outlives = []; params = plain (λ κs. RawPtr) ∷ []; result = plain (λ κs. unit) }

  abbrev ended : Ended
  ended = record { signature = signature; kept = (yes, tt) }

  abbrev clauses : Clauses 𝓤 ended
  clauses = λ κs a. record {
    ghost = R.Denot;
    requires = λ before. sem 𝓛 (lies_at R full_share a.0 before);
    ensures = λ before r e. sem 𝓛 (fex ((after : R.Denot) × Did before after) (λ z. lies_at R full_share a.0 z.0));
  }

  abbrev call_signature : Signature
  call_signature = record { lifetimes = 0; outlives = []; params = plain (λ κs. R) ∷ []; result = plain (λ κs. R) }

  abbrev call_ended : Ended
  call_ended = record { signature = call_signature; kept = (yes, tt) }

  abbrev call_clauses : Clauses 𝓤 call_ended
  call_clauses = λ κs a. record { ghost = Unit {0}; requires = λ i. emp 𝓤; ensures = λ i r e. fact 𝓤 (Did a.0 r) }

  abbrev stayed : Stays signature.params ended.kept
  stayed = (stay_dropped _ yes, tt)

  pub replaces : (callee name : Callee) → Meets 𝓛 call_signature (𝓡.run (𝓡.env callee)) (closing 𝓛 call_ended call_clauses)
      → Closed 𝓤 𝓛.H (tables 𝓤 𝓛.H 𝓜 𝓡 𝓡.env).C (tables 𝓤 𝓛.H 𝓜 𝓡 𝓡.env).Λ name (replacing (lone R.mir) callee)
      → Meets 𝓛 signature (𝓡.run (𝓡.env name)) (closing 𝓛 ended clauses)
  replaces callee name met code =
      let W = walk_of 𝓛 ended stayed clauses in let 𝓣 = tables 𝓤 𝓛.H 𝓜 𝓡 𝓡.env in let function = replacing (lone R.mir) callee in
      proved 𝓛 ended stayed clauses 𝓜 𝓡 (Goes-dropped 𝓛 0 (plain (λ _. RawPtr)) yes (λ κs x w. refl), tt) name function code
      (λ κs. (rawptr_vals, tt)) (λ κs. (rawptr_Tells, tt)) (λ κs qs bounds a before are.
      let s : Ptr → W.Ghost = λ p. ((κs, qs, bounds, (p, tt), (rawptr_vals p, tt)), before) in
      qed 𝓛 (raw (on_entry 𝓛 signature κs qs a (s a.0).0.4) ∷ ‵ (lies_at R full_share a.0 before) ∷ []) ∵ drop ! $
      in_a_block ! a.0 (λ p. lies_at R full_share p before) (id⊢ 𝓤 _) (λ b o e.
      regoal ! (λ p. prop (WpFn 𝓤 𝓛.H 𝓣.C 𝓣.Λ function (rawptr_vals p ++ []) (W.post (s p)))) e refl $
      use1 𝓛 (some (λ (v : Val). ‵ (fat full_share (lone R.mir) b o v) ⊛ ‵ (R.own_val before (v ∷ [])))) (part_out 𝓛 R one full_share before b o) $
      pick ! (λ v. split ! $ move ! (1 ∷ []) $ peeks ! R (Is R) (shows 𝓛 R) before (v ∷ []) (λ is. let typed = held.typed before v is in
      -- [the value; its cell]
      enter ! _ _ _ _ _ $ alloc_all ! (λ l. pass_all ! refl ((tt, tt), tt) $
      sets ! (of_opd ! (get ! refl)) refl (tt, tt) $ sets ! (of_opd ! (get ! refl)) refl (tt, tt) $
      sets ! (of_opd ! (load ! (through ! refl (stop !)) (look ! 1 refl))) refl typed $ forget ! 1 refl $
      let G = triple_of 𝓛 call_signature (closing 𝓛 call_ended call_clauses) in
      let y : G.Ghost = ((tt, tt, tt, (before, tt), (v ∷ [], tt)), tt) in
      nothing ! $ move ! (1 ∷ 0 ∷ []) $ join ! $ nothing ! $ join ! $ nothing ! $ move ! (1 ∷ 0 ∷ []) $ use2 𝓛 (raw (G.pre y)) (id⊢ 𝓤 _) $
      calls_at ! (framed 𝓤 𝓛.H 𝓜 𝓣) G met y (and_then ! (get ! refl) (no_more !)) (λ u.
      use1 𝓛 (later (some (λ (r : R.Denot). (‵ ftrue ⊛ ‵ (R.own_val r (u ∷ []))) ⊛
      some (λ (ws : Lasts call_ended tt (before, tt)). ‵ (lasts call_ended y.0.0 y.0.3 ws) ⊛ raw (fact 𝓤 (Did before r)))))) (id⊢ 𝓤 _) $
      await ! tt $ pick ! (λ r. split ! $ split ! $ drop ! $
      peeks ! R (Is R) (shows 𝓛 R) r (u ∷ []) (λ is_left. lands_as ! refl refl (held.typed r u is_left) $
      -- [what is left of it; what the call left; the room; the locals]
      move ! (1 ∷ []) $ pick ! (λ ws. split ! $ drop ! $ heard ! _ (λ did.
      assigns ! (of_opd ! (get ! refl)) (through ! refl (stop !)) (init ! 1 refl (held.typed r u is_left)) $
      move ! (1 ∷ 0 ∷ []) $ use2 𝓛 (‵ (part_at R full_share r b o)) (part_in 𝓛 R one full_share r b o u) $
      sets ! (of_opd ! (unit_lit !)) refl (tt, tt) $ returns ! (look_at ! 0 refl) $ free_all ! refl $ keep ! (0 ∷ []) $
      fpack ! ((after : R.Denot) × Did before after) (λ z. lies_at R full_share (block_ptr b o) z.0) (r, did) $ feq_i ! _ (vunit ∷ []) _ refl $
      suffices ! _ (ends_at 𝓛 ended stayed clauses (s (block_ptr b o)) vunit tt (tt, tt) (tt, tt)) $
      nothing ! $ nothing ! $ join ! $ nothing ! $ group ! 3 $ done !))))))))))
