-- Exports that pass their arguments on: each lends what lies behind its handle to a call, and takes it back.
use Rattle.rlsf_c_lemmas.proofs.Walking.{ℕ, List, [], ◌∷◌, ◌++◌, sym, subst, proved, full_share, id⊢, flft, flent, vptr, Val, WpFn, fact, tables, ‵, raw, ◌⊛◌, some, later}
use Rattle.rlsf_c_lemmas.proofs.Walking.{prop, ◌$◌, ◌∵◌, !, qed, done, move, keep, drop, use1, use2, use3, split, join, fsplit, pick, await, suffices, group, lft_end, Body, refl}
use Rattle.rlsf_c_lemmas.proofs.Walking.{yes, Is, shows, mem, ref_back, part_at, Ptr, RawPtr, block_ptr, lies_at, rawptr_vals, rawptr_Tells, plain, nothing, heard}
use Rattle.rlsf_c_lemmas.proofs.Walking.{peeks, lasts, on_entry, triple_of, walk_of, Stays, stay_dropped, Goes-dropped, ends_at, framed}
use Rattle.rlsf_c_lemmas.proofs.Lending.{in_its_block, lends}
use Rattle.rlsf_c_lemmas.proofs.Contracts.{Contracts, Returned, signature, ended, clauses, call_signature, call_ended, call_clauses}
use Rattle.rlsf_c_lemmas.proofs.Parameters.{Parameters, none, numbers, mutable, shared}
use Rattle.rlsf_c_lemmas.proofs.Passing.{PassesOn, passing, passing_shared, passing_mutable, passes0, passes1, passes2, passes3, passes_shared2}
use Rattle.rlsf_c_lemmas.proofs.Passing.{passes_mutable1, passes_mutable2}
use Prim.Native.Nat.{suc}
use base.Logic.{SProp, ent, sep, ex, via, ex_i}
use lib.Dec.{T}
use mir.Syntax.{Callee, Fn}
use mir.Val.{has_ty, WT}
use seplogic.Ra.Ura.{Ura}
use sound.WpLaws.{FmC}
use types.Kit.{Item, mean, updating, now, by}
use types.Logic.{Logic, sem}
use prog.Model.{Model}
use prog.Wp.{Closed, Calls, Loops}
use contract.Lifetimes.{Lfts, Shares, AllOutlive, toks}
use contract.Running.{Running}
use denote.Laws.{valss}
use denote.Memory.{lone, pointee}
use denote.RattleType.{RattleType, owns}
use denote.Signature.{types_at}
use denote.Triple.Clauses.{closing}
use denote.Triple.End.{Fins, outs}
use denote.Triple.Entry.{Args}
use denote.Triple.Spec.{Meets}
use denote.Triple.Statement.{Contract}
use denote.Triple.Walked.{has_of, fits_of, says}

module _ {M : Type 1} {𝓤 : Ura M} (𝓛 : Logic 𝓤) (𝓜 : Model 𝓤 𝓛.H) (𝓡 : Running 𝓤 𝓛.H 𝓜) {m : ℕ} (Q : Parameters 𝓛 m) (R : RattleType) (result : Returned)
    (P : Contracts 𝓛 R result.row Q.Read Q.Seen) (callee : Callee) where
  abbrev A : RattleType
  A = result.row

  abbrev C : Calls 𝓤 𝓛.H
  C = (tables 𝓤 𝓛.H 𝓜 𝓡 𝓡.env).C

  abbrev Λ : Loops 𝓤 𝓛.H
  Λ = (tables 𝓤 𝓛.H 𝓜 𝓡 𝓡.env).Λ

  -- the call meets its contract
  abbrev CallMeets : Type 1
  CallMeets = Meets 𝓛 (call_signature Q R A P) (𝓡.run (𝓡.env callee)) (closing 𝓛 (call_ended Q R A P) (call_clauses Q R A P))

  -- the export, which has this name, meets its contract
  abbrev ExportMeets : Callee → Type 1
  ExportMeets name = Meets 𝓛 (signature Q R A P) (𝓡.run (𝓡.env name)) (closing 𝓛 (ended Q R A P) (clauses Q R A P))

  -- the name is that of the code
  abbrev IsCode : Callee → Fn → Type 2
  IsCode name code = Closed 𝓤 𝓛.H C Λ name code

  abbrev stayed : Stays (signature Q R A P).params (ended Q R A P).kept
  stayed = (stay_dropped _ yes, Q.stays)

  module _ (κs : Lfts m) (qs : Shares m) (bounds : AllOutlive m [] κs) (a : Args (signature Q R A P) κs) (g : P.Ghost) where
    abbrev W : Contract 𝓤
    W = walk_of 𝓛 (ended Q R A P) stayed (clauses Q R A P)

    -- the export is entered with this pointer
    abbrev entry : Ptr → W.Ghost
    entry p = ((κs, qs, bounds, (p, a.1), (rawptr_vals p, valss (types_at Q.slots κs) (Q.spelled κs) a.1)), g)

    abbrev x : Q.Read
    x = Q.read κs a.1

    -- what the export has of its arguments, with the tokens of its lifetimes
    abbrev arguments : Item 𝓤
    arguments = ‵ (owns (types_at Q.slots κs) a.1 (valss (types_at Q.slots κs) (Q.spelled κs) a.1))

    abbrev tokens : Item 𝓤
    tokens = raw (toks 𝓛 m κs qs)

    module _ (b o : ℕ) where
      -- ---- what is lent to the call
      abbrev lifetimes : ℕ → Lfts (suc m)
      lifetimes α = (α ∷ [], κs)

      abbrev G : Contract 𝓤
      G = triple_of 𝓛 (call_signature Q R A P) (closing 𝓛 (call_ended Q R A P) (call_clauses Q R A P))

      abbrev given : ℕ → ℕ → G.Ghost
      given α γ = (
        (
          lifetimes α,
          (full_share, qs),
          tt,
          (record { ref_ptr = (b, o); ghost_name = γ; now = P.value g }, Q.pass κs (α ∷ []) a.1),
          (vptr b o ∷ [], Q.pass_values κs (α ∷ []) a.1),
        ),
        P.inner g,
      )

      abbrev Lent : ℕ → ℕ → SProp 𝓤
      Lent α γ = sem 𝓛 (flent (α ∷ []) (Body (mem R) b o γ))

      -- what there is after the call: what it left, and what the lender kept
      abbrev Left : Val → Item 𝓤
      Left v = some (λ (α : ℕ). some (λ (γ : ℕ). raw (G.post (given α γ) v) ⊛ raw (Lent α γ)))

      left_by : (α γ : ℕ) (v : Val) → ent 𝓤 (sep 𝓤 (G.post (given α γ) v) (Lent α γ)) (mean 𝓛 (Left v))
      left_by α γ v = via 𝓤 _ (ex_i 𝓤 (λ (γ' : ℕ). sep 𝓤 (G.post (given α γ') v) (Lent α γ')) γ)
          (ex_i 𝓤 (λ (α' : ℕ). ex 𝓤 (λ (γ' : ℕ). sep 𝓤 (G.post (given α' γ') v) (Lent α' γ'))) α)

      -- what the call requires, as its contract reads the arguments
      required : (α : ℕ) → ent 𝓤 (P.call_requires (P.value g) x (P.inner g)) (P.call_requires (P.value g) (Q.call_read (lifetimes α) (Q.pass κs (α ∷ []) a.1)) (P.inner g))
      required α = subst (λ (z : Q.Read). ent 𝓤 (P.call_requires (P.value g) x (P.inner g)) (P.call_requires (P.value g) z (P.inner g)))
          (sym (Q.pass_read κs (α ∷ []) a.1)) (id⊢ 𝓤 _)

      called : CallMeets → Q.Fit x
          → ent 𝓤 (sep 𝓤 (sem 𝓛 (part_at R full_share (P.value g) b o)) (sep 𝓤 (P.call_requires (P.value g) x (P.inner g)) (sep 𝓤 (mean 𝓛 arguments) (mean 𝓛 tokens))))
          (𝓛.H.⇛ (C callee (vptr b o ∷ Q.machine x) (λ v. mean 𝓛 (Left v))))
      called met fit = qed 𝓛 (‵ (part_at R full_share (P.value g) b o) ∷ raw (P.call_requires (P.value g) x (P.inner g)) ∷ arguments ∷ tokens ∷ []) ∵ updating ! $
          lends ! tt R (P.value g) b o (λ α γ.
          -- [the loan; what the lender keeps; the token of α; what the call requires; the arguments; the tokens]
          move ! (4 ∷ []) $ use1 𝓛 (‵ (owns (types_at Q.call_slots (lifetimes α)) (Q.pass κs (α ∷ []) a.1) (Q.pass_values κs (α ∷ []) a.1)))
          (Q.pass_owned κs (α ∷ []) a.1 fit) $ move ! (1 ∷ 0 ∷ []) $ join ! $ move ! (2 ∷ 4 ∷ []) $ join ! $ join ! $ move ! (2 ∷ []) $
          use1 𝓛 (raw (P.call_requires (P.value g) (Q.call_read (lifetimes α) (Q.pass κs (α ∷ []) a.1)) (P.inner g))) (required α) $
          move ! (1 ∷ 0 ∷ []) $ use2 𝓛 (raw (C callee (vptr b o ∷ Q.machine x) (G.post (given α γ))))
          (subst (λ (vs : List Val). ent 𝓤 (G.pre (given α γ)) (C callee (vptr b o ∷ vs) (G.post (given α γ)))) (Q.pass_flat κs (α ∷ []) a.1) (met (given α γ))) $
          move ! (1 ∷ []) $ use1 𝓛 (raw (Lent α γ)) (id⊢ 𝓤 _) $ move ! (1 ∷ []) $
          use2 𝓛 (raw (C callee (vptr b o ∷ Q.machine x) (λ v. mean 𝓛 (Left v))))
          (framed 𝓤 𝓛.H 𝓜 (tables 𝓤 𝓛.H 𝓜 𝓡 𝓡.env) callee _ (G.post (given α γ)) (λ v. mean 𝓛 (Left v)) (Lent α γ) (left_by α γ)) $ now ! $ done !)

      -- ---- what comes back
      module _ (α : ℕ) (ws : Fins (lifetimes α) Q.call_slots Q.call_kept (Q.pass κs (α ∷ []) a.1)) where
        -- the arguments at the return, as the export's contract sees them
        abbrev seen : Q.Seen
        seen = Q.seen κs (outs κs Q.slots Q.kept a.1 (Q.back κs (α ∷ []) a.1 ws))

        -- what the call ensures, as its contract reads the arguments
        abbrev Ensured : A.Denot → R.Denot → SProp 𝓤
        Ensured r after = P.call_ensures (P.value g) (Q.call_read (lifetimes α) (Q.pass κs (α ∷ []) a.1))
            (Q.call_seen (lifetimes α) (outs (lifetimes α) Q.call_slots Q.call_kept (Q.pass κs (α ∷ []) a.1) ws)) (P.inner g) r after

        ensured : (r : A.Denot) (after : R.Denot) → ent 𝓤 (Ensured r after) (P.call_ensures (P.value g) x seen (P.inner g) r after)
        ensured r after = subst (λ (z : Q.Read × Q.Seen). ent 𝓤 (Ensured r after) (P.call_ensures (P.value g) z.0 z.1 (P.inner g) r after))
            (λ i. (Q.pass_read κs (α ∷ []) a.1 i, Q.back_seen κs (α ∷ []) a.1 ws i)) (id⊢ 𝓤 _)

      returned : (v : Val) → ent 𝓤 (mean 𝓛 (Left v)) (𝓛.H.⇛ (sep 𝓤 (W.post (entry (block_ptr b o)) v) (fact 𝓤 (T (has_ty (lone A.mir) v) × WT v))))
      returned v =
          qed 𝓛 (Left v ∷ []) ∵ updating ! $ pick ! (λ α. pick ! (λ γ. split ! $
          use1 𝓛 (later (some (λ (r : A.Denot). ((‵ (flft (α ∷ []) full_share) ⊛ tokens) ⊛ ‵ (A.own_val r (v ∷ []))) ⊛
          some (λ (ws : R.Denot × Fins (lifetimes α) Q.call_slots Q.call_kept (Q.pass κs (α ∷ []) a.1)).
          ‵ (lasts (call_ended Q R A P) (lifetimes α) (given α γ).0.3 ws) ⊛ raw (Ensured α ws.1 r ws.0))))) (id⊢ 𝓤 _) $
          await ! tt $ pick ! (λ r. split ! $ split ! $ split ! $ lft_end ! tt $ move ! (2 ∷ []) $ peeks ! A (Is A) (shows 𝓛 A) r (v ∷ []) (λ is.
          -- [the result; α is over; the tokens; what the call left; what the lender keeps]
          move ! (4 ∷ []) $ use1 𝓛 (‵ (flent (α ∷ []) (Body (mem R) b o γ))) (id⊢ 𝓤 _) $ move ! (4 ∷ []) $ pick ! (λ ws. split ! $ fsplit ! $ fsplit ! $
          -- [the last value; its borrow; what the call left of the arguments; what it ensured; what the lender keeps; the result; α is over; the tokens]
          move ! (6 ∷ 4 ∷ 0 ∷ []) $ use3 𝓛 (later (‵ (part_at R full_share ws.0 b o))) (ref_back 𝓛 R (α ∷ []) γ ws.0 b o) $ await ! tt $ now ! $
          move ! (2 ∷ []) $ use1 𝓛 (‵ (has_of κs Q.slots Q.kept Q.stays a.1 (Q.back κs (α ∷ []) a.1 ws.1) (valss (types_at Q.slots κs) (Q.spelled κs) a.1))
          ⊛ raw (fact 𝓤 (fits_of κs Q.slots Q.kept Q.stays a.1 (Q.back κs (α ∷ []) a.1 ws.1)))) (Q.back_had κs (α ∷ []) a.1 ws.1) $ split ! $
          move ! (1 ∷ []) $ heard ! _ (λ fit.
          -- [what the export has of its arguments; the value; its borrow; what the call ensured; the result; the tokens]
          move ! (3 ∷ []) $ use1 𝓛 (raw (P.call_ensures (P.value g) x (seen α ws.1) (P.inner g) r ws.0)) (ensured α ws.1 r ws.0) $
          move ! (2 ∷ 0 ∷ []) $ use2 𝓛 (raw (P.ensures (block_ptr b o) x (seen α ws.1) g r)) (P.closes (block_ptr b o) x (seen α ws.1) g r ws.0) $
          keep ! (4 ∷ 1 ∷ 3 ∷ 0 ∷ []) $ says ! (result.typed r v is) $
          suffices ! _ (ends_at 𝓛 (ended Q R A P) stayed (clauses Q R A P) (entry (block_ptr b o)) v r (tt, Q.back κs (α ∷ []) a.1 ws.1) (tt, fit)) $
          move ! (1 ∷ []) $ nothing ! $ join ! $ move ! (1 ∷ []) $ group ! 3 $ done !))))))

  -- the call meets its contract, and the code passes the arguments on to it: then the export meets its own
  exports : (code : Fn) → PassesOn 𝓛 C Λ callee (lone A.mir) Q code → (name : Callee) → CallMeets → IsCode name code → ExportMeets name
  exports code passes name met is =
      proved 𝓛 (ended Q R A P) stayed (clauses Q R A P) 𝓜 𝓡 (Goes-dropped 𝓛 m (plain (λ _. RawPtr)) yes (λ κs x w. refl), Q.go) name code is
      (λ κs. (rawptr_vals, Q.spelled κs)) (λ κs. (rawptr_Tells, Q.told κs)) (λ κs qs bounds a g are.
      let x' = x κs qs bounds a g in let fit = Q.fits κs a.1 are.1 in let arguments' = arguments κs qs bounds a g in let tokens' = tokens κs qs bounds a g in
      let Runs = λ (vs : List Val) (p : Ptr). WpFn 𝓤 𝓛.H C Λ code (rawptr_vals p ++ vs) ((W κs qs bounds a g).post (entry κs qs bounds a g p)) in
      let Before : SProp 𝓤 = sep 𝓤 (on_entry 𝓛 (signature Q R A P) κs qs a (entry κs qs bounds a g a.0).0.4) (P.requires a.0 x' g) in
      subst (λ (vs : List Val). ent 𝓤 Before (Runs vs a.0)) (sym (Q.flat_is κs a.1)) (
      qed 𝓛 ((tokens' ⊛ (‵ (RawPtr.own_val a.0 (rawptr_vals a.0)) ⊛ arguments')) ∷ raw (P.requires a.0 x' g) ∷ []) ∵ split ! $ move ! (1 ∷ []) $ split ! $ drop ! $
      -- [the arguments; the tokens; what the export requires]
      move ! (2 ∷ []) $ use1 𝓛 (‵ (lies_at R full_share a.0 (P.value g)) ⊛ raw (P.call_requires (P.value g) x' (P.inner g))) (P.opens a.0 x' g) $ split ! $
      in_its_block ! R (P.value g) a.0 (λ p. prop (Runs (Q.machine x') p)) (λ b o.
      by ! (passes b o x' fit _ _ _ (called κs qs bounds a g b o met fit) (returned κs qs bounds a g b o)))
      ))

-- ---- the exports by their arguments
module _ {M : Type 1} {𝓤 : Ura M} (𝓛 : Logic 𝓤) (𝓜 : Model 𝓤 𝓛.H) (𝓡 : Running 𝓤 𝓛.H 𝓜) (R : RattleType) where
  abbrev Exported : {m : ℕ} (Q : Parameters 𝓛 m) (result : Returned) → Contracts 𝓛 R result.row Q.Read Q.Seen → Callee → Callee → Fn → Type 2
  Exported Q result P callee name code = CallMeets 𝓛 𝓜 𝓡 Q R result P callee → IsCode 𝓛 𝓜 𝓡 Q R result P callee name code → ExportMeets 𝓛 𝓜 𝓡 Q R result P callee name

  -- n numbers
  abbrev only : ℕ → Parameters 𝓛 0
  only n = numbers n none

  abbrev is_framed : FmC 𝓤 𝓛.H 𝓛.laws (tables 𝓤 𝓛.H 𝓜 𝓡 𝓡.env).C
  is_framed = framed 𝓤 𝓛.H 𝓜 (tables 𝓤 𝓛.H 𝓜 𝓡 𝓡.env)

  module _ (result : Returned) where
    -- no number
    pub exports0 : (P : Contracts 𝓛 R result.row (only 0).Read (only 0).Seen) (callee name : Callee)
        → Exported (only 0) result P callee name (passing 0 (lone result.row.mir) (lone R.mir) (pointee R.written) callee)
    exports0 P callee name = exports 𝓛 𝓜 𝓡 (only 0) R result P callee _ (passes0 𝓛 _ _ callee _ is_framed _ _) name

    -- one number
    pub exports1 : (P : Contracts 𝓛 R result.row (only 1).Read (only 1).Seen) (callee name : Callee)
        → Exported (only 1) result P callee name (passing 1 (lone result.row.mir) (lone R.mir) (pointee R.written) callee)
    exports1 P callee name = exports 𝓛 𝓜 𝓡 (only 1) R result P callee _ (passes1 𝓛 _ _ callee _ is_framed _ _) name

    -- two numbers
    pub exports2 : (P : Contracts 𝓛 R result.row (only 2).Read (only 2).Seen) (callee name : Callee)
        → Exported (only 2) result P callee name (passing 2 (lone result.row.mir) (lone R.mir) (pointee R.written) callee)
    exports2 P callee name = exports 𝓛 𝓜 𝓡 (only 2) R result P callee _ (passes2 𝓛 _ _ callee _ is_framed _ _) name

    -- three numbers
    pub exports3 : (P : Contracts 𝓛 R result.row (only 3).Read (only 3).Seen) (callee name : Callee)
        → Exported (only 3) result P callee name (passing 3 (lone result.row.mir) (lone R.mir) (pointee R.written) callee)
    exports3 P callee name = exports 𝓛 𝓜 𝓡 (only 3) R result P callee _ (passes3 𝓛 _ _ callee _ is_framed _ _) name

    -- two numbers and a slice that the call reads
    pub exports_shared2 : (E : RattleType) (P : Contracts 𝓛 R result.row (numbers {𝓛 = 𝓛} 2 (shared E)).Read (numbers {𝓛 = 𝓛} 2 (shared E)).Seen) (callee name : Callee)
        → Exported (numbers 2 (shared E)) result P callee name (passing_shared E 2 (lone result.row.mir) (lone R.mir) (pointee R.written) callee)
    exports_shared2 E P callee name = exports 𝓛 𝓜 𝓡 (numbers 2 (shared E)) R result P callee _ (passes_shared2 𝓛 _ _ callee _ is_framed _ _ E) name

    -- one number and a slice that the call may change
    pub exports_mutable1 : (E : RattleType) (P : Contracts 𝓛 R result.row (numbers {𝓛 = 𝓛} 1 (mutable E)).Read (numbers {𝓛 = 𝓛} 1 (mutable E)).Seen) (callee name : Callee)
        → Exported (numbers 1 (mutable E)) result P callee name (passing_mutable E 1 (lone result.row.mir) (lone R.mir) (pointee R.written) callee)
    exports_mutable1 E P callee name = exports 𝓛 𝓜 𝓡 (numbers 1 (mutable E)) R result P callee _ (passes_mutable1 𝓛 _ _ callee _ is_framed _ _ E) name

    -- two numbers and a slice that the call may change
    pub exports_mutable2 : (E : RattleType) (P : Contracts 𝓛 R result.row (numbers {𝓛 = 𝓛} 2 (mutable E)).Read (numbers {𝓛 = 𝓛} 2 (mutable E)).Seen) (callee name : Callee)
        → Exported (numbers 2 (mutable E)) result P callee name (passing_mutable E 2 (lone result.row.mir) (lone R.mir) (pointee R.written) callee)
    exports_mutable2 E P callee name = exports 𝓛 𝓜 𝓡 (numbers 2 (mutable E)) R result P callee _ (passes_mutable2 𝓛 _ _ callee _ is_framed _ _ E) name
