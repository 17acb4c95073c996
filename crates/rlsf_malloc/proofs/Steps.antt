-- The steps that the templates share: a payload is made of its address, and a heap is lent to a call and comes back.
use Rattle.std.proofs.Common.{◌<◌, ◌^◌}
use Rattle.rlsf_malloc_calls.proofs.Walking.{Good, tables, Fn, Ty, Model, Closed, Running, Meets}
use Rattle.rlsf_malloc_calls.proofs.Walking.{◌≡◌, ℕ, List, [], ◌∷◌, refl, sym, subst, w64, MutBor, full_share, id⊢, ftrue, flft, flent, fsep, vptr, fact, ‵, raw, ◌⊛◌}
use Rattle.rlsf_malloc_calls.proofs.Walking.{some, later, ◌$◌, move, drop, use0, use1, use2, use3, split, join, fsplit, fjoin, fpack, pick, await, rewrite}
use Rattle.rlsf_malloc_calls.proofs.Walking.{lft_end, Body, yes, ref_back, part_at, mem, uint_vals, uint_Makes, block_ptr, lies_at, plain, nothing, owned, heard, peeks}
use Rattle.rlsf_malloc_calls.proofs.Walking.{lasts, triple_of, usize, Is, shows, fact_i, emp, sep, Val, Ura, Fml, Logic, sem, Callee, seq, call, RattleType, RefMutOf}
use Rattle.rlsf_malloc_calls.proofs.Walking.{Ended, Clauses, Lasts, closing}
use Rattle.rlsf_c_lemmas.proofs.Lending.{lends}
use Rattle.rlsf_malloc_calls.proofs.PassedNumbers.{finished, passes}
use Rattle.rlsf_malloc.proofs.HeapKinds.{Kind, row}
use Rattle.rlsf_malloc.specs.Handle.{HoldsBeside}
use base.Logic.{SProp, ent, via, mono_l}
use contract.BorrowLft.{◌⊑◌, ⊑_refl, ⊑_static}
use contract.Lifetimes.{Lfts, Shares, toks}
use denote.Param.{layout}
use mir.Syntax.{named}
use prog.Memory.{size}
use types.Kit.{◌∵◌, !, qed, done}
use denote.RattleType.{Denots, Valss, flat, owns}
use denote.Signature.{Slot, types_at}
use denote.Triple.Call.{calls_from}
use denote.Triple.End.{Kepts}
use denote.Triple.Statement.{Triple}
use mir.Syntax.{Opd, Place, Body as Code}
use prog.Wp.{Calls, Env, Loops}
use sound.WpLaws.{FmC}
use types.Kit.{Item, Goal, Post, Seq, Step, step, mean, runs, lands}
use types.Run.{Opds}

-- a type Q of payloads: a value of Q that is made of an address owns a d of D
pub record Payloads : Type 2 where
  pub Q : RattleType
  pub D : Type 0
  pub owns : D → Fml
  pub Makes : ℕ → D → Q.Denot → Type 0

-- the signatures of the calls: one that makes a value of the type Q of an address, and one that is lent a heap of the type R and passed more
abbrev pub taken : RattleType → Ended
taken Q = record { signature = record { lifetimes = 0; outlives = []; params = plain (λ κs. usize) ∷ []; result = plain (λ κs. Q) }; kept = (yes, tt) }

abbrev pub called : (K : Kind) (more : List (Slot 5)) → Kepts more → RattleType → Ended
called K more keeps Z = record {
  signature = record {
    lifetimes = 5;
    outlives = record { long = 1; long_ok = tt; short = named 0; short_ok = tt } ∷ record { long = 2; long_ok = tt; short = named 0; short_ok = tt } ∷ [];
    params = RefMutOf (0 ∷ []) tt (plain (λ κs. row K)) (λ κs. tt) ∷ more;
    result = plain (λ κs. Z);
  };
  kept = (yes, keeps);
}

-- their contracts: what a payload owns is given up, and comes back, and what is asked and done of a heap is a fact
module _ {M : Type 1} {𝓤 : Ura M} (𝓛 : Logic 𝓤) where
  abbrev pub takes : (Q : RattleType) {D : Type 0} → (D → Fml) → (ℕ → D → Q.Denot → Type 0) → Clauses 𝓤 (taken Q)
  takes Q {D} owns Makes κs a = record { ghost = D; requires = λ d. sem 𝓛 (owns d); ensures = λ d r end. fact 𝓤 (Makes a.0 d r) }

  -- what a call on a value of the type R requires of its type parameters, beside P, where these last for the lifetimes κs
  abbrev pub at_row : RattleType → Kind → Lfts 4 → Type 0 → SProp 𝓤
  at_row R K κs P = sep 𝓤 (fact 𝓤 (κs.0 ⊑ K.B.lives)) (sep 𝓤 (fact 𝓤 (κs.1.0 ⊑ K.B.lives)) (sep 𝓤 (fact 𝓤 (κs.1.1.0 ⊑ [])) (sep 𝓤 (fact 𝓤 (κs.1.1.1.0 ⊑ []))
      (sep 𝓤 (fact 𝓤 (size (layout R) < 2 ^ 63)) (fact 𝓤 P)))))

  abbrev pub at_kind : Kind → Lfts 4 → Type 0 → SProp 𝓤
  at_kind K = at_row (row K) K

  abbrev pub changes : (K : Kind) (more : List (Slot 5)) (keeps : Kepts more) (Z : RattleType)
      → ((κs : Lfts 5) → (row K).Denot → Denots (types_at more κs) → Type 0)
      → ((κs : Lfts 5) → (row K).Denot → Denots (types_at more κs) → Z.Denot → (row K).Denot → Type 0)
      → Clauses 𝓤 (called K more keeps Z)
  changes K more keeps Z Asks Did κs a = record {
    ghost = Unit {0};
    requires = λ g. at_kind K κs.1 (Asks κs a.0.now a.1);
    ensures = λ g r end. fact 𝓤 (Did κs a.0.now a.1 r end.0.now);
  }

  -- type parameters last for ever, and so do the tokens of their lifetimes
  abbrev pub lasting : Lfts 4
  lasting = ([], ([], ([], ([], tt))))

  abbrev pub all_shares : Shares 4
  all_shares = (full_share, (full_share, (full_share, (full_share, tt))))

  pub tokens : ent 𝓤 (emp 𝓤) (toks 𝓛 4 lasting all_shares)
  tokens = qed 𝓛 [] ∵ nothing ! $ use0 𝓛 (‵ (flft [] full_share)) (𝓛.lfts.lft-nil full_share) $ join ! $
      use0 𝓛 (‵ (flft [] full_share)) (𝓛.lfts.lft-nil full_share) $ join ! $ use0 𝓛 (‵ (flft [] full_share)) (𝓛.lfts.lft-nil full_share) $ join ! $
      use0 𝓛 (‵ (flft [] full_share)) (𝓛.lfts.lft-nil full_share) $ join ! $ done !

  pub row_lasts : (R : RattleType) (K : Kind) → size (layout R) < 2 ^ 63 → (P : Type 0) → P → ent 𝓤 (emp 𝓤) (at_row R K lasting P)
  row_lasts R K small P p = qed 𝓛 [] ∵ use0 𝓛 (raw (fact 𝓤 P)) (fact_i 𝓤 P (emp 𝓤) p) $
      use0 𝓛 (raw (fact 𝓤 (size (layout R) < 2 ^ 63))) (fact_i 𝓤 _ (emp 𝓤) small) $ join ! $
      use0 𝓛 (raw (fact 𝓤 ([] ⊑ []))) (fact_i 𝓤 _ (emp 𝓤) (⊑_refl [])) $ join ! $ use0 𝓛 (raw (fact 𝓤 ([] ⊑ []))) (fact_i 𝓤 _ (emp 𝓤) (⊑_refl [])) $ join ! $
      use0 𝓛 (raw (fact 𝓤 ([] ⊑ K.B.lives))) (fact_i 𝓤 _ (emp 𝓤) K.lasting) $ join ! $ use0 𝓛 (raw (fact 𝓤 ([] ⊑ K.B.lives))) (fact_i 𝓤 _ (emp 𝓤) K.lasting) $ join ! $
      done !

  pub kind_lasts : (K : Kind) (P : Type 0) → P → ent 𝓤 (emp 𝓤) (at_kind K lasting P)
  kind_lasts K = row_lasts (row K) K K.small

-- An export meets its contract where its calls meet theirs: it makes a payload of an address, lends the heap, and makes a number of the result.
abbrev pub Trades : (M : Type 1) (exported lent : Ended) → ((𝓤 : Ura M) (𝓛 : Logic 𝓤) → Clauses 𝓤 exported) → ((𝓤 : Ura M) (𝓛 : Logic 𝓤) → Clauses 𝓤 lent)
    → (P : Payloads) (Z : RattleType) → (Z.Denot → ℕ) → (Z.Denot → Fml) → (Ty → Ty → Ty → Ty → Callee → Callee → Callee → Fn) → Type 2
Trades M exported lent outer inner P Z num gives function =
    (𝓤 : Ura M) (𝓛 : Logic 𝓤) (𝓜 : Model 𝓤 𝓛.H) (𝓡 : Running 𝓤 𝓛.H 𝓜) (σ τ θ ζ : Ty) (key source callee finish : Callee)
    → ((r : P.Q.Denot) (v : Val) → Is P.Q r (v ∷ []) → Good θ v)
    → ((r : Z.Denot) (v : Val) → Is Z r (v ∷ []) → Good ζ v)
    → Closed 𝓤 𝓛.H (tables 𝓤 𝓛.H 𝓜 𝓡 𝓡.env).C (tables 𝓤 𝓛.H 𝓜 𝓡 𝓡.env).Λ key (function σ τ θ ζ source callee finish)
    → Meets 𝓛 (taken P.Q).signature (𝓡.run (𝓡.env source)) (closing 𝓛 (taken P.Q) (takes 𝓛 P.Q P.owns P.Makes))
    → Meets 𝓛 lent.signature (𝓡.run (𝓡.env callee)) (closing 𝓛 lent (inner 𝓤 𝓛))
    → Meets 𝓛 (finished Z).signature (𝓡.run (𝓡.env finish)) (closing 𝓛 (finished Z) (passes 𝓛 Z num gives))
    → Meets 𝓛 exported.signature (𝓡.run (𝓡.env key)) (closing 𝓛 exported (outer 𝓤 𝓛))

module _ {M : Type 1} {𝓤 : Ura M} {𝓛 : Logic 𝓤} {X : Type 0} {Γ : List (Item 𝓤)} {E : Env 𝓤 𝓛.H} {C : Calls 𝓤 𝓛.H} {Λ : Loops 𝓤 𝓛.H} {f : Callee} {xs : List Opd}
    {place : Place} {rest : Code} {end : Post 𝓤 𝓛.H} where
  -- a payload that owns d is made of its address
  pub takes_payload : X → FmC 𝓤 𝓛.H 𝓛.laws C → (Q : RattleType) {D : Type 0} (owns : D → Fml) (Makes : ℕ → D → Q.Denot → Type 0)
      → Triple 𝓤 (C f) (triple_of 𝓛 (taken Q).signature (closing 𝓛 (taken Q) (takes 𝓛 Q owns Makes)))
      → (d : D) (x : ℕ) → x < 2 ^ 64 → ((i : Item 𝓤) → Opds X 𝓛 (i ∷ Γ) E xs (uint_vals w64 x))
      → ((u : Val) (q : Q.Denot) → Is Q q (u ∷ []) → Makes x d q → Seq X 𝓛 (‵ (Q.own_val q (u ∷ [])) ∷ Γ) (lands C Λ E place u rest end))
      → Seq X 𝓛 (‵ (owns d) ∷ Γ) (runs C Λ E (seq (call f xs place) rest) end)
  takes_payload t fm Q {D} owns Makes met d x fits operands next =
      let T = triple_of 𝓛 (taken Q).signature (closing 𝓛 (taken Q) (takes 𝓛 Q owns Makes)) in let y : T.Ghost = ((tt, tt, tt, (x, tt), (uint_vals w64 x, tt)), d) in
      nothing t $ owned t usize _ (uint_Makes 𝓛 w64) x _ (refl, fits) $ join t $ nothing t $ join t $ use2 𝓛 (raw (T.pre y)) (id⊢ 𝓤 _) $
      calls_from t fm (raw (T.pre y)) (T.args y) (T.post y) (met y) (operands (raw (T.pre y))) (λ u.
      use1 𝓛 (later (some (λ (q : Q.Denot). (‵ ftrue ⊛ ‵ (Q.own_val q (u ∷ []))) ⊛
      some (λ (ws : Lasts (taken Q) tt (x, tt)). ‵ (lasts (taken Q) tt (x, tt) ws) ⊛ raw (fact 𝓤 (Makes x d q)))))) (id⊢ 𝓤 _) $
      await t tt $ pick t (λ q. split t $ split t $ drop t $ peeks t Q (Is Q) (shows 𝓛 Q) q (u ∷ []) (λ is.
      move t (1 ∷ []) $ pick t (λ ws. split t $ drop t $ heard t (Makes x d q) (λ made. next u q is made)))))

  -- the heap at (b, o) is lent to a call, which is passed more, and comes back
  pub lends_heap : X → FmC 𝓤 𝓛.H 𝓛.laws C → (K : Kind) (more : List (Slot 5)) (keeps : Kepts more) (Z : RattleType)
      (Asks : (κs : Lfts 5) → (row K).Denot → Denots (types_at more κs) → Type 0)
      (Did : (κs : Lfts 5) → (row K).Denot → Denots (types_at more κs) → Z.Denot → (row K).Denot → Type 0)
      → Triple 𝓤 (C f) (triple_of 𝓛 (called K more keeps Z).signature (closing 𝓛 (called K more keeps Z) (changes 𝓛 K more keeps Z Asks Did)))
      → (b o : ℕ) (before : (row K).Denot) {i : Item 𝓤} (args : (κs : Lfts 5) → Denots (types_at more κs)) (vss : (κs : Lfts 5) → Valss (types_at more κs)) (vs : List Val)
      → ((κs : Lfts 5) → flat (types_at more κs) (vss κs) ≡ vs)
      → ((κs : Lfts 5) → ent 𝓤 (mean 𝓛 i) (sem 𝓛 (owns (types_at more κs) (args κs) (vss κs))))
      → ((κs : Lfts 5) → Asks κs before (args κs)) → ((j : Item 𝓤) → Opds X 𝓛 (j ∷ Γ) E xs (vptr b o ∷ vs))
      → ((v : Val) (κs : Lfts 5) (r : Z.Denot) (w : (row K).Denot) → Is Z r (v ∷ []) → Did κs before (args κs) r w
      → Seq X 𝓛 (‵ (part_at (row K) full_share w b o) ∷ ‵ (Z.own_val r (v ∷ [])) ∷ Γ) (lands C Λ E place v rest end))
      → Seq X 𝓛 (‵ (part_at (row K) full_share before b o) ∷ i ∷ Γ) (runs C Λ E (seq (call f xs place) rest) end)
  lends_heap t fm K more keeps Z Asks Did met b o before {i} args vss vs is_flat has asks operands next =
      let R = row K in
      lends t tt R before b o (λ α γ.
      -- [the loan; what the lender keeps; the token; the other arguments]
      let G = triple_of 𝓛 (called K more keeps Z).signature (closing 𝓛 (called K more keeps Z) (changes 𝓛 K more keeps Z Asks Did)) in
      let κs : Lfts 5 = (α ∷ [], lasting 𝓛) in let loan : MutBor R.Denot = record { ref_ptr = (b, o); ghost_name = γ; now = before } in
      let y : G.Ghost = ((κs, (full_share, all_shares 𝓛), (⊑_static (α ∷ []), (⊑_static (α ∷ []), tt)), (loan, args κs), (vptr b o ∷ [], vss κs)), tt) in
      let lender = sem 𝓛 (flent (α ∷ []) (Body (mem R) b o γ)) in
      move t (3 ∷ []) $ use1 𝓛 (‵ (owns (types_at more κs) (args κs) (vss κs))) (has κs) $ move t (1 ∷ 0 ∷ []) $ join t $
      use0 𝓛 (raw (toks 𝓛 4 (lasting 𝓛) (all_shares 𝓛))) (tokens 𝓛) $ move t (3 ∷ 0 ∷ []) $ join t $ join t $
      use0 𝓛 (raw (at_kind 𝓛 K (lasting 𝓛) (Asks κs before (args κs)))) (kind_lasts 𝓛 K (Asks κs before (args κs)) (asks κs)) $
      move t (1 ∷ 0 ∷ []) $ use2 𝓛 (raw (G.pre y)) (id⊢ 𝓤 _) $ join t $
      calls_from t fm _ (vptr b o ∷ vs) (λ v. sep 𝓤 (G.post y v) lender)
      (via 𝓤 (sep 𝓤 (C f (vptr b o ∷ vs) (G.post y)) lender)
      (mono_l 𝓤 lender (subst (λ (us : List Val). ent 𝓤 (G.pre y) (C f (vptr b o ∷ us) (G.post y))) (is_flat κs) (met y)))
      (fm f (vptr b o ∷ vs) (G.post y) (λ v. sep 𝓤 (G.post y v) lender) lender (λ v. id⊢ 𝓤 _))) (operands _) (λ v.
      use1 𝓛 (later (some (λ (r : Z.Denot). ((‵ (flft (α ∷ []) full_share) ⊛ raw (toks 𝓛 4 (lasting 𝓛) (all_shares 𝓛))) ⊛ ‵ (Z.own_val r (v ∷ []))) ⊛
      some (λ (ws : Lasts (called K more keeps Z) κs (loan, args κs)). ‵ (lasts (called K more keeps Z) κs (loan, args κs) ws) ⊛
      raw (fact 𝓤 (Did κs before (args κs) r ws.0))))) ⊛ ‵ (flent (α ∷ []) (Body (mem R) b o γ))) (id⊢ 𝓤 _) $ split t $
      await t tt $ pick t (λ r. split t $ split t $ split t $ lft_end t tt $ move t (2 ∷ []) $ peeks t Z (Is Z) (shows 𝓛 Z) r (v ∷ []) (λ is.
      -- [what was returned; α is over; the other tokens; what the call left; what the lender keeps]
      move t (3 ∷ []) $ pick t (λ ws. split t $ move t (1 ∷ []) $ heard t (Did κs before (args κs) r ws.0) (λ did. fsplit t $ fsplit t $
      -- [the last value; its borrow; the rest; what was returned; α is over; the other tokens; what the lender keeps]
      move t (4 ∷ 6 ∷ 0 ∷ []) $ use3 𝓛 (later (‵ (part_at R full_share ws.0 b o))) (ref_back 𝓛 R (α ∷ []) γ ws.0 b o) $ await t tt $
      -- [the heap; its borrow; the rest; what was returned; the other tokens]
      move t (1 ∷ []) $ drop t $ move t (1 ∷ []) $ drop t $ move t (2 ∷ []) $ drop t $ next v κs r ws.0 is did))))))

module _ {M : Type 1} {𝓤 : Ura M} {𝓛 : Logic 𝓤} {K : Type 0} {Γ : List (Item 𝓤)} {G : Goal 𝓤 𝓛.H} where
  -- the heap lies at its handle, and the caller owns what it gets
  pub gives_out : K → (R : RattleType) (w : R.Denot) (b o : ℕ) {F : Fml} (Y : Type 0) (Outer : ℕ → R.Denot → Y → Type 0) (Own : ℕ → R.Denot → Y → Fml) (m n : ℕ)
      → m ≡ n → (y : Y) × Outer n w y × (F ≡ Own n w y)
      → Step K 𝓛 (‵ (HoldsBeside R (block_ptr b o) Y (Outer m) (Own m)) ∷ Γ) G (‵ F ∷ ‵ (part_at R full_share w b o) ∷ Γ) G
  gives_out t R w b o Y Outer Own m n at packed = step (λ s.
      rewrite t 0 (λ (F : Fml). ‵ F) packed.2 refl $ rewrite t 0 (λ (i : ℕ). ‵ (Own i w packed.0)) {x = m} {y = n} (sym at) refl $ move t (1 ∷ 0 ∷ []) $ fjoin t $
      fpack t ((w : R.Denot) × (y : Y) × Outer m w y) (λ z. fsep (lies_at R full_share (block_ptr b o) z.0) (Own m z.0 z.1))
      (w, packed.0, subst (λ (i : ℕ). Outer i w packed.0) (sym at) packed.1) $ s)
