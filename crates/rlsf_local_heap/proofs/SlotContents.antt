-- What a `Slot` holds is one machine value, and is reached through a `&` with the thread's token. Assumes `Logic`.
use Rattle.std.proofs.Common.{◌≡◌, ℕ, List, [], ◌∷◌, IfSome, None, Some, T as Holds, refl, subst}
use seplogic.Ra.Ura.{Ura}
use mir.Syntax.{Ty, Fn, Callee}
use mir.Val.{Val}
use base.Fraction.{full_share}
use base.Logic.{sep, wand, apply∗, ent, via, fst∗, snd∗}
use base.Fml.{Lft, Share, Fml, Incl-refl, ftrue, fsep, fex, fat, flft, ftok}
use base.Mask.{every, less}
use types.Logic.{Logic, sem}
use types.Kit.{Item, Goal, Seq, Step, Soaks, step, ‵, raw, ◌⊛◌, later, ◌$◌, move, drop, use1, use2, use3, split, join, fsplit, fjoin, fpick, fpack, rewrite, await}
use types.Na.{na_acc_in}
use denote.Exit.{Last, left, no}
use denote.RattleType.{RattleType, owns}
use denote.Laws.{Lawful, Ises, Are, owns_show, showss}
use denote.Memory.{cell_at, hidden_shr, lone}
use denote.Opens.{unhide}
use denote.Param.{layout, param}
use denote.Param.Mute.{blank}
use denote.Param.Laws.{Laws, param_laws}
use denote.Steps.{nothing}
use denote.Struct.Members.{Member}
use Rattle.core.proofs.option.Option.TheLaws.{the_row_laws as option_laws}
use Rattle.core.proofs.cell.Inside.{Good, round, wraps, unwraps}
use Rattle.rlsf_local_heap.specs.Constants.{Constants}
use Rattle.rlsf_local_heap.specs.declared.slot.Identified.{Ghosts}
use Rattle.rlsf_local_heap.specs.Ownership.{fields_with}
use prog.Wp.{Calls, Loops, WpFn, Tables}
use prog.Model.{Model}
use prog.Routine.{over as over_env, ◌≼⁺◌}
use contract.Monad.{fact_use}
use contract.Running.{Running, tables_of, bare_tables}
use contract.Beside.{Carries}
use contract.Named.{bare_unfolds}
use sound.WpLaws.{WpFn-mono}
use denote.Signature.{Signature, types_at}
use denote.Triple.Clauses.{Ended, Clauses, closing}
use denote.Triple.Entry.{on_entry, alive}
use denote.Triple.Spec.{Meets, triple_of}
use denote.Triple.Table.{entered}
use denote.Triple.Handed.{holding, hands}
use denote.Triple.Walked.{Stays, AllGo, walk_of, walk_Meets}
use Rattle.core.specs.contracts.option.Option as option
use Rattle.rlsf_local_heap.specs.contracts.slot.Slot as slot
use Rattle.rlsf_local_heap.specs.contracts.slot.Slot.TheInside as inside

module _ (T : RattleType) where
  abbrev pub Value : RattleType
  Value = param 0 T

  abbrev pub Held : RattleType
  Held = option.the_row Value

  abbrev held : Member
  held = record { row = Held; ty = layout Held }

  pub held_Lawful : {M : Type 1} {𝓤 : Ura M} (𝓛 : Logic 𝓤) → Laws T → Lawful 𝓛 Held
  held_Lawful 𝓛 L = (option_laws Value (param_laws 0 T L)).lawful 𝓛

  -- a value that is taken leaves nothing behind
  pub quiet : (x : Held.Denot) (f : Last (Held.exit no) x) → Holds (blank (left (Held.exit no) x f))
  quiet None f = tt
  quiet (Some h) f = tt

  pub ends : (x : Held.Denot) → Last (Held.exit no) x
  ends None = tt
  ends (Some h) = (tt, tt)

module _ (T : RattleType) (g : Ghosts T.Denot) where
  abbrev pub Fields : RattleType
  Fields = inside.the_row (Value T) g

  abbrev pub slot_type : Ty
  slot_type = lone Fields.mir

  abbrev pub Over : Constants → (Held T).Denot → Type 0
  Over r x = IfSome x (λ h. g.constants h ≡ r)

  abbrev over : Constants → Fields.Denot → Fml
  over r i = fex (Over r i.value) (λ _. ftrue)

  abbrev pub contents : Constants → List Val → Fml
  contents r vs = fex Fields.Denot (λ i. fsep (Fields.own_val i vs) (over r i))

  abbrev pub Shut : {M : Type 1} {𝓤 : Ura M} (𝓛 : Logic 𝓤) → Constants → ℕ → ℕ → Lft → Share → Item 𝓤
  Shut {𝓤 = 𝓤} 𝓛 r b o κ q =
      ‵ (ftok (less every (b, o))) ⊛ raw
      (wand 𝓤 (sep 𝓤 (sem 𝓛 (fields_with Fields (over r) b o)) (𝓛.A.tok (less every (b, o)))) (𝓛.H.⇛ (sep 𝓤 (𝓛.A.lft κ q) (𝓛.A.tok every))))

module _ (T : RattleType) (L : Laws T) (g : Ghosts T.Denot) {M : Type 1} {𝓤 : Ura M} {𝓛 : Logic 𝓤} {K : Type 0} {Γ : List (Item 𝓤)} {G : Goal 𝓤 𝓛.H}
    (r : Constants) where
  open 𝓛 use {H, A}

  pub contents_out : K → (vs : List Val)
      → ((x : (Held T).Denot) (v : Val) → Over T g r x → Good (layout (Held T)) v → vs ≡ round v ∷ [] → Seq K 𝓛 (‵ ((Held T).own_val x (v ∷ [])) ∷ Γ) G)
      → Seq K 𝓛 (‵ (contents T g r vs) ∷ Γ) G
  contents_out t vs k =
      fpick t (λ i. fsplit t $ move t (1 ∷ []) $ fpick t (λ is. drop t $ unwraps (held T) t (held_Lawful T 𝓛 L) [] [] i.value vs (λ v typed e. k i.value v is typed e)))

  pub contents_in : K → (x : (Held T).Denot) (v : Val) → Over T g r x
      → Step K 𝓛 (‵ (contents T g r (round v ∷ [])) ∷ Γ) G (‵ ((Held T).own_val x (v ∷ [])) ∷ Γ) G
  contents_in t x v is = step (λ s.
      let i : (Fields T g).Denot = record { value = x } in
      use1 𝓛 (‵ ((Fields T g).own_val i (round v ∷ []))) (wraps (held T) 𝓛 [] [] x v) $ nothing t $ fpack t (Over T g r x) (λ _. ftrue) is $ move t (1 ∷ 0 ∷ []) $
      fjoin t $
      fpack t (Fields T g).Denot (λ j. fsep ((Fields T g).own_val j (round v ∷ [])) (over T g r j)) i $ s)

module _ (T : RattleType) (L : Laws T) (g : Ghosts T.Denot) {M : Type 1} {𝓤 : Ura M} {𝓛 : Logic 𝓤} {K : Type 0} {Γ : List (Item 𝓤)} {G : Goal 𝓤 𝓛.H}
    (r : Constants) (b o : ℕ) where
  open 𝓛 use {H, A}

  pub opens_slot : K → Soaks G → {κ : Lft} {q : Share}
      → ((x : (Held T).Denot) (v : Val) → Over T g r x → Good (layout (Held T)) v
      → Seq K 𝓛 (‵ (fat full_share (slot_type T g) b o (round v)) ∷ ‵ ((Held T).own_val x (v ∷ [])) ∷ Shut T g 𝓛 r b o κ q ∷ Γ) G)
      → Seq K 𝓛 (‵ (hidden_shr (slot.the_row (Value T) g) κ r b o) ∷ ‵ (flft κ q) ∷ ‵ (ftok every) ∷ Γ) G
  opens_slot t z {κ} {q} k =
      let P : Fml = fields_with (Fields T g) (over T g r) b o in
      unhide t $ use3 𝓛 (later (‵ P ⊛ Shut T g 𝓛 r b o κ q)) (na_acc_in 𝓛 κ ((κ, q) ∷ []) every (b, o) P (Incl-refl κ) refl) $ await t z $ split t $
      fpick t (λ vs. fsplit t $ move t (1 ∷ []) $ contents_out T L g r t vs (λ x v is typed e.
      rewrite t 1 (λ (us : List Val). ‵ (cell_at full_share (Fields T g).mir us b o)) e refl $ move t (1 ∷ []) $
      use1 𝓛 (‵ (fat full_share (slot_type T g) b o (round v))) (𝓛.laws.raw_at full_share (slot_type T g) b o (round v)) $ k x v is typed))

  pub shuts_slot : K → Soaks G → {κ : Lft} {q : Share} (x : (Held T).Denot) (v : Val) → Over T g r x
      → Step K 𝓛 (‵ (flft κ q) ∷ ‵ (ftok every) ∷ Γ) G
      (‵ (fat full_share (slot_type T g) b o (round v)) ∷ ‵ ((Held T).own_val x (v ∷ [])) ∷ Shut T g 𝓛 r b o κ q ∷ Γ) G
  shuts_slot t z {κ} {q} x v is = step (λ s.
      let P : Fml = fields_with (Fields T g) (over T g r) b o in
      use1 𝓛 (‵ (cell_at full_share (Fields T g).mir (round v ∷ []) b o)) (𝓛.laws.at_raw full_share (slot_type T g) b o (round v)) $ move t (1 ∷ []) $
      contents_in T L g r t x v is $ move t (1 ∷ 0 ∷ []) $ fjoin t $
      fpack t (List Val) (λ us. fsep (cell_at full_share (Fields T g).mir us b o) (contents T g r us)) (round v ∷ []) $ move t (1 ∷ []) $ split t $ move t (2 ∷ 0 ∷ []) $
      join t $
      use2 𝓛 (later (‵ (flft κ q) ⊛ ‵ (ftok every))) (apply∗ 𝓤 (sep 𝓤 (sem 𝓛 P) (A.tok (less every (b, o)))) (H.⇛ (sep 𝓤 (A.lft κ q) (A.tok every)))) $
      await t z $ split t $ s)

-- ---- a function that holds the thread's token. Assumes `Logic`

module _ {M : Type 1} {𝓤 : Ura M} (𝓛 : Logic 𝓤) (T : Ended) (hs : Stays T.signature.params T.kept) (c : Clauses 𝓤 T) where
  open 𝓛 use {H, A}

  abbrev S : Signature
  S = T.signature

  abbrev pub with_token : Clauses 𝓤 T
  with_token = holding 𝓤 T (A.tok every) c

  pub proved_with_token : (𝓜 : Model 𝓤 H) (𝓡 : Running 𝓤 H 𝓜) → AllGo 𝓛 S.lifetimes S.params T.kept hs → (k : Callee) (e : Fn)
      → over_env 𝓡.env e ≼⁺ 𝓡.env k
      → ((C : Calls 𝓤 H) (Λ : Loops 𝓤 H) (y : (walk_of 𝓛 T hs with_token).Ghost) → Are (types_at S.params y.0.0) (Ises (types_at S.params y.0.0)) y.0.3 y.0.4
      → ent 𝓤 ((walk_of 𝓛 T hs with_token).pre y) (WpFn 𝓤 H C Λ e ((walk_of 𝓛 T hs with_token).args y) ((walk_of 𝓛 T hs with_token).post y)))
      → Meets 𝓛 S (𝓡.run (𝓡.env k)) (closing 𝓛 T c)
  unfolding tables_of
  proved_with_token 𝓜 𝓡 go k e is walk =
      let 𝓒 : Carries 𝓤 H 𝓜 (A.tok every) = subst (Carries 𝓤 H 𝓜) 𝓛.turn_is 𝓡.carries in
      let 𝓣 : Tables 𝓤 H = tables_of 𝓤 H 𝓒.inner (bare_tables 𝓤 H 𝓒.inner 𝓡.allowed 𝓡.how 𝓡.env) in
      hands 𝓛 T (A.tok every) c 𝓜 𝓒 𝓡 (𝓡.env k)
      (entered 𝓤 H (triple_of 𝓛 S (closing 𝓛 T with_token)) 𝓣.C 𝓣.Λ k e (bare_unfolds 𝓤 H 𝓒.inner 𝓡.allowed 𝓡.how 𝓡.env k e is)
      (walk_Meets 𝓛 T hs go with_token (WpFn 𝓤 H 𝓣.C 𝓣.Λ e) (WpFn-mono 𝓤 H 𝓛.laws 𝓣 e)
      (λ y. let Rs = types_at S.params y.0.0 in let a = y.0.3 in let vss = y.0.4 in
      fact_use 𝓤 (Are Rs (Ises Rs) a vss)
      (via 𝓤 (sem 𝓛 (owns Rs a vss)) (via 𝓤 (on_entry 𝓛 S y.0.0 y.0.1 a vss) (fst∗ 𝓤 (on_entry 𝓛 S y.0.0 y.0.1 a vss) ((with_token y.0.0 a).requires y.1))
      (snd∗ 𝓤 (alive 𝓛 S y.0.0 y.0.1) (sem 𝓛 (owns Rs a vss)))) (owns_show 𝓛 Rs (Ises Rs) (showss 𝓛 Rs) a vss)) (walk 𝓣.C 𝓣.Λ y))))
