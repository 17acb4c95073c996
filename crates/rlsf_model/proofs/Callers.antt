-- What callers see of the reference model: a map from addresses to payloads.
use Rattle.std.proofs.Common.{◌≡◌, ◌≢◌, ℕ, ◌-◌, ◌≤◌, List, ◌∷◌, eqb, Option, Some, None, find, true≢false, arith, refl, sym, ◌∙◌, ap, subst, inl, inr}
use Rattle.std.proofs.lemmas.Bool.{eq-eqb, eqb-true}
use Rattle.std.proofs.lemmas.Option.{none-some}
use Rattle.std.specs.Option.{option_map}
use Rattle.rlsf_base.specs.declared.memory.range.Range.{Range}
use Rattle.rlsf_model.specs.Allocate.{Places, placed}
use Rattle.rlsf_model.specs.Callers.{Changes, Payload, payload_at, IsSameMap, IsSet}
use Rattle.rlsf_model.specs.Laws.{CallersSeeMap, CallReturns, PayloadIsInBlock}
use Rattle.rlsf_model.specs.Lists.{IsIn}
use Rattle.rlsf_model.specs.Reallocate.{Plan, plan, ReallocatesBy}
use Rattle.rlsf_model.specs.Run.{Event, allocate, deallocate, reallocate, fill, Leads, MayCall, CallNames}
use Rattle.rlsf_model.specs.State.{State, Used, Holds}
use Rattle.rlsf_model.specs.WellFormed.{coverage, IsWellFormed}
use Rattle.rlsf_model.proofs.Changes.{Holds-unique, IsIn-others}
use Rattle.rlsf_model.proofs.Coverage.{covers-inside, coverage-IsIn, find-some, find-none}
use Rattle.rlsf_model.proofs.Determined.{refusal_changes_nothing}
use Rattle.rlsf_model.proofs.Fillings.{filled_holds}
use Rattle.rlsf_model.proofs.Live.{reallocated_is_live, reallocation_keeps_bytes, released_is_not_live}
use Rattle.rlsf_model.proofs.Payloads.{IsUsed-after_start, payload_of-after, block_length-le, block_length-lt}
use Rattle.rlsf_model.proofs.Steps.{steps_keep_well_formed}
use Rattle.rlsf_model.proofs.Tiling.{block_of, tiling_of, used-le}
use Rattle.rlsf_model.proofs.UsedBlocks.{Goes, one_more, stays, step_goes, was}
use Rattle.rlsf_model.proofs.Names.{used_with_bytes, payload_in}

-- a used block whose caller has the address, with that payload
abbrev Has : State → ℕ → Payload → Type 0
Has s addr p = (u : Used) × Holds s addr u × (payload_in u ≡ p)

-- what is at an address is in a used block
pub payload_at-has : (s : State) (addr : ℕ) (p : Payload) → payload_at s addr ≡ Some p → Has s addr p
payload_at-has s addr p = go (find (λ u. eqb u.payload addr) s.used) refl
  where
    go : (o : Option Used) → find (λ u. eqb u.payload addr) s.used ≡ o → option_map payload_in o ≡ Some p → Has s addr p
    go None e told = absurd (none-some p told)
    go (Some u) e told = let is = find-some (λ u. eqb u.payload addr) u s.used e in let same : payload_in u ≡ p = cc in (u, (is.0, eqb-true u.payload addr is.1), same)

module _ {fllen sllen : ℕ} {memory : Range} {s : State} (w : IsWellFormed fllen sllen memory s) where
  -- the payload of a used block is at its address
  pub payload_at-held : (addr : ℕ) (u : Used) → Holds s addr u → payload_at s addr ≡ Some (payload_in u)
  payload_at-held addr u held = go (find (λ u. eqb u.payload addr) s.used) refl
    where
      go : (o : Option Used) → find (λ u. eqb u.payload addr) s.used ≡ o → option_map payload_in o ≡ Some (payload_in u)
      go None e = absurd (true≢false (sym (eq-eqb u.payload addr held.1) ∙ find-none (λ u. eqb u.payload addr) u s.used e held.0))
      go (Some v) e = let is = find-some (λ u. eqb u.payload addr) v s.used e in ap (λ x. Some (payload_in x)) (Holds-unique w addr v u (is.0, eqb-true v.payload addr is.1) held)

-- where no used block has the address, nothing is
pub payload_at-none : (s : State) (addr : ℕ) → ((u : Used) → Holds s addr u → ⊥) → payload_at s addr ≡ None
payload_at-none s addr none = go (payload_at s addr) refl
  where
    go : (o : Option Payload) → payload_at s addr ≡ o → o ≡ None
    go None e = refl
    go (Some p) e = let (u, held, is) = payload_at-has s addr p e in absurd (none u held)

pub payload_is_in_block : PayloadIsInBlock
payload_is_in_block fllen sllen memory s addr p w =
    (λ told. let (u, held, is) = payload_at-has s addr p told in (u, held, sym is), λ (u, held, is). payload_at-held w addr u held ∙ ap Some (sym is))

-- behind the first used block of a well-formed state none has its address
pub first_alone : {fllen sllen : ℕ} {memory : Range} {t : State} → IsWellFormed fllen sllen memory t → (v u : Used) (rest : List Used) → t.used ≡ v ∷ rest
    → IsIn u rest → u.payload ≢ v.payload
first_alone {t = t} whole v u rest is i at =
    let iv = whole.used v (subst (IsIn v) (sym is) (inl refl)) in
    let iu = whole.used u (subst (IsIn u) (sym is) (inr i)) in
    let a = v.payload - 1 in
    let v_start = IsUsed-after_start v iv in
    let u_start = IsUsed-after_start u iu in
    let mine = covers-inside v.block a (omega (arith, v_start)) (omega (arith, v_start, iv.within)) in
    let its = covers-inside u.block a (omega (arith, at, u_start)) (omega (arith, at, u_start, iu.within)) in
    let once = subst (λ used. coverage block_of used a ≤ 1) is (used-le t (tiling_of whole) a) in
    omega (arith, mine, its, once, coverage-IsIn block_of u rest a i)

module _ {fllen sllen : ℕ} {before after : Range} {s t : State} (w : IsWellFormed fllen sllen before s) (w' : IsWellFormed fllen sllen after t) where
  -- what a step names neither in its call nor in its reply is as it was
  pub payload_at-unnamed : (e : Event) → Goes s.used e s.used t.used → (a : ℕ) → (CallNames e a → ⊥) → (CallReturns e a → ⊥) → payload_at t a ≡ payload_at s a
  payload_at-unnamed e goes a other new = go (payload_at s a) refl
    where
      go : (o : Option Payload) → payload_at s a ≡ o → payload_at t a ≡ o
      go (Some p) told =
          let (u, held, is) = payload_at-has s a p told in
          payload_at-held w' a u (stays u (λ names. other (subst (CallNames e) held.1 names)) goes held.0, held.1) ∙ ap Some is
      go None told = payload_at-none t a (λ v held.
          let i = was v (λ names. other (subst (CallNames e) held.1 names)) (λ gives. new (subst (CallReturns e) held.1 gives)) goes held.0 in
          none-some (payload_in v) (sym told ∙ payload_at-held w a v (i, held.1)))

  -- what changes at one address alone
  changed : (e : Event) → Goes s.used e s.used t.used → (addr : ℕ) (now : Option Payload) → payload_at t addr ≡ now → ((a : ℕ) → a ≢ addr → CallNames e a → ⊥)
      → ((a : ℕ) → a ≢ addr → CallReturns e a → ⊥) → IsSet (payload_at s) addr now (payload_at t)
  changed e goes addr now here other new = record { here = here; others = λ a apart. payload_at-unnamed e goes a (other a apart) (new a apart) }

  -- an allocation from a state with the same used blocks
  pub placed_changes : (m : State) → m.used ≡ s.used → (size align addr : ℕ) → Places sllen m size align addr t
      → Changes (payload_at s) (allocate size align (Some addr)) (payload_at t)
  placed_changes m same size align addr step =
      let b = placed step.range size align step.bytes in
      let is : t.used ≡ b ∷ s.used = ap (λ (x : State). x.used) step.after ∙ ap (λ l. b ∷ l) same in
      let held : Holds t addr b = (subst (IsIn b) (sym is) (inl refl), sym step.answer) in
      let after_start = payload_of-after step.range.start align in (
        payload_in b,
        payload_at-none s addr (λ v (i, at). first_alone w' b v s.used is i (at ∙ step.answer)),
        record {
          aligned = refl;
          enough = omega (arith, step.length, step.answer, after_start, block_length-le step.range.start b.payload size);
          few = omega (arith, step.length, step.answer, after_start, block_length-lt step.range.start b.payload size);
        },
        changed (allocate size align (Some addr)) (one_more b (ap Some step.answer) refl is) addr (Some (payload_in b)) (payload_at-held w' addr b held) (λ a apart bad. bad)
            (λ a apart gives. let at : addr ≡ a = cc in apart (sym at)),
      )

-- a payload that moved is not at its old address
module _ (s t : State) (u : Used) (size to : ℕ) (apart : to ≢ u.payload) where
  left_behind : (sllen : ℕ) (o : Option Plan) → ReallocatesBy sllen s u size o (Some to) t → (x : Used) → Holds t u.payload x → ⊥
  left_behind sllen o step x held = grind (arith, IsIn-others, released_is_not_live)

unchanged : {s t : State} → t ≡ s → IsSameMap (payload_at s) (payload_at t)
unchanged same a = ap (λ x. payload_at x a) same

pub callers_see_map : CallersSeeMap
callers_see_map fllen sllen memory s t e w may step = seen e may step
  where
    whole : (e : Event) → MayCall memory s e → Leads fllen sllen s e t → IsWellFormed fllen sllen memory t
    whole e may step = steps_keep_well_formed fllen sllen memory s t e w may step

    seen : (e : Event) → MayCall memory s e → Leads fllen sllen s e t → Changes (payload_at s) e (payload_at t)
    seen (allocate size align None) may step = unchanged (refusal_changes_nothing fllen sllen s t (allocate size align None) step refl)
    seen (allocate size align (Some addr)) may step = placed_changes w (whole (allocate size align (Some addr)) may step) s refl size align addr step
    seen (deallocate addr) (u, held) step = (
      payload_in u,
      payload_at-held w addr u held,
      changed w (whole (deallocate addr) (u, held) step) (deallocate addr) (step_goes fllen sllen s t (deallocate addr) step) addr None
          (payload_at-none t addr (λ v gone. released_is_not_live s t addr v.align step (v, gone, refl))) (λ a apart names. apart (sym names)) (λ a apart bad. bad),
    )
    seen (reallocate addr size None) may step = unchanged (refusal_changes_nothing fllen sllen s t (reallocate addr size None) step refl)
    seen (reallocate addr size (Some to)) (u, held) step =
        let e = reallocate addr size (Some to) in
        let wt = whole e (u, held) step in
        let (v, now, aligned, kept, enough, few) = reallocation_keeps_bytes fllen sllen memory s t addr size to u w held step in
        let (live, new) = reallocated_is_live fllen sllen memory s t addr size to u.align w (u, held, refl) step in
        let long = (wt.used v now.0).bytes in
        record {
          old = payload_in u;
          was = payload_at-held w addr u held;
          now = payload_in v;
          serves = record { aligned = aligned; enough = omega (arith, enough, long); few = omega (arith, few, long) };
          kept = kept;
          new = λ apart. payload_at-none s to (λ x was. apart (new x.align (x, was, refl)));
          here = payload_at-held wt to v now;
          left = λ apart. payload_at-none t addr (λ x (i, at).
              let same = step.holds.1 in
              left_behind s t step.block size to (λ back. apart (back ∙ same)) sllen (plan s step.block size) step.step x (i, at ∙ sym same));
          others = λ a other_a other_to.
              payload_at-unnamed w wt e (step_goes fllen sllen s t e step) a (λ names. other_a (sym names)) (λ gives. let same : to ≡ a = cc in other_to (sym same));
        }
    seen (fill addr bytes) may step =
        let v = used_with_bytes step.block bytes in
        let wt = whole (fill addr bytes) may step in (
          payload_in step.block,
          payload_at-held w addr step.block step.holds,
          step.length,
          changed w wt (fill addr bytes) (step_goes fllen sllen s t (fill addr bytes) step) addr (Some (payload_in v)) (payload_at-held wt addr v (filled_holds step))
              (λ a apart names. apart (sym names)) (λ a apart bad. bad),
        )
    seen e may step = λ a. payload_at-unnamed w (whole e may step) e (step_goes fllen sllen s t e step) a (λ bad. bad) (λ bad. bad)
