-- A call's step leads, except for the bytes of payloads, where the function for the call leads.
use Rattle.std.specs.Option.{option_map_or}
use Rattle.std.proofs.Common.{◌≡◌, ℕ, zero, suc, eqb, not, cond, map, find, List, [], ◌∷◌, Option, Some, None, true≢false, refl, sym, ◌∙◌, ap, subst, inr}
use Rattle.std.proofs.lemmas.Bool.{eq-eqb, eqb-true}
use Rattle.rlsf_base.specs.declared.memory.range.Range.{Range}
use Rattle.rlsf_model_sizes.specs.Sizes.{max_pool_size}
use Rattle.rlsf_model.specs.Allocate.{Places}
use Rattle.rlsf_model.specs.Insert.{Appends, Inserts, aligned_part, appended, cut, extended, with_chunks, grown}
use Rattle.rlsf_model.specs.Join.{ends_at}
use Rattle.rlsf_model.specs.Lists.{IsIn}
use Rattle.rlsf_model.specs.Reallocate.{Plan, Reallocates, ReallocatesBy, plan}
use Rattle.rlsf_model.specs.Release.{Deallocates, released}
use Rattle.rlsf_model.specs.State.{State, Used, Holds, others}
use Rattle.rlsf_model.specs.WellFormed.{IsWellFormed}
use Rattle.rlsf_model.proofs.Allocations.{Allocates-keeps}
use Rattle.rlsf_model.proofs.Changes.{Holds-unique}
use Rattle.rlsf_model.proofs.Coverage.{by_test, find-some, find-none}
use Rattle.rlsf_model.proofs.Names.{with_chunk}
use Rattle.rlsf_tlsf.specs.Steps.Moves.{allocated, appended_to, bare, bare_used, deallocated, given_if, inserted, moved_by, moved_if, reallocated, released_if, used_at}

-- ---- a state without bytes

-- one map after another is a map
pub map-map : {A B C : Type 0} (f : B → C) (g : A → B) (l : List A) → map f (map g l) ≡ map (λ x. f (g x)) l
map-map f g [] = refl
map-map f g (x ∷ xs) = ap (λ l. f (g x) ∷ l) (map-map f g xs)

pub bare-bare : (s : State) → bare (bare s) ≡ bare s
bare-bare s = ap (λ (used : List Used). record { chunks = s.chunks; used = used; free = s.free }) (map-map bare_used bare_used s.used)

map-bare_others : (addr : ℕ) (used : List Used) → others addr (map bare_used used) ≡ map bare_used (others addr used)
map-bare_others addr [] = refl
map-bare_others addr (u ∷ us) = by_test (eqb u.payload addr)
    (λ e. ap (λ b. cond (not b) (bare_used u ∷ others addr (map bare_used us)) (others addr (map bare_used us))) e ∙ map-bare_others addr us
    ∙ sym (ap (λ b. map bare_used (cond (not b) (u ∷ others addr us) (others addr us))) e))
    (λ e. ap (λ b. cond (not b) (bare_used u ∷ others addr (map bare_used us)) (others addr (map bare_used us))) e ∙ ap (λ l. bare_used u ∷ l) (map-bare_others addr us)
    ∙ sym (ap (λ b. map bare_used (cond (not b) (u ∷ others addr us) (others addr us))) e))

bare-released : (s : State) (u : Used) → released (bare s) (bare_used u) ≡ bare (released s u)
bare-released s u = ap (λ (used : List Used). record { chunks = s.chunks; used = used; free = (released s u).free }) (map-bare_others u.payload s.used)

-- ---- the used block at an address

abbrev bare_if : Option Used → Option Used
bare_if None = None
bare_if (Some u) = Some (bare_used u)

find-bare : (addr : ℕ) (used : List Used) → find (λ (u : Used). eqb u.payload addr) (map bare_used used) ≡ bare_if (find (λ (u : Used). eqb u.payload addr) used)
find-bare addr [] = refl
find-bare addr (u ∷ us) = by_test (eqb u.payload addr)
    (λ e. ap (λ b. cond b (Some (bare_used u)) (find (λ (x : Used). eqb x.payload addr) (map bare_used us))) e
    ∙ sym (ap (λ b. bare_if (cond b (Some u) (find (λ (x : Used). eqb x.payload addr) us))) e))
    (λ e. ap (λ b. cond b (Some (bare_used u)) (find (λ (x : Used). eqb x.payload addr) (map bare_used us))) e ∙ find-bare addr us
    ∙ sym (ap (λ b. bare_if (cond b (Some u) (find (λ (x : Used). eqb x.payload addr) us))) e))

module _ {fllen sllen : ℕ} {memory : Range} {s : State} (w : IsWellFormed fllen sllen memory s) where
  -- it is the one that has it
  pub used_at-held : (addr : ℕ) (u : Used) → Holds s addr u → used_at addr s ≡ Some u
  used_at-held addr u held = go (find (λ (x : Used). eqb x.payload addr) s.used) refl
    where
      go : (o : Option Used) → find (λ (x : Used). eqb x.payload addr) s.used ≡ o → o ≡ Some u
      go None e = absurd (true≢false (sym (eq-eqb u.payload addr held.1) ∙ find-none (λ (x : Used). eqb x.payload addr) u s.used e held.0))
      go (Some v) e = let is = find-some (λ (x : Used). eqb x.payload addr) v s.used e in ap Some (Holds-unique w addr v u (is.0, eqb-true v.payload addr is.1) held)

  used_at-bare : (addr : ℕ) (u : Used) → Holds s addr u → used_at addr (bare s) ≡ Some (bare_used u)
  used_at-bare addr u held = find-bare addr s.used ∙ ap bare_if (used_at-held addr u held)

-- ---- inserted ranges

bare-with_chunks : (cs : List Range) (s : State) → with_chunks cs (bare s) ≡ bare (with_chunks cs s)
bare-with_chunks [] s = refl
bare-with_chunks (c ∷ cs) s = bare-with_chunks cs (with_chunk c s)

bare-grown_if : (o : Option Range) (n : ℕ) (s : State) → option_map_or (λ c. grown c n (bare s)) o (bare s) ≡ bare (option_map_or (λ c. grown c n s) o s)
bare-grown_if None n s = refl
bare-grown_if (Some c) n s = refl

bare-extended : (at n : ℕ) (s : State) → extended at n (bare s) ≡ bare (extended at n s)
bare-extended at zero s = refl
bare-extended at (suc n) s = bare-grown_if (find (ends_at at) s.chunks) (suc n) s

bare-appended : (o : Option ℕ) (r : Range) (s : State) → appended o r (bare s) ≡ bare (appended o r s)
bare-appended None r s = bare-extended r.start _ s
bare-appended (Some most) r s = bare-with_chunks (cut (Some most) (aligned_part r)) s

pub inserted-bare : (fllen : ℕ) (s t : State) (r : Range) (reply : Option ℕ) → Inserts fllen s r reply t → inserted fllen r (bare s) ≡ bare t
inserted-bare fllen s t r reply step = bare-with_chunks (cut (max_pool_size fllen) (aligned_part r)) s ∙ ap bare (sym step.after)

pub appended_to-bare : (fllen : ℕ) (s t : State) (r : Range) (reply : ℕ) → Appends fllen s r reply t → appended_to fllen r (bare s) ≡ bare t
appended_to-bare fllen s t r reply step = bare-appended (max_pool_size fllen) r s ∙ ap bare (sym step.after)

-- ---- payloads

pub allocated-bare : (sllen : ℕ) (s t : State) (size align addr : ℕ) → Places sllen s size align addr t → allocated sllen size align (bare s) ≡ bare t
allocated-bare sllen s t size align addr step = ap (given_if sllen size align (bare s)) step.chosen ∙ ap bare (sym step.after)

module _ {fllen sllen : ℕ} {memory : Range} {s : State} (w : IsWellFormed fllen sllen memory s) where
  released-held : (t : State) (u : Used) → IsIn u s.used → Deallocates s u.payload t → released (bare s) (bare_used u) ≡ bare t
  released-held t u i step = bare-released s u ∙ ap (λ x. bare (released s x)) (Holds-unique w u.payload u step.block (i, refl) step.holds) ∙ ap bare (sym step.after)

  pub deallocated-bare : (t : State) (addr : ℕ) → Deallocates s addr t → deallocated addr (bare s) ≡ bare t
  deallocated-bare t addr step =
      ap (released_if (bare s)) (used_at-bare w addr step.block step.holds) ∙ bare-released s step.block ∙ ap bare (sym step.after)

module _ {fllen sllen : ℕ} {memory : Range} {s : State} (w : IsWellFormed fllen sllen memory s) where
  moved_by-bare : (t : State) (u : Used) (size to : ℕ) (o : Option Plan) → IsIn u s.used → ReallocatesBy sllen s u size o (Some to) t
      → moved_by sllen (bare s) (bare_used u) size o ≡ bare t
  moved_by-bare t u size to (Some p) i step =
      ap (λ (used : List Used). record { chunks = s.chunks; used = record { block = p.block; payload = p.payload; align = u.align; bytes = [] } ∷ used; free = p.free })
      (map-bare_others u.payload s.used)
      ∙ ap bare (sym step.after)
  moved_by-bare t u size to None i step =
      let kept = Allocates-keeps w size u.align (Some to) step.meanwhile (w.used u i).power step.allocated in
      let stays : IsIn u step.meanwhile.used = subst (λ (x : State). IsIn u x.used) (sym step.allocated.after) (inr i) in
      ap (λ x. released x (bare_used u)) (allocated-bare sllen s step.meanwhile size u.align to step.allocated) ∙ released-held kept t u stays step.released

  pub reallocated-bare : (t : State) (addr size to : ℕ) → Reallocates sllen s addr size (Some to) t → reallocated sllen addr size (bare s) ≡ bare t
  reallocated-bare t addr size to step =
      ap (moved_if sllen (bare s) size) (used_at-bare w addr step.block step.holds) ∙ moved_by-bare t step.block size to (plan s step.block size) step.holds.0 step.step
