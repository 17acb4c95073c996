-- The live payloads of a run by their names, and which of them a step of the reference model keeps.
use Rattle.std.proofs.Common.{◌≡◌, ◌≢◌, ◌⊎◌, ℕ, nat_eq, cond, Bool, true, false, not, Option, Some, None, List, [], ◌∷◌, inl, inr, refl, sym, ◌∙◌}
use Rattle.std.proofs.Common.{ap, subst}
use Rattle.std.proofs.lemmas.Bool.{cases_eq, ne_eqb}
use Rattle.std.proofs.lemmas.Bool.Decides.{eqb_tells}
use Rattle.std.specs.HashMap.{get}
use Rattle.std.specs.Map.{lookup}
use Rattle.std.specs.Option.{option_map}
use Rattle.rlsf_base.specs.declared.memory.range.Range.{Range}
use Rattle.rlsf_model.specs.Allocate.{Allocates, placed}
use Rattle.rlsf_model.specs.Lists.{IsIn}
use Rattle.rlsf_model.specs.Reallocate.{MovesAway, Reallocates}
use Rattle.rlsf_model.specs.Release.{Deallocates}
use Rattle.rlsf_model.specs.Run.{allocate, deallocate, fill, Fills, reallocate}
use Rattle.rlsf_model.specs.State.{State, Used, Holds, IsLive, others}
use Rattle.rlsf_model.specs.WellFormed.{IsWellFormed}
use Rattle.rlsf_model.proofs.Changes.{IsIn-others_from}
use Rattle.rlsf_model.proofs.FlexCallers.{first_alone}
use Rattle.rlsf_model.proofs.Live.{filled_has_bytes, live_stays, reallocated_is_live}
use Rattle.rlsf_trace_runs.specs.declared.names.Payload.{Payload}
use Rattle.rlsf_trace_runs.specs.Names.{address, AreNamed, NameTable}
use Rattle.rlsf_trace_runs.specs.Runs.{with_name, without_name}

-- the new table has this at a name, and at any other what the old one has
abbrev pub IsSetAt : ℕ → Option Payload → NameTable → NameTable → Type 0
IsSetAt name o table new = (other : ℕ) → get nat_eq new other ≡ cond (nat_eq name other) o (get nat_eq table other)

-- a name is the one that is set, or another
by_name : {A : Type 0} (name other : ℕ) (x y : A) → ((name ≡ other) × (cond (nat_eq name other) x y ≡ x)) ⊎ ((name ≢ other) × (cond (nat_eq name other) x y ≡ y))
by_name name other x y = elim (eqb_tells name other) [
  | inl (is_true, same) ↦ inl (same, ap (λ b. cond b x y) is_true)
  | inr (is_false, differ) ↦ inr (differ, ap (λ b. cond b x y) is_false)
]

-- the payload that is at an address
payload_with : (o : Option Payload) (a : ℕ) → option_map address o ≡ Some a → (p : Payload) × (o ≡ Some p) × (address p ≡ a)
payload_with None a e = absurd (cc)
payload_with (Some p) a e = let is : address p ≡ a = cc in (p, refl, is)

-- what is live stays live over a fill
IsLive-filled : (fllen sllen : ℕ) (memory : Range) (s t : State) (at : ℕ) (bytes : List ℕ) (addr align : ℕ) → IsWellFormed fllen sllen memory s → Fills s at bytes t
    → IsLive s addr align → IsLive t addr align
IsLive-filled fllen sllen memory s t at bytes addr align whole step live = elim (cases_eq at addr) [
  | inl same ↦ subst (λ a. IsLive t a align) same ((filled_has_bytes fllen sllen memory s t at align bytes whole (subst (λ a. IsLive s a align) (sym same) live) step).0)
  | inr other ↦ live_stays fllen sllen s t (fill at bytes) addr align step live other
]

-- an empty table
pub AreNamed-empty : (s : State) {table : NameTable} → table.entries ≡ [] → AreNamed s table (λ name. None)
AreNamed-empty s {table} empty = record {
  names = λ name. ap (option_map address) (none name);
  live = λ name p is. (let bad : None ≡ Some p = sym (none name) ∙ is in absurd (cc));
  one_name = λ name other addr is _. absurd (cc);
}
  where
    none : (name : ℕ) → get nat_eq table name ≡ None
    none name = ap (lookup (nat_eq name)) empty

module _ {s : State} {table : NameTable} {named : ℕ → Option ℕ} (are : AreNamed s table named) where
  -- the payload of a name
  owner : (name addr : ℕ) → named name ≡ Some addr → (p : Payload) × (get nat_eq table name ≡ Some p) × (address p ≡ addr)
  owner name addr is = payload_with (get nat_eq table name) addr (are.names name ∙ is)

  -- the name of a payload of the table
  its_name : (name : ℕ) (p : Payload) → get nat_eq table name ≡ Some p → named name ≡ Some (address p)
  its_name name p is = sym (are.names name) ∙ ap (option_map address) is

  -- a payload of the table has a block of its alignment, which its name owns
  pub owned_live : (name : ℕ) (p : Payload) → get nat_eq table name ≡ Some p
      → (u : Used) × (IsIn u s.used × (named name ≡ Some u.payload)) × Holds s (address p) u × (u.align ≡ p.align)
  owned_live name p is = let (u, (i, at), align) = are.live name p is in (u, (i, its_name name p is ∙ ap Some (sym at)), (i, at), align)

  -- a name that the table doesn't have is free
  pub unnamed : (name : ℕ) → get nat_eq table name ≡ None → named name ≡ None
  unnamed name none = sym (are.names name) ∙ ap (option_map address) none

  -- a table with the same payloads
  pub AreNamed-same : {new : NameTable} → ((name : ℕ) → get nat_eq new name ≡ get nat_eq table name) → AreNamed s new named
  AreNamed-same same = record {
    names = λ name. ap (option_map address) (same name) ∙ are.names name;
    live = λ name p is. are.live name p (sym (same name) ∙ is);
    one_name = are.one_name;
  }

  -- after a step that leaves live what is live
  pub AreNamed-kept : (t : State) → ((addr align : ℕ) → IsLive s addr align → IsLive t addr align) → AreNamed t table named
  AreNamed-kept t keeps = record { names = are.names; live = λ name p is. keeps (address p) p.align (are.live name p is); one_name = are.one_name }

  -- after a fill
  pub AreNamed-filled : (fllen sllen : ℕ) (memory : Range) (t : State) (addr : ℕ) (bytes : List ℕ) → IsWellFormed fllen sllen memory s → Fills s addr bytes t
      → AreNamed t table named
  AreNamed-filled fllen sllen memory t addr bytes whole step = AreNamed-kept t (λ a align. IsLive-filled fllen sllen memory s t addr bytes a align whole step)

  -- where one name has another payload or none, and no other name has its address
  AreNamed-set : (t : State) {new : NameTable} (name : ℕ) (o : Option Payload) → ((p : Payload) → o ≡ Some p → IsLive t (address p) p.align)
      → ((other : ℕ) (q : Payload) → name ≢ other → get nat_eq table other ≡ Some q → IsLive t (address q) q.align)
      → ((other addr : ℕ) → name ≢ other → option_map address o ≡ Some addr → named other ≡ Some addr → ⊥) → IsSetAt name o table new
      → AreNamed t new (λ other. cond (nat_eq name other) (option_map address o) (named other))
  AreNamed-set t {new} name o lives others_live fresh set = record {
    names = λ other. ap (option_map address) (set other) ∙ chosen (nat_eq name other) other;
    live = λ other q is. elim (by_name name other o (get nat_eq table other)) [
      | inl (_, its) ↦ lives q (sym its ∙ sym (set other) ∙ is)
      | inr (differ, its) ↦ others_live other q differ (sym its ∙ sym (set other) ∙ is)
    ];
    one_name = one_name;
  }
    where
      chosen : (b : Bool) (other : ℕ) → option_map address (cond b o (get nat_eq table other)) ≡ cond b (option_map address o) (named other)
      chosen true other = refl
      chosen false other = are.names other

      one_name : (n other addr : ℕ) → cond (nat_eq name n) (option_map address o) (named n) ≡ Some addr
          → cond (nat_eq name other) (option_map address o) (named other) ≡ Some addr → n ≡ other
      one_name n other addr first second = elim (by_name name n (option_map address o) (named n)) [
        | inl (same, its) ↦ elim (by_name name other (option_map address o) (named other)) [
          | inl (same_other, _) ↦ sym same ∙ same_other
          | inr (differ, others) ↦ absurd (fresh other addr differ (sym its ∙ first) (sym others ∙ second))
        ]
        | inr (differ, its) ↦ elim (by_name name other (option_map address o) (named other)) [
          | inl (_, others) ↦ absurd (fresh n addr differ (sym others ∙ second) (sym its ∙ first))
          | inr (_, others) ↦ are.one_name n other addr (sym its ∙ first) (sym others ∙ second)
        ]
      ]

  -- after a deallocation of a name's payload
  pub AreNamed-freed : (t : State) {new : NameTable} (name addr : ℕ) → named name ≡ Some addr → Deallocates s addr t → IsSetAt name None table new
      → AreNamed t new (without_name name named)
  AreNamed-freed t name addr its step taken = AreNamed-set t name None (λ p is. absurd (cc))
      (λ other q differ there. live_stays 0 0 s t (deallocate addr) (address q) q.align step (are.live other q there)
      (λ same. differ (are.one_name name other (address q) (its ∙ ap Some same) (its_name other q there))))
      (λ other a differ is there. absurd (cc)) taken

  -- where a payload was placed and named
  AreNamed-placed : (t : State) {new : NameTable} (name addr : ℕ) (p : Payload) → address p ≡ addr → IsLive t addr p.align
      → ((other : ℕ) (q : Payload) → name ≢ other → get nat_eq table other ≡ Some q → IsLive t (address q) q.align × (address q ≢ addr))
      → IsSetAt name (Some p) table new
      → AreNamed t new (with_name name (Some addr) named)
  AreNamed-placed t {new} name addr p p_addr lives others_live added = subst (λ a. AreNamed t new (with_name name (Some a) named)) p_addr (AreNamed-set t name (Some p)
      (λ q is. let same : p ≡ q = cc in subst (λ x. IsLive t (address x) x.align) same (subst (λ a. IsLive t a p.align) (sym p_addr) lives))
      (λ other q differ there. (others_live other q differ there).0)
      (λ other a differ is there. let (q, in_table, at) = owner other a there in
      let same : address p ≡ a = cc in
      (others_live other q differ in_table).1 (at ∙ sym same ∙ p_addr)) added)

  -- after an allocation to a well-formed state
  pub AreNamed-allocated : (fllen sllen : ℕ) (memory : Range) (t : State) {new : NameTable} (name size align addr : ℕ) (p : Payload) → IsWellFormed fllen sllen memory t
      → Allocates sllen s size align (Some addr) t → address p ≡ addr → p.align ≡ align → IsSetAt name (Some p) table new
      → AreNamed t new (with_name name (Some addr) named)
  AreNamed-allocated fllen sllen memory t name size align addr p whole step p_addr p_align = AreNamed-placed t name addr p p_addr
      (v, (subst (IsIn v) (sym used) (inl refl), sym step.answer), sym p_align)
      (λ other q _ there. (
        live_stays fllen sllen s t (allocate size align (Some addr)) (address q) q.align step (are.live other q there) (λ never. never),
        λ at. let (u, (i, u_at), _) = are.live other q there in first_alone whole v u s.used used i (u_at ∙ at ∙ step.answer),
      ))
    where
      v : Used
      v = placed step.range size align step.bytes

      used : t.used ≡ v ∷ s.used
      used = ap (λ x. x.used) step.after

  -- after a reallocation of a name's payload
  pub AreNamed-reallocated : (fllen sllen : ℕ) (memory : Range) (t : State) {new : NameTable} (name size addr to : ℕ) (p : Payload) → IsWellFormed fllen sllen memory s
      → named name ≡ Some addr → IsLive s addr p.align → Reallocates sllen s addr size (Some to) t → address p ≡ to → IsSetAt name (Some p) table new
      → AreNamed t new (with_name name (Some to) named)
  AreNamed-reallocated fllen sllen memory t name size addr to p whole its live step p_addr =
      let (lives, new_or_old) = reallocated_is_live fllen sllen memory s t addr size to p.align whole live step in
      AreNamed-placed t name to p p_addr lives (λ other q differ there.
      let there_live = are.live other q there in
      let apart : addr ≢ address q = λ same. differ (are.one_name name other (address q) (its ∙ ap Some same) (its_name other q there)) in (
        live_stays fllen sllen s t (reallocate addr size (Some to)) (address q) q.align step there_live apart,
        λ at. apart (sym (new_or_old q.align (subst (λ a. IsLive s a q.align) at there_live)) ∙ sym at),
      ))

  -- after a name's payload moved to another address, to a well-formed state
  pub AreNamed-moved : (fllen sllen : ℕ) (memory : Range) (t : State) {new : NameTable} (name size to : ℕ) (u : Used) (p : Payload) → IsWellFormed fllen sllen memory t
      → IsIn u s.used → named name ≡ Some u.payload → MovesAway sllen s u size to t → to ≢ u.payload → address p ≡ to → p.align ≡ u.align
      → IsSetAt name (Some p) table new
      → AreNamed t new (with_name name (Some to) named)
  AreNamed-moved fllen sllen memory t name size to u p whole i its step apart p_addr p_align = AreNamed-placed t name to p p_addr
      (v, (subst (IsIn v) (sym used) (inl refl), sym step.allocated.answer), sym p_align)
      (λ other q differ there.
      let (x, (j, x_at), x_align) = are.live other q there in
      let left =
      IsIn-others_from gone.block.payload x s.used j
      (λ at. differ (are.one_name name other (address q) (its ∙ ap Some (sym gone.holds.1 ∙ sym at ∙ x_at)) (its_name other q there))) in (
        (x, (subst (IsIn x) (sym used) (inr left), x_at), x_align),
        λ at. first_alone whole v x (others gone.block.payload s.used) used left (x_at ∙ at ∙ step.allocated.answer),
      ))
    where
      v : Used
      v = placed step.allocated.range size u.align step.allocated.bytes

      gone : Deallocates step.meanwhile u.payload t
      gone = step.released

      used : t.used ≡ v ∷ others gone.block.payload s.used
      used =
          ap (λ x. x.used) gone.after ∙ ap (λ x. others gone.block.payload x.used) step.allocated.after
          ∙ ap (λ b. cond (not b) (v ∷ others gone.block.payload s.used) (others gone.block.payload s.used))
          (ne_eqb v.payload gone.block.payload (λ at. apart (step.allocated.answer ∙ at ∙ gone.holds.1)))
