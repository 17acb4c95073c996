-- An allocation of the allocator over a source.
use Rattle.std.proofs.Common.{◌≡◌, ℕ, Bool, true, false, true≢false, List, [], Option, Some, None, IfNone, IsSome, refl, sym, ◌∙◌, ap, subst, inl, inr}
use Rattle.std.proofs.lemmas.Option.{none-some}
use Rattle.rlsf_base.specs.declared.memory.range.Range.{Range}
use Rattle.rlsf_model_sizes.specs.SizeClass.{IsValid}
use Rattle.rlsf_model_sizes.specs.Sizes.{pool_size_to_contain_allocation}
use Rattle.rlsf_base.specs.Space.{SamePlace, Space}
use Rattle.rlsf_tlsf.specs.Allocator.{Allocator, Steps}
use Rattle.rlsf_tlsf.specs.Bounds.{IfWithinBounds}
use Rattle.rlsf_blocks.specs.Spare.{KeepsSpare}
use Rattle.rlsf_flex.specs.Outside.{KeepsOutside}
use Rattle.rlsf_flex.specs.Steps.Outside.{KeepsOutsideNow}
use Rattle.rlsf_flex.specs.Results.{SucceedsUnasked}
use Rattle.rlsf_flex.specs.SpareBytes.{KeepsSpareButFooter}
use Rattle.rlsf_flex.specs.StandsFor.{FlexContents, FlexStandsFor, FlexSteps, allocator_of, with_allocator}
use Rattle.rlsf_flex.specs.Steps.Growth.{Extended}
use Rattle.rlsf_model.specs.Allocate.{Allocates}
use Rattle.rlsf_model.specs.FlexAllocate.{Asks, FlexAllocates}
use Rattle.rlsf_model.specs.FlexState.{with_machine}
use Rattle.rlsf_model.specs.FlexWellFormed.{IsNewest}
use Rattle.rlsf_model.specs.Growth.{Outcome, range_came, growth_came, is_more, refused, TakesIn}
use Rattle.rlsf_model.specs.Note.{Note}
use Rattle.rlsf_model.specs.State.{State}
use Rattle.rlsf_model.specs.Terms.{Terms}
use Rattle.rlsf_model.proofs.Chunks.{chunks-allocated}
use Rattle.rlsf_model.proofs.TakenPools.{pool_has_a_choice}
use Rattle.rlsf_flex.proofs.Calls.{stands_alone}
use Rattle.rlsf_flex.proofs.Outside.{KeepsOutside-alone, KeepsOutside-asked}
use Rattle.rlsf_flex.proofs.OutsideNow.{KeepsOutsideNow-stands, KeepsOutsideNow-then}
use Rattle.rlsf_flex.proofs.SpareBytes.{KeepsSpareButFooter-all, KeepsSpareButFooter-before, KeepsSpareButFooter-behind}
use Rattle.rlsf_flex.proofs.InnerAllocator.{opened}

-- what there is a value of isn't none
pub not_none : {A : Type 0} (P : Type 0) (o : Option A) → (o ≡ None → ⊥) → IfNone o P
not_none P None some = absurd (some refl)
not_none P (Some x) some = tt

-- what holds where there is none
pub none_of : {A P : Type 0} (o : Option A) → o ≡ None → IfNone o P → P
none_of None is holds = holds
none_of (Some x) is holds = absurd (none-some x (sym is))

-- what is refused though it can't be within bounds is so within none
pub never_within : {S A : Type 0} {sllen size align : ℕ} {before after : FlexContents S} {succeeds : Type 0} (o : Option A) → o ≡ None
    → IfWithinBounds sllen before.state.machine size align (IsSome o) → SucceedsUnasked sllen before after size align succeeds
never_within None is sure =
    record {
      room = λ n s a sized few short fits. absurd (true≢false (sym (sure n s a sized few short fits)));
      unasked = λ n s a sized few short fits. absurd (true≢false (sym (sure n s a sized few short fits)));
    }
never_within (Some x) is sure = absurd (none-some x (sym is))

-- an allocation isn't both refused and made
pub refused_alone : (sllen size align addr : ℕ) (s t u : State) → Allocates sllen s size align None t → Allocates sllen s size align (Some addr) u → ⊥
refused_alone sllen size align addr s t u none some = none-some some.range (sym none.0 ∙ some.chosen)

-- where no memory came, the outcome is a refusal
pub nothing_came : (o : Outcome) → false ≡ is_more o → o ≡ refused
nothing_came refused is = refl
nothing_came (growth_came len) is = absurd (true≢false (sym is))
nothing_came (range_came r) is = absurd (true≢false (sym is))

-- so the state stays
pub extended_none : {S : Type 0} {fllen sllen : ℕ} {terms : S → Terms} {owes : S → List Range → Type 0} {leads : S → Note → S → Type 0} {w after : FlexContents S}
    {e : ℕ} {more : Bool} → Extended fllen sllen terms owes leads w after e more → more ≡ false
    → after.state ≡ w.state
extended_none {fllen = fllen} {terms = terms} {w = w} {after = after} h is =
    subst (λ o. TakesIn fllen (terms w.source) w.state o after.state) (nothing_came h.outcome (sym is ∙ h.came)) h.extends.after

-- a layout was tried in the room that there is, and found none; nothing has changed
pub record Tried {S : Type 0} (fllen sllen : ℕ) (terms : S → Terms) (owes : S → List Range → Type 0) (size align : ℕ) (v w : FlexContents S) : Type 0 where
  pub full : Allocates sllen v.state.machine size align None v.state.machine
  pub source : w.source ≡ v.source
  pub same : w.state ≡ v.state
  pub stands : FlexStandsFor fllen sllen terms owes w
  pub still : KeepsOutsideNow v.memory v.state.pools w.memory v.state.pools
  pub spare : KeepsSpare v.memory v.state.machine w.memory v.state.machine

module _ {S : Type 0} {fllen sllen : ℕ} {terms : S → Terms} {owes : S → List Range → Type 0} (size align : ℕ) where
  -- what a step of the reference model over a source is, once its allocation was made
  module _ {v : FlexContents S} (new : Allocator) (place : SamePlace v.memory new.memory) (h : FlexStandsFor fllen sllen terms owes v) (whole : v.memory.out ≡ []) where
    module _ (reply : Option ℕ) (did : Steps fllen sllen (allocator_of v) new (Allocates sllen v.state.machine size align reply)) where
      pub allocated_stands : FlexStandsFor fllen sllen terms owes (with_allocator v new)
      allocated_stands = stands_alone h new _ place whole (chunks-allocated sllen v.state.machine new.state size align reply (opened _ _ _ did).0) did

      pub allocated_outside : KeepsOutsideNow v.memory v.state.pools new.memory v.state.pools
      allocated_outside = KeepsOutsideNow-stands h allocated_stands place (opened _ _ _ did).2

    -- there is room
    pub allocated_in_room : (leads : S → Note → S → Type 0) (addr : ℕ) → Steps fllen sllen (allocator_of v) new (Allocates sllen v.state.machine size align (Some addr))
        → FlexSteps fllen sllen terms owes leads v (with_allocator v new) (FlexAllocates fllen sllen (terms v.source) v.state size align (Some addr))
    unfolding FlexSteps
    allocated_in_room leads addr did = (
      [],
      inl (record { machine = new.state; allocates = (opened _ _ _ did).0; none = refl; after = refl }),
      refl,
      λ n i. absurd i,
      KeepsOutside-alone v.memory new.memory v.state.pools (allocated_outside (Some addr) did),
      allocated_stands (Some addr) did,
      KeepsSpareButFooter-all (terms v.source) v.memory new.memory v.state (with_machine v.state new.state) (opened _ _ _ did).2,
    )

    -- there is no room
    pub no_room : Steps fllen sllen (allocator_of v) new (Allocates sllen v.state.machine size align None) → Tried fllen sllen terms owes size align v (with_allocator v new)
    no_room did =
        let (none, same) = (opened _ _ _ did).0 in
        record {
          full = (none, refl);
          source = refl;
          same = ap (with_machine v.state) same;
          stands = allocated_stands None did;
          still = allocated_outside None did;
          spare = subst (λ x. KeepsSpare v.memory v.state.machine new.memory x) same (opened _ _ _ did).2;
        }

  -- there is no room, and the source is asked
  module _ {v w : FlexContents S} (tried : Tried fllen sllen terms owes size align v w) where
    -- no pool would do, so nothing is asked
    pub nothing_asked : (leads : S → Note → S → Type 0) → pool_size_to_contain_allocation fllen sllen size align ≡ None
        → FlexSteps fllen sllen terms owes leads v w (FlexAllocates fllen sllen (terms v.source) v.state size align None)
    unfolding FlexSteps
    nothing_asked leads none = (
      [],
      record {
        full = tried.full;
        extends = rw none (record { possible = tt; asked = refl; after = tried.same });
      },
      tried.source,
      λ n i. absurd i,
      rw tried.same (KeepsOutside-alone v.memory w.memory v.state.pools tried.still),
      tried.stands,
      rw tried.same (KeepsSpareButFooter-all (terms v.source) v.memory w.memory v.state v.state tried.spare),
    )

    module _ {leads : S → Note → S → Type 0} {e : ℕ} (wanted : pool_size_to_contain_allocation fllen sllen size align ≡ Some e) {after : FlexContents S} {more : Bool}
        (h : Extended fllen sllen terms owes leads w after e more) where
      same_in : w ≡ record { memory = w.memory; table = w.table; source = v.source; state = v.state }
      same_in i = record { memory = w.memory; table = w.table; source = tried.source i; state = tried.same i }

      -- what was asked, in the state before
      pub as_asked : Extended fllen sllen terms owes leads (record { memory = w.memory; table = w.table; source = v.source; state = v.state }) after e more
      as_asked = subst (λ (u : FlexContents S). Extended fllen sllen terms owes leads u after e more) same_in h

      -- is what the reference model asks
      pub asks : Asks fllen sllen (terms v.source) v.state size align as_asked.outcome as_asked.notes after.state
      asks = record { full = tried.full; extends = rw wanted as_asked.extends }

      pub asked_outside : KeepsOutsideNow v.memory v.state.pools after.memory after.state.pools
      asked_outside = KeepsOutsideNow-then v.memory w.memory after.memory v.state.pools v.state.pools after.state.pools tried.still as_asked.outside

      -- what keeps the bytes outside of the ranges keeps those outside of all that were outstanding
      pub asked_noted : (n : Space) → KeepsOutsideNow v.memory v.state.pools n after.state.pools → KeepsOutside v.memory v.state.pools as_asked.notes n after.state.pools
      asked_noted n =
          KeepsOutside-asked fllen (terms v.source) v.state after.state e
          (subst (λ (u : FlexContents S). IsNewest (terms u.source) u.state.kept u.state.pools u.state.machine.chunks) same_in tried.stands.well_formed.newest)
          v.memory n as_asked.extends

      pub asked_spare : KeepsSpareButFooter (terms v.source) v.memory v.state after.memory after.state
      asked_spare = KeepsSpareButFooter-behind (terms v.source) v.memory w.memory after.memory v.state after.state tried.still.place tried.spare as_asked.spare

      -- nothing came
      pub nothing_more : more ≡ false → FlexSteps fllen sllen terms owes leads v after (FlexAllocates fllen sllen (terms v.source) v.state size align None)
      unfolding FlexSteps
      nothing_more is = (
        as_asked.notes,
        subst (λ o. Asks fllen sllen (terms v.source) v.state size align o as_asked.notes after.state) (nothing_came as_asked.outcome (sym is ∙ as_asked.came)) asks,
        as_asked.leads_by,
        as_asked.answers,
        asked_noted after.memory asked_outside,
        h.stands,
        asked_spare,
      )

      module _ {fl_bits sl_bits : ℕ} (valid : IsValid fl_bits sl_bits fllen sllen) (is : more ≡ true) where
        came : is_more as_asked.outcome ≡ true
        came = sym as_asked.came ∙ is

        -- what came has room
        pub more_is_found : {t : State} → Allocates sllen after.state.machine size align None t → ⊥
        more_is_found none = pool_has_a_choice fl_bits sl_bits fllen sllen size align e after.state.machine valid wanted (as_asked.room came) none.0

        pub allocated_in_more : (last : Allocator) → SamePlace after.memory last.memory → v.memory.out ≡ [] → (reply : Option ℕ)
            → Steps fllen sllen (allocator_of after) last (Allocates sllen after.state.machine size align reply)
            → FlexSteps fllen sllen terms owes leads v (with_allocator after last) (FlexAllocates fllen sllen (terms v.source) v.state size align reply)
        unfolding FlexSteps
        allocated_in_more last place whole None did = absurd (more_is_found (opened _ _ _ did).0)
        allocated_in_more last place whole (Some addr) did = (
          as_asked.notes,
          inr (record { outcome = as_asked.outcome; meanwhile = after.state; asks = asks; more = came; machine = last.state; allocates = (opened _ _ _ did).0; after = refl }),
          as_asked.leads_by,
          as_asked.answers,
          asked_noted last.memory (KeepsOutsideNow-then v.memory after.memory last.memory v.state.pools after.state.pools after.state.pools asked_outside
              (allocated_outside last place h.stands (asked_outside.place.3 whole) (Some addr) did)),
          allocated_stands last place h.stands (asked_outside.place.3 whole) (Some addr) did,
          KeepsSpareButFooter-before (terms v.source) v.memory after.memory last.memory v.state after.state asked_outside.place asked_spare last.state
              (chunks-allocated sllen after.state.machine last.state size align (Some addr) (opened _ _ _ did).0) (opened _ _ _ did).2,
        )
