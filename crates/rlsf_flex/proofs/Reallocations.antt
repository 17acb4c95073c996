-- A reallocation of the allocator over a source.
use Rattle.std.proofs.Common.{◌≡◌, ◌≢◌, ℕ, ◌<◌, Bool, true, List, [], Option, Some, None, IfNone, IfSome, refl, sym, ◌∙◌, ap, subst, inl, inr}
use Rattle.std.proofs.lemmas.Option.{none-some}
use Rattle.std.specs.declared.num.NonZeroUsize.{NonZeroUsize}
use Rattle.std.specs.Option.{option_or}
use Rattle.std.specs.Prelude.{None}
use Rattle.rlsf_base.specs.Addr.{at, reply}
use Rattle.rlsf_base.specs.declared.memory.range.Range.{Range}
use Rattle.rlsf_model_sizes.specs.SizeClass.{IsValid}
use Rattle.rlsf_model_sizes.specs.Sizes.{pool_size_to_contain_allocation}
use Rattle.rlsf_base.specs.Space.{SamePlace}
use Rattle.rlsf_tlsf.specs.Allocator.{Allocator, Steps}
use Rattle.rlsf_tlsf.specs.Results.{IsReallocated}
use Rattle.rlsf_blocks.specs.Spare.{KeepsSpare}
use Rattle.rlsf_blocks.proofs.Reallocate.FirstPlan.{or_else-none_first}
use Rattle.rlsf_flex.specs.Steps.Outside.{KeepsOutsideNow}
use Rattle.rlsf_flex.specs.StandsFor.{FlexContents, FlexStandsFor, FlexSteps, allocator_of, with_allocator}
use Rattle.rlsf_flex.specs.Steps.Growth.{Extended, MovesPayload}
use Rattle.rlsf_model.specs.Allocate.{Allocates}
use Rattle.rlsf_model.specs.Callers.{align_at, bytes_at}
use Rattle.rlsf_model.specs.FlexAllocate.{Asks, FlexAllocates}
use Rattle.rlsf_model.specs.FlexReallocate.{FlexReallocates}
use Rattle.rlsf_model.specs.FlexState.{FlexState, with_machine}
use Rattle.rlsf_model.specs.Growth.{refused}
use Rattle.rlsf_model.specs.Lists.{IsIn}
use Rattle.rlsf_model.specs.Note.{Note}
use Rattle.rlsf_model.specs.Reallocate.{Keeps, MovesAway, Plan, Reallocates, ReallocatesBy, in_place, into_next, into_previous, plan}
use Rattle.rlsf_model.specs.State.{State, Used, usable, Holds, IsLive}
use Rattle.rlsf_model.specs.Terms.{Terms}
use Rattle.rlsf_model.specs.WellFormed.{IsWellFormed}
use Rattle.rlsf_model.proofs.Changes.{Holds-unique}
use Rattle.rlsf_model.proofs.Chunks.{chunks-allocated, chunks-deallocated, chunks-reallocated}
use Rattle.rlsf_model.proofs.Growths.{Holds-same, used-taken}
use Rattle.rlsf_model.proofs.Live.{handed_out_is_new}
use Rattle.rlsf_model.proofs.Payloads.{usable-short}
use Rattle.rlsf_flex.proofs.Allocations.{Tried, as_asked, asked_noted, asked_outside, asked_spare, asks, more_is_found, refused_alone}
use Rattle.rlsf_flex.proofs.Calls.{stands_alone}
use Rattle.rlsf_flex.proofs.Frames.{stands_stepped}
use Rattle.rlsf_flex.proofs.Outside.{KeepsOutside-alone}
use Rattle.rlsf_flex.proofs.OutsideNow.{KeepsOutsideNow-stands, KeepsOutsideNow-then}
use Rattle.rlsf_flex.proofs.SpareBytes.{KeepsSpareButFooter-all, KeepsSpareButFooter-before}
use Rattle.rlsf_flex.proofs.InnerAllocator.{opened, stood}

-- nor can the first two
first_two-none : (o q r : Option Plan) → option_or o (option_or q r) ≡ None → option_or o q ≡ None
first_two-none None q r none = or_else-none_first q r none
first_two-none (Some p) q r none = none

-- the used block at the address can't get the size with the free ranges that there are beside it
pub record IsStuck (s : State) (addr size : ℕ) (u : Used) : Type 0 where
  pub holds : Holds s addr u
  pub no_plan : plan s u size ≡ None

-- a block that can't have the size neither stays where it is nor takes from the block behind
pub stuck_moves : {fllen sllen : ℕ} {memory : Range} {s : State} → IsWellFormed fllen sllen memory s → (addr size : ℕ) (u v : Used) (p : Plan)
    → IsStuck s addr size v
    → Holds s addr u → option_or (in_place s u size) (into_next s u size) ≡ Some p → ⊥
stuck_moves {s = s} w addr size u v p stuck holds some =
    let here = subst (λ x. option_or (in_place s x size) (into_next s x size) ≡ Some p) (Holds-unique w addr u v holds stuck.holds) some in
    none-some p (sym (first_two-none (in_place s v size) (into_next s v size) (into_previous s v size) stuck.no_plan) ∙ here)

-- a block that can't have the size has fewer usable bytes
pub stuck_short : {fllen sllen : ℕ} {memory : Range} {s : State} → IsWellFormed fllen sllen memory s → (addr size : ℕ) (u : Used) → IsStuck s addr size u
    → (usable u).len < size
stuck_short {s = s} w addr size u stuck = usable-short w u stuck.holds.0 size (or_else-none_first (in_place s u size) _ stuck.no_plan)

-- a refused reallocation had no plan, and an allocation is refused too
refused_by : (sllen size : ℕ) (s t : State) (u : Used) (o : Option Plan) → ReallocatesBy sllen s u size o None t → (o ≡ None) × Allocates sllen s size u.align None t
refused_by sllen size s t u None step = (refl, step)
refused_by sllen size s t u (Some p) step = absurd step

-- a reallocation isn't both refused and made
pub refused_move_alone : {fllen sllen : ℕ} {memory : Range} {s : State} → IsWellFormed fllen sllen memory s → (addr size align to : ℕ) (u : Used) (m : State)
    → IsStuck s addr size u → u.align ≡ align
    → Allocates sllen s size align None s → Reallocates sllen s addr size (Some to) m → ⊥
refused_move_alone {sllen = sllen} {s = s} w addr size align to u m stuck is full some =
    let same : some.block ≡ u = Holds-unique w addr some.block u some.holds stuck.holds in
    let step : ReallocatesBy sllen s u size None (Some to) m =
    subst (λ o. ReallocatesBy sllen s u size o (Some to) m) stuck.no_plan (subst (λ x. ReallocatesBy sllen s x size (plan s x size) (Some to) m) same some.step) in
    refused_alone sllen size align to s s step.meanwhile full (subst (λ a. Allocates sllen s size a (Some to) step.meanwhile) is step.allocated)

-- a payload that moved isn't where it was
moved_elsewhere : {fllen sllen : ℕ} {memory : Range} {s : State} → IsWellFormed fllen sllen memory s → (u : Used) → IsIn u s.used → (size to : ℕ) (t : State)
    → MovesAway sllen s u size to t → to ≢ u.payload
moved_elsewhere {fllen} {sllen} {memory} {s} w u i size to t moves same =
    (handed_out_is_new fllen sllen memory s moves.meanwhile size u.align to w (w.used u i).power moves.allocated).0 u.align (u, (i, sym same), refl)

-- a reallocated payload, by another state before in which callers see the same
pub IsReallocated-before : (s t after : State) (addr size align to : ℕ) → align_at s ≡ align_at t → bytes_at s ≡ bytes_at t
    → IsReallocated s after addr size align to → IsReallocated t after addr size align to
IsReallocated-before s t after addr size align to aligns bytes is = record {
  live = is.live;
  sized = is.sized;
  few = is.few;
  kept = subst (λ (before : ℕ → List ℕ). Keeps (before addr) (bytes_at after to)) bytes is.kept;
  new = λ off. sym (ap (λ (f : ℕ → Option ℕ). f to) aligns) ∙ is.new off;
  aligns = λ a from new. is.aligns a from new ∙ ap (λ (f : ℕ → Option ℕ). f a) aligns;
  bytes = λ a from new. is.bytes a from new ∙ ap (λ f. f a) bytes;
}

-- where an allocation over a source is refused, the reallocation is
pub refused_too : {S : Type 0} (fllen sllen : ℕ) (terms : S → Terms) (owes : S → List Range → Type 0) (leads : S → Note → S → Type 0) (v after : FlexContents S)
    (addr size align : ℕ) {u : Used} → IsStuck v.state.machine addr size u → u.align ≡ align
    → FlexSteps fllen sllen terms owes leads v after (FlexAllocates fllen sllen (terms v.source) v.state size align None)
    → FlexSteps fllen sllen terms owes leads v after (FlexReallocates fllen sllen (terms v.source) v.state addr size None)
unfolding FlexSteps
refused_too fllen sllen terms owes leads v after addr size align {u} stuck is (notes, step, leads_by, answers, outside, stands, spare) = (
  notes,
  record { block = u; holds = stuck.holds; no_plan = stuck.no_plan; asks = subst (λ a. Asks fllen sllen (terms v.source) v.state size a refused notes after.state) (sym is) step },
  leads_by,
  answers,
  outside,
  stands,
  spare,
)

module _ {S : Type 0} {fllen sllen : ℕ} {terms : S → Terms} {owes : S → List Range → Type 0} (addr size align : ℕ) where
  module _ {v : FlexContents S} (new : Allocator) (place : SamePlace v.memory new.memory) (h : FlexStandsFor fllen sllen terms owes v) (whole : v.memory.out ≡ []) where
    module _ (reply : Option ℕ) (did : Steps fllen sllen (allocator_of v) new (Reallocates sllen v.state.machine addr size reply)) where
      pub reallocated_stands : FlexStandsFor fllen sllen terms owes (with_allocator v new)
      reallocated_stands = stands_alone h new _ place whole (chunks-reallocated sllen v.state.machine new.state addr size reply (opened _ _ _ did).0) did

      reallocated_outside : KeepsOutsideNow v.memory v.state.pools new.memory v.state.pools
      reallocated_outside = KeepsOutsideNow-stands h reallocated_stands place (opened _ _ _ did).2

    -- there is room
    pub reallocated_in_room : (leads : S → Note → S → Type 0) (to : ℕ) → Steps fllen sllen (allocator_of v) new (Reallocates sllen v.state.machine addr size (Some to))
        → FlexSteps fllen sllen terms owes leads v (with_allocator v new) (FlexReallocates fllen sllen (terms v.source) v.state addr size (Some to))
    unfolding FlexSteps
    reallocated_in_room leads to did = (
      [],
      inl (record { machine = new.state; reallocates = (opened _ _ _ did).0; none = refl; after = refl }),
      refl,
      λ n i. absurd i,
      KeepsOutside-alone v.memory new.memory v.state.pools (reallocated_outside (Some to) did),
      reallocated_stands (Some to) did,
      KeepsSpareButFooter-all (terms v.source) v.memory new.memory v.state (with_machine v.state new.state) (opened _ _ _ did).2,
    )

    -- there is no room, and nothing has changed yet
    pub no_room_to_move : IsLive v.state.machine addr align → Steps fllen sllen (allocator_of v) new (Reallocates sllen v.state.machine addr size None)
        → (u : Used) × IsStuck v.state.machine addr size u × (u.align ≡ align) × Tried fllen sllen terms owes size align v (with_allocator v new)
    no_room_to_move (x, holds, is) did =
        let step = (opened _ _ _ did).0 in
        let u = step.block in
        let (none, full) = refused_by sllen size v.state.machine new.state u (plan v.state.machine u size) step.step in
        let aligned : u.align ≡ align = ap (λ (y : Used). y.align) (Holds-unique h.well_formed.machine addr u x step.holds holds) ∙ is in (
          u,
          record { holds = step.holds; no_plan = none },
          aligned,
          record {
            full = subst (λ k. Allocates sllen v.state.machine size k None v.state.machine) aligned (full.0, refl);
            source = refl;
            same = ap (with_machine v.state) full.1;
            stands = reallocated_stands None did;
            still = reallocated_outside None did;
            spare = subst (λ x. KeepsSpare v.memory v.state.machine new.memory x) full.1 (opened _ _ _ did).2;
          },
        )

  -- there is no room, and the source is asked
  module _ (leads : S → Note → S → Type 0) (v : FlexContents S) {u : Used}
      (stuck : IsStuck v.state.machine addr size u) (is : u.align ≡ align) where
    module _ {w : FlexContents S} (tried : Tried fllen sllen terms owes size align v w)
        {e : ℕ} (wanted : pool_size_to_contain_allocation fllen sllen size align ≡ Some e) {after : FlexContents S} {more : Bool}
        (h : Extended fllen sllen terms owes leads w after e more) where
      -- what came left the block
      pub Holds-came : Holds after.state.machine addr u
      Holds-came =
          Holds-same w.state.machine after.state.machine addr u (used-taken fllen (terms w.source) w.state after.state h.outcome h.extends.after)
          (subst (λ (s : FlexState). Holds s.machine addr u) (sym tried.same) stuck.holds)

      module _ (last : Allocator) (came : more ≡ true) (place : SamePlace after.memory last.memory) (whole : v.memory.out ≡ []) {to : ℕ}
          (moved : MovesPayload fllen sllen (allocator_of after) last addr size to) where
        moves : MovesAway sllen after.state.machine u size to last.state
        moves =
            subst (λ x. MovesAway sllen after.state.machine x size to last.state) (Holds-unique h.stands.well_formed.machine addr moved.block u moved.holds Holds-came) moved.moves

        -- no chunk has changed
        moved_chunks : last.state.chunks ≡ after.state.machine.chunks
        moved_chunks =
            chunks-deallocated moves.meanwhile last.state u.payload moves.released
            ∙ chunks-allocated sllen after.state.machine moves.meanwhile size u.align (Some to) moves.allocated

        pub moved_stands : FlexStandsFor fllen sllen terms owes (with_allocator after last)
        moved_stands = stands_stepped h.stands last (stood _ moved.stands) moved_chunks moved.spare place ((asked_outside size align tried wanted h).place.3 whole)

        -- the payload moved into what came
        reallocated_in_more : FlexSteps fllen sllen terms owes leads v (with_allocator after last) (FlexReallocates fllen sllen (terms v.source) v.state addr size (Some to))
        unfolding FlexSteps
        reallocated_in_more = let asked = as_asked size align tried wanted h in (
          asked.notes,
          inr (record {
            block = u;
            holds = stuck.holds;
            no_plan = stuck.no_plan;
            outcome = asked.outcome;
            meanwhile = after.state;
            asks = subst (λ k. Asks fllen sllen (terms v.source) v.state size k asked.outcome asked.notes after.state) (sym is) (asks size align tried wanted h);
            more = sym asked.came ∙ came;
            machine = last.state;
            moves = moves;
            elsewhere = λ at. moved_elsewhere h.stands.well_formed.machine u Holds-came.0 size to last.state moves (at ∙ sym Holds-came.1);
            after = refl;
          }),
          asked.leads_by,
          asked.answers,
          asked_noted size align tried wanted h last.memory
              (KeepsOutsideNow-then v.memory after.memory last.memory v.state.pools after.state.pools after.state.pools (asked_outside size align tried wanted h)
              (KeepsOutsideNow-stands h.stands moved_stands place moved.spare)),
          moved_stands,
          KeepsSpareButFooter-before (terms v.source) v.memory after.memory last.memory v.state after.state (asked_outside size align tried wanted h).place
              (asked_spare size align tried wanted h) last.state moved_chunks moved.spare,
        )

      -- so it does, for what came has room
      pub reallocation_in_more : {fl_bits sl_bits : ℕ} → IsValid fl_bits sl_bits fllen sllen → (last : Allocator) → more ≡ true → SamePlace after.memory last.memory
          → v.memory.out ≡ [] → (o : Option NonZeroUsize) → IfNone o (Allocates sllen after.state.machine size align None after.state.machine)
          → IfSome o (λ to. MovesPayload fllen sllen (allocator_of after) last addr size (at to))
          → FlexSteps fllen sllen terms owes leads v (with_allocator after last) (FlexReallocates fllen sllen (terms v.source) v.state addr size (reply o))
      reallocation_in_more valid last came place whole None none moved = absurd (more_is_found size align tried wanted h valid came none)
      reallocation_in_more valid last came place whole (Some to) none moved = reallocated_in_more last came place whole moved
