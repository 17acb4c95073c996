-- The state of a run, from its slots, and how a step changes it.
use Rattle.std.proofs.Common.{◌≡◌, ℕ, zero, suc, ◌<◌, ◌%◌, ◌⊎◌, Bool, true, false, cond, Option, Some, None, MatchOption, List, length, slice_index_or}
use Rattle.std.proofs.Common.{slice_set, replicate, arith, inl, inr, refl, sym, ◌∙◌, ap, subst}
use Rattle.std.proofs.lemmas.Bool.Decides.{eqb_tells, leb_tells}
use Rattle.std.proofs.lemmas.List.{get_or-replicate, get_or-set_same, get_or-set_other, get_or_past, length-replicate}
use Rattle.std.specs.Int.NonZero.{non_zero_usize_get}
use Rattle.std.specs.Option.{option_map, unwrap_or}
use Rattle.std.specs.declared.num.NonZeroUsize.{NonZeroUsize}
use Rattle.rlsf_base.proofs.Numbers.PowersOfTwo.{IsPowerOfTwo-pow}
use Rattle.rlsf_base.specs.Space.{range_of}
use Rattle.rlsf_model.specs.Allocate.{Allocates}
use Rattle.rlsf_model.specs.Reallocate.{Reallocates}
use Rattle.rlsf_model.specs.Release.{Deallocates}
use Rattle.rlsf_model.specs.Run.{allocate, deallocate, reallocate}
use Rattle.rlsf_model.specs.State.{State, IsLive}
use Rattle.rlsf_model.proofs.Determined.{refusal_changes_nothing}
use Rattle.rlsf_model.proofs.Live.{handed_out_is_new, live_stays, reallocated_is_live}
use Rattle.rlsf_tlsf.specs.Allocator.{Allocator, IsInState}
use Rattle.rlsf_bench_common.specs.declared.tally.Tally.{Tally}
use Rattle.rlsf_bench_common.specs.Runs.{ChangesSlot, DoesStep, BenchState, alignment_of, bench_beginning, tally_after, empty_tally, slot_of, with_slot}
use Rattle.rlsf_bench_common.specs.Slots.{AreSlotsAt, LeadsSlots, slot_address}

-- an address in changed slots is in the one that was changed, or was in another before
with_slot-cases : (slot : ℕ) (held : Option ℕ) (slots : ℕ → Option ℕ) (other addr : ℕ) → with_slot slot held slots other ≡ Some addr
    → ((slot ≡ other) × (held ≡ Some addr)) ⊎ ((slot ≡ other → ⊥) × (slots other ≡ Some addr))
with_slot-cases slot held slots other addr is = elim (eqb_tells slot other) [
  | inl (is_true, same) ↦ inl (same, sym (ap (λ b. cond b held (slots other)) is_true) ∙ is)
  | inr (is_false, differ) ↦ inr (differ, sym (ap (λ b. cond b held (slots other)) is_false) ∙ is)
]

module _ {fllen sllen aligns : ℕ} {v : Allocator} {table : List ℕ} {counts : Tally} {s : BenchState} (at : AreSlotsAt fllen sllen aligns v table counts s) (slot : ℕ)
    (below : slot < length table) where
  -- what the slots hold once one is changed
  slots-set : (number other : ℕ) → slot_address (slice_index_or (slice_set table slot number) other 0) ≡ with_slot slot (slot_address number) s.slots other
  slots-set number other = elim (eqb_tells slot other) [
    | inl (is_true, same) ↦
        ap slot_address (subst (λ i. slice_index_or (slice_set table slot number) i 0 ≡ number) same (get_or-set_same table slot number 0 below))
        ∙ sym (ap (λ b. cond b (slot_address number) (s.slots other)) is_true)
    | inr (is_false, differ) ↦
        ap slot_address (get_or-set_other table slot other number 0 (λ same. differ (sym same)))
        ∙ at.slots other ∙ sym (ap (λ b. cond b (slot_address number) (s.slots other)) is_false)
  ]

  module _ {w : Allocator} (t : State) (stands : IsInState fllen sllen w t) where
    -- after the deallocation of the slot's payload
    pub AreSlotsAt-freed : (addr : ℕ) → s.slots slot ≡ Some addr → Deallocates s.machine addr t
        → AreSlotsAt fllen sllen aligns w (slice_set table slot 0) counts (record { machine = t; slots = with_slot slot None s.slots; tally = s.tally })
    AreSlotsAt-freed addr its step = record {
      stands = stands;
      slots = slots-set 0;
      live = λ other a is. let (differ, there) = kept other a is in
          live_stays fllen sllen s.machine t (deallocate addr) a (alignment_of aligns other) step (at.live other a there)
          (λ same. differ (at.one_slot slot other a (its ∙ ap Some same) there));
      one_slot = λ one other a first second. at.one_slot one other a (kept one a first).1 (kept other a second).1;
      tally = at.tally;
    }
      where
        kept : (other a : ℕ) → with_slot slot None s.slots other ≡ Some a → (slot ≡ other → ⊥) × (s.slots other ≡ Some a)
        kept other a is = elim (with_slot-cases slot None s.slots other a is) [ inl (_, none) ↦ absurd (cc) | inr was ↦ was ]

    -- after an allocation into it
    pub AreSlotsAt-answered : (reply : Option ℕ) (number size : ℕ) → slot_address number ≡ reply → Allocates sllen s.machine size (alignment_of aligns slot) reply t
        → (now : Tally) → now ≡ tally_after reply counts
        → AreSlotsAt fllen sllen aligns w (slice_set table slot number) now (record { machine = t; slots = with_slot slot reply s.slots; tally = tally_after reply s.tally })
    AreSlotsAt-answered reply number size kept step now counts_are = record {
      stands = stands;
      slots = λ other. slots-set number other ∙ ap (λ o. with_slot slot o s.slots other) kept;
      live = λ other a is. elim (cases other a is) [
        | inl (same, new) ↦ subst (λ i. IsLive t a (alignment_of aligns i)) same (handed a new).1
        | inr (_, there) ↦ live_stays fllen sllen s.machine t (allocate size (alignment_of aligns slot) reply) a (alignment_of aligns other) step (at.live other a there)
            (λ never. never)
      ];
      one_slot = λ one other a first second. elim (cases one a first) [
        | inl (same, new) ↦ elim (cases other a second) [
          | inl (same_too, _) ↦ sym same ∙ same_too
          | inr (_, there) ↦ absurd ((handed a new).0 (alignment_of aligns other) (at.live other a there))
        ]
        | inr (_, there) ↦ elim (cases other a second) [
          | inl (_, new) ↦ absurd ((handed a new).0 (alignment_of aligns one) (at.live one a there))
          | inr (_, there_too) ↦ at.one_slot one other a there there_too
        ]
      ];
      tally = counts_are ∙ ap (tally_after reply) at.tally;
    }
      where
        cases : (other a : ℕ) → with_slot slot reply s.slots other ≡ Some a
            → ((slot ≡ other) × (reply ≡ Some a)) ⊎ ((slot ≡ other → ⊥) × (s.slots other ≡ Some a))
        cases other a is = with_slot-cases slot reply s.slots other a is

        handed : (a : ℕ) → reply ≡ Some a → ((old : ℕ) → IsLive s.machine a old → ⊥) × IsLive t a (alignment_of aligns slot)
        handed a new =
            handed_out_is_new fllen sllen (range_of v.memory) s.machine t size (alignment_of aligns slot) a at.stands.stands.well_formed (IsPowerOfTwo-pow (slot % aligns))
            (subst (λ r. Allocates sllen s.machine size (alignment_of aligns slot) r t) new step)

    -- after a reallocation of the slot's payload
    pub AreSlotsAt-reallocated : (addr : ℕ) → s.slots slot ≡ Some addr → (reply : Option ℕ) (number size : ℕ) → slot_address number ≡ Some (unwrap_or reply addr)
        → Reallocates sllen s.machine addr size reply t
        → (now : Tally) → now ≡ tally_after reply counts
        → AreSlotsAt fllen sllen aligns w (slice_set table slot number) now
        (record { machine = t; slots = with_slot slot (Some (unwrap_or reply addr)) s.slots; tally = tally_after reply s.tally })
    AreSlotsAt-reallocated addr its reply number size kept step now counts_are = record {
      stands = stands;
      slots = λ other. slots-set number other ∙ ap (λ o. with_slot slot o s.slots other) kept;
      live = λ other a is. elim (cases other a is) [
        | inl (same, moved) ↦ subst (λ i. IsLive t a (alignment_of aligns i)) same (subst (λ x. IsLive t x (alignment_of aligns slot)) moved (there_now reply step).0)
        | inr (differ, there) ↦ live_stays fllen sllen s.machine t (reallocate addr size reply) a (alignment_of aligns other) step (at.live other a there)
            (λ same. differ (at.one_slot slot other a (its ∙ ap Some same) there))
      ];
      one_slot = λ one other a first second. elim (cases one a first) [
        | inl (same, moved) ↦ elim (cases other a second) [
          | inl (same_too, _) ↦ sym same ∙ same_too
          | inr (differ, there) ↦ absurd (differ (unshared other a moved there))
        ]
        | inr (differ, there) ↦ elim (cases other a second) [
          | inl (_, moved) ↦ absurd (differ (unshared one a moved there))
          | inr (_, there_too) ↦ at.one_slot one other a there there_too
        ]
      ];
      tally = counts_are ∙ ap (tally_after reply) at.tally;
    }
      where
        cases : (other a : ℕ) → with_slot slot (Some (unwrap_or reply addr)) s.slots other ≡ Some a
            → ((slot ≡ other) × (unwrap_or reply addr ≡ a)) ⊎ ((slot ≡ other → ⊥) × (s.slots other ≡ Some a))
        cases other a is = elim (with_slot-cases slot (Some (unwrap_or reply addr)) s.slots other a is) [
          | inl (same, now) ↦ inl (same, ap (λ o. unwrap_or o 0) now)
          | inr was ↦ inr was
        ]

        -- the payload is live where it is now, and that is where it was if something was live there
        there_now : (reply : Option ℕ) → Reallocates sllen s.machine addr size reply t
            → IsLive t (unwrap_or reply addr) (alignment_of aligns slot) × ((old : ℕ) → IsLive s.machine (unwrap_or reply addr) old → unwrap_or reply addr ≡ addr)
        there_now None step = (
          subst (λ x. IsLive x addr (alignment_of aligns slot)) (sym (refusal_changes_nothing fllen sllen s.machine t (reallocate addr size None) step refl))
              (at.live slot addr its),
          λ old _. refl,
        )
        there_now (Some to) step =
            reallocated_is_live fllen sllen (range_of v.memory) s.machine t addr size to (alignment_of aligns slot) at.stands.stands.well_formed (at.live slot addr its) step

        -- no other slot held where it is now
        unshared : (other a : ℕ) → unwrap_or reply addr ≡ a → s.slots other ≡ Some a → slot ≡ other
        unshared other a moved there =
            let same = (there_now reply step).1 (alignment_of aligns other) (subst (λ x. IsLive s.machine x (alignment_of aligns other)) (sym moved) (at.live other a there)) in
            at.one_slot slot other a (its ∙ ap Some (sym same ∙ moved)) there

    -- a step on the slot, by what it holds
    does_on : (reallocates : Bool) (draw size : ℕ) → slot ≡ slot_of (length table) draw → (o : Option ℕ) → slot_address (slice_index_or table slot 0) ≡ o → (after : BenchState)
        → ChangesSlot sllen (alignment_of aligns slot) reallocates slot size s o after
        → DoesStep sllen aligns (length table) reallocates draw size s after
    does_on reallocates draw size named o holds after step =
        subst (λ n. ChangesSlot sllen (alignment_of aligns n) reallocates n size s (s.slots n) after) named
        (subst (λ p. ChangesSlot sllen (alignment_of aligns slot) reallocates slot size s p after) (sym holds ∙ at.slots slot) step)

    -- a step that frees the slot's payload
    pub LeadsSlots-freed : (reallocates : Bool) → reallocates ≡ false → (draw size : ℕ) → slot ≡ slot_of (length table) draw → (addr : ℕ)
        → slot_address (slice_index_or table slot 0) ≡ Some addr → Deallocates s.machine addr t
        → LeadsSlots fllen sllen aligns (length table) reallocates draw size s w (slice_set table slot 0) counts
    LeadsSlots-freed reallocates frees draw size named addr there step = (
      after,
      does_on reallocates draw size named (Some addr) there after
          (subst (λ r. ChangesSlot sllen (alignment_of aligns slot) r slot size s (Some addr) after) (sym frees) (t, step, refl)),
      AreSlotsAt-freed addr (sym (at.slots slot) ∙ there) step,
    )
      where
        after : BenchState
        after = record { machine = t; slots = with_slot slot None s.slots; tally = s.tally }

    -- a step that reallocates it
    pub LeadsSlots-reallocated : (reallocates : Bool) → reallocates ≡ true → (draw : ℕ) → slot ≡ slot_of (length table) draw → (addr : ℕ)
        → slot_address (slice_index_or table slot 0) ≡ Some addr → (reply : Option ℕ) (number size : ℕ)
        → slot_address number ≡ Some (unwrap_or reply addr) → Reallocates sllen s.machine addr size reply t → (now : Tally)
        → now ≡ tally_after reply counts
        → LeadsSlots fllen sllen aligns (length table) reallocates draw size s w (slice_set table slot number) now
    LeadsSlots-reallocated reallocates does draw named addr there reply number size kept step now counts_are = (
      after,
      does_on reallocates draw size named (Some addr) there after
          (subst (λ r. ChangesSlot sllen (alignment_of aligns slot) r slot size s (Some addr) after) (sym does) (reply, t, step, refl)),
      AreSlotsAt-reallocated addr (sym (at.slots slot) ∙ there) reply number size kept step now counts_are,
    )
      where
        after : BenchState
        after = record { machine = t; slots = with_slot slot (Some (unwrap_or reply addr)) s.slots; tally = tally_after reply s.tally }

    -- a step that allocates into it
    pub LeadsSlots-answered : (reallocates : Bool) (draw : ℕ) → slot ≡ slot_of (length table) draw → slot_address (slice_index_or table slot 0) ≡ None
        → (reply : Option ℕ) (number size align : ℕ) → slot_address number ≡ reply → align ≡ alignment_of aligns slot
        → Allocates sllen s.machine size align reply t → (now : Tally) → now ≡ tally_after reply counts
        → LeadsSlots fllen sllen aligns (length table) reallocates draw size s w (slice_set table slot number) now
    LeadsSlots-answered reallocates draw named empty reply number size align kept align_is step now counts_are = (
      after,
      does_on reallocates draw size named None empty after (reply, t, asked, refl),
      AreSlotsAt-answered reply number size kept asked now counts_are,
    )
      where
        asked : Allocates sllen s.machine size (alignment_of aligns slot) reply t
        asked = subst (λ a. Allocates sllen s.machine size a reply t) align_is step

        after : BenchState
        after = record { machine = t; slots = with_slot slot reply s.slots; tally = tally_after reply s.tally }

-- what a slot holds, by the address that its number is
pub slot_address-address : (number : ℕ) (o : Option NonZeroUsize) → MatchOption o (number ≡ 0) (λ addr. non_zero_usize_get addr ≡ number)
    → slot_address number ≡ option_map non_zero_usize_get o
slot_address-address zero None is = refl
slot_address-address zero (Some addr) is = absurd (omega (arith, is, addr.ok))
slot_address-address (suc before) None is = absurd (omega (arith, is))
slot_address-address (suc before) (Some addr) is = ap Some (sym is)

-- what the slot of a payload holds after a reallocation
pub slot_address-moved : (number : ℕ) (now : NonZeroUsize) (moved : Option NonZeroUsize) (addr : NonZeroUsize) → number ≡ non_zero_usize_get now → now ≡ unwrap_or moved addr
    → slot_address number ≡ Some (unwrap_or (option_map non_zero_usize_get moved) (non_zero_usize_get addr))
slot_address-moved number now None addr value is = slot_address-address number (Some addr) (ap non_zero_usize_get (sym is) ∙ sym value)
slot_address-moved number now (Some to) addr value is = slot_address-address number (Some to) (ap non_zero_usize_get (sym is) ∙ sym value)

-- an element of a list of equal ones, or the default past its end
replicate_same : {A : Type 0} (x : A) (n i : ℕ) → slice_index_or (replicate n x) i x ≡ x
replicate_same x n i = elim (leb_tells n i) [
  | inl (_, past) ↦ get_or_past (replicate n x) i x (omega (arith, length-replicate n x, past))
  | inr (_, below) ↦ get_or-replicate n i x x below
]

-- with empty slots, a run is at its beginning
pub AreSlotsAt-beginning : {fllen sllen aligns : ℕ} {v : Allocator} {table : List ℕ} {counts : Tally} (s : State) (n : ℕ) → IsInState fllen sllen v s
    → table ≡ replicate n 0 → counts ≡ empty_tally
    → AreSlotsAt fllen sllen aligns v table counts (bench_beginning s)
AreSlotsAt-beginning {table = table} s n stands empty none = record {
  stands = stands;
  slots = λ slot. ap (λ t. slot_address (slice_index_or t slot 0)) empty ∙ ap slot_address (replicate_same 0 n slot);
  live = λ slot addr is. absurd (no_address addr is);
  one_slot = λ slot other addr is _. absurd (no_address addr is);
  tally = none;
}
  where
    no_address : (addr : ℕ) → None ≡ Some addr → ⊥
    no_address addr is = cc
