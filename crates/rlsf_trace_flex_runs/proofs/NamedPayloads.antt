-- The named payloads of a run over a source, and what an op that asks nothing leaves of them.
use Rattle.std.proofs.Common.{◌≡◌, ℕ, nat_eq, Some, None, Option, List, [], ◌∷◌, length, refl, sym, ◌∙◌, ap, subst, inl, inr}
use Rattle.std.specs.Prelude.{◌⊎◌, IfSome}
use Rattle.std.specs.declared.num.NonZeroUsize.{NonZeroUsize}
use Rattle.std.specs.HashMap.{get}
use Rattle.rlsf_base.specs.Addr.{reply}
use Rattle.rlsf_base.specs.declared.memory.range.Range.{Range}
use Rattle.rlsf_base.specs.Layout.{IsLayout}
use Rattle.rlsf_base.specs.Space.{range_of, SamePlace}
use Rattle.rlsf_blocks.specs.Spare.{KeepsSpare}
use Rattle.rlsf_flex.specs.Outside.{KeepsOutside}
use Rattle.rlsf_flex.specs.StandsFor.{FlexContents, FlexStandsFor, StepsAlone}
use Rattle.rlsf_flex.proofs.Outside.{KeepsOutside-refl, KeepsOutside-spare}
use Rattle.rlsf_trace_flex_runs.specs.FlexRuns.{DoesFlex, with_run, without_source}
use Rattle.rlsf_trace_flex_runs.specs.Steps.Names.{IsFlexAt, LeadsOn, MakesFlex, named_in, no_call, run_of}
use Rattle.rlsf_trace_flex_runs.proofs.FlexEvents.{made-deallocate, made-fill, made-unmoved}
use Rattle.rlsf_model.specs.Callers.{align_at, bytes_at}
use Rattle.rlsf_model.specs.FlexState.{with_machine}
use Rattle.rlsf_model.specs.FlexWellFormed.{AreHoused}
use Rattle.rlsf_model.specs.NoMove.{ReallocatesWithoutMove}
use Rattle.rlsf_model.specs.Note.{Note, LeadsBy}
use Rattle.rlsf_model.specs.Release.{Deallocates}
use Rattle.rlsf_model.specs.Run.{deallocate, fill, Fills}
use Rattle.rlsf_model.specs.State.{State, Used, Holds, IsLive, usable}
use Rattle.rlsf_model.specs.Terms.{Terms}
use Rattle.rlsf_model.proofs.CallerWords.{align_at-held, align_at-live, bytes_at-held}
use Rattle.rlsf_trace_runs.specs.declared.names.Payload.{Payload}
use Rattle.rlsf_trace_runs.specs.Events.{IsDoneBy}
use Rattle.rlsf_trace_runs.specs.Names.{address, AreNamed, NameTable}
use Rattle.rlsf_trace_runs.specs.Runs.{FreesName, Owns, RunState, run_with_machine as with_state, without_name}
use Rattle.rlsf_trace_runs.proofs.Named.{AreNamed-filled, AreNamed-freed, AreNamed-kept, IsSetAt, owned_live}
use Rattle.rlsf_trace_text.specs.declared.op.Answer.{Answer}
use Rattle.rlsf_trace_text.specs.declared.op.Answer.TheVariants.{Done, Placed, Refused}
use Rattle.rlsf_trace_text.specs.declared.op.Op.{Op}
use Rattle.rlsf_trace_text.specs.declared.op.Op.TheVariants.{Insert, Append, ReallocNoMove, Block as OpBlock}
use Rattle.rlsf_trace_text.specs.declared.op.TraceError.TheVariants.{NotForFlex}

-- names whose payloads a table has are the table's
pub named-in : {s : State} {table : NameTable} {named : ℕ → Option ℕ} → AreNamed s table named → named ≡ named_in table
named-in are i name = sym (are.names name) i

-- and so it has those payloads by its own names
pub AreNamed-in : {s : State} {table : NameTable} {named : ℕ → Option ℕ} → AreNamed s table named → AreNamed s table (named_in table)
AreNamed-in {s} {table} are = subst (AreNamed s table) (named-in are) are

module _ {S : Type 0} {fllen sllen : ℕ} {terms : S → Terms} {owes : S → List Range → Type 0} where
  -- a step that asks the source nothing keeps the bytes outside of the ranges
  KeepsOutside-alone : {v w : FlexContents S} → FlexStandsFor fllen sllen terms owes v → FlexStandsFor fllen sllen terms owes w
      → w.state ≡ with_machine v.state w.state.machine → SamePlace v.memory w.memory
      → KeepsSpare v.memory v.state.machine w.memory w.state.machine → KeepsOutside v.memory v.state.pools [] w.memory w.state.pools
  KeepsOutside-alone {v} {w} before after same place keeps =
      let pools = ap (λ s. s.pools) same in
      subst (KeepsOutside v.memory v.state.pools [] w.memory) (sym pools)
      (KeepsOutside-spare v.memory w.memory v.state.machine w.state.machine v.state.pools before.well_formed.housed
      (subst (λ l. AreHoused l w.state.machine.chunks) pools after.well_formed.housed) place keeps)

  -- an op that leads to names whose payloads the new table has leads to the table's
  pub LeadsOn-named : {leads : S → Note → S → Type 0} {v w : FlexContents S} {table new : NameTable} (op : Op) (answer : Answer) (notes : List Note)
      (named : ℕ → Option ℕ)
      → DoesFlex fllen sllen (terms v.source) (run_of v table) op answer notes (record { flex = w.state; named = named })
      → MakesFlex fllen sllen (range_of v.memory) (terms v.source) v.state op answer notes w.state → LeadsBy leads v.source notes w.source
      → KeepsOutside v.memory v.state.pools notes w.memory w.state.pools → FlexStandsFor fllen sllen terms owes w → AreNamed w.state.machine new named
      → LeadsOn fllen sllen terms owes leads v table op answer w new
  LeadsOn-named {v = v} {w = w} {table = table} op answer notes named does makes leads_by outside stands are = record {
    notes = notes;
    does = subst (λ n. DoesFlex fllen sllen (terms v.source) (run_of v table) op answer notes (record { flex = w.state; named = n })) (named-in are) does;
    makes = makes;
    leads_by = leads_by;
    outside = outside;
    at = record { stands = stands; are_named = AreNamed-in are };
  }

module _ {S : Type 0} {fllen sllen : ℕ} {terms : S → Terms} {owes : S → List Range → Type 0} {v : FlexContents S} {table : NameTable}
    (at : IsFlexAt fllen sllen terms owes v table) where
  -- a payload of the table has a block, which its name owns, with as many bytes as are usable
  pub owned : (name : ℕ) (p : Payload) → get nat_eq table name ≡ Some p
      → (u : Used) × Owns (without_source (run_of v table)) name u × Holds v.state.machine (address p) u × (bytes_at v.state.machine (address p) ≡ u.bytes)
      × (length u.bytes ≡ (usable u).len)
  owned name p is =
      let (u, owns, holds, _) = owned_live at.are_named name p is in
      (u, owns, holds, bytes_at-held at.stands.well_formed.machine (address p) u holds, (at.stands.well_formed.machine.used u owns.0).bytes)

  live_in : (addr align : ℕ) → IsLive v.state.machine addr align → align_at v.state.machine addr ≡ Some align
  live_in addr align (u, held, same) = subst (λ a. align_at v.state.machine addr ≡ Some a) same (align_at-held at.stands.well_formed.machine addr u held)

  -- it is live with its alignment
  pub live : (name : ℕ) (p : Payload) → get nat_eq table name ≡ Some p → align_at v.state.machine (address p) ≡ Some p.align
  live name p is = live_in (address p) p.align (at.are_named.live name p is)

  -- and so is each payload that a name is found to have
  pub found_live : (name : ℕ) (found : Option Payload) → found ≡ get nat_eq table name
      → IfSome found (λ p. align_at v.state.machine (address p) ≡ Some p.align)
  found_live name None is = tt
  found_live name (Some p) is = live name p (sym is)

  module _ {leads : S → Note → S → Type 0} where
    -- an op that changes nothing
    pub LeadsOn-nothing : (op : Op) (answer : Answer) → IsDoneBy op answer [] → DoesFlex fllen sllen (terms v.source) (run_of v table) op answer [] (run_of v table)
        → LeadsOn fllen sllen terms owes leads v table op answer v table
    LeadsOn-nothing op answer is_done does =
        record { notes = []; does = does; makes = no_call is_done refl refl; leads_by = refl; outside = KeepsOutside-refl v.memory v.state.pools; at = at }

    -- an op on a range is refused
    pub not_on_ranges : (op : Op) → ((r : Range) × (op ≡ Insert r)) ⊎ (((r : Range) × (op ≡ Append r)) ⊎ ((r : Range) × (index : ℕ) × (op ≡ OpBlock r index)))
        → LeadsOn fllen sllen terms owes leads v table op (Refused NotForFlex) v table
    not_on_ranges op (inl (r, is)) = rw is (LeadsOn-nothing (Insert r) (Refused NotForFlex) refl (refl, refl, refl))
    not_on_ranges op (inr (inl (r, is))) = rw is (LeadsOn-nothing (Append r) (Refused NotForFlex) refl (refl, refl, refl))
    not_on_ranges op (inr (inr (r, index, is))) = rw is (LeadsOn-nothing (OpBlock r index) (Refused NotForFlex) refl (refl, refl, refl))

    module _ {w : FlexContents S} (source : w.source ≡ v.source) (place : SamePlace v.memory w.memory) where
      -- an op that leads by a step that asks the source nothing to names whose payloads the new table has
      LeadsOn-alone : {new : NameTable} (step : State → Type 0) (op : Op) (answer : Answer) (named : ℕ → Option ℕ) → StepsAlone fllen sllen terms owes v w step
          → (step w.state.machine → w.state ≡ with_machine v.state w.state.machine
          → DoesFlex fllen sllen (terms v.source) (run_of v table) op answer [] (record { flex = with_machine v.state w.state.machine; named = named })
          × MakesFlex fllen sllen (range_of v.memory) (terms v.source) v.state op answer [] w.state × AreNamed w.state.machine new named)
          → LeadsOn fllen sllen terms owes leads v table op answer w new
      unfolding StepsAlone
      LeadsOn-alone step op answer named (is, same, stands, spare) leads_to =
          let (does, makes, are) = leads_to is same in
          LeadsOn-named op answer [] named (subst (λ f. DoesFlex fllen sllen (terms v.source) (run_of v table) op answer [] (record { flex = f; named = named })) (sym same) does)
          makes source
          (KeepsOutside-alone at.stands stands same place spare) stands are

      -- the payload of a name was deallocated
      pub freed : {new : NameTable} (op : Op) (name : ℕ) (p : Payload) → get nat_eq table name ≡ Some p → IsDoneBy op Done (deallocate (address p) ∷ [])
          → ((r : RunState) → FreesName (without_source (run_of v table)) name r
          → DoesFlex fllen sllen (terms v.source) (run_of v table) op Done [] (with_run (run_of v table) r))
          → StepsAlone fllen sllen terms owes v w (Deallocates v.state.machine (address p)) → IsSetAt name None table new
          → LeadsOn fllen sllen terms owes leads v table op Done w new
      freed op name p there is_done does alone taken =
          let (u, owns, holds, _, _) = owned name p there in
          LeadsOn-alone (Deallocates v.state.machine (address p)) op Done (without_name name (named_in table)) alone (λ step same. (
            does _ (u, owns, w.state.machine, subst (λ a. Deallocates v.state.machine a w.state.machine) (sym holds.1) step, refl),
            made-deallocate (address p) is_done step same,
            AreNamed-freed at.are_named w.state.machine name (address p) (owns.1 ∙ ap Some holds.1) step taken,
          ))

      -- a payload of a name may have another size, and no alignment has changed
      pub unmoved : (name size : ℕ) (p : Payload) (addr : Option NonZeroUsize) → get nat_eq table name ≡ Some p → IsLayout size p.align
          → StepsAlone fllen sllen terms owes v w (ReallocatesWithoutMove v.state.machine (address p) size (reply addr)) → align_at w.state.machine ≡ align_at v.state.machine
          → LeadsOn fllen sllen terms owes leads v table (ReallocNoMove name size) (Placed addr) w table
      unmoved name size p addr there valid alone aligns =
          let said = reply addr in
          let (u, owns, holds, its) = owned_live at.are_named name p there in
          LeadsOn-alone (ReallocatesWithoutMove v.state.machine (address p) size said) (ReallocNoMove name size) (Placed addr) (named_in table) alone (λ step same. (
            (
              refl,
              with_state (without_source (run_of v table)) w.state.machine,
              (
                u,
                owns,
                subst (IsLayout size) (sym its) valid,
                w.state.machine,
                subst (λ a. ReallocatesWithoutMove v.state.machine a size said w.state.machine) (sym holds.1) step,
                refl,
              ),
              refl,
              refl,
            ),
            made-unmoved (address p) size said (address p, refl) step same,
            AreNamed-kept at.are_named w.state.machine
                (λ a align live. align_at-live w.state.machine a align (ap (λ f. f a) aligns ∙ live_in a align live)),
          ))

      -- the bytes of a payload were written
      pub filled : (op : Op) (addr : ℕ) (bytes : List ℕ) → IsDoneBy op Done (fill addr bytes ∷ [])
          → ((m : State) → Fills v.state.machine addr bytes m
          → DoesFlex fllen sllen (terms v.source) (run_of v table) op Done [] (with_run (run_of v table) (with_state (without_source (run_of v table)) m)))
          → StepsAlone fllen sllen terms owes v w (Fills v.state.machine addr bytes) → LeadsOn fllen sllen terms owes leads v table op Done w table
      filled op addr bytes is_done does alone = LeadsOn-alone (Fills v.state.machine addr bytes) op Done (named_in table) alone (λ step same. (
        does w.state.machine step,
        made-fill addr bytes is_done step same,
        AreNamed-filled at.are_named fllen sllen (range_of v.memory) w.state.machine addr bytes at.stands.well_formed.machine step,
      ))
