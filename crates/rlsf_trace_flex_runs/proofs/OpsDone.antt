-- A run over a source that has done the first of its ops.
use mathlib.Core.Path.{ap₂}
use Rattle.std.proofs.Common.{◌≡◌, ℕ, ◌+◌, ◌-◌, ◌<◌, ◌≤◌, ◌++◌, length, List, [], ◌∷◌, None, slice_index_or, arith, refl, sym, ◌∙◌, ap}
use Rattle.std.proofs.Common.{subst}
use Rattle.std.proofs.Math.ListN.{drop, drop_of_length-le}
use Rattle.std.proofs.lemmas.List.{append_assoc, append-nil, at_drop_more}
use Rattle.std.specs.HashMap.{spare, IsEmpty}
use Rattle.rlsf_base.specs.declared.memory.range.Range.{Range}
use Rattle.rlsf_base.specs.Range.{range_at}
use Rattle.rlsf_base.specs.Space.{range_of}
use Rattle.rlsf_flex.specs.Outside.{KeepsOutside}
use Rattle.rlsf_flex.specs.StandsFor.{FlexContents, FlexStands}
use Rattle.rlsf_flex.proofs.Outside.{KeepsOutside-refl, KeepsOutside-then}
use Rattle.rlsf_trace_flex_runs.specs.FlexEvents.{RunsFlexByEvents}
use Rattle.rlsf_trace_flex_runs.specs.FlexRuns.{flex_beginning, DoesFlex, FlexRunState, RunsFlex}
use Rattle.rlsf_trace_flex_runs.specs.Steps.Names.{IsFlexAt, LeadsOn, MakesFlex, run_of}
use Rattle.rlsf_model.specs.FlexState.{flex_empty, FlexState}
use Rattle.rlsf_model.specs.Note.{Note, LeadsBy}
use Rattle.rlsf_model.specs.Terms.{Terms}
use Rattle.rlsf_model.proofs.Notes.{LeadsBy-append, terms-led}
use Rattle.rlsf_trace_runs.specs.Names.{AreNamed, NameTable}
use Rattle.rlsf_trace_runs.proofs.Named.{AreNamed-empty}
use Rattle.rlsf_trace_text.specs.declared.op.Answer.{Answer}
use Rattle.rlsf_trace_text.specs.declared.op.Op.{Op}
use Rattle.rlsf_trace_flex_runs.proofs.FlexEvents.{one_more}
use Rattle.rlsf_trace_flex_runs.proofs.NamedPayloads.{AreNamed-in, named-in}

-- The first ops were done, with one answer each and these notes. The notes lead from the source's first value to its value now, and
-- there is room for the other ops.
pub record IsUnderway {S : Type 0} (fllen sllen : ℕ) (terms : S → Terms) (owes : S → List Range → Type 0) (leads : S → Note → S → Type 0) (first : FlexContents S)
    (ops : List Op) (v : FlexContents S) (table : NameTable) (done : ℕ) (given : List Answer) : Type 0 where
  pub notes : List Note
  pub at : IsFlexAt fllen sllen terms owes v table
  pub runs : (more : List Answer) (others : List Note) (t : FlexRunState) → RunsFlex fllen sllen (terms first.source) (run_of v table) (drop done ops) more others t
      → RunsFlex fllen sllen (terms first.source) flex_beginning ops (given ++ more) (notes ++ others) t
  pub by_events : (more : List Answer) (others : List Note) (t : FlexState)
      → RunsFlexByEvents fllen sllen (range_of first.memory) (terms first.source) v.state (drop done ops) more others t
      → RunsFlexByEvents fllen sllen (range_of first.memory) (terms first.source) flex_empty ops (given ++ more) (notes ++ others) t
  pub leads_by : LeadsBy leads first.source notes v.source
  pub same_terms : terms v.source ≡ terms first.source
  pub outside : KeepsOutside first.memory [] notes v.memory v.state.pools
  pub room : length ops - done ≤ spare table

module _ {S : Type 0} {fllen sllen : ℕ} {terms : S → Terms} {owes : S → List Range → Type 0} {leads : S → Note → S → Type 0} {first : FlexContents S}
    {ops : List Op} where
  -- at the beginning, with an empty table
  pub IsUnderway-beginning : {table : NameTable} → FlexStands fllen sllen terms owes first → first.state ≡ flex_empty → IsEmpty table → length ops ≤ spare table
      → IsUnderway fllen sllen terms owes leads first ops first table 0 []
  unfolding FlexStands
  IsUnderway-beginning {table} stands new no_names room = record {
    notes = [];
    at = record { stands = stands; are_named = AreNamed-in no_name };
    runs = λ more others t runs. subst (λ s. RunsFlex fllen sllen (terms first.source) (record { flex = s; named = λ name. None }) ops more others t) new
        (subst (λ n. RunsFlex fllen sllen (terms first.source) (record { flex = first.state; named = n }) ops more others t) (sym (named-in no_name)) runs);
    by_events = λ more others t run. subst (λ s. RunsFlexByEvents fllen sllen (range_of first.memory) (terms first.source) s ops more others t) new run;
    leads_by = refl;
    same_terms = refl;
    outside = subst (λ pools. KeepsOutside first.memory [] [] first.memory pools) (sym (ap (λ s. s.pools) new)) (KeepsOutside-refl first.memory []);
    room = omega (arith, room);
  }
    where
      no_name : AreNamed first.state.machine table (λ name. None)
      no_name = AreNamed-empty first.state.machine no_names

  -- one op more
  pub IsUnderway-next : {v : FlexContents S} {table : NameTable} {done : ℕ} {given : List Answer} → ((x y : S) (n : Note) → leads x n y → terms y ≡ terms x)
      → (u : IsUnderway fllen sllen terms owes leads first ops v table done given) (op : Op) → ((d : Op) → op ≡ slice_index_or ops done d) → done < length ops
      → (answer : Answer) (w : FlexContents S) (new : NameTable)
      → LeadsOn fllen sllen terms owes leads v table op answer w new → ((n : ℕ) → n + 1 ≤ spare table → n ≤ spare new)
      → IsUnderway fllen sllen terms owes leads first ops w new (done + 1) (given ++ answer ∷ [])
  IsUnderway-next {v} {table} {done} {given} constant u op is below answer w new on room =
      let here = subst (λ t. DoesFlex fllen sllen t (run_of v table) op answer on.notes (run_of w new)) u.same_terms on.does in
      let makes =
      subst (λ m. MakesFlex fllen sllen m (terms first.source) v.state op answer on.notes w.state) memory
      (subst (λ t. MakesFlex fllen sllen (range_of v.memory) t v.state op answer on.notes w.state) u.same_terms on.makes) in
      record {
        notes = u.notes ++ on.notes;
        at = on.at;
        runs =
            λ more others t runs. subst (λ l. RunsFlex fllen sllen (terms first.source) flex_beginning ops l ((u.notes ++ on.notes) ++ others) t)
            (sym (append_assoc given (answer ∷ []) more))
            (subst (λ ns. RunsFlex fllen sllen (terms first.source) flex_beginning ops (given ++ answer ∷ more) ns t) (sym (append_assoc u.notes on.notes others))
            (u.runs (answer ∷ more) (on.notes ++ others) t
            (subst (λ l. RunsFlex fllen sllen (terms first.source) (run_of v table) l (answer ∷ more) (on.notes ++ others) t) (sym left_ops)
            (run_of w new, on.notes, others, refl, here, runs))));
        by_events =
            λ more others t run. subst (λ l. RunsFlexByEvents fllen sllen (range_of first.memory) (terms first.source) flex_empty ops l ((u.notes ++ on.notes) ++ others) t)
            (sym (append_assoc given (answer ∷ []) more))
            (subst (λ ns. RunsFlexByEvents fllen sllen (range_of first.memory) (terms first.source) flex_empty ops (given ++ answer ∷ more) ns t)
            (sym (append_assoc u.notes on.notes others))
            (u.by_events (answer ∷ more) (on.notes ++ others) t
            (subst (λ l. RunsFlexByEvents fllen sllen (range_of first.memory) (terms first.source) v.state l (answer ∷ more) (on.notes ++ others) t) (sym left_ops)
            (one_more makes (drop (done + 1) ops) more others t run))));
        leads_by = LeadsBy-append leads first.source v.source w.source u.notes on.notes u.leads_by on.leads_by;
        same_terms = terms-led terms leads constant v.source w.source on.notes on.leads_by ∙ u.same_terms;
        outside = KeepsOutside-then first.memory v.memory w.memory [] v.state.pools w.state.pools u.notes on.notes u.outside on.outside;
        room = room (length ops - (done + 1)) (omega (arith, below, u.room));
      }
    where
      memory : range_of v.memory ≡ range_of first.memory
      memory = ap₂ range_at u.outside.place.0 u.outside.place.1

      left_ops : drop done ops ≡ op ∷ drop (done + 1) ops
      left_ops = at_drop_more (λ l. l) ops done op below ∙ ap (λ o. o ∷ drop (done + 1) ops) (sym (is op))

  -- at the end
  pub RunsFlex-end : {v : FlexContents S} {table : NameTable} {done : ℕ} {given : List Answer} (u : IsUnderway fllen sllen terms owes leads first ops v table done given)
      → length ops ≤ done
      → RunsFlex fllen sllen (terms first.source) flex_beginning ops given u.notes (run_of v table)
  RunsFlex-end {v} {table} {given = given} u past = subst (λ l. RunsFlex fllen sllen (terms first.source) flex_beginning ops l u.notes (run_of v table)) (append-nil given)
      (subst (λ ns. RunsFlex fllen sllen (terms first.source) flex_beginning ops (given ++ []) ns (run_of v table)) (append-nil u.notes)
      (u.runs [] [] (run_of v table)
      (subst (λ l. RunsFlex fllen sllen (terms first.source) (run_of v table) l [] [] (run_of v table)) (sym (drop_of_length-le ops past)) (refl, refl))))

  -- and by the calls of the reference model
  pub RunsFlexByEvents-end : {v : FlexContents S} {table : NameTable} {done : ℕ} {given : List Answer} (u : IsUnderway fllen sllen terms owes leads first ops v table done given)
      → length ops ≤ done
      → RunsFlexByEvents fllen sllen (range_of first.memory) (terms first.source) flex_empty ops given u.notes v.state
  RunsFlexByEvents-end {v} {given = given} u past =
      subst (λ l. RunsFlexByEvents fllen sllen (range_of first.memory) (terms first.source) flex_empty ops l u.notes v.state) (append-nil given)
      (subst (λ ns. RunsFlexByEvents fllen sllen (range_of first.memory) (terms first.source) flex_empty ops (given ++ []) ns v.state) (append-nil u.notes)
      (u.by_events [] [] v.state
      (subst (λ l. RunsFlexByEvents fllen sllen (range_of first.memory) (terms first.source) v.state l [] [] v.state) (sym (drop_of_length-le ops past))
      ([], refl, refl, refl))))
