-- What an allocation and a reallocation that may ask a source, and a trim, leave of the named payloads.
use Rattle.std.proofs.Common.{◌≡◌, ℕ, nat_eq, Option, Some, None, Result, Ok, Err, IsOk, OnOk, true≢false, List, refl, sym, ◌∙◌, ap, subst, inl, inr}
use Rattle.std.specs.HashMap.{get}
use Rattle.std.specs.declared.num.NonZeroUsize.{NonZeroUsize}
use Rattle.std.specs.Int.NonZero.{non_zero_usize_get}
use Rattle.rlsf_base.specs.Addr.{reply}
use Rattle.rlsf_base.specs.declared.memory.layout.Layout.{Layout}
use Rattle.rlsf_base.specs.declared.memory.range.Range.{Range}
use Rattle.rlsf_base.specs.Layout.{IsLayout}
use Rattle.rlsf_base.specs.Space.{range_of}
use Rattle.rlsf_flex.specs.StandsFor.{FlexContents, FlexSteps}
use Rattle.rlsf_trace_flex_runs.specs.Steps.Names.{IsFlexAt, LeadsOn, named_in, one_call}
use Rattle.rlsf_model.specs.Allocate.{Allocates}
use Rattle.rlsf_model.specs.FlexAllocate.{Asks, FlexAllocates}
use Rattle.rlsf_model.specs.FlexReallocate.{FlexReallocates}
use Rattle.rlsf_model.specs.FlexState.{FlexState}
use Rattle.rlsf_model.specs.Growth.{Outcome}
use Rattle.rlsf_model.specs.Note.{Note}
use Rattle.rlsf_model.specs.Reallocate.{MovesAway, Reallocates}
use Rattle.rlsf_model.specs.Run.{allocate, reallocate, trim}
use Rattle.rlsf_model.specs.State.{IsLive}
use Rattle.rlsf_model.specs.Terms.{Terms}
use Rattle.rlsf_model.specs.Trim.{Trims}
use Rattle.rlsf_model.specs.WellFormed.{IsWellFormed}
use Rattle.rlsf_model.proofs.Changes.{Holds-unique}
use Rattle.rlsf_model.proofs.Growths.{Holds-same, used-taken}
use Rattle.rlsf_model.proofs.Trims.{used-trimmed}
use Rattle.rlsf_trace_runs.specs.declared.names.Payload.{Payload}
use Rattle.rlsf_trace_runs.specs.Names.{address, AreNamed, NameTable}
use Rattle.rlsf_trace_runs.specs.Runs.{with_name}
use Rattle.rlsf_trace_runs.proofs.Named.{AreNamed-allocated, AreNamed-kept, AreNamed-moved, AreNamed-reallocated, IsSetAt, owned_live, unnamed}
use Rattle.rlsf_trace_text.specs.declared.op.Answer.TheVariants.{Placed, Trimmed}
use Rattle.rlsf_trace_text.specs.declared.op.Op.TheVariants.{Alloc, Realloc, Trim}
use Rattle.rlsf_trace_flex_runs.proofs.NamedPayloads.{LeadsOn-named}

-- what a call ensures if it succeeds
pub of_ok : {X E P : Type 0} (r : Result X E) → IsOk r → OnOk r P → P
of_ok (Ok x) went p = p
of_ok (Err x) went p = absurd (true≢false (sym went))

module _ {fllen sllen : ℕ} {terms : Terms} {s : FlexState} {table : NameTable} {named : ℕ → Option ℕ} (are : AreNamed s.machine table named) where
  -- where the source was asked, whatever came
  AreNamed-asked : {size align : ℕ} {outcome : Outcome} {notes : List Note} {u : FlexState} → Asks fllen sllen terms s size align outcome notes u
      → AreNamed u.machine table named
  AreNamed-asked {outcome = outcome} {u = u} asks =
      AreNamed-kept are u.machine
      (λ addr align (block, holds, is). (block, Holds-same s.machine u.machine addr block (used-taken fllen terms s u outcome asks.extends.after) holds, is))

  -- after an allocation to a well-formed state
  AreNamed-flex_allocated : (memory : Range) {notes : List Note} {u : FlexState} {new : NameTable} (name size align addr : ℕ) (p : Payload)
      → IsWellFormed fllen sllen memory u.machine
      → FlexAllocates fllen sllen terms s size align (Some addr) notes u → address p ≡ addr → p.align ≡ align → IsSetAt name (Some p) table new
      → AreNamed u.machine new (with_name name (Some addr) named)
  AreNamed-flex_allocated memory {u = u} name size align addr p whole (inl room) =
      AreNamed-allocated are fllen sllen memory u.machine name size align addr p whole
      (subst (λ x. Allocates sllen s.machine size align (Some addr) x.machine) (sym room.after) room.allocates)
  AreNamed-flex_allocated memory {u = u} name size align addr p whole (inr more) =
      AreNamed-allocated (AreNamed-asked more.asks) fllen sllen memory u.machine name size align addr p whole
      (subst (λ x. Allocates sllen more.meanwhile.machine size align (Some addr) x.machine) (sym more.after) more.allocates)

  -- after a reallocation of a name's payload, between well-formed states
  AreNamed-flex_reallocated : (before after : Range) {notes : List Note} {u : FlexState} {new : NameTable} (name size addr to : ℕ) (p : Payload)
      → IsWellFormed fllen sllen before s.machine → IsWellFormed fllen sllen after u.machine → named name ≡ Some addr → IsLive s.machine addr p.align
      → FlexReallocates fllen sllen terms s addr size (Some to) notes u → address p ≡ to → IsSetAt name (Some p) table new
      → AreNamed u.machine new (with_name name (Some to) named)
  AreNamed-flex_reallocated before after {u = u} name size addr to p whole_before whole_after its live (inl room) p_addr =
      AreNamed-reallocated are fllen sllen before u.machine name size addr to p whole_before its live
      (subst (λ x. Reallocates sllen s.machine addr size (Some to) x.machine) (sym room.after) room.reallocates) p_addr
  AreNamed-flex_reallocated before after {u = u} name size addr to p whole_before whole_after its (owner, holds, aligned) (inr more) p_addr =
      let (is_used, at) = more.holds in
      let same = Holds-unique whole_before addr more.block owner more.holds holds in
      let there = Holds-same s.machine more.meanwhile.machine addr more.block (used-taken fllen terms s more.meanwhile more.outcome more.asks.extends.after) more.holds in
      AreNamed-moved (AreNamed-asked more.asks) fllen sllen after u.machine name size to more.block p whole_after there.0 (its ∙ ap Some (sym at))
      (subst (λ x. MovesAway sllen more.meanwhile.machine more.block size to x.machine) (sym more.after) more.moves)
      (λ is. more.elsewhere (is ∙ at)) p_addr (sym (ap (λ x. x.align) same ∙ aligned))

module _ {S : Type 0} {fllen sllen : ℕ} {terms : S → Terms} {owes : S → List Range → Type 0} {leads : S → Note → S → Type 0} {v w : FlexContents S}
    {table : NameTable} (at : IsFlexAt fllen sllen terms owes v table) where
  -- an allocation was made and named
  pub allocated : {new : NameTable} (name : ℕ) (layout : Layout) (addr : NonZeroUsize) (p : Payload) → get nat_eq table name ≡ None → address p ≡ non_zero_usize_get addr
      → p.align ≡ layout.align
      → FlexSteps fllen sllen terms owes leads v w (FlexAllocates fllen sllen (terms v.source) v.state layout.size layout.align (Some (non_zero_usize_get addr)))
      → IsSetAt name (Some p) table new
      → LeadsOn fllen sllen terms owes leads v table (Alloc name layout) (Placed (Some addr)) w new
  unfolding FlexSteps
  allocated name layout addr p free p_addr p_align (notes, step, leads_by, answers, outside, stands, spare) added =
      let to = non_zero_usize_get addr in
      LeadsOn-named (Alloc name layout) (Placed (Some addr)) notes (with_name name (Some to) (named_in table)) (unnamed at.are_named name free, w.state, step, refl)
      (one_call (allocate layout.size layout.align (Some to)) refl (record { may = layout.valid.aligned; answers = answers; leads = step })) leads_by outside stands
      (AreNamed-flex_allocated at.are_named (range_of w.memory) name layout.size layout.align to p stands.well_formed.machine step p_addr p_align added)

  -- an allocation was refused
  pub not_allocated : (name : ℕ) (layout : Layout) (addr : Option NonZeroUsize) → addr ≡ None → get nat_eq table name ≡ None
      → FlexSteps fllen sllen terms owes leads v w (FlexAllocates fllen sllen (terms v.source) v.state layout.size layout.align (reply addr))
      → LeadsOn fllen sllen terms owes leads v table (Alloc name layout) (Placed addr) w table
  unfolding FlexSteps
  not_allocated name layout (Some addr) some free steps = absurd (cc)
  not_allocated name layout None none free (notes, step, leads_by, answers, outside, stands, spare) =
      LeadsOn-named (Alloc name layout) (Placed None) notes (named_in table) (unnamed at.are_named name free, w.state, step, refl)
      (one_call (allocate layout.size layout.align None) refl (record { may = layout.valid.aligned; answers = answers; leads = step })) leads_by outside stands
      (AreNamed-asked at.are_named step)

  -- the payload of a name has another size
  pub reallocated : {new : NameTable} {n : ℕ} (name size : ℕ) (old p : Payload) (addr : NonZeroUsize) → n ≡ size → get nat_eq table name ≡ Some old
      → IsLayout size old.align → address p ≡ non_zero_usize_get addr → p.align ≡ old.align
      → FlexSteps fllen sllen terms owes leads v w (FlexReallocates fllen sllen (terms v.source) v.state (address old) n (Some (non_zero_usize_get addr)))
      → IsSetAt name (Some p) table new
      → LeadsOn fllen sllen terms owes leads v table (Realloc name size) (Placed (Some addr)) w new
  unfolding FlexSteps
  reallocated name size old p addr same there valid p_addr p_align (notes, did, leads_by, answers, outside, stands, spare) added =
      let to = non_zero_usize_get addr in
      let step = subst (λ k. FlexReallocates fllen sllen (terms v.source) v.state (address old) k (Some to) notes w.state) same did in
      let (u, owns, holds, aligned) = owned_live at.are_named name old there in
      let live = subst (IsLive v.state.machine (address old)) (sym p_align) (at.are_named.live name old there) in
      let moved = subst (λ a. FlexReallocates fllen sllen (terms v.source) v.state a size (Some to) notes w.state) (sym holds.1) step in
      LeadsOn-named (Realloc name size) (Placed (Some addr)) notes (with_name name (Some to) (named_in table))
      (u, owns, subst (IsLayout size) (sym aligned) valid, w.state, moved, refl)
      (one_call (reallocate (address old) size (Some to)) (address old, refl) (record { may = (u, holds); answers = answers; leads = step })) leads_by outside stands
      (AreNamed-flex_reallocated at.are_named (range_of v.memory) (range_of w.memory) name size (address old) to p at.stands.well_formed.machine stands.well_formed.machine
      (owns.1 ∙ ap Some holds.1) live step p_addr added)

  -- a reallocation was refused
  pub not_reallocated : {n : ℕ} (name size : ℕ) (old : Payload) (addr : Option NonZeroUsize) → n ≡ size → get nat_eq table name ≡ Some old → IsLayout size old.align
      → addr ≡ None
      → FlexSteps fllen sllen terms owes leads v w (FlexReallocates fllen sllen (terms v.source) v.state (address old) n (reply addr))
      → LeadsOn fllen sllen terms owes leads v table (Realloc name size) (Placed addr) w table
  unfolding FlexSteps
  not_reallocated name size old (Some addr) same there valid some steps = absurd (cc)
  not_reallocated name size old None same there valid none (notes, did, leads_by, answers, outside, stands, spare) =
      let step = subst (λ k. FlexReallocates fllen sllen (terms v.source) v.state (address old) k None notes w.state) same did in
      let (u, owns, holds, aligned) = owned_live at.are_named name old there in
      let refused = subst (λ a. FlexReallocates fllen sllen (terms v.source) v.state a size None notes w.state) (sym holds.1) step in
      LeadsOn-named (Realloc name size) (Placed None) notes (named_in table) (u, owns, subst (IsLayout size) (sym aligned) valid, w.state, refused, refl)
      (one_call (reallocate (address old) size None) (address old, refl) (record { may = (u, holds); answers = answers; leads = step })) leads_by outside stands
      (AreNamed-asked at.are_named step.asks)

  -- ranges may have gone back, and no payload with them
  pub trimmed : (count : ℕ) → FlexSteps fllen sllen terms owes leads v w (Trims (terms v.source) v.state count)
      → LeadsOn fllen sllen terms owes leads v table Trim (Trimmed count) w table
  unfolding FlexSteps
  trimmed count (notes, step, leads_by, answers, outside, stands, spare) =
      LeadsOn-named Trim (Trimmed count) notes (named_in table) (w.state, step, refl)
      (one_call (trim count) refl (record { may = tt; answers = answers; leads = step })) leads_by outside stands
      (AreNamed-kept at.are_named w.state.machine
      (λ addr align (block, holds, is).
      (block, Holds-same v.state.machine w.state.machine addr block (used-trimmed (terms v.source) v.state w.state count notes step) holds, is)))
