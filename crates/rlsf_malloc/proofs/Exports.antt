-- The exports of a kind of heaps: the proof of each, by the template of its shape, from its code and that of what it calls.
use Rattle.std.proofs.Common.{◌≡◌, ◌%◌, ℕ, refl, w64}
use mathlib.Core.List.{List, [], ◌∷◌}
use contract.Running.{Running, tables}
use denote.Builtin.{unit, usize}
use denote.Laws.{Is}
use denote.Memory.{lone}
use denote.Param.{bounded, number, param}
use denote.Param.Laws.{Laws, param_laws}
use denote.RattleType.{RattleType}
use denote.Triple.Clauses.{Clauses, Ended, closing}
use denote.Triple.Spec.{Meets}
use mir.Syntax.{Args, Callee, Dict, Fn, Ty, a_number, a_type, dcons, dnil}
use mir.Val.{Fits, Val}
use prog.Model.{Model}
use prog.Wired.{Wired}
use prog.Wp.{Closed}
use seplogic.Ra.Ura.{Ura}
use types.Logic.{Logic}
use Rattle.core.proofs.cell.Inside.{Good}
use Rattle.rlsf_base.specs.Range.{range_at}
use Rattle.rlsf_base.specs.contracts.memory.open_memory.OpenMemory.{the_row as memory}
use Rattle.rlsf_base.specs.contracts.memory.block.RawParts.{the_row as parts_row}
use Rattle.rlsf_base.proofs.memory.open_memory.OpenMemory.over_addresses.Symbol as from_raw_parts
use Rattle.rlsf_base.proofs.memory.open_memory.OpenMemory.over_addresses.Met.{met as from_raw_parts_met}
use Rattle.rlsf_base.proofs.memory.block.RawParts.release_lent.Symbol as release
use Rattle.rlsf_base.proofs.memory.block.RawParts.release_lent.Met.{met as release_met}
use Rattle.rlsf_blocks.specs.Blocks.{walked}
use Rattle.rlsf_blocks.specs.contracts.totals.Totals as totals_type
use Rattle.rlsf_blocks.proofs.totals.Totals.TheLaws as totals_laws
use Rattle.rlsf_int.specs.contracts.int.BitPattern.TheBound
use Rattle.rlsf_int.specs.declared.int.BitPattern.{Ghosts}
use Rattle.rlsf_model.specs.ChunkRows.{IsRow}
use Rattle.rlsf_model.specs.Sized.{live_count}
use Rattle.rlsf_blocks.specs.Consistency.Consistent.{ArePoolsLegible}
use Rattle.rlsf_heap.specs.Heap.{HeapView}
use Rattle.rlsf_heap.specs.Words.{WordsView}
use Rattle.rlsf_heap.specs.contracts.thin.ThinPayload as payload
use Rattle.rlsf_heap.proofs.heap.Heap.TheLaws as heap_laws
use Rattle.rlsf_heap.specs.contracts.loan.Loan as loan
use Rattle.rlsf_heap.proofs.loan.Loan.TheLaws as loan_laws
use Rattle.rlsf_heap.proofs.loan.Loan.from_raw.Symbol as loan_from_raw
use Rattle.rlsf_heap.proofs.loan.Loan.from_raw.Met.{met as loan_from_raw_met}
use Rattle.rlsf_malloc_calls.specs.contracts.replies.Lending as lending
use Rattle.rlsf_malloc_calls.proofs.replies.Lending.TheLaws as lending_laws
use Rattle.rlsf_malloc_calls.proofs.replies.Lending.into_raw.Symbol as lending_into_raw
use Rattle.rlsf_malloc_calls.proofs.replies.Lending.into_raw.Met.{met as lending_into_raw_met}
use Rattle.rlsf_heap.proofs.thin.ThinPayload.TheLaws as payload_laws
use Rattle.rlsf_heap.proofs.thin.ThinPayload.from_raw.Symbol as from_raw
use Rattle.rlsf_heap.proofs.thin.ThinPayload.from_raw.Met.{met as from_raw_met}
use Rattle.rlsf_heap.proofs.thin.ThinPayload.into_raw.Symbol as into_raw
use Rattle.rlsf_heap.proofs.thin.ThinPayload.into_raw.Met.{met as into_raw_met}
use Rattle.rlsf_malloc_calls.specs.Blocks.{AreTotals, IsAny, IsCheckOf, IsListing}
use Rattle.rlsf_malloc_calls.specs.Calls.{AllocatesPayload, AllocatesZeroed, IsFreshHeap, IsOver, IsReady, OwnsLent, aligned_for}
use Rattle.rlsf_malloc_calls.specs.contracts.replies.Reply as reply
use Rattle.rlsf_malloc_calls.proofs.replies.Reply.TheLaws as reply_laws
use Rattle.rlsf_malloc_calls.proofs.replies.Reply.into_raw.Symbol as reply_into_raw
use Rattle.rlsf_malloc_calls.proofs.replies.Reply.into_raw.Met.{met as reply_into_raw_met}
use Rattle.rlsf_malloc.proofs.HeapKinds.{Kind, row}
use Rattle.rlsf_malloc_calls.proofs.Outcomes.{fresh}
use Rattle.rlsf_malloc.proofs.Payloads as does
use Rattle.rlsf_malloc.proofs.Payloads.{loans, payloads}
use Rattle.rlsf_malloc.proofs.Templates.Begins
use Rattle.rlsf_malloc.proofs.Templates.Checks
use Rattle.rlsf_malloc.proofs.Templates.Ends
use Rattle.rlsf_malloc.proofs.Templates.Gives
use Rattle.rlsf_malloc.proofs.Templates.Lends2
use Rattle.rlsf_malloc.proofs.Templates.Lists
use Rattle.rlsf_malloc.proofs.Templates.Signatures.{exported}
use Rattle.rlsf_malloc.proofs.Templates.Takes
use Rattle.rlsf_malloc.proofs.Templates.Trades
use Rattle.rlsf_malloc_calls.proofs.calls.add.Symbol as add
use Rattle.rlsf_malloc_calls.proofs.calls.add.Met.{met as add_met}
use Rattle.rlsf_malloc_calls.proofs.calls.append.Symbol as append
use Rattle.rlsf_malloc_calls.proofs.calls.append.Met.{met as append_met}
use Rattle.rlsf_malloc_calls.proofs.calls.malloc.Symbol as malloc
use Rattle.rlsf_malloc_calls.proofs.calls.malloc.Met.{met as malloc_met}
use Rattle.rlsf_malloc_calls.proofs.calls.allocate.Symbol as allocate
use Rattle.rlsf_malloc_calls.proofs.calls.allocate.Met.{met as allocate_met}
use Rattle.rlsf_malloc_calls.proofs.calls.allocate_zeroed.Symbol as allocate_zeroed
use Rattle.rlsf_malloc_calls.proofs.calls.allocate_zeroed.Met.{met as allocate_zeroed_met}
use Rattle.rlsf_malloc_calls.proofs.calls.free.Symbol as free
use Rattle.rlsf_malloc_calls.proofs.calls.free.Met.{met as free_met}
use Rattle.rlsf_malloc_calls.proofs.calls.usable.Symbol as usable
use Rattle.rlsf_malloc_calls.proofs.calls.usable.Met.{met as usable_met}
use Rattle.rlsf_malloc_calls.proofs.resizing.resize_any.Symbol as resize_any
use Rattle.rlsf_malloc_calls.proofs.resizing.resize_any.Met.{met as resize_any_met}
use Rattle.rlsf_malloc_calls.proofs.resizing.resize_aligned.Symbol as resize_aligned
use Rattle.rlsf_malloc_calls.proofs.resizing.resize_aligned.Met.{met as resize_aligned_met}
use Rattle.rlsf_malloc_calls.proofs.resizing.resize_in_place.Symbol as resize_in_place
use Rattle.rlsf_malloc_calls.proofs.resizing.resize_in_place.Met.{met as resize_in_place_met}
use Rattle.rlsf_malloc_calls.proofs.pools.totals_in.Symbol as totals_in
use Rattle.rlsf_malloc_calls.proofs.pools.totals_in.Met.{met as totals_in_met}
use Rattle.rlsf_malloc_calls.proofs.pools.list_in.Symbol as list_in
use Rattle.rlsf_malloc_calls.proofs.pools.list_in.Met.{met as list_in_met}
use Rattle.rlsf_malloc_calls.proofs.pools.check_in.Symbol as check_in
use Rattle.rlsf_malloc_calls.proofs.pools.check_in.Met.{met as check_in_met}
use Rattle.rlsf_malloc_calls.proofs.pools.remove_in.Symbol as remove_in
use Rattle.rlsf_malloc_calls.proofs.pools.remove_in.Met.{met as remove_in_met}
use Rattle.rlsf_malloc_calls.proofs.calls.over.Symbol as over
use Rattle.rlsf_malloc_calls.proofs.calls.over.Met.{met as over_met}
use Rattle.rlsf_malloc_calls.proofs.calls.parts.Symbol as parts
use Rattle.rlsf_malloc_calls.proofs.calls.parts.Met.{met as parts_met}

module _ (K : Kind) {M : Type 1} (𝓤 : Ura M) (𝓛 : Logic 𝓤) (𝓜 : Model 𝓤 𝓛.H) (𝓡 : Running 𝓤 𝓛.H 𝓜) where
  -- the type arguments of the generic calls, and what these meet at them
  abbrev args : Args
  args = bounded (a_type ∷ a_type ∷ a_number ∷ a_number ∷ []) (K.B, (K.B, (number K.rows, (number K.classes, tt)))) (dcons K.dict (dcons K.dict dnil))

  abbrev at_kind : {X : (F S : RattleType) (N N' : ℕ) → Ghosts F.Denot → Dict → Ghosts S.Denot → Dict → Type 1}
      → ((F S : RattleType) (N N' : ℕ) → Laws F → Laws S → Fits w64 N → Fits w64 N' → (gF : Ghosts F.Denot) (dF : Dict) (gS : Ghosts S.Denot) (dS : Dict)
      → TheBound.Met 𝓛 𝓜 𝓡 𝓡.env F gF dF → TheBound.Met 𝓛 𝓜 𝓡 𝓡.env S gS dS → X F S N N' gF dF gS dS)
      → X K.B K.B K.rows K.classes K.ghosts K.dict K.ghosts K.dict
  at_kind met = met K.B K.B K.rows K.classes K.laws K.laws K.rows_fit K.classes_fit K.ghosts K.dict K.ghosts K.dict (K.met M 𝓤 𝓛 𝓜 𝓡) (K.met M 𝓤 𝓛 𝓜 𝓡)

  -- an export of this code meets its contract
  abbrev Proved : (E : Ended) → Clauses 𝓤 E → Callee → Fn → Type 2
  Proved E c key code =
      Closed 𝓤 𝓛.H (tables 𝓤 𝓛.H 𝓜 𝓡 𝓡.env).C (tables 𝓤 𝓛.H 𝓜 𝓡 𝓡.env).Λ key code → Meets 𝓛 E.signature (𝓡.run (𝓡.env key)) (closing 𝓛 E c)

  row_laws : Laws (row K)
  row_laws = heap_laws.the_row_laws (param 0 K.B) (param 1 K.B) (param 2 (number K.rows)) (param 3 (number K.classes)) K.ghosts K.ghosts
      (param_laws 0 K.B K.laws) (param_laws 1 K.B K.laws) refl refl

  -- the types of a payload and of a reply in the code, which each value of them has
  abbrev Payload : Ty
  Payload = lone payload.the_row.mir

  abbrev Reply : Ty
  Reply = lone reply.the_row.mir

  abbrev Loan : Ty
  Loan = lone loan.the_row.mir

  abbrev Lending : Ty
  Lending = lone lending.the_row.mir

  loan_typed : (q : loan.the_row.Denot) (v : Val) → Is loan.the_row q (v ∷ []) → Good Loan v
  loan_typed q v is = ((loan_laws.the_row_laws.lawful 𝓛).typed q _ is).0

  lending_typed : (q : lending.the_row.Denot) (v : Val) → Is lending.the_row q (v ∷ []) → Good Lending v
  lending_typed q v is = ((lending_laws.the_row_laws.lawful 𝓛).typed q _ is).0

  payload_typed : (q : payload.the_row.Denot) (v : Val) → Is payload.the_row q (v ∷ []) → Good Payload v
  payload_typed q v is = ((payload_laws.the_row_laws.lawful 𝓛).typed q _ is).0

  reply_typed : (q : reply.the_row.Denot) (v : Val) → Is reply.the_row q (v ∷ []) → Good Reply v
  reply_typed q v is = ((reply_laws.the_row_laws.lawful 𝓛).typed q _ is).0

  pub begins : Wired 𝓡.env from_raw_parts.code → Wired 𝓡.env over.code → (key : Callee)
      → Proved Begins.exported (Begins.outer K IsOver IsFreshHeap 𝓛) key (Begins.function (lone (row K).mir) (lone memory.mir) (over.name args))
  begins has_from_raw_parts has_over key code = Begins.exports K IsOver IsFreshHeap fresh 𝓤 𝓛 𝓜 𝓡 key (over.name args)
      (λ v w is. ((row_laws.lawful 𝓛).typed v _ is).0) code (from_raw_parts_met 𝓤 𝓛 𝓜 𝓡 has_from_raw_parts) (at_kind (over_met 𝓤 𝓛 𝓜 𝓡 has_over))

  abbrev IsEmpty : HeapView → Type 0
  IsEmpty v = (live_count v.state ≡ 0) × (v.identity.home.start % 8 ≡ 0)

  abbrev CanEnd : HeapView → Type 0
  CanEnd v = IsReady v × (live_count v.state ≡ 0) × (v.identity.home.start % 8 ≡ 0)

  pub ends : Wired 𝓡.env parts.code → Wired 𝓡.env release.code → (key : Callee)
      → Proved Ends.exported (Ends.outer K IsReady IsEmpty CanEnd (λ v. v.identity.home) (λ v. v.memory.out) OwnsLent 𝓛) key
      (Ends.function (lone (row K).mir) (lone parts_row.mir) (parts.name args))
  ends has_parts has_release key code = Ends.exports K IsReady IsEmpty CanEnd (λ v. v.identity.home) (λ v. v.memory.out) OwnsLent
      (λ v ready known. (ready, known.0, known.1)) 𝓤 𝓛 𝓜 𝓡
      key (parts.name args) (λ v w is. ((row_laws.lawful 𝓛).typed v _ is).0) code (at_kind (parts_met 𝓤 𝓛 𝓜 𝓡 has_parts)) (release_met 𝓤 𝓛 𝓜 𝓡 has_release)

  pub mallocs : Wired 𝓡.env malloc.code → Wired 𝓡.env into_raw.code → (σ τ : Ty) (key : Callee)
      → Proved (exported 1 usize) (Gives.outer 1 K (λ v ns p w. AllocatesPayload K.classes v ns.0 16 p w) 𝓛) key
      (Gives.function 1 σ τ Payload (malloc.name args) into_raw.name)
  mallocs calls passes σ τ key code = Gives.exports1 K (λ v ns p w. AllocatesPayload K.classes v ns.0 16 p w) 𝓤 𝓛 𝓜 𝓡 σ τ
      key (malloc.name args) into_raw.name code (at_kind (malloc_met 𝓤 𝓛 𝓜 𝓡 calls)) (into_raw_met 𝓤 𝓛 𝓜 𝓡 passes)

  pub allocates : Wired 𝓡.env allocate.code → Wired 𝓡.env into_raw.code → (σ τ : Ty) (key : Callee)
      → Proved (exported 2 usize) (Gives.outer 2 K (λ v ns p w. AllocatesPayload K.classes v ns.0 (aligned_for ns.1.0) p w) 𝓛) key
      (Gives.function 2 σ τ Payload (allocate.name args) into_raw.name)
  allocates calls passes σ τ key code = Gives.exports2 K (λ v ns p w. AllocatesPayload K.classes v ns.0 (aligned_for ns.1.0) p w) 𝓤 𝓛 𝓜 𝓡 σ τ
      key (allocate.name args) into_raw.name code (at_kind (allocate_met 𝓤 𝓛 𝓜 𝓡 calls)) (into_raw_met 𝓤 𝓛 𝓜 𝓡 passes)

  pub allocates_zeroed : Wired 𝓡.env allocate_zeroed.code → Wired 𝓡.env into_raw.code → (σ τ : Ty) (key : Callee)
      → Proved (exported 2 usize) (Gives.outer 2 K (λ v ns p w. AllocatesZeroed K.classes v ns.0 ns.1.0 p w) 𝓛) key
      (Gives.function 2 σ τ Payload (allocate_zeroed.name args) into_raw.name)
  allocates_zeroed calls passes σ τ key code = Gives.exports2 K (λ v ns p w. AllocatesZeroed K.classes v ns.0 ns.1.0 p w) 𝓤 𝓛 𝓜 𝓡 σ τ
      key (allocate_zeroed.name args) into_raw.name code (at_kind (allocate_zeroed_met 𝓤 𝓛 𝓜 𝓡 calls)) (into_raw_met 𝓤 𝓛 𝓜 𝓡 passes)

  pub frees : Wired 𝓡.env from_raw.code → Wired 𝓡.env free.code → (σ τ : Ty) (key : Callee)
      → Proved (exported 1 unit) (Takes.outer K payloads (does.frees K) 𝓛) key (Takes.function σ τ Payload from_raw.name (free.name args))
  frees takes calls σ τ key code = Takes.exports K payloads (does.frees K) 𝓤 𝓛 𝓜 𝓡 σ τ Payload key from_raw.name (free.name args) payload_typed code
      (from_raw_met 𝓤 𝓛 𝓜 𝓡 takes) (at_kind (free_met 𝓤 𝓛 𝓜 𝓡 calls))

  pub measures : Wired 𝓡.env from_raw.code → Wired 𝓡.env usable.code → Wired 𝓡.env reply_into_raw.code → (σ τ : Ty) (key : Callee)
      → Proved (exported 1 usize) (Trades.outer 0 K payloads (does.measures K) 𝓛) key
      (Trades.function 0 σ τ Payload Reply from_raw.name (usable.name args) reply_into_raw.name)
  measures takes calls passes σ τ key code = Trades.exports0 K payloads (does.measures K) 𝓤 𝓛 𝓜 𝓡 σ τ Payload Reply
      key from_raw.name (usable.name args) reply_into_raw.name payload_typed reply_typed code
      (from_raw_met 𝓤 𝓛 𝓜 𝓡 takes) (at_kind (usable_met 𝓤 𝓛 𝓜 𝓡 calls)) (reply_into_raw_met 𝓤 𝓛 𝓜 𝓡 passes)

  pub reallocates : Wired 𝓡.env from_raw.code → Wired 𝓡.env resize_any.code → Wired 𝓡.env reply_into_raw.code → (σ τ : Ty) (key : Callee)
      → Proved (exported 2 usize) (Trades.outer 1 K payloads (does.reallocates K) 𝓛) key
      (Trades.function 1 σ τ Payload Reply from_raw.name (resize_any.name args) reply_into_raw.name)
  reallocates takes calls passes σ τ key code = Trades.exports1 K payloads (does.reallocates K) 𝓤 𝓛 𝓜 𝓡 σ τ Payload Reply
      key from_raw.name (resize_any.name args) reply_into_raw.name payload_typed reply_typed code
      (from_raw_met 𝓤 𝓛 𝓜 𝓡 takes) (at_kind (resize_any_met 𝓤 𝓛 𝓜 𝓡 calls)) (reply_into_raw_met 𝓤 𝓛 𝓜 𝓡 passes)

  pub reallocates_in_place : Wired 𝓡.env from_raw.code → Wired 𝓡.env resize_in_place.code → Wired 𝓡.env reply_into_raw.code → (σ τ : Ty) (key : Callee)
      → Proved (exported 2 usize) (Trades.outer 1 K payloads (does.reallocates_in_place K) 𝓛) key
      (Trades.function 1 σ τ Payload Reply from_raw.name (resize_in_place.name args) reply_into_raw.name)
  reallocates_in_place takes calls passes σ τ key code = Trades.exports1 K payloads (does.reallocates_in_place K) 𝓤 𝓛 𝓜 𝓡 σ τ Payload Reply
      key from_raw.name (resize_in_place.name args) reply_into_raw.name payload_typed reply_typed code
      (from_raw_met 𝓤 𝓛 𝓜 𝓡 takes) (at_kind (resize_in_place_met 𝓤 𝓛 𝓜 𝓡 calls)) (reply_into_raw_met 𝓤 𝓛 𝓜 𝓡 passes)

  pub reallocates_aligned : Wired 𝓡.env from_raw.code → Wired 𝓡.env resize_aligned.code → Wired 𝓡.env reply_into_raw.code → (σ τ : Ty) (key : Callee)
      → Proved (exported 3 usize) (Trades.outer 2 K payloads (does.reallocates_aligned K) 𝓛) key
      (Trades.function 2 σ τ Payload Reply from_raw.name (resize_aligned.name args) reply_into_raw.name)
  reallocates_aligned takes calls passes σ τ key code = Trades.exports2 K payloads (does.reallocates_aligned K) 𝓤 𝓛 𝓜 𝓡 σ τ Payload Reply
      key from_raw.name (resize_aligned.name args) reply_into_raw.name payload_typed reply_typed code
      (from_raw_met 𝓤 𝓛 𝓜 𝓡 takes) (at_kind (resize_aligned_met 𝓤 𝓛 𝓜 𝓡 calls)) (reply_into_raw_met 𝓤 𝓛 𝓜 𝓡 passes)

  -- a range is complete contiguous chunks; and what is returned of one, where nothing changes
  abbrev IsRowOf : HeapView → ℕ → ℕ → Type 0
  IsRowOf v n k = IsRow v.state (walked (range_at n k))

  abbrev HasTotals : HeapView → ℕ → ℕ → totals_type.the_row.Denot → HeapView → Type 0
  HasTotals v n k r w = AreTotals v (range_at n k) r × (w ≡ v)

  abbrev CanCheck : WordsView → List ℕ → Type 0
  CanCheck v ps = ArePoolsLegible K.rows K.classes ps v.memory v.table

  abbrev IsChecked : WordsView → List ℕ → ℕ → WordsView → Type 0
  IsChecked v ps r w = IsCheckOf K.rows K.classes v ps r × (w ≡ v)

  abbrev IsListed : HeapView → ℕ → ℕ → ℕ → List ℕ → ℕ → List ℕ → HeapView → Type 0
  IsListed v n k from was r now w = IsListing v (range_at n k) from was r now × (w ≡ v)

  pub adds : Wired 𝓡.env loan_from_raw.code → Wired 𝓡.env add.code → Wired 𝓡.env lending_into_raw.code → (σ τ : Ty) (key : Callee)
      → Proved (exported 2 usize) (Trades.outer 1 K loans (does.adds K) 𝓛) key
      (Trades.function 1 σ τ Loan Lending loan_from_raw.name (add.name args) lending_into_raw.name)
  adds takes calls passes σ τ key code = Trades.exports1 K loans (does.adds K) 𝓤 𝓛 𝓜 𝓡 σ τ Loan Lending
      key loan_from_raw.name (add.name args) lending_into_raw.name loan_typed lending_typed code
      (loan_from_raw_met 𝓤 𝓛 𝓜 𝓡 takes) (at_kind (add_met 𝓤 𝓛 𝓜 𝓡 calls)) (lending_into_raw_met 𝓤 𝓛 𝓜 𝓡 passes)

  pub appends : Wired 𝓡.env loan_from_raw.code → Wired 𝓡.env append.code → Wired 𝓡.env lending_into_raw.code → (σ τ : Ty) (key : Callee)
      → Proved (exported 2 usize) (Trades.outer 1 K loans (does.appends K) 𝓛) key
      (Trades.function 1 σ τ Loan Lending loan_from_raw.name (append.name args) lending_into_raw.name)
  appends takes calls passes σ τ key code = Trades.exports1 K loans (does.appends K) 𝓤 𝓛 𝓜 𝓡 σ τ Loan Lending
      key loan_from_raw.name (append.name args) lending_into_raw.name loan_typed lending_typed code
      (loan_from_raw_met 𝓤 𝓛 𝓜 𝓡 takes) (at_kind (append_met 𝓤 𝓛 𝓜 𝓡 calls)) (lending_into_raw_met 𝓤 𝓛 𝓜 𝓡 passes)

  pub checks : Wired 𝓡.env check_in.code → (σ τ : Ty) (key : Callee)
      → Proved Checks.exported (Checks.outer K IsAny CanCheck IsChecked 𝓛) key (Checks.function σ τ (check_in.name args))
  checks calls σ τ key code = Checks.exports K IsAny CanCheck IsChecked 𝓤 𝓛 𝓜 𝓡 σ τ key (check_in.name args) code (at_kind (check_in_met 𝓤 𝓛 𝓜 𝓡 calls))

  pub removes : Wired 𝓡.env loan_from_raw.code → Wired 𝓡.env remove_in.code → Wired 𝓡.env lending_into_raw.code → (σ τ : Ty) (key : Callee)
      → Proved (exported 2 usize) (Trades.outer 1 K loans (does.removes K) 𝓛) key
      (Trades.function 1 σ τ Loan Lending loan_from_raw.name (remove_in.name args) lending_into_raw.name)
  removes takes calls passes σ τ key code = Trades.exports1 K loans (does.removes K) 𝓤 𝓛 𝓜 𝓡 σ τ Loan Lending
      key loan_from_raw.name (remove_in.name args) lending_into_raw.name loan_typed lending_typed code
      (loan_from_raw_met 𝓤 𝓛 𝓜 𝓡 takes) (at_kind (remove_in_met 𝓤 𝓛 𝓜 𝓡 calls)) (lending_into_raw_met 𝓤 𝓛 𝓜 𝓡 passes)

  pub totals : Wired 𝓡.env totals_in.code → (σ τ : Ty) (key : Callee)
      → Proved (exported 2 totals_type.the_row) (Lends2.outer K IsReady totals_type.the_row IsRowOf HasTotals 𝓛) key
      (Lends2.function σ τ (lone totals_type.the_row.mir) (totals_in.name args))
  totals calls σ τ key code = Lends2.exports K IsReady totals_type.the_row IsRowOf HasTotals 𝓤 𝓛 𝓜 𝓡 σ τ (lone totals_type.the_row.mir) key (totals_in.name args)
      (λ r v is. ((totals_laws.the_row_laws.lawful 𝓛).typed r _ is).0) code (at_kind (totals_in_met 𝓤 𝓛 𝓜 𝓡 calls))

  pub lists : Wired 𝓡.env list_in.code → (σ τ : Ty) (key : Callee)
      → Proved Lists.exported (Lists.outer K IsReady IsRowOf IsListed 𝓛) key (Lists.function σ τ (list_in.name args))
  lists calls σ τ key code = Lists.exports K IsReady IsRowOf IsListed 𝓤 𝓛 𝓜 𝓡 σ τ key (list_in.name args) code (at_kind (list_in_met 𝓤 𝓛 𝓜 𝓡 calls))
