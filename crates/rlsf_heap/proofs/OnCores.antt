-- A heap after a call on its core: the state that the step leads to, and a payload that left.
use Rattle.std.proofs.Common.{◌≡◌, ℕ, ◌≤◌, Bool, false, List, length, refl, sym, ap, ◌∙◌, arith, ◌+◌, ◌-◌, true, [], ◌∷◌, subst, ◌^◌, ◌<◌, ◌++◌, None, IfNone, IfSome, Option, inl}
use Rattle.std.proofs.Common.{inr}
use Rattle.rlsf_base.specs.Ledger.{Entry, Extent, entry_of}
use Rattle.rlsf_base.specs.OpenSpace.{Home, home_of, IsOwned, out_without}
use Rattle.rlsf_model_sizes.specs.SizeClass.{IsValid}
use Rattle.rlsf_base.specs.Space.{Space, out_at}
use Rattle.rlsf_model.specs.Sized.{live_count}
use Rattle.rlsf_model.specs.State.{State, Used, usable}
use Rattle.rlsf_table.specs.Table.{Table}
use Rattle.rlsf_table.proofs.Parameters.{IsValid-widest}
use Rattle.rlsf_blocks.specs.Laws.{read_from}
use Rattle.rlsf_blocks.specs.Spare.{KeepsSpare}
use Rattle.rlsf_blocks.proofs.Words.Stays.{Stays}
use Rattle.rlsf_tlsf.specs.Allocator.{allocator}
use Rattle.rlsf_tlsf.specs.Cores.{IsCore, LeavesCore, LeavesCoreCopying, IsPayloadRange}
use Rattle.rlsf_tlsf.specs.Results.{KeepsFrameOfPools}
use Rattle.rlsf_heap.specs.Frame.{KeepsFrame, KeepsHeap, KeepsPayloads}
use Rattle.rlsf_heap.specs.Heap.{AreIssued, HeapView, Identity, IsHeapOf, OwnsRest, IsRepresented, Stands, Steps, heap_view, lent_bytes, AreAmong, IsLent, IsOutsideChunks}
use Rattle.rlsf_heap.specs.Kept.{KeepsSpareBytes, NoneBecomesRaw}
use Rattle.rlsf_heap.proofs.Kept.{is_lent_at, raw-stays, lent_kept, lent_pools, issued-same, rest_pools, settled-stays, lent_own_if, owns_unlent, stands-without, own_without}
use Rattle.rlsf_heap.proofs.LiveCounts.{live_count-same, live_fits}
use Rattle.rlsf_base.specs.declared.memory.range.Range.{Range}
use Rattle.rlsf_base.specs.Changes.{IsAllOwn}
use Rattle.rlsf_base.specs.Out.{is_own, kept_at}
use Rattle.rlsf_model.specs.Lists.{IsIn}
use Rattle.rlsf_model.specs.WellFormed.{itself, IsWellFormed}
use Rattle.rlsf_model.proofs.Coverage.{coverage-some}
use Rattle.rlsf_blocks.specs.StandsFor.{contents, StandsFor}
use Rattle.rlsf_tlsf.specs.Steps.Moves.{bare}
use Rattle.rlsf_tlsf.proofs.Arrivals.{arrived, bare-read_from}
use Rattle.rlsf_tlsf.proofs.Moved.{bare-bare}
use Rattle.std.proofs.lemmas.Option.{none-some}
use Rattle.rlsf_base.specs.Range.{range_at}
use Rattle.rlsf_model.specs.Allocate.{Places, placed}
use Rattle.rlsf_model.proofs.CallerWords.{align_at-held, bytes_at-held}
use Rattle.rlsf_heap.proofs.Tickets.{issued-more}

-- the core of a heap
pub core_of : {fl_bits sl_bits fllen sllen : ℕ} {m : Space} {x : Table} {j : State} {es : List Entry} {count : ℕ} {lent : Bool}
    → IsHeapOf fl_bits sl_bits fllen sllen m x j es count lent → fl_bits ≤ 128 → IsCore fllen sllen m x j
core_of is limit = record { valid = IsValid-widest limit is.valid; stands = is.stands; is_bare = is.is_bare }

-- what is of the heap that callers see is of this memory and this ledger
module _ {m : Space} {x : Table} {s : State} {name : ℕ} {lent : Bool} {v : HeapView}
    (view : ◌≡◌ {A = HeapView} (record { identity = record { home = home_of m; ledger = name }; memory = m; table = x; state = s; lent = lent }) v) {home : Home} {ledger : ℕ}
    (same : ◌≡◌ {A = Identity} (record { home = home; ledger = ledger }) v.identity) where
  pub of_memory : home ≡ home_of m
  of_memory = ap (λ (i : Identity). i.home) same ∙ sym (ap (λ (o : HeapView). o.identity.home) view)

  pub of_ledger : ledger ≡ name
  of_ledger = ap (λ (i : Identity). i.ledger) same ∙ sym (ap (λ (o : HeapView). o.identity.ledger) view)

-- where the memory stays, it is the same heap
pub same_identity : (m n : Space) → n.start ≡ m.start → length n.bytes ≡ length m.bytes → n.view ≡ m.view → (ledger name : ℕ) → name ≡ ledger
    → ◌≡◌ {A = Identity} (record { home = home_of n; ledger = name }) (record { home = home_of m; ledger = ledger })
same_identity m n start long view ledger name same = λ i. record { home = record { start = start i; len = long i; view = view i }; ledger = same i }

-- a payload left the memory or came back, before the call or after it
pub heap-over : (m n : Space) (x y : Table) (j k : State) → n.start ≡ m.start → length n.bytes ≡ length m.bytes → n.view ≡ m.view → m.touches ≤ n.touches
    → KeepsSpare m (read_from m j) n (read_from n k) → is_lent_at n (read_from n k) ≡ is_lent_at m (read_from m j) → (ledger name : ℕ) → name ≡ ledger → {lent : Bool}
    → KeepsHeap (heap_view m x j ledger lent) (heap_view n y k name lent)
unfolding KeepsSpareBytes lent_bytes
heap-over m n x y j k start long view grow spare bytes ledger name same = record {
  identity = same_identity m n start long view ledger name same;
  place = (start, long);
  spare = spare;
  lent = refl;
  lent_bytes = λ i a. bytes i a;
  grow = grow;
}

module _ {fllen sllen : ℕ} {m n : Space} {y : Table} {j k : State} {most copies : ℕ} (left : LeavesCoreCopying fllen sllen m n y j k most copies) where
  pub stays : Stays m n
  stays = record { start = left.costs.start; own = left.own; here = left.here }

  pub IsHeap-left : {fl_bits sl_bits : ℕ} → IsValid fl_bits sl_bits fllen sllen → (fs : List Entry) → AreIssued (read_from n k) fs
      → (now : ℕ) → now ≡ live_count (read_from n k) → {lent : Bool} → (lent ≡ false → OwnsRest n (read_from n k)) → IsHeapOf fl_bits sl_bits fllen sllen n y k fs now lent
  IsHeap-left valid fs tickets now counted rest = grind arith

  module _ (ledger : ℕ) where
    pub Steps-left : (lent : Bool) (step : State → Type 0) → step (read_from n k) → Steps fllen sllen (heap_view n y k ledger lent) step
    unfolding Steps Stands
    Steps-left lent step did = (did, left.core.stands.well_formed)

    module _ (x : Table) {lent : Bool} where
      heap-left : is_lent_at n (read_from n k) ≡ is_lent_at m (read_from m j) → KeepsHeap (heap_view m x j ledger lent) (heap_view n y k ledger lent)
      heap-left bytes = heap-over m n x y j k left.costs.start left.costs.length left.costs.view left.costs.grow left.spare bytes ledger ledger refl

-- where no byte is copied
module _ {fllen sllen : ℕ} {m n : Space} {y : Table} {j k : State} {most : ℕ} (left : LeavesCore fllen sllen m n y j k most) (ledger : ℕ) (x : Table) {lent : Bool} where
  pub frame-left : (read_from n k).chunks ≡ (read_from m j).chunks → KeepsFrame (heap_view m x j ledger lent) (heap_view n y k ledger lent)
  unfolding NoneBecomesRaw
  frame-left chunks = record {
    heap = heap-left left ledger x (lent_kept m n (read_from m j) (read_from n k) left.costs.start chunks (λ a from out again. left.own a from));
    raw = raw-stays (stays left);
    settled = settled-stays (stays left);
    chunks = chunks;
    copied = omega (arith, left.costs.copied);
  }

-- where no used block changes
module _ {fllen sllen : ℕ} {m n : Space} {x y : Table} {j k : State} {most : ℕ} (left : LeavesCore fllen sllen m n y j k most) where
  pub IsHeap-pools : {fl_bits sl_bits : ℕ} {es : List Entry} {count : ℕ} {lent : Bool} → IsHeapOf fl_bits sl_bits fllen sllen m x j es count lent
      → (read_from n k).used ≡ (read_from m j).used → IsHeapOf fl_bits sl_bits fllen sllen n y k es count lent
  IsHeap-pools {es = es} {count = count} is used =
      IsHeap-left left is.valid es (issued-same (read_from m j) (read_from n k) used is.tickets) count
      (is.counted ∙ live_count-same (read_from m j) (read_from n k) (sym used))
      (λ not_lent. rest_pools is.stands left.core.stands left.costs.start left.own used (is.rest not_lent))

  pub frame-pools : {fl_bits sl_bits : ℕ} {es : List Entry} {count : ℕ} {lent : Bool} → IsHeapOf fl_bits sl_bits fllen sllen m x j es count lent
      → (read_from n k).used ≡ (read_from m j).used → (ledger : ℕ) → KeepsFrameOfPools (allocator m x j) (allocator n y k)
      → KeepsPayloads (heap_view m x j ledger lent) (heap_view n y k ledger lent)
  unfolding NoneBecomesRaw
  frame-pools is used ledger frame = record {
    heap = heap-left left ledger x (lent_pools is.stands left.core.stands left.costs.start left.own used);
    raw = raw-stays (stays left);
    settled = settled-stays (stays left);
    aligns = frame.aligns;
    count = frame.count;
    copied = frame.copied;
  }

-- ---- the state after a call is the one that its step leads to. The bytes of payloads are read from the memory

-- where no payload is live, no block is used
no_used : (t : State) (u : Used) → live_count t ≡ 0 → IsIn u t.used → ⊥
unfolding live_count
no_used t u none i = go t.used none i
  where
    go : (us : List Used) → length us ≡ 0 → IsIn u us → ⊥
    go [] e i = i
    go (w ∷ ws) e i = omega (arith, e)

-- a represented state is well-formed
pub Stands-represented : (fllen sllen : ℕ) (v : HeapView) → IsRepresented fllen sllen v → Stands fllen sllen v
unfolding Stands IsRepresented
Stands-represented fllen sllen v is = is.well_formed

module _ {fl_bits sl_bits fllen sllen : ℕ} {m : Space} {x : Table} {s : State} {es : List Entry} {count : ℕ} {lent : Bool}
    (is : IsHeapOf fl_bits sl_bits fllen sllen m x s es count lent) where
  -- the ghost state of a heap is its state without bytes
  pub bare-kept : bare (read_from m s) ≡ s
  bare-kept = bare-read_from m s ∙ is.is_bare

  -- memory and class table represent it
  pub IsRepresented-view : {ledger : ℕ} (v : HeapView) → heap_view m x s ledger lent ≡ v → IsRepresented fllen sllen v
  unfolding IsRepresented
  IsRepresented-view v view = subst (λ (o : HeapView). StandsFor fllen sllen (contents o.memory o.table) o.state) view is.stands

  -- where no payload is live, and the bytes aren't lent in ranges, no byte is out
  pub none_inside : lent ≡ false → live_count (read_from m s) ≡ 0 → IsAllOwn m.out
  none_inside not_lent none k =
      let there : m.start ≤ k + m.start = omega arith in
      subst (λ j. is_own (kept_at m.out j) ≡ true) (let e : k + m.start - m.start ≡ k = omega arith in e)
      (owns_unlent is.stands (is.rest not_lent) (k + m.start) there (λ u i. absurd (no_used (read_from m s) u none i)))

  pub none_out : {ledger : ℕ} (v : HeapView) → heap_view m x s ledger lent ≡ v → live_count v.state ≡ 0 → v.lent ≡ false → IsAllOwn m.out
  none_out v view none not_lent = none_inside (ap (λ (o : HeapView). o.lent) view ∙ not_lent) (ap (λ (o : HeapView). live_count o.state) view ∙ none)

  -- each byte that is lent to it is the memory's own, where no payload is live
  pub lent_back : {ledger : ℕ} (v : HeapView) → heap_view m x s ledger lent ≡ v → live_count v.state ≡ 0 → (r : Range) → IsLent v r → IsOwned m r
  unfolding AreAmong lent_bytes
  lent_back {ledger} v view none r held a low high =
      let told : is_lent_at m (read_from m s) a ≡ true = subst (λ (o : HeapView). is_lent_at o.memory o.state a ≡ true) (sym view) (held a low high) in
      let dead : live_count (read_from m s) ≡ 0 = ap (λ (o : HeapView). live_count o.state) view ∙ none in
      lent_own_if m (read_from m s) a told (λ from some. let (c, i, begins, ends) = coverage-some itself s.chunks a some in
      is.stands.own a from (λ u j. absurd (no_used (read_from m s) u dead j)) c i begins ends)

-- no ticket is issued
pub issued-none : (s : State) (es : List Entry) → es ≡ [] → AreIssued s es
issued-none s es none = subst (AreIssued s) (sym none) (record { issued = λ k v is. absurd (omega (arith, is.0)); apart = λ j k v w is js at. absurd (omega (arith, is.0)) })

module _ {fllen sllen : ℕ} {n : Space} {x : Table} {t : State} (v : StandsFor fllen sllen (contents n x) t) (reached : State) (e : reached ≡ bare t) where
  stands : StandsFor fllen sllen (contents n x) (read_from n reached)
  stands = subst (StandsFor fllen sllen (contents n x)) (sym (arrived v reached e)) v

  pub IsHeap-arrived : {fl_bits sl_bits : ℕ} → IsValid fl_bits sl_bits fllen sllen → (es : List Entry) → AreIssued t es → (count : ℕ) → count ≡ live_count t
      → {lent : Bool} → (lent ≡ false → OwnsRest n t) → IsHeapOf fl_bits sl_bits fllen sllen n x reached es count lent
  IsHeap-arrived valid es tickets count counted {lent} rest = record {
    valid = valid;
    stands = stands;
    is_bare = ap bare e ∙ bare-bare t ∙ sym e;
    tickets = subst (λ (o : State). AreIssued o es) (sym (arrived v reached e)) tickets;
    counted = counted ∙ ap live_count (sym (arrived v reached e));
    rest = subst (λ (o : State). lent ≡ false → OwnsRest n o) (sym (arrived v reached e)) rest;
  }

  pub Stands-arrived : (ledger : ℕ) (lent : Bool) → Stands fllen sllen (heap_view n x reached ledger lent)
  unfolding Stands
  Stands-arrived ledger lent = stands.well_formed

  pub Steps-arrived : (ledger : ℕ) (lent : Bool) (step : State → Type 0) → step (read_from n reached) → Steps fllen sllen (heap_view n x reached ledger lent) step
  unfolding Steps
  Steps-arrived ledger lent step is = (is, Stands-arrived ledger lent)

-- ---- allocation: a payload is placed, and its bytes leave the memory

module _ {fllen sllen : ℕ} {n : Space} {y : Table} {s t : State} {size align : ℕ} {r : Range} (places : Places sllen s size align r.start t)
    (now : StandsFor fllen sllen (contents n y) t) (p : IsPayloadRange n s t size align r) where
  abbrev new : Used
  new = placed places.range size align places.bytes

  is_new : IsIn new t.used
  is_new = subst (λ (x : State). IsIn new x.used) (sym places.after) (inl refl)

  at_new : new.payload ≡ r.start
  at_new = sym places.answer

  many : (usable new).len ≡ r.len
  many = sym (p.long ∙ ap length (bytes_at-held now.well_formed r.start new (is_new, at_new)) ∙ (now.well_formed.used new is_new).bytes)

  -- the bytes leave
  pub stands-left : (o : Space) → o.start ≡ n.start → o.bytes ≡ n.bytes → o.out ≡ out_without n r → StandsFor fllen sllen (contents o y) t
  stands-left o start bytes gone = stands-without now new is_new o start bytes (gone ∙ ap (out_without n) (λ i. range_at (sym at_new i) (sym many i)))

  -- the same bytes outside of all chunks are the memory's own
  pub own-left : (o : Space) → o.start ≡ n.start → o.out ≡ out_without n r → (a : ℕ) → n.start ≤ a → IsOutsideChunks t a → is_own (out_at o a) ≡ is_own (out_at n a)
  own-left o start gone = own_without now new is_new o start (gone ∙ ap (out_without n) (λ i. range_at (sym at_new i) (sym many i)))

  -- a ticket is issued for them
  pub issued-new : {memory : Range} → IsWellFormed fllen sllen memory s → (entries : List Entry) → AreIssued s entries → (shown : Extent) → shown.addr ≡ r.start
      → shown.len ≡ r.len → shown.align ≡ align → AreIssued t (entries ++ entry_of shown true ∷ [])
  issued-new well entries tickets shown address long aligned =
      let old : AreIssued t entries = record {
        issued = λ k w is. let (u, i, at, len, wide) = tickets.issued k w is in (u, subst (λ (x : State). IsIn u x.used) (sym places.after) (inr i), at, len, wide);
        apart = tickets.apart;
      } in
      issued-more entries shown t old (new, is_new, at_new ∙ sym address, many ∙ sym long, sym aligned)
      (λ k w is same. let (u, i, at, len, wide) = tickets.issued k w is in
      absurd (none-some u.align (sym p.made.new ∙ align_at-held well r.start u (i, at ∙ same ∙ address))))

  -- one payload more is live, and the number of live payloads fits in a word
  pub one_more : (count : ℕ) → count ≡ live_count s → (count + 1 ≡ live_count t) × (count + 1 < 2 ^ 64)
  one_more count counted = let fits = live_fits now.well_formed in (omega (arith, counted, p.made.count), omega (arith, counted, p.made.count, fits))

-- ---- what a call says of a payload that it didn't return

pub if_some : {A : Type 0} {r : Option A} (Is : A → Type 0) → r ≡ None → IfSome r Is
if_some Is none = subst (λ o. IfSome o Is) (sym none) tt

pub if_none : {A : Type 0} {r : Option A} (Is : Type 0) → r ≡ None → Is → IfNone r Is
if_none Is none is = subst (λ o. IfNone o Is) (sym none) is
