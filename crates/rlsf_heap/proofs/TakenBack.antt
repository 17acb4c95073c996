-- A payload came back into the memory with its values for a call on the heap's core, and leaves again after it, at its address or at another one.
use Rattle.std.proofs.Common.{◌≡◌, ◌≤◌, ℕ, ◌-◌, List, length, arith, inl, inr, refl, sym, ap, ◌∙◌, ◌≢◌, ◌<◌, ◌+◌, Bool, false, set, Option}
use Rattle.std.proofs.Common.{None, Some, IfSome, subst}
use Rattle.std.proofs.lemmas.Option.{none-some}
use Rattle.rlsf_base.specs.Ledger.{Entry, Extent, entry_of, extent, IsIssued}
use Rattle.rlsf_base.specs.MemoryCalls.{CountsNothing, IsSpaceWith}
use Rattle.rlsf_base.specs.OpenSpace.{IsBeside, IsHere, out_with, IsOwned, home_of, out_without}
use Rattle.rlsf_base.specs.Out.{kept_at, here, is_own, raw}
use Rattle.rlsf_base.specs.Range.{LiesIn, range_at}
use Rattle.rlsf_base.specs.Space.{Space, byte_at, byte_range, bytes_in, with_bytes, range_of, out_at}
use Rattle.rlsf_base.proofs.Changes.{back-before, back-behind, back-there}
use Rattle.rlsf_base.proofs.Lending.Replaced.{byte_at-same, bytes_in-there, bytes_in-with}
use Rattle.rlsf_base.specs.declared.memory.range.Range.{Range}
use Rattle.rlsf_base.proofs.Lending.Present.{own-here}
use Rattle.rlsf_model.specs.Run.{Fills}
use Rattle.rlsf_model.specs.State.{State, Used, Holds, others, usable, AreAlike, filled}
use Rattle.rlsf_model.proofs.Coverage.{IsIn-map}
use Rattle.rlsf_model.specs.Callers.{align_at, bytes_at}
use Rattle.rlsf_model.specs.NoMove.{ReallocatesWithoutMove, unmoved_plan}
use Rattle.rlsf_model.specs.Reallocate.{HasRoomToStay, Keeps}
use Rattle.rlsf_model.specs.Sized.{IsSizedFor, live_count}
use Rattle.rlsf_model.proofs.CallerWords.{SeesFilled, align_at-live, bytes_at-held, filled_seen}
use Rattle.rlsf_model.proofs.Changes.{Holds-unique}
use Rattle.rlsf_model.proofs.Fillings.{AreAlike-filled}
use Rattle.rlsf_model.proofs.Live.{live_addresses_are_aligned}
use Rattle.rlsf_model.proofs.SizedWords.{count_filled, sized_filled}
use Rattle.rlsf_model.specs.Release.{released}
use Rattle.rlsf_model.specs.Join.{join}
use Rattle.rlsf_table.specs.Table.{Table}
use Rattle.rlsf_table.proofs.Parameters.{IsValid-widest}
use Rattle.rlsf_blocks.specs.Laws.{read_from, with_bytes_of}
use Rattle.rlsf_blocks.specs.Spare.{KeepsSpare}
use Rattle.rlsf_blocks.specs.StandsFor.{contents, StandsFor}
use Rattle.rlsf_blocks.proofs.Payloads.Filled.{IsSameOutside, filled_in}
use Rattle.rlsf_tlsf.specs.Allocator.{allocator}
use Rattle.rlsf_tlsf.specs.Bounds.{KeepsBounds}
use Rattle.rlsf_tlsf.specs.CoreResizes.{KeepsPayloadsResizing}
use Rattle.rlsf_tlsf.specs.Cores.{IsCore, IsOwnFound, LeavesCoreCopying}
use Rattle.rlsf_tlsf.specs.Moving.{IsHerePayload, IsRelocated, span}
use Rattle.rlsf_tlsf.specs.Results.{KeepsFrameMoving as CoreFrame}
use Rattle.rlsf_tlsf.proofs.Arrivals.{arrived, read_from-read_from}
use Rattle.rlsf_tlsf.proofs.Reached.{bare-core}
use Rattle.rlsf_tlsf.proofs.Relocated.{span_held}
use Rattle.rlsf_tlsf.proofs.Replied.{some_more}
use Rattle.rlsf_tlsf.proofs.UnknownAlign.{denied_short, no_room_to_stay}
use Rattle.rlsf_heap.specs.Heap.{AreIssued, IsHeapOf, IsOutsideChunks, PayloadView, Steps, heap_view, payload_range}
use Rattle.rlsf_heap.specs.Frame.{KeepsAllBounds, KeepsFrameMoving, KeepsHeap, KeepsSized}
use Rattle.rlsf_heap.specs.Handover.{IsHandedOver, IsTakenBack}
use Rattle.rlsf_heap.specs.Kept.{KeepsBytesBeside, KeepsOwn, NoneBecomesRaw}
use Rattle.rlsf_heap.specs.Replies.{IsRefused, IsResized}
use Rattle.rlsf_heap.specs.Settled.{IsSettled}
use Rattle.rlsf_heap.specs.ThinUnknownAlign.{IfBytesSuffice}
use Rattle.rlsf_heap.proofs.OnCores.{IsHeap-arrived, Steps-arrived, heap-over, same_identity, stays}
use Rattle.rlsf_heap.proofs.Kept.{is_lent_at, raw-left, raw-stays, raw-with, same-byte, spare-last, spare-then, lent_kept, stands-without, outside_unlent, own_without, rest_kept, settled-back}
use Rattle.rlsf_heap.proofs.Kept.{settled-here, settled-left, settled-stays}
use Rattle.rlsf_tlsf.proofs.Placed.{lies_used}
use Rattle.rlsf_heap.proofs.Tickets.{payload_as, redeemed_ticket, shown_live, own_at, still, issued-less, issued-more, redeemed_apart, IsShown, block, held, live, long, usable_is}
use Rattle.rlsf_heap.proofs.Tickets.{wide, lies}
use Rattle.rlsf_heap.proofs.Found.{Keeps-each}
use Rattle.rlsf_heap.proofs.Released.{IsGiven, is_released, others-filled}

-- the tickets are those of the same payloads, for any bytes
pub issued-reread : (n : Space) (s : State) (es : List Entry) → AreIssued s es → AreIssued (read_from n s) es
issued-reread n s es tickets = record {
  issued = λ k v is. let (u, i, at, len, wide) = tickets.issued k v is in (with_bytes_of n u, IsIn-map (with_bytes_of n) u s.used i, at, len, wide);
  apart = tickets.apart;
}

-- the payload at an address is at another one in the state after, and its bytes are the memory's own. The others are as they were
pub record IsAt (o : Space) (s t : State) (addr align to : ℕ) : Type 0 where
  pub live : align_at t to ≡ Some align
  pub new : to ≢ addr → align_at s to ≡ None
  pub aligns : (a : ℕ) → a ≢ addr → a ≢ to → align_at t a ≡ align_at s a
  pub bytes : (a : ℕ) → a ≢ addr → a ≢ to → bytes_at t a ≡ bytes_at s a
  pub count : live_count t ≡ live_count s
  pub own : IsOwned o (span t to to)

-- that of a reallocation
pub relocated_at : {o : Space} {s t : State} {addr size align to : ℕ} → IsRelocated o s t addr size align to → live_count t ≡ live_count s → IsAt o s t addr align to
relocated_at is count = record { live = is.made.live; new = is.made.new; aligns = is.made.aligns; bytes = is.made.bytes; count = count; own = is.own }

-- what is so of three numbers as a call was passed them is so of those that contracts see
pub told_as : {a b c d e f : ℕ} → a ≡ d → b ≡ e → c ≡ f → (So : ℕ → ℕ → ℕ → Type 0) → So a b c → So d e f
told_as first second third So so = subst (λ (z : ℕ × ℕ × ℕ). So z.0 z.1 z.2) (λ i. (first i, second i, third i)) so

-- a payload came back with its values, and the entries of the ledger are those without its ticket; nothing else changed
pub record IsBack (m n : Space) (es fs : List Entry) (pay : PayloadView) : Type 0 where
  pub key : ℕ
  pub known : IsIssued es key (extent pay.start (length pay.bytes) pay.align)
  pub rest : (s : State) → AreIssued s es → AreIssued s fs × ((i : ℕ) (w : Extent) → IsIssued fs i w → w.addr ≢ pay.start)
  pub memory : IsSpaceWith m n (with_bytes m pay.start pay.bytes) (out_with m (payload_range pay))
  pub long : length n.bytes ≡ length m.bytes
  pub counts : CountsNothing m n

-- the entries without that of a ticket
pub without : {es fs : List Entry} (k : ℕ) (shown : Extent) → IsIssued es k shown → fs ≡ set es k (entry_of shown false) → (s : State) → AreIssued s es
    → AreIssued s fs × ((i : ℕ) (w : Extent) → IsIssued fs i w → w.addr ≢ shown.addr)
without {es} {fs} k shown is after s tickets = (
  subst (AreIssued s) (sym after) (issued-less es k shown is s tickets),
  λ i w issued. redeemed_apart es k shown is s tickets i w (subst (λ (l : List Entry). IsIssued l i w) after issued),
)

-- by what its ticket shows of it
abbrev pub back_as : {m n : Space} {es fs : List Entry} {key addr len wide : ℕ} (pay : PayloadView) → (pay.start ≡ addr) × (length pay.bytes ≡ len) × (pay.align ≡ wide)
    → IsIssued es key (extent addr len wide) → IsSpaceWith m n (with_bytes m pay.start pay.bytes) (out_with m (payload_range pay)) → length n.bytes ≡ length m.bytes
    → CountsNothing m n
    → ((s : State) → AreIssued s es → AreIssued s fs × ((i : ℕ) (w : Extent) → IsIssued fs i w → w.addr ≢ addr)) → IsBack m n es fs pay
back_as {es = es} {key = key} pay ticket issued memory long counts rest = record {
  key = key;
  known = subst (IsIssued es key) (λ i. extent (sym ticket.0 i) (sym ticket.1 i) (sym ticket.2 i)) issued;
  rest = λ s tickets. let without = rest s tickets in (without.0, λ i w is same. without.1 i w is (same ∙ ticket.0));
  memory = memory;
  long = long;
  counts = counts;
}

pub taken_back : {m n : Space} {es fs : List Entry} (pay : PayloadView) → IsTakenBack m n es fs pay → IsBack m n es fs pay
taken_back {es = es} {fs = fs} pay is =
    let (key, issued, after) = redeemed_ticket pay es fs is.entries in
    let shown = extent pay.start (length pay.bytes) pay.align in
    back_as pay (refl, refl, refl) issued is.memory is.long is.counts (without key shown issued after)

-- where the state is the same, so are its payloads
pub kept_same : {s t : State} (addr : ℕ) → t ≡ s → KeepsPayloadsResizing s t addr
kept_same addr same = record {
  aligns = ap align_at same;
  bytes = λ a off. ap (λ (u : State). bytes_at u a) same;
  count = ap live_count same;
  chunks = ap (λ (u : State). u.chunks) same;
}

module _ {fl_bits sl_bits fllen sllen : ℕ} {m n : Space} {x : Table} {j : State} {es fs : List Entry} {count : ℕ} {lent : Bool}
    (is : IsHeapOf fl_bits sl_bits fllen sllen m x j es count lent)
    (pay : PayloadView) (back : IsBack m n es fs pay) where
  abbrev shown : Extent
  shown = extent pay.start (length pay.bytes) pay.align

  p : IsShown fllen sllen m x (read_from m j) es back.key shown
  p = record { stands = is.stands; tickets = is.tickets; issued = back.known }

  outside : IsSameOutside m n (usable (block p))
  outside = record {
    start = back.memory.start;
    length = back.long;
    bytes = λ q from side. bytes_in-with m n (payload_range pay) pay.bytes (lies p) refl back.memory.start back.memory.bytes q from
        (elim side [ inl before ↦ inl (omega (arith, before, (held p).1)) | inr behind ↦ inr (omega (arith, behind, (held p).1, long p)) ]);
    out = λ a from side. (λ i. kept_at (back.memory.out i) (a - back.memory.start i)) ∙ elim side [
      | inl before ↦ back-before m.out (pay.start - m.start) (length pay.bytes) (a - m.start) (omega (arith, before, (held p).1, (lies p).0, from))
      | inr behind ↦ back-behind m.out (pay.start - m.start) (length pay.bytes) (a - m.start) (omega (arith, behind, (held p).1, long p, (lies p).0))
    ];
  }

  -- the state that is read from the memory is the one with these bytes
  reread : Fills (read_from m j) pay.start (bytes_in n (usable (block p))) (read_from n j) × StandsFor fllen sllen (contents n x) (read_from n j)
      × KeepsSpare m (read_from m j) n (read_from n j)
  reread =
      subst (λ (t : State). Fills (read_from m j) pay.start (bytes_in n (usable (block p))) t × StandsFor fllen sllen (contents n x) t × KeepsSpare m (read_from m j) n t)
      (read_from-read_from n m j) (filled_in is.stands pay.start (block p) (held p) n outside)

  filled_back : Fills (read_from m j) pay.start pay.bytes (read_from n j)
  filled_back =
      subst (λ (bs : List ℕ). Fills (read_from m j) pay.start bs (read_from n j))
      (ap (bytes_in n) (usable_is p) ∙ bytes_in-there m n (payload_range pay) pay.bytes (lies p) refl back.memory.start back.memory.bytes) reread.0

  owned_back : read_from n j ≡ filled (read_from m j) pay.start pay.bytes
  owned_back = filled_back.after

  stands_in : StandsFor fllen sllen (contents n x) (read_from n j)
  stands_in = reread.1

  -- its block there
  abbrev used : Used
  used = with_bytes_of n (block p)

  held_in : Holds (read_from n j) pay.start used
  held_in = subst (λ (t : State). Holds t pay.start used) (read_from-read_from n m j) (IsIn-map (with_bytes_of n) (block p) (read_from m j).used (held p).0, (held p).1)

  here_in : IsHere n (usable used)
  here_in a lo hi = grind (arith, back-there, held, p, lies, long)

  -- bytes beside it are as they were
  beside_in : (a : ℕ) → m.start ≤ a → IsBeside (payload_range pay) a → byte_at n a ≡ byte_at m a
  beside_in a from side = byte_at-same m n a (outside.bytes (byte_range a) from (elim side [
    | inl before ↦ inl (omega (arith, before, (held p).1))
    | inr behind ↦ inr (omega (arith, behind, (held p).1, long p))
  ]))

  low : n.start ≤ pay.start
  low = omega (arith, (lies p).0, back.memory.start)

  -- no byte becomes raw
  pub raw_back : (a : ℕ) → m.start ≤ a → out_at n a ≡ raw → out_at m a ≡ raw
  raw_back = raw-with m n (payload_range pay) back.memory.start (omega (arith, low, back.memory.start)) back.memory.out

  pub settled_before : IsSettled m → IsSettled n
  settled_before = settled-back m n (payload_range pay) back.memory.start (omega (arith, low, back.memory.start)) back.memory.out

  -- the same bytes outside of all chunks are its own
  rest_back : (a : ℕ) → m.start ≤ a → IsOutsideChunks (read_from m j) a → is_own (out_at n a) ≡ is_own (out_at m a)
  rest_back a from out = ap is_own (outside.out a from (elim (outside_unlent is.stands.well_formed a out (block p) (held p).0) [
    | inl before ↦ inl before
    | inr behind ↦ inr (omega (arith, behind, (is.stands.well_formed.used (block p) (held p).0).within))
  ]))

  -- ---- the core that a call is passed, and the payload in it

  pub core_back : fl_bits ≤ 128 → IsCore fllen sllen n x j
  core_back limit = record { valid = IsValid-widest limit is.valid; stands = stands_in; is_bare = is.is_bare }

  pub payload_back : {addr align : ℕ} → addr ≡ pay.start → align ≡ pay.align → IsHerePayload n (read_from n j) addr align
  payload_back at aligned = (used, (held_in.0, held_in.1 ∙ sym at), wide p ∙ sym aligned, here_in)

  pub found_back : {addr : ℕ} (align : Option ℕ) → addr ≡ pay.start → IfSome align (λ a. pay.align ≡ a) → IsOwnFound n (read_from n j) addr align
  found_back align at aligned = (used, ((held_in.0, held_in.1 ∙ sym at), some_more align (λ a same. wide p ∙ same) aligned), own-here n (usable used) here_in)

  -- a deallocation of it
  pub given_back : IsGiven fllen sllen m n x j es back.key shown
  given_back =
      let others_same : others pay.start (read_from n j).used ≡ others (block p).payload (read_from m j).used =
      (λ i. others pay.start (owned_back i).used) ∙ others-filled pay.start pay.bytes (read_from m j).used ∙ ap (λ a. others a (read_from m j).used) (sym (held p).1) in
      let after : released (read_from n j) used ≡ released (read_from m j) (block p) =
      (λ i. record { chunks = j.chunks; used = others ((held p).1 i) (read_from n j).used; free = join (block p).block j.free })
      ∙ (λ i. record { chunks = j.chunks; used = others_same i; free = join (block p).block j.free }) in record {
        shown = p;
        used = used;
        begins = refl;
        holds = held_in;
        wide = wide p;
        own = own-here n (usable used) here_in;
        stands = stands_in;
        spare = reread.2;
        start = back.memory.start;
        long = back.long;
        view = back.memory.view;
        grow = omega (arith, back.counts.0);
        rest = rest_back;
        steps = λ t step. record { block = block p; holds = held p; after = sym (is_released stands_in.well_formed step used held_in) ∙ after };
      }

  -- ---- what callers see

  pub seen_back : SeesFilled (read_from m j) (read_from n j) pay.start pay.bytes
  seen_back = filled_seen is.stands.well_formed (read_from n j) pay.start pay.bytes filled_back

  pub count_back : live_count (read_from n j) ≡ live_count (read_from m j)
  count_back = count_filled is.stands.well_formed (read_from n j) pay.start pay.bytes (filled_back.block, filled_back.holds) filled_back

  pub sized_back : KeepsAllBounds sllen (read_from m j) (read_from n j)
  sized_back most longest widest sized =
      sized_filled is.stands.well_formed (read_from n j) most longest widest sized pay.start pay.bytes (filled_back.block, filled_back.holds) filled_back

  room_back : (size : ℕ) → HasRoomToStay (read_from m j) pay.start size → HasRoomToStay (read_from n j) pay.start size
  room_back size (u, q, holds, first) = (
    used,
    q,
    held_in,
    subst (λ (y : Used). unmoved_plan (read_from m j) y size ≡ Some q) (Holds-unique is.stands.well_formed pay.start u (block p) holds (held p)) first,
  )

  -- its bytes, as many as the state says
  pub bytes_are : bytes_at (read_from n j) pay.start ≡ pay.bytes
  bytes_are = seen_back.here

  -- it was live, and is
  pub live_before : align_at (read_from m j) pay.start ≡ Some pay.align
  live_before = live p

  pub live_back : align_at (read_from n j) pay.start ≡ Some pay.align
  live_back = seen_back.aligns pay.start ∙ live_before

  -- where it was refused to be resized in place, it has no room
  pub no_room : {t : State} (size : ℕ) (A : Type 0) → ReallocatesWithoutMove (read_from n j) pay.start size None t
      → IfBytesSuffice (read_from m j) pay.start size (length pay.bytes) A
  no_room size A refused = record {
    enough = λ enough. absurd (omega (arith, enough, denied_short stands_in.well_formed refused, ap length bytes_are));
    stays = λ room. absurd (no_room_to_stay stands_in.well_formed refused (room_back size room));
  }

  -- the tickets without its own
  rest : AreIssued (read_from n j) fs × ((i : ℕ) (w : Extent) → IsIssued fs i w → w.addr ≢ pay.start)
  rest = back.rest (read_from n j) (subst (λ (s : State). AreIssued s es) (read_from-read_from n m j) (issued-reread n (read_from m j) es is.tickets))

  -- the call left it where it was
  module _ {o : Space} {y : Table} {k : State} {most copies : ℕ} (core : LeavesCoreCopying fllen sllen n o y j k most copies)
      (kept : KeepsPayloadsResizing (read_from n j) (read_from o k) pay.start) where
    pub here_there : IsHere o (span (read_from n j) pay.start pay.start)
    here_there a lo hi = grind (arith, low, here_in, held_in, long, p, bytes_are)

    pub there_at : IsAt o (read_from n j) (read_from o k) pay.start pay.align pay.start
    there_at =
        let b = used in
        let within = (stands_in.well_formed.used b held_in.0).within in
        let (z, holds, _) = still stands_in core.core.stands kept pay.start b held_in in
        let ends = (core.core.stands.well_formed.used z holds.0).within in record {
          live = ap (λ f. f pay.start) kept.aligns ∙ live_back;
          new = λ apart. absurd (apart refl);
          aligns = λ a off _. ap (λ f. f a) kept.aligns;
          bytes = λ a off _. kept.bytes a off;
          count = kept.count;
          own = subst (IsOwned o) (span_held core.core.stands pay.start z holds) (λ a lo hi.
              own_at stands_in core.core.stands kept b z held_in holds core.costs.start core.own a (omega (arith, lo, holds.1)) (omega (arith, hi, ends))
              (λ inside. own-here n (usable b) (here_in) a (omega (arith, lo, holds.1, held_in.1)) (omega (arith, inside, within))));
        }

    pub range_back : {addr len : ℕ} → addr ≡ pay.start → len ≡ length (bytes_at (read_from o k) pay.start) → range_at addr len ≡ span (read_from o k) pay.start pay.start
    range_back at long = λ i. range_at (at i) (long i)

  -- ---- a payload leaves

  module _ {o : Space} {y : Table} {k : State} {most copies : ℕ} (core : LeavesCoreCopying fllen sllen n o y j k most copies) {to : ℕ}
      (at : IsAt o (read_from n j) (read_from o k) pay.start pay.align to) {r : Range} (is_range : r ≡ span (read_from o k) to to)
    where
      u : Used
      u = (align_at-live (read_from o k) to pay.align at.live).0

      holds : Holds (read_from o k) to u
      unfolding u
      holds = (align_at-live (read_from o k) to pay.align at.live).1

      aligned_as : u.align ≡ pay.align
      unfolding u
      aligned_as = (align_at-live (read_from o k) to pay.align at.live).2

      range_is : r ≡ usable u
      range_is = is_range ∙ sym (span_held core.core.stands to u holds)

      -- its bytes are the memory's own
      pub lies_over : LiesIn r o.start (length o.bytes)
      lies_over = subst (λ (q : Range). LiesIn q o.start (length o.bytes)) (sym range_is) (lies_used core.core.stands u holds.0)

      pub own_over : IsOwned o r
      own_over = subst (IsOwned o) (sym is_range) at.own

      module _ {q : Space} {wide name : ℕ} {gs : List Entry} {p : PayloadView} (aligned : wide ≡ pay.align) (over : IsHandedOver o q r wide name fs gs p) where
        standing : StandsFor fllen sllen (contents q y) (read_from o k)
        standing = stands-without core.core.stands u holds.0 q over.memory.start over.memory.bytes (over.memory.out ∙ ap (out_without o) range_is)

        -- the state is the one that the call led to
        pub reads_over : (P : State → Type 0) → P (read_from o k) → P (read_from q k)
        reads_over P = subst P (sym (arrived standing k (sym (bare-core core.core))))

        -- the payload is where the call put it
        begins : p.start ≡ to
        begins = over.at ∙ ap (λ (z : Range). z.start) is_range

        -- a step, as contracts see it
        pub step_over : (label : ℕ) (Step : State → State → Type 0) → Step (read_from n j) (read_from o k)
            → Steps fllen sllen (heap_view q y k label lent) (Step (filled (read_from m j) pay.start pay.bytes))
        step_over label Step did =
            Steps-arrived standing k (sym (bare-core core.core)) label lent (Step (filled (read_from m j) pay.start pay.bytes))
            (reads_over (Step (filled (read_from m j) pay.start pay.bytes)) (subst (λ (s : State). Step s (read_from o k)) owned_back did))

        -- the other tickets are those of the same payloads, and the new one is its own
        others_at : (i : ℕ) (w : Extent) → IsIssued fs i w → w.addr ≢ to
        others_at i w issued is_to =
            let apart = rest.1 i w issued in
            absurd (none-some w.align (sym (at.new (λ e. apart (is_to ∙ e))) ∙ ap (align_at (read_from n j)) (sym is_to)
            ∙ shown_live stands_in.well_formed w (rest.0.issued i w issued)))

        issued_over : AreIssued (read_from o k) gs
        issued_over =
            let old : AreIssued (read_from o k) fs = record {
              issued = λ i w issued.
                  let apart = rest.1 i w issued in
                  let apart_to = others_at i w issued in
                  payload_as stands_in.well_formed core.core.stands.well_formed w (rest.0.issued i w issued) (at.aligns w.addr apart apart_to) (at.bytes w.addr apart apart_to);
              apart = rest.0.apart;
            } in
            subst (AreIssued (read_from o k)) (sym over.entries)
            (issued-more fs (extent r.start r.len wide) (read_from o k) old
            (u, holds.0, ap (λ (z : Range). z.start) (sym range_is), ap (λ (z : Range). z.len) (sym range_is), aligned_as ∙ sym aligned)
            (λ i w issued e. others_at i w issued (e ∙ ap (λ (z : Range). z.start) range_is ∙ holds.1)))

        own_over_all : KeepsOwn m (read_from m j) q (read_from o k)
        own_over_all a from out again =
            own_without core.core.stands u holds.0 q over.memory.start (over.memory.out ∙ ap (out_without o) range_is) a
            (omega (arith, from, back.memory.start, core.costs.start)) again
            ∙ core.own a (omega (arith, from, back.memory.start)) ∙ rest_back a from out

        pub IsHeap-over : (read_from o k).chunks ≡ j.chunks → IsHeapOf fl_bits sl_bits fllen sllen q y k gs count lent
        IsHeap-over chunks =
            IsHeap-arrived standing k (sym (bare-core core.core)) is.valid gs issued_over count (is.counted ∙ sym (at.count ∙ count_back))
            (λ not_lent. rest_kept m q (read_from m j) (read_from o k) (over.memory.start ∙ core.costs.start ∙ back.memory.start) chunks own_over_all (is.rest not_lent))

        -- what the call keeps
        pub keeps_over : (read_from o k).chunks ≡ j.chunks → (ledger label : ℕ) → label ≡ ledger → KeepsHeap (heap_view m x j ledger lent) (heap_view q y k label lent)
        keeps_over chunks ledger label named =
            heap-over m q x y j k (over.memory.start ∙ core.costs.start ∙ back.memory.start) (ap length over.memory.bytes ∙ core.costs.length ∙ back.long)
            (over.memory.view ∙ core.costs.view ∙ back.memory.view) (omega (arith, over.counts.0, core.costs.grow, back.counts.0))
            (reads_over (KeepsSpare m (read_from m j) q) (spare-last m o q (read_from m j) (read_from o k) over.memory.start over.memory.bytes
            (spare-then m n o (read_from m j) (read_from o k) back.memory.start back.long (read_from n j) refl
            reread.2 core.spare)))
            (reads_over (λ (s : State). is_lent_at q s ≡ is_lent_at m (read_from m j)) (lent_kept m q (read_from m j) (read_from o k)
            (over.memory.start ∙ core.costs.start ∙ back.memory.start) chunks own_over_all))
            ledger label named

        settled_over : IsSettled m → IsSettled o
        settled_over settled = settled-stays (stays core) (settled_before settled)

        pub settled_last : IsSettled m → IsSettled q
        settled_last settled = settled-left o q r over.memory.start lies_over.0 over.memory.out (settled_over settled)

        pub raw_over : (ledger label : ℕ) → NoneBecomesRaw (heap_view m x j ledger lent) (heap_view q y k label lent)
        unfolding NoneBecomesRaw
        raw_over ledger label = λ a from is_raw.
            raw_back a from
            (raw-stays (stays core) a (omega (arith, from, back.memory.start))
            (raw-left o q r over.memory.start lies_over.0 over.memory.out a (omega (arith, from, back.memory.start, core.costs.start)) is_raw))

        -- its bytes are those of the state
        values_over : p.bytes ≡ bytes_at (read_from o k) to
        values_over =
            over.values ∙ ap (bytes_in o) range_is ∙ core.core.stands.payloads.bytes u holds.0 ∙ sym (bytes_at-held core.core.stands.well_formed to u holds)

        pub sized_over : (size : ℕ) → KeepsBounds sllen (read_from n j) (read_from o k) size pay.align → KeepsSized sllen (read_from m j) (read_from q k) size pay.align
        sized_over size bounds = record {
          sized = λ most longest widest sized short fits.
              reads_over (IsSizedFor sllen most longest widest) (bounds most longest widest (sized_back most longest widest sized) short fits);
          count = reads_over (λ (s : State). live_count s ≡ live_count (read_from m j)) (at.count ∙ count_back);
        }

        -- what it keeps if it may have copied the payload's bytes
        pub frame_over : (ledger label : ℕ) → label ≡ ledger → (size : ℕ) → CoreFrame pay.start size (allocator n x j) (allocator o y k)
            → KeepsFrameMoving (heap_view m x j ledger lent) (heap_view q y k label lent) pay.start size pay
        frame_over ledger label named size frame =
            let least : o.copied ≤ n.copied + length pay.bytes = subst (λ (l : List ℕ). o.copied ≤ n.copied + length l) bytes_are frame.copied in record {
              heap = keeps_over frame.chunks ledger label named;
              raw = raw_over ledger label;
              settled = settled_last;
              chunks = reads_over (λ (s : State). s.chunks ≡ j.chunks) frame.chunks;
              copied = omega (arith, least, over.counts.1, back.counts.1);
              grow_copied = omega (arith, frame.grow_copied, over.counts.1, back.counts.1);
              stays = λ room. over.counts.1 ∙ frame.stays (room_back size room) ∙ back.counts.1;
            }

        -- ---- it has the size, or is as it was

        module _ (ledger label : ℕ) (named : name ≡ ledger) where
          identity_over : p.identity ≡ record { home = home_of m; ledger = ledger }
          identity_over = grind (arith, same_identity, long)

          pub resized_over : (size : ℕ) → size ≤ length (bytes_at (read_from o k) to) → length (bytes_at (read_from o k) to) < size + 32
              → Keeps (bytes_at (read_from n j) pay.start) (bytes_at (read_from o k) to) → IsHere o (span (read_from n j) pay.start to)
              → IsResized (heap_view m x j ledger lent) (heap_view q y k label lent) size pay.align pay p
          resized_over size enough few keeps still_here =
              let kept : Keeps pay.bytes p.bytes = subst (λ (z : List ℕ × List ℕ). Keeps z.0 z.1) (λ i. (bytes_are i, sym values_over i)) keeps in
              let as_was : (i : ℕ) → i < length pay.bytes → i < length p.bytes → kept_at p.out i ≡ here =
              λ i below inside.
              over.states i (omega (arith, inside, over.long))
              ∙ still_here (r.start + i) (omega (arith, over.at, begins)) (omega (arith, over.at, begins, below, ap length bytes_are)) in record {
                identity = identity_over;
                requested = over.align ∙ aligned;
                live = reads_over (λ (s : State). align_at s p.start ≡ Some pay.align) (ap (align_at (read_from o k)) begins ∙ at.live);
                long = reads_over (λ (s : State). length p.bytes ≡ length (bytes_at s p.start))
                    (ap length values_over ∙ ap (λ a. length (bytes_at (read_from o k) a)) (sym begins));
                aligned = live_addresses_are_aligned fllen sllen (range_of o) (read_from o k) p.start pay.align core.core.stands.well_formed
                    (u, (holds.0, holds.1 ∙ sym begins), aligned_as);
                sized = omega (arith, enough, ap length values_over);
                few = omega (arith, few, ap length values_over);
                kept = kept;
                each = Keeps-each pay.bytes p.bytes kept;
                here = λ i from high. as_was i (omega (arith, high)) (omega (arith, high));
                shrunk = λ shorter i from high. as_was i (omega (arith, high, shorter)) (omega (arith, high));
                written = λ settled. over.full (settled-here o r lies_over.0 own_over (settled_over settled));
              }

          pub refused_over : read_from o k ≡ read_from n j → o.bytes ≡ n.bytes → to ≡ pay.start → IsHere o (span (read_from n j) pay.start to)
              → IsRefused (heap_view m x j ledger lent) (heap_view q y k label lent) pay.start pay.align pay p
          unfolding KeepsBytesBeside
          refused_over unchanged bytes there still_here = record {
            identity = identity_over;
            requested = over.align ∙ aligned;
            start = begins ∙ there;
            bytes = values_over ∙ (λ i. bytes_at (unchanged i) (there i)) ∙ bytes_are;
            written = over.full (subst (IsHere o) ((λ i. range_at to (length (bytes_at (sym unchanged i) (sym there i)))) ∙ sym is_range) still_here);
            alike = reads_over (AreAlike (read_from m j)) (subst (AreAlike (read_from m j)) (sym unchanged) (AreAlike-filled filled_back));
            aligns = reads_over (λ (s : State). align_at s ≡ align_at (read_from m j)) (ap align_at unchanged ∙ (λ i a. seen_back.aligns a i));
            unchanged = λ a from _ side. same-byte n q (over.memory.start ∙ core.costs.start) (over.memory.bytes ∙ bytes) a ∙ beside_in a from side;
          }
