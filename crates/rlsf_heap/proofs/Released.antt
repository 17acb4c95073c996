-- Payloads whose bytes come back: deallocation releases the block, and a payload of units gets another size.
use Rattle.std.proofs.Common.{◌≡◌, ℕ, ◌+◌, ◌-◌, ◌≤◌, Bool, false, List, [], ◌∷◌, length, Option, IfSome, set, eqb, cond, arith, refl, sym, ap, subst, ◌∙◌, ◌⊎◌}
use Rattle.std.proofs.Common.{inl, inr, ◌<◌, Some, ◌%◌, ◌^◌, None}
use Rattle.std.specs.Prelude.{not}
use Rattle.std.specs.Option.{option_or}
use Rattle.rlsf_base.specs.declared.memory.range.Range.{Range}
use Rattle.rlsf_base.specs.Ledger.{Entry, Extent, entry_of, extent}
use Rattle.rlsf_base.specs.MemoryCalls.{IsSpaceWith}
use Rattle.rlsf_base.specs.OpenSpace.{IsOwned, out_raw, SameOwn, IsReadable, out_without}
use Rattle.rlsf_base.specs.Piece.{Piece}
use Rattle.rlsf_base.specs.Range.{range_at, LiesIn, end_of}
use Rattle.rlsf_model_sizes.specs.Sizes.{request_size}
use Rattle.rlsf_base.specs.Out.{is_own}
use Rattle.rlsf_base.specs.Space.{Space, out_at, word_at}
use Rattle.rlsf_model.specs.Callers.{bytes_at}
use Rattle.rlsf_model.specs.Release.{Deallocates, released}
use Rattle.rlsf_model.specs.Sized.{live_bytes, live_count}
use Rattle.rlsf_model.specs.State.{State, Used, Holds, usable, others}
use Rattle.rlsf_model.specs.WellFormed.{IsWellFormed, IsUsed}
use Rattle.rlsf_model.proofs.CallerWords.{bytes_at-held, gone_seen}
use Rattle.rlsf_model.proofs.Changes.{Holds-unique}
use Rattle.rlsf_model.proofs.Chunks.{chunks-deallocated}
use Rattle.rlsf_model.proofs.Coverage.{by_test}
use Rattle.rlsf_model.proofs.SizedWords.{count_gone, sized_gone}
use Rattle.rlsf_table.specs.Table.{Table}
use Rattle.rlsf_table.proofs.Parameters.{IsValid-widest}
use Rattle.rlsf_blocks.specs.Laws.{read_from}
use Rattle.rlsf_blocks.specs.Spare.{KeepsSpare}
use Rattle.rlsf_blocks.specs.StandsFor.{contents, StandsFor, IsUnlent}
use Rattle.rlsf_tlsf.specs.Cores.{IsCore, IsOwnFound, LeavesCore}
use Rattle.rlsf_tlsf.proofs.LiveBytes.{bytes_less}
use Rattle.rlsf_tlsf.proofs.Reached.{read_from-same}
use Rattle.rlsf_tlsf.proofs.Replied.{some_more}
use Rattle.rlsf_heap.specs.Frame.{KeepsAllBounds, KeepsHeap}
use Rattle.rlsf_heap.specs.Heap.{AreIssued, IsHeapOf, IsOutsideChunks, IsTicketOf, Steps, heap_view, HeapView, Stands}
use Rattle.rlsf_heap.specs.Kept.{KeepsOwn}
use Rattle.rlsf_heap.specs.Replies.{IsGone}
use Rattle.rlsf_heap.proofs.Kept.{same-byte, spare-then, lent_kept, outside_unlent, rest_kept, stands_same, out-left}
use Rattle.rlsf_heap.proofs.OnCores.{IsHeap-left, Steps-left, heap-over}
use Rattle.rlsf_heap.proofs.Tickets.{IsReturned, IsShown, all_behind, block, ends, found, held, issued-released, issued_renewed, lies, long, outside-back, own-back, own_at}
use Rattle.rlsf_heap.proofs.Tickets.{payload_still, payload_there, stands-back, still, wide}
use Rattle.rlsf_tlsf.proofs.Placed.{lies_used}
use Rattle.rlsf_model.proofs.Payloads.{payload_of-le, payload_of-after}
use Rattle.rlsf_model.proofs.Names.{resized, used_with_bytes as with_these, filled_at}
use Rattle.rlsf_blocks.proofs.Words.Apart.{used_in_memory}
use Rattle.rlsf_model.specs.Allocate.{Allocates, placed}
use Rattle.rlsf_model.specs.Lists.{IsIn}
use Rattle.rlsf_tlsf.specs.CoreResizes.{KeepsPayloadsResizing}
use Rattle.rlsf_heap.specs.ThinUnknownAlign.{renewed_entries}
use Rattle.rlsf_model_sizes.specs.PowerOfTwo.{IsPowerOfTwo}
use Rattle.rlsf_model.specs.Payload.{payload_of}
use Rattle.rlsf_heap.specs.Units.{payload_len}
use Rattle.rlsf_base.proofs.Lending.Present.{own-word}
use Rattle.rlsf_base.proofs.Lending.WordIsHere.{is_word}
use Rattle.rlsf_model.specs.NoMove.{ReallocatesUnmovedBy, ReallocatesWithoutMove, unmoved_plan}
use Rattle.rlsf_model.specs.Reallocate.{Plan, into_next}
use Rattle.rlsf_blocks.proofs.Words.NeverOut.{here_behind_used}
use Rattle.rlsf_blocks.specs.Steps.Resize.{IsOwnedBehind}
use Rattle.rlsf_blocks.proofs.Reallocate.NextPlans.{in_place-fits, kept_whole}
use Rattle.rlsf_tlsf.specs.Results.{IsResized}

-- the other used blocks are unchanged
pub others-filled : (addr : ℕ) (bytes : List ℕ) (us : List Used) → others addr (filled_at addr bytes us) ≡ others addr us
others-filled addr bytes [] = refl
others-filled addr bytes (u ∷ us) =
    let rest = others-filled addr bytes us in by_test (eqb u.payload addr)
    (λ e. ap (λ b. others addr (cond b (with_these u bytes) u ∷ filled_at addr bytes us)) e
    ∙ ap (λ b. cond (not b) (with_these u bytes ∷ others addr (filled_at addr bytes us)) (others addr (filled_at addr bytes us))) e ∙ rest
    ∙ sym (ap (λ b. cond (not b) (u ∷ others addr us) (others addr us)) e))
    (λ e. ap (λ b. others addr (cond b (with_these u bytes) u ∷ filled_at addr bytes us)) e ∙ ap (λ l. cond (not (eqb u.payload addr)) (u ∷ l) l) rest)

-- ---- what callers see of it

module _ {fllen sllen : ℕ} {memory : Range} {s t : State} {addr : ℕ} (w : IsWellFormed fllen sllen memory s) (did : Deallocates s addr t) where
  pub is_released : (u : Used) → Holds s addr u → released s u ≡ t
  is_released u holds = ap (released s) (Holds-unique w addr u did.block holds did.holds) ∙ sym did.after

-- a part's ticket shows the part
pub as_part : {align addr len wide : ℕ} (p : Piece) → IsTicketOf p align (extent addr len wide) → extent addr len wide ≡ extent p.start (length p.bytes) align
as_part p ticket = λ i. extent (sym ticket.0 i) (sym ticket.1 i) (sym ticket.2 i)

-- ---- what a call on the core needs

-- the payload's bytes are back, with values or without, and a deallocation of the state that is read is one of the state before
pub record IsGiven (fllen sllen : ℕ) (m n : Space) (x : Table) (j : State) (es : List Entry) (k : ℕ) (e : Extent) : Type 0 where
  pub shown : IsShown fllen sllen m x (read_from m j) es k e
  pub used : Used
  pub begins : used.block.start ≡ (block shown).block.start
  pub holds : Holds (read_from n j) e.addr used
  pub wide : used.align ≡ e.align
  pub own : IsOwned n (usable used)
  pub stands : StandsFor fllen sllen (contents n x) (read_from n j)
  pub spare : KeepsSpare m (read_from m j) n (read_from n j)
  pub start : n.start ≡ m.start
  pub long : length n.bytes ≡ length m.bytes
  pub view : n.view ≡ m.view
  pub grow : m.touches ≤ n.touches
  pub rest : (a : ℕ) → m.start ≤ a → IsOutsideChunks (read_from m j) a → is_own (out_at n a) ≡ is_own (out_at m a)
  pub steps : (t : State) → Deallocates (read_from n j) e.addr t → Deallocates (read_from m j) e.addr t

-- without values: the state is the same
pub raw_given : {fllen sllen : ℕ} {m n : Space} {x : Table} {j : State} {es : List Entry} {k : ℕ} {e : Extent} → IsShown fllen sllen m x (read_from m j) es k e
    → IsSpaceWith m n m.bytes (out_raw m (range_at e.addr e.len)) → m.touches ≤ n.touches → IsGiven fllen sllen m n x j es k e
raw_given {fllen} {sllen} {m} {n} {x} {j} {es} {k} {e} p memory grow =
    let same : read_from n j ≡ read_from m j = read_from-same m n j memory.start memory.bytes in
    let b : IsReturned fllen sllen m n x (read_from m j) es k e 0 =
    record { shown = p; within = omega arith; memory = subst (λ r. IsSpaceWith m n m.bytes (out_raw m r)) (sym (all_behind e.addr e.len 0 refl)) memory } in record {
      shown = p;
      used = block p;
      begins = refl;
      holds = subst (λ (s : State). Holds s e.addr (block p)) (sym same) (held p);
      wide = wide p;
      own = λ a lo hi. own-back b a (omega (arith, lo, (held p).1)) (omega (arith, hi, ends p, (p.stands.well_formed.used (block p) (held p).0).within));
      stands = subst (StandsFor fllen sllen (contents n x)) (sym same) (stands-back b);
      spare = λ a from to before after. same-byte m n memory.start memory.bytes a;
      start = memory.start;
      long = ap length memory.bytes;
      view = memory.view;
      grow = grow;
      rest = λ a from out. ap is_own (outside-back b a from (outside_unlent p.stands.well_formed a out));
      steps = λ t. subst (λ (s : State). Deallocates s e.addr t) same;
    }

module _ {fl_bits sl_bits fllen sllen : ℕ} {m n : Space} {x : Table} {j : State} {es : List Entry} {count k : ℕ} {e : Extent} {lent : Bool}
    (is : IsHeapOf fl_bits sl_bits fllen sllen m x j es count lent) (g : IsGiven fllen sllen m n x j es k e) where
  pub core_given : fl_bits ≤ 128 → IsCore fllen sllen n x j
  core_given limit = record { valid = IsValid-widest limit is.valid; stands = g.stands; is_bare = is.is_bare }

  pub found_given : {at : ℕ} (align : Option ℕ) → at ≡ e.addr → IfSome align (λ a. e.align ≡ a) → IsOwnFound n (read_from n j) at align
  found_given align same aligned = (g.used, ((g.holds.0, g.holds.1 ∙ sym same), some_more align (λ a is. g.wide ∙ is) aligned), g.own)

  -- ---- after the call

  module _ {o : Space} {y : Table} {l : State} {most : ℕ} (left : LeavesCore fllen sllen n o y j l most) {at : ℕ} (same : at ≡ e.addr)
      (step : Deallocates (read_from n j) at (read_from o l)) where
    pub did : Deallocates (read_from m j) e.addr (read_from o l)
    did = g.steps (read_from o l) (subst (λ a. Deallocates (read_from n j) a (read_from o l)) same step)

    pub gone_given : IsGone (read_from m j) (read_from o l) e.addr
    gone_given =
        let seen = gone_seen is.stands.well_formed (read_from o l) e.addr (did.block, did.holds) did in
        record { gone = seen.gone; aligns = seen.aligns; count = count_gone is.stands.well_formed (read_from o l) e.addr (did.block, did.holds) did }

    -- the blocks of live payloads have fewer bytes
    pub freed_given : live_bytes (read_from o l) + request_size e.len 16 ≤ live_bytes (read_from m j)
    freed_given =
        let u = block g.shown in
        let well = is.stands.well_formed in
        let same : length (bytes_at (read_from m j) e.addr) ≡ e.len =
        ap length (bytes_at-held well e.addr u (held g.shown)) ∙ (well.used u (held g.shown).0).bytes ∙ long g.shown in
        subst (λ n. live_bytes (read_from o l) + request_size n 16 ≤ live_bytes (read_from m j)) same (bytes_less well (read_from o l) e.addr did)

    pub one_less : count ≡ live_count (read_from o l) + 1
    one_less = is.counted ∙ gone_given.count

    pub chunks_given : (read_from o l).chunks ≡ (read_from m j).chunks
    chunks_given = chunks-deallocated (read_from m j) (read_from o l) e.addr did

    own_given : KeepsOwn m (read_from m j) o (read_from o l)
    own_given a from out again = left.own a (omega (arith, from, g.start)) ∙ g.rest a from out

    pub IsHeap-given : (fs : List Entry) → fs ≡ set es k (entry_of e false) → IsHeapOf fl_bits sl_bits fllen sllen o y l fs (count - 1) lent
    IsHeap-given fs entries =
        IsHeap-left left is.valid fs
        (subst (AreIssued (read_from o l)) (sym entries) (subst (λ (t : State). AreIssued t (set es k (entry_of e false)))
        (is_released is.stands.well_formed did (block g.shown) (held g.shown)) (issued-released g.shown)))
        (count - 1) (omega (arith, one_less))
        (λ not_lent. rest_kept m o (read_from m j) (read_from o l) (left.costs.start ∙ g.start) chunks_given own_given (is.rest not_lent))

    pub step_given : (label : ℕ) → Steps fllen sllen (heap_view o y l label lent) (Deallocates (read_from m j) e.addr)
    step_given label = Steps-left left label lent (Deallocates (read_from m j) e.addr) did

    pub bounds_given : KeepsAllBounds sllen (read_from m j) (read_from o l)
    bounds_given count most wide sized = sized_gone is.stands.well_formed (read_from o l) count most wide sized e.addr (did.block, did.holds) did

    pub keeps_given : (ledger label : ℕ) → label ≡ ledger → KeepsHeap (heap_view m x j ledger lent) (heap_view o y l label lent)
    keeps_given ledger label named =
        heap-over m o x y j l (left.costs.start ∙ g.start) (left.costs.length ∙ g.long) (left.costs.view ∙ g.view) (omega (arith, left.costs.grow, g.grow))
        (spare-then m n o (read_from m j) (read_from o l) g.start g.long (read_from n j) refl g.spare left.spare)
        (lent_kept m o (read_from m j) (read_from o l) (left.costs.start ∙ g.start) chunks_given own_given) ledger label named

-- ---- payloads of whole units: where they begin, and their length

-- at an alignment of 16 or less the payload begins 16 bytes behind its block
pub payload-narrow : (start align : ℕ) → start % 32 ≡ 0 → IsPowerOfTwo align → align ≤ 16 → payload_of start align ≡ start + 16
payload-narrow start align whole power few = omega (arith, payload_of-le start align whole power, payload_of-after start align)

usable-narrow : (f : Range) (size align : ℕ) (bs : List ℕ) → f.start % 32 ≡ 0 → IsPowerOfTwo align → align ≤ 16
    → (usable (placed f size align bs)).len ≡ payload_len size
usable-narrow f size align bs whole power few = grind (arith, payload-narrow)

pub units-long : (fllen sllen : ℕ) (v : HeapView) (s : State) (size addr : ℕ) → Steps fllen sllen v (Allocates sllen s size 16 (Some addr))
    → length (bytes_at v.state addr) ≡ payload_len size
unfolding Steps Stands
units-long fllen sllen v s size addr (p, stands) =
    let u = placed p.range size 16 p.bytes in
    let i : IsIn u v.state.used = subst (λ (x : State). IsIn u x.used) (sym p.after) (inl refl) in
    let is = stands.used u i in
    ap length (bytes_at-held stands addr u (i, sym p.answer)) ∙ is.bytes ∙ usable-narrow p.range size 16 p.bytes is.whole.start is.power (omega arith)

pub payload_len-whole : (size : ℕ) → payload_len size % 16 ≡ 0
payload_len-whole size = omega arith

-- ---- a payload of units gets another size in place, while its first bytes are out

-- a live ticket of the alignment 16 shows the payload at the address, of that length
module _ {fllen sllen : ℕ} {m : Space} {table : Table} {s : State} {es : List Entry} {k start len : ℕ} (p : IsShown fllen sllen m table s es k (extent start len 16)) where
  of : IsUsed (block p)
  of = p.stands.well_formed.used (block p) (held p).0

  pub begins : (block p).block.start + 16 ≡ start
  begins = sym (payload-narrow (block p).block.start (block p).align of.whole.start of.power (omega (arith, wide p))) ∙ sym of.placed ∙ (held p).1

  behind : start + (len + 8) ≡ end_of (block p).block + 8
  behind = omega (arith, ends p)

  -- the word behind it names the block, and can be read
  pub names : word_at m (start + (len + 8)) ≡ (block p).block.start
  names = ap (word_at m) behind ∙ p.stands.previous.used (block p) (held p).0

  pub readable : IsReadable m (start + (len + 8))
  readable =
      let place = used_in_memory p.stands.well_formed (block p) (held p).0 in let at = behind in
      is_word m (start + (len + 8)) (
        omega (arith, at, of.whole.start, of.whole.len),
        (omega (arith, at, place.0), omega (arith, at, place.1)),
        own-word m (range_at (end_of (block p).block) 16) (start + (len + 8)) (here_behind_used p.stands (block p) (held p).0) (omega (arith, at)) (omega (arith, at)),
      )
      (omega (arith, names, place.1, p.stands.well_formed.addressable))

  pub begins_at : (b : ℕ) → b ≡ word_at m (start + (len + 8)) → ((block p).block.start ≡ b) × (b + 16 ≡ start)
  begins_at b word = let e : (block p).block.start ≡ b = sym names ∙ sym word in (e, omega (arith, e, begins))

  pub start-fits : start < 2 ^ 64
  start-fits = omega (arith, lies p, p.stands.well_formed.addressable)

  -- where it ends with another size
  reaches : (size : ℕ) → end_of (resized (block p) size) ≡ start + payload_len size
  reaches size = grind (arith, block, p, held, begins)

  -- its own bytes suffice for a lesser size
  pub shrinks : {t : State} (size : ℕ) → payload_len size ≤ len → ReallocatesWithoutMove s start size None t → ⊥
  shrinks {t} size shorter did = go did.block (unmoved_plan s did.block size) refl did.step (Holds-unique p.stands.well_formed start did.block (block p) did.holds (held p))
    where
      go : (u : Used) (o : Option Plan) → unmoved_plan s u size ≡ o → ReallocatesUnmovedBy s u o None t → u ≡ block p → ⊥
      go u (Some q) e did same = absurd did
      go u None e did same =
          let none : unmoved_plan s (block p) size ≡ None = subst (λ b. unmoved_plan s b size ≡ None) same e in
          let some : Some (kept_whole s (block p) size) ≡ None =
          sym (ap (λ o. option_or o (into_next s (block p) size)) (in_place-fits s (block p) size (omega (arith, reaches size, ends p, shorter)))) ∙ none in absurd (cc)

-- its units behind the first ones are back
module _ {fllen sllen : ℕ} {m n : Space} {table : Table} {s : State} {es : List Entry} {k start len kept : ℕ}
    (b : IsReturned fllen sllen m n table s es k (extent start len 16) kept) where
  pub own-behind : (size : ℕ) → kept ≤ payload_len size → IsOwnedBehind n (block b.shown) size
  own-behind size fits a lo hi = own-back b a (omega (arith, lo, reaches b.shown size, fits)) (omega (arith, lo, hi, reaches b.shown size, ends b.shown, b.within))

  -- a call kept the payloads, but for its size
  module _ {o : Space} {y : Table} {t : State} (w : StandsFor fllen sllen (contents o y) t) (keeps : KeepsPayloadsResizing s t start) where
    now-held : (z : Used) × Holds t start z × (z.align ≡ (block b.shown).align)
    now-held = still (stands-back b) w keeps start (block b.shown) (held b.shown)

    pub same-long : t ≡ s → (z : Used) → Holds t start z → len ≡ (usable z).len
    same-long is z holds =
        sym (ap (λ u. (usable u).len) (Holds-unique b.shown.stands.well_formed start z (block b.shown) (subst (λ u. Holds u start z) is holds) (held b.shown)) ∙ long b.shown)

    pub resized-long : (size : ℕ) → IsResized s t start size start → (z : Used) → Holds t start z → payload_len size ≡ (usable z).len
    resized-long size is z holds =
        let (u, there, aligned) = now-held in
        let one = Holds-unique w.well_formed start z u holds there in
        let is_used = w.well_formed.used z holds.0 in
        let narrow : z.align ≡ 16 = ap (λ (v : Used). v.align) one ∙ aligned ∙ wide b.shown in
        let first : z.block.start + 16 ≡ z.payload =
        sym (payload-narrow z.block.start z.align is_used.whole.start is_used.power (omega (arith, narrow))) ∙ sym is_used.placed in
        let many = ap length (bytes_at-held w.well_formed start z holds) ∙ is_used.bytes in
        omega (arith, is.sized, is.few, many, first, is_used.whole.len, is_used.within)

    module _ (now : ℕ) (fits : kept ≤ now) (as_long : (z : Used) → Holds t start z → now ≡ (usable z).len) where
      abbrev z : Used
      z = now-held.0

      last : end_of z.block ≡ start + now
      last = omega (arith, as_long z now-held.1, now-held.1.1, (w.well_formed.used z now-held.1.0).within)

      pub now-lies : LiesIn (range_at start now) o.start (length o.bytes)
      now-lies = let l = lies_used w z now-held.1.0 in (omega (arith, l.0, now-held.1.1), omega (arith, l.1, now-held.1.1, as_long z now-held.1))

      -- its units behind the first ones are the memory's own, and leave again
      pub now-own : o.start ≡ n.start → SameOwn n o → IsOwned o (range_at (start + kept) (now - kept))
      now-own from own a lo hi =
          own_at (stands-back b) w keeps (block b.shown) z (held b.shown) now-held.1 from own a (omega (arith, lo)) (omega (arith, hi, lo, last))
          (λ inside. own-back b a lo (omega (arith, inside, lo, b.within, ends b.shown)))

      now-side : (a : ℕ) → (a < z.payload) ⊎ (end_of z.block ≤ a) → (a < start + kept) ⊎ (start + kept + (now - kept) ≤ a)
      now-side a (inl before) = inl (omega (arith, before, now-held.1.1))
      now-side a (inr past) = inr (omega (arith, past, last, fits))

      pub now-outside : (q : Space) → q.start ≡ o.start → q.out ≡ out_without o (range_at (start + kept) (now - kept)) → (a : ℕ) → o.start ≤ a → IsUnlent t a
          → out_at q a ≡ out_at o a
      now-outside q same out a from unlent =
          out-left o q (range_at (start + kept) (now - kept)) same (omega (arith, now-lies.0)) out a from (now-side a (unlent z now-held.1.0))

      pub now-stands : (q : Space) → q.start ≡ o.start → q.bytes ≡ o.bytes → q.out ≡ out_without o (range_at (start + kept) (now - kept)) → StandsFor fllen sllen (contents q y) t
      now-stands q same bytes out =
          stands_same o q w same bytes
          (now-outside q same out)

      -- its ticket is issued again, for this length
      pub now-issued : AreIssued t (renewed_entries es k (extent start len 16) now)
      now-issued =
          issued_renewed k (extent start len 16) now b.shown.tickets b.shown.issued (payload_still (stands-back b) w keeps)
          (payload_there (stands-back b) w keeps (extent start len 16) (found b.shown) refl now as_long)
