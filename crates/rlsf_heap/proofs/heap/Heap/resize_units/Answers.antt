use Rattle.std.proofs.Common.{◌≡◌, ℕ, ◌+◌, ◌-◌, ◌≤◌, ◌∷◌, [], ◌++◌, List, Bool, true, false, length, Some, arith, refl, sym, ap, subst, ◌∙◌}
use Rattle.rlsf_base.specs.declared.memory.unit_payload.UnitPayload.{UnitPayload}
use Rattle.rlsf_base.specs.Ledger.{Entry, entry_of, extent}
use Rattle.rlsf_base.specs.OpenSpace.{Home, IsOwned, home_of, out_without}
use Rattle.rlsf_base.specs.Out.{is_own}
use Rattle.rlsf_base.specs.Range.{LiesIn, range_at}
use Rattle.rlsf_base.specs.Space.{Space}
use Rattle.rlsf_base.specs.UnitPayload.{pointer_to}
use Rattle.rlsf_model.specs.NoMove.{ReallocatesWithoutMove}
use Rattle.rlsf_model.specs.State.{Holds, State, Used, usable}
use Rattle.rlsf_table.proofs.Parameters.{IsValid-widest}
use Rattle.rlsf_blocks.specs.Laws.{read_from}
use Rattle.rlsf_blocks.specs.StandsFor.{contents, StandsFor}
use Rattle.rlsf_tlsf.specs.CoreResizes.{KeepsBoundsThere, KeepsPayloadsResizing, stayed_if}
use Rattle.rlsf_tlsf.specs.Results.{IsResized}
use Rattle.rlsf_tlsf.proofs.Reached.{read_from-counted, read_from-same}
use Rattle.rlsf_heap.specs.Frame.{KeepsFrameBeside, KeepsSized}
use Rattle.rlsf_heap.specs.Heap.{AreIssued, HeapView, Identity, IsHeapOf, Stands, Steps, heap_view}
use Rattle.rlsf_heap.specs.Kept.{KeepsBytesBeside, KeepsOwn, NoneBecomesRawBeside}
use Rattle.rlsf_heap.specs.Units.{IsInPlace, payload_len}
use Rattle.rlsf_heap.proofs.Kept.{raw-tail, same-byte, spare-first, spare-last, lent_kept, outside_unlent, rest_kept}
use Rattle.rlsf_heap.proofs.OnCores.{heap-over, same_identity, stays}
use Rattle.rlsf_heap.proofs.Tickets.{IsReturned, block, held, lies, live, outside-back, stands-back}
use Rattle.rlsf_heap.proofs.Released.{payload_len-whole, begins_at, now-issued, now-lies, now-outside, now-own, now-stands, own-behind, readable, resized-long, same-long, shrinks}
use Rattle.rlsf_heap.proofs.Released.{start-fits}
use Rattle.rlsf_heap.proofs.heap.Heap.resize_units.Given as given
use Rattle.rlsf_heap.proofs.heap.Heap.resize_units.Goals as goal
use Rattle.rlsf_heap.proofs.heap.Heap.resize_units.Goals.{After-put_unit_payload-block, After-resize_block_in}

pub put_unit_payload-block-requires-clause-readable : goal.put_unit_payload-block-requires-clause-readable
put_unit_payload-block-requires-clause-readable g c = λ is. readable (record { stands = c.self.invariant.stands; tickets = c.self.invariant.tickets; issued = is })

-- ---- the units behind the kept bytes are back, and the block is found

back : (g : given.Over) (c : After-put_unit_payload-block g) → IsReturned g.row.FLLEN g.row.SLLEN c.self.inside.memory c.put_unit_payload-block.new.self c.self.inside.table
    (read_from c.self.inside.memory c.self.inside.state.state) c.self.inside.ledger.entries c.args.payload.key
    (extent c.args.payload.start c.args.payload.len 16) c.args.payload.kept
back g c =
    let e = c.put_unit_payload-block.ensures in record {
      shown = record { stands = c.self.invariant.stands; tickets = c.self.invariant.tickets; issued = e.issued };
      within = c.args.payload.within.0;
      memory = e.memory;
    }

pub overflow_add-start : goal.overflow_add-start
overflow_add-start g c =
    let b = back g (goal.at.overflow_add-start g c).After-put_unit_payload-block in
    record { fits = omega (arith, (begins_at b.shown c.put_unit_payload-block.result c.put_unit_payload-block.ensures.word).1, start-fits b.shown) }

pub resize_block_in-requires : goal.resize_block_in-requires
resize_block_in-requires g c =
    let b = back g (goal.at.resize_block_in-requires g c).After-put_unit_payload-block in
    let is = c.self.invariant in
    let n = c.put_unit_payload-block.new.self in
    let e = c.put_unit_payload-block.ensures in
    let size = c.from_size_align_unchecked-sought.ensures.0 in
    let same = read_from-same c.self.inside.memory n c.self.inside.state.state e.memory.start e.memory.bytes in
    let (starts, at) = begins_at b.shown c.put_unit_payload-block.result e.word in
    let there = held b.shown in (
      omega arith,
      (
        record {
          valid = IsValid-widest g.FLBitmap.BitPattern.width_limit is.valid;
          stands = subst (StandsFor g.row.FLLEN g.row.SLLEN (contents n c.self.inside.table)) (sym same) (stands-back b);
          is_bare = is.is_bare;
        },
        (
          (
            block b.shown,
            subst (λ (s : State). Holds s (c.put_unit_payload-block.result + 16) (block b.shown)) (sym same) (there.0, there.1 ∙ sym at),
            starts,
            own-behind b c.from_size_align_unchecked-sought.result.size (omega (arith, c.requires.kept, size)),
          ),
          omega (arith, size, c.requires.size),
        ),
      ),
    )

-- ---- after the core's call

module _ (g : given.Over) (c : After-resize_block_in g) where
  abbrev m : Space
  m = c.self.inside.memory

  abbrev n : Space
  n = c.put_unit_payload-block.new.self

  abbrev o : Space
  o = c.resize_block_in.new.memory

  abbrev k : State
  k = c.self.inside.state.state

  abbrev j : State
  j = c.resize_block_in.new.state.state

  abbrev ledger : ℕ
  ledger = c.self.inside.ledger.name

  b : IsReturned g.row.FLLEN g.row.SLLEN m n c.self.inside.table (read_from m k) c.self.inside.ledger.entries c.args.payload.key
      (extent c.args.payload.start c.args.payload.len 16) c.args.payload.kept
  b =
      let e = c.put_unit_payload-block.ensures in record {
        shown = record { stands = c.self.invariant.stands; tickets = c.self.invariant.tickets; issued = e.issued };
        within = c.args.payload.within.0;
        memory = e.memory;
      }

  at : c.put_unit_payload-block.result + 16 ≡ c.args.payload.start
  at = (begins_at b.shown c.put_unit_payload-block.result c.put_unit_payload-block.ensures.word).1

  kept_is : c.lesser-kept.result ≡ c.args.payload.kept
  kept_is = omega (arith, c.lesser-kept.ensures, c.unit_payload_len-wanted.ensures, c.requires.len, c.requires.kept)

  same : read_from n k ≡ read_from m k
  same = read_from-same m n k c.put_unit_payload-block.ensures.memory.start c.put_unit_payload-block.ensures.memory.bytes

  -- what is so of the states that the call saw, and of the address and the size as they were passed, is so of those that contracts see
  told : {t : State} → t ≡ read_from o j → (So : State → State → ℕ → ℕ → Type 0)
      → So (read_from n k) (read_from o j) (c.put_unit_payload-block.result + 16) c.from_size_align_unchecked-sought.result.size
      → So (read_from m k) t c.args.payload.start c.args.size
  told is So so =
      subst (λ (x : State × State × ℕ × ℕ). So x.0 x.1 x.2 x.3) (λ i. (same i, sym is i, at i, c.from_size_align_unchecked-sought.ensures.0 i)) so

  step : {t : State} → t ≡ read_from o j → (done : Bool) → c.resize_block_in.result ≡ done
      → ReallocatesWithoutMove (read_from m k) c.args.payload.start c.args.size (stayed_if done c.args.payload.start) t
  step {t} is done did =
      subst (λ d. ReallocatesWithoutMove (read_from m k) c.args.payload.start c.args.size (stayed_if d c.args.payload.start) t) did
      (told is (λ s u a size. ReallocatesWithoutMove s a size (stayed_if c.resize_block_in.result a) u) c.resize_block_in.ensures.step)

  keeps : {t : State} → t ≡ read_from o j → KeepsPayloadsResizing (read_from m k) t c.args.payload.start
  keeps is = told is (λ s u a size. KeepsPayloadsResizing s u a) c.resize_block_in.ensures.kept

  sized : {t : State} → t ≡ read_from o j → KeepsSized g.row.SLLEN (read_from m k) t c.args.size 16
  sized is =
      let bounds = told is (λ s u a size. KeepsBoundsThere g.row.SLLEN s u a size) c.resize_block_in.ensures.bounds in
      record { sized = λ count most wide sized short fits. bounds count most wide 16 sized (live b.shown) short fits; count = (keeps is).count }

  -- its units leave again, by the length that it has now
  module _ (q : Space) (start : q.start ≡ o.start) (bytes : q.bytes ≡ o.bytes) where
    as_left : read_from q j ≡ read_from o j
    as_left = read_from-same o q j start bytes

    w : StandsFor g.row.FLLEN g.row.SLLEN (contents o c.resize_block_in.new.table) (read_from q j)
    w = subst (StandsFor g.row.FLLEN g.row.SLLEN (contents o c.resize_block_in.new.table)) (sym as_left) c.resize_block_in.ensures.left.core.stands

    same_as : c.resize_block_in.result ≡ false → read_from q j ≡ read_from m k
    same_as refused = let e = c.resize_block_in.ensures.refused refused in as_left ∙ ap (read_from o) e.state ∙ read_from-counted e.counts k ∙ same

    as_was : c.resize_block_in.result ≡ false → (z : Used) → Holds (read_from q j) c.args.payload.start z → c.args.payload.len ≡ (usable z).len
    as_was refused = same-long b w (keeps as_left) (same_as refused)

    as_wanted : c.resize_block_in.result ≡ true → (z : Used) → Holds (read_from q j) c.args.payload.start z → payload_len c.args.size ≡ (usable z).len
    as_wanted did = resized-long b w (keeps as_left) c.args.size (told as_left (λ s u a size. IsResized s u a size a) (c.resize_block_in.ensures.result did))

    module _ (now : ℕ) (fits : c.args.payload.kept ≤ now) (as_long : (z : Used) → Holds (read_from q j) c.args.payload.start z → now ≡ (usable z).len)
        {len : ℕ} (long : len ≡ now) where
      placed : LiesIn (range_at (c.put_unit_payload-block.result + 16) len) o.start (length o.bytes)
      placed = let is = now-lies b w (keeps as_left) now fits as_long in (omega (arith, is, at), omega (arith, is, at, long))

      own : IsOwned o (range_at (c.put_unit_payload-block.result + 16 + c.lesser-kept.result) (len - c.lesser-kept.result))
      own a lo hi =
          now-own b w (keeps as_left) now fits as_long c.resize_block_in.ensures.left.costs.start c.resize_block_in.ensures.left.own a (omega (arith, lo, at, kept_is))
          (omega (arith, lo, hi, at, kept_is, long))

      -- the same bytes outside of all chunks are the memory's own
      kept_own : q.out ≡ out_without o (range_at (c.put_unit_payload-block.result + 16 + c.lesser-kept.result) (len - c.lesser-kept.result))
          → KeepsOwn m (read_from m k) q (read_from q j)
      kept_own out a from before after =
          let put = c.put_unit_payload-block.ensures.memory.start in
          let left = c.resize_block_in.ensures.left in
          ap is_own (now-outside b w (keeps as_left) now fits as_long q start (out ∙ (λ i. out_without o (range_at (at i + kept_is i) (long i - kept_is i)))) a
          (omega (arith, from, put, left.costs.start)) (outside_unlent w.well_formed a after))
          ∙ left.own a (omega (arith, from, put)) ∙ ap is_own (outside-back b a from (outside_unlent c.self.invariant.stands.well_formed a before))

      heap : (fs : List Entry) → fs ≡ c.put_unit_payload-block.new.ledger.entries ++ entry_of (extent (c.put_unit_payload-block.result + 16) len 16) true ∷ []
          → q.out ≡ out_without o (range_at (c.put_unit_payload-block.result + 16 + c.lesser-kept.result) (len - c.lesser-kept.result))
          → IsHeapOf g.FLBitmap.BitPattern.width g.SLBitmap.BitPattern.width g.row.FLLEN g.row.SLLEN q c.resize_block_in.new.table j fs c.self.inside.live c.self.inside.lent
      heap fs entries out = record {
        valid = c.self.invariant.valid;
        stands = now-stands b w (keeps as_left) now fits as_long q start bytes (out ∙ (λ i. out_without o (range_at (at i + kept_is i) (long i - kept_is i))));
        is_bare = c.resize_block_in.ensures.left.core.is_bare;
        tickets = subst (AreIssued (read_from q j))
            ((λ i. sym c.put_unit_payload-block.ensures.ledger.1 i ++ entry_of (extent (sym at i) (sym long i) 16) true ∷ []) ∙ sym entries)
            (now-issued b w (keeps as_left) now fits as_long);
        counted = c.self.invariant.counted ∙ sym (keeps as_left).count;
        rest = λ not_lent. rest_kept m q (read_from m k) (read_from q j) (start ∙ c.resize_block_in.ensures.left.costs.start ∙ c.put_unit_payload-block.ensures.memory.start)
            (keeps as_left).chunks (kept_own out) (c.self.invariant.rest not_lent);
      }

      in_place : {p : UnitPayload} → (p.home ≡ home_of o) × (p.start ≡ c.put_unit_payload-block.result + 16) × (p.len ≡ len) × (p.kept ≡ c.lesser-kept.result) → p.name ≡ ledger
          → IsInPlace (record { home = home_of m; ledger = ledger }) c.args.payload now p
      in_place {p} place name =
          let put = c.put_unit_payload-block.ensures in
          let costs = c.resize_block_in.ensures.left.costs in
          let first : p.start ≡ c.args.payload.start = place.1 ∙ at in
          let view : p.home.view ≡ c.args.payload.home.view =
          ap (λ (h : Home). h.view) place.0 ∙ costs.view ∙ put.memory.view ∙ ap (λ (v : HeapView). v.identity.home.view) c.self.view_is
          ∙ sym (ap (λ (h : Identity). h.home.view) c.requires.heap) in
          record {
            identity = (λ i. record { home = place.0 i; ledger = p.name })
                ∙ same_identity m o (costs.start ∙ put.memory.start) (costs.length ∙ ap length put.memory.bytes) (costs.view ∙ put.memory.view) ledger p.name name;
            start = first;
            ptr = p.placed.at ∙ (λ i. pointer_to (view i) (first i)) ∙ sym c.args.payload.placed.at;
            kept = place.3 ∙ kept_is;
            long = place.2 ∙ long;
          }

      frame : q.view ≡ o.view → q.touches ≡ o.touches → q.copied ≡ o.copied
          → q.out ≡ out_without o (range_at (c.put_unit_payload-block.result + 16 + c.lesser-kept.result) (len - c.lesser-kept.result)) → {name : ℕ} → name ≡ ledger
          → KeepsFrameBeside (heap_view m c.self.inside.table k ledger c.self.inside.lent) (heap_view q c.resize_block_in.new.table j name c.self.inside.lent)
          (range_at c.args.payload.start c.args.payload.len)
      unfolding NoneBecomesRawBeside
      frame view touches copied out {name} called =
          let put = c.put_unit_payload-block.ensures in
          let left = c.resize_block_in.ensures.left in
          let costs = left.costs in record {
            heap = heap-over m q c.self.inside.table c.resize_block_in.new.table k j (start ∙ costs.start ∙ put.memory.start)
                (ap length bytes ∙ costs.length ∙ ap length put.memory.bytes)
                (view ∙ costs.view ∙ put.memory.view) (omega (arith, touches, costs.grow, put.counts.0))
                (spare-last m o q (read_from m k) (read_from q j) start bytes (spare-first m n o (read_from m k) (read_from q j) put.memory.start put.memory.bytes left.spare))
                (lent_kept m q (read_from m k) (read_from q j) (start ∙ costs.start ∙ put.memory.start) (keeps as_left).chunks (kept_own out)) ledger name called;
            raw = raw-tail m n o q c.args.payload.start c.args.payload.kept c.args.payload.len c.args.payload.within.0 (lies b.shown).0 put.memory.start
                put.memory.out (stays left) _ start
                (omega (arith, (lies b.shown).0, at, put.memory.start, costs.start)) out;
            chunks = (keeps as_left).chunks;
            copied = omega (arith, copied, costs.copied, put.counts.1);
          }

-- ---- the bytes don't suffice

pub take_unit_payload-requires-clause-place : goal.take_unit_payload-requires-clause-place
take_unit_payload-requires-clause-place g c =
    let d = (goal.at.take_unit_payload-requires-clause-place g c).After-resize_block_in in
    let o = c.resize_block_in.new.memory in
    placed g d o refl refl c.args.payload.len c.args.payload.within.0 (as_was g d o refl refl c.if-not-resize_block_in.true) c.requires.len

pub take_unit_payload-requires-clause-units : goal.take_unit_payload-requires-clause-units
take_unit_payload-requires-clause-units g c =
    let d = (goal.at.take_unit_payload-requires-clause-units g c).After-resize_block_in in
    (omega (arith, at g d, c.args.payload.placed.aligned.0), omega (arith, c.requires.len, c.args.payload.placed.aligned.1))

pub take_unit_payload-requires-clause-own : goal.take_unit_payload-requires-clause-own
take_unit_payload-requires-clause-own g c =
    let d = (goal.at.take_unit_payload-requires-clause-own g c).After-resize_block_in in
    let o = c.resize_block_in.new.memory in
    own g d o refl refl c.args.payload.len c.args.payload.within.0 (as_was g d o refl refl c.if-not-resize_block_in.true) c.requires.len

pub invariant_of-self : goal.invariant_of-self
invariant_of-self g c =
    let d = (goal.at.invariant_of-self g c).After-resize_block_in in
    let e = c.take_unit_payload.ensures in
    let q = c.take_unit_payload.new.self in
    heap g d q e.memory.start e.memory.bytes c.args.payload.len c.args.payload.within.0 (as_was g d q e.memory.start e.memory.bytes c.if-not-resize_block_in.true) c.requires.len
    c.issue-ticket.new.self.entries c.issue-ticket.ensures.entries e.memory.out

pub returns-then-not-resize_block_in : goal.returns-then-not-resize_block_in
unfolding Steps Stands KeepsBytesBeside
returns-then-not-resize_block_in g c =
    let d = (goal.at.returns-then-not-resize_block_in g c).After-resize_block_in in
    let q = c.take_unit_payload.new.self in
    let put = c.put_unit_payload-block.ensures in
    let e = c.take_unit_payload.ensures in
    let no = c.if-not-resize_block_in.true in
    let counts = (c.resize_block_in.ensures.refused no).counts in
    let is = as_left g d c.take_unit_payload.new.self e.memory.start e.memory.bytes in
    let within = c.args.payload.within.0 in
    let long = as_was g d c.take_unit_payload.new.self e.memory.start e.memory.bytes no in
    let did = step g d is false no in
    rw (← c.self.view_is) (record {
      step = (did, (invariant_of-self g c).stands.well_formed);
      result = tt;
      room = λ shorter. absurd (shrinks (b g d).shown c.args.size shorter did);
      bounds = sized g d is;
      refused = record {
        place = in_place g d q e.memory.start e.memory.bytes c.args.payload.len within long c.requires.len e.place (e.ticket.0 ∙ c.issue-ticket.ensures.name.0 ∙ put.ledger.0);
        same = same_as g d c.take_unit_payload.new.self e.memory.start e.memory.bytes no;
        aligns = (keeps g d is).aligns;
        unchanged = λ a from to side. same-byte c.self.inside.memory q (e.memory.start ∙ counts.start ∙ put.memory.start) (e.memory.bytes ∙ counts.bytes ∙ put.memory.bytes) a;
      };
      frame = frame g d q e.memory.start e.memory.bytes c.args.payload.len within long c.requires.len e.memory.view e.counts.0 e.counts.1 e.memory.out
          (c.issue-ticket.ensures.name.1 ∙ put.ledger.0);
      touches = omega (arith, e.counts.0, c.resize_block_in.ensures.left.costs.touches, put.counts.0);
    })

-- ---- the payload has the other size

-- the kept bytes are its first ones then, too
fits : (g : given.Over) (c : After-put_unit_payload-block g) → c.args.payload.kept ≤ payload_len c.args.size
fits g c = omega (arith, c.requires.kept)

pub take_unit_payload-requires-2-clause-place : goal.take_unit_payload-requires-2-clause-place
take_unit_payload-requires-2-clause-place g c =
    let d = (goal.at.take_unit_payload-requires-2-clause-place g c).After-resize_block_in in
    let early = (goal.at.take_unit_payload-requires-2-clause-place g c).After-put_unit_payload-block in
    let o = c.resize_block_in.new.memory in
    placed g d o refl refl (payload_len c.args.size) (fits g early) (as_wanted g d o refl refl c.if-not-resize_block_in.false) c.unit_payload_len-wanted.ensures

pub take_unit_payload-requires-2-clause-units : goal.take_unit_payload-requires-2-clause-units
take_unit_payload-requires-2-clause-units g c =
    let d = (goal.at.take_unit_payload-requires-2-clause-units g c).After-resize_block_in in
    (omega (arith, at g d, c.args.payload.placed.aligned.0), omega (arith, c.unit_payload_len-wanted.ensures, payload_len-whole c.args.size))

pub take_unit_payload-requires-2-clause-own : goal.take_unit_payload-requires-2-clause-own
take_unit_payload-requires-2-clause-own g c =
    let d = (goal.at.take_unit_payload-requires-2-clause-own g c).After-resize_block_in in
    let early = (goal.at.take_unit_payload-requires-2-clause-own g c).After-put_unit_payload-block in
    let o = c.resize_block_in.new.memory in
    own g d o refl refl (payload_len c.args.size) (fits g early) (as_wanted g d o refl refl c.if-not-resize_block_in.false) c.unit_payload_len-wanted.ensures

pub invariant_of-self-2 : goal.invariant_of-self-2
invariant_of-self-2 g c =
    let d = (goal.at.invariant_of-self-2 g c).After-resize_block_in in
    let early = (goal.at.invariant_of-self-2 g c).After-put_unit_payload-block in
    let e = c.take_unit_payload-2.ensures in
    let q = c.take_unit_payload-2.new.self in
    heap g d q e.memory.start e.memory.bytes (payload_len c.args.size) (fits g early)
    (as_wanted g d q e.memory.start e.memory.bytes c.if-not-resize_block_in.false) c.unit_payload_len-wanted.ensures
    c.issue-ticket-2.new.self.entries c.issue-ticket-2.ensures.entries e.memory.out

pub returns : goal.returns
unfolding Steps Stands
returns g c =
    let d = (goal.at.returns g c).After-resize_block_in in
    let early = (goal.at.returns g c).After-put_unit_payload-block in
    let put = c.put_unit_payload-block.ensures in
    let e = c.take_unit_payload-2.ensures in
    let yes = c.if-not-resize_block_in.false in
    let is = as_left g d c.take_unit_payload-2.new.self e.memory.start e.memory.bytes in
    let now = payload_len c.args.size in
    let long = as_wanted g d c.take_unit_payload-2.new.self e.memory.start e.memory.bytes yes in
    let wanted = c.unit_payload_len-wanted.ensures in
    let start : c.take_unit_payload-2.result.start ≡ c.args.payload.start = e.place.1 ∙ at g d in
    rw (← c.self.view_is) (record {
      step = (
        subst (λ a. ReallocatesWithoutMove (read_from c.self.inside.memory c.self.inside.state.state) c.args.payload.start c.args.size (Some a)
            (read_from c.take_unit_payload-2.new.self c.resize_block_in.new.state.state)) (sym start) (step g d is true yes),
        (invariant_of-self-2 g c).stands.well_formed,
      );
      result = record {
        place = in_place g d c.take_unit_payload-2.new.self e.memory.start e.memory.bytes now (fits g early) long wanted e.place
            (e.ticket.0 ∙ c.issue-ticket-2.ensures.name.0 ∙ put.ledger.0);
        aligns = (keeps g d is).aligns;
      };
      room = λ shorter. refl;
      bounds = sized g d is;
      refused = tt;
      frame = frame g d c.take_unit_payload-2.new.self e.memory.start e.memory.bytes now (fits g early) long wanted e.memory.view e.counts.0 e.counts.1 e.memory.out
          (c.issue-ticket-2.ensures.name.1 ∙ put.ledger.0);
      touches = omega (arith, e.counts.0, c.resize_block_in.ensures.left.costs.touches, put.counts.0);
    })
