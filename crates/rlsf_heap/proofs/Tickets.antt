-- Tickets, and what they show: live entries of a ledger, payloads that are live and apart, and payloads that get another size.
use Rattle.std.proofs.Common.{◌≡◌, ◌≢◌, ℕ, ◌+◌, ◌-◌, ◌⊎◌, true, false, true≢false, List, [], ◌∷◌, ◌++◌, length, length-append, get_or, set, arith, inl, inr, refl, sym, ap, subst}
use Rattle.std.proofs.Common.{◌∙◌, ◌<◌, ◌≤◌, Some, ◌%◌}
use Rattle.std.proofs.lemmas.Bool.{cases_eq, cases_lt}
use Rattle.std.proofs.lemmas.List.{get_or-set_same, get_or-set_other, get_or_append_left, get_or-append_right, length-set}
use Rattle.rlsf_base.specs.Ledger.{Entry, Extent, entry_of, nowhere, IsIssued, extent}
use Rattle.rlsf_model.specs.State.{State, Used, Holds, usable}
use Rattle.rlsf_heap.specs.Heap.{AreIssued, IsPayload, LiesInChunk, PayloadView, HeapView, Identity, IsTicketOf, Stands, Steps, payload_range, payload_view}
use Rattle.rlsf_base.specs.declared.memory.range.Range.{Range}
use Rattle.rlsf_base.specs.MemoryCalls.{IsSpaceWith}
use Rattle.rlsf_base.specs.OpenSpace.{IsOwned, out_raw, home_of, SameOwn}
use Rattle.rlsf_base.specs.Out.{raw, is_own, kept_at}
use Rattle.rlsf_base.specs.Range.{LiesIn, end_of, range_at, AreApart}
use Rattle.rlsf_base.specs.Space.{Space, out_at}
use Rattle.rlsf_base.proofs.Changes.{changed-there}
use Rattle.rlsf_model.specs.Callers.{align_at, bytes_at}
use Rattle.rlsf_model.specs.Release.{released}
use Rattle.rlsf_model.proofs.CallerWords.{align_at-held, align_at-live, bytes_at-held}
use Rattle.rlsf_model.proofs.Changes.{IsIn-others_from, Holds-unique}
use Rattle.rlsf_table.specs.Table.{Table}
use Rattle.rlsf_blocks.specs.StandsFor.{contents, IsUnlent, StandsFor}
use Rattle.rlsf_tlsf.proofs.Placed.{lies_used}
use Rattle.rlsf_heap.proofs.Kept.{out-back, stands_same}
use Rattle.rlsf_model.specs.WellFormed.{IsWellFormed}
use Rattle.rlsf_model.proofs.Live.{live_addresses_are_aligned}
use Rattle.rlsf_model.proofs.Payloads.{IsUsed-after_start}
use Rattle.rlsf_blocks.proofs.Words.Apart.{home_of_used, used_used}
use Rattle.rlsf_heap.specs.Renewed.{IsRedeemed}
use Rattle.rlsf_base.specs.declared.memory.ledger.Ticket.{Ticket}
use Rattle.rlsf_base.specs.declared.memory.view.View.{View}
use Rattle.rlsf_base.specs.Piece.{CanCome, Piece}
use Rattle.rlsf_model.specs.Allocate.{Allocates}
use Rattle.rlsf_model.specs.Lists.{IsIn}
use Rattle.rlsf_blocks.specs.Steps.LiveBlock.{AtEachBlock, IsLiveIn}
use Rattle.rlsf_blocks.proofs.Reallocate.Addresses.{some_reply}
use Rattle.rlsf_heap.specs.Raw.{CanComeBack, bytes_of}
use Rattle.rlsf_heap.specs.Thin.{reply_of}
use Rattle.rlsf_tlsf.specs.CoreResizes.{KeepsPayloadsResizing}
use Rattle.rlsf_heap.specs.ThinUnknownAlign.{renewed_entries}

-- ---- the k-th ticket was redeemed

module _ (entries : List Entry) (k : ℕ) (shown : Extent) (is : IsIssued entries k shown) where
  -- the other entries are live as before
  pub redeemed_other : (j : ℕ) (w : Extent) → IsIssued (set entries k (entry_of shown false)) j w → (j ≢ k) × IsIssued entries j w
  redeemed_other j w was = grind (arith, cases_eq, get_or-set_same, set, true≢false, length-set, get_or-set_other)

  module _ (s : State) (tickets : AreIssued s entries) where
    -- none of them is at its address
    pub redeemed_apart : (j : ℕ) (w : Extent) → IsIssued (set entries k (entry_of shown false)) j w → w.addr ≢ shown.addr
    redeemed_apart j w was same = let (apart, old) = redeemed_other j w was in apart (tickets.apart j k w shown old is same)

    pub issued-less : AreIssued s (set entries k (entry_of shown false))
    issued-less = record {
      issued = λ j w was. tickets.issued j w (redeemed_other j w was).1;
      apart = λ i j w x one two at. tickets.apart i j w x (redeemed_other i w one).1 (redeemed_other j x two).1 at;
    }

-- ---- a ticket was issued

module _ (entries : List Entry) (new : Extent) where
  -- a live entry is one of before, or the new one
  pub issued_last : (j : ℕ) (w : Extent) → IsIssued (entries ++ entry_of new true ∷ []) j w → IsIssued entries j w ⊎ ((j ≡ length entries) × (w ≡ new))
  issued_last j w is = elim (cases_lt j (length entries)) [
    | inl old ↦ inl (old, sym (get_or_append_left entries (entry_of new true ∷ []) (entry_of nowhere false) j old) ∙ is.1)
    | inr high ↦
        let last : j ≡ length entries = omega (arith, high, is.0, length-append entries (entry_of new true ∷ [])) in
        let there : get_or (entries ++ entry_of new true ∷ []) j (entry_of nowhere false) ≡ entry_of new true =
        ap (λ i. get_or (entries ++ entry_of new true ∷ []) i (entry_of nowhere false)) last
        ∙ get_or-append_right entries (entry_of new true ∷ []) (length entries) (length entries) (entry_of nowhere false) refl (omega arith)
        ∙ ap (λ i. get_or (entry_of new true ∷ []) i (entry_of nowhere false)) (let e : length entries - length entries ≡ 0 = omega arith in e) in
        let same_entry : entry_of w true ≡ entry_of new true = sym is.1 ∙ there in
        inr (last, λ i. record { addr = (same_entry i).addr; len = (same_entry i).len; align = (same_entry i).align })
  ]

  -- the new entry is that of a live payload, and no other one is at its address
  pub issued-more : (s : State) → AreIssued s entries → IsPayload s new → ((j : ℕ) (w : Extent) → IsIssued entries j w → w.addr ≢ new.addr)
      → AreIssued s (entries ++ entry_of new true ∷ [])
  issued-more s tickets there others = record {
    issued = λ j w is. elim (issued_last j w is) [
      | inl old ↦ tickets.issued j w old
      | inr (last, one) ↦ subst (IsPayload s) (sym one) there
    ];
    apart = λ i j w x one two at. elim (issued_last i w one) [
      | inl old ↦ elim (issued_last j x two) [
        | inl other ↦ tickets.apart i j w x old other at
        | inr (last, is_new) ↦ absurd (others i w old (at ∙ ap (λ (y : Extent). y.addr) is_new))
      ]
      | inr (last, is_new) ↦ elim (issued_last j x two) [
        | inl other ↦ absurd (others j x other (sym at ∙ ap (λ (y : Extent). y.addr) is_new))
        | inr (again, also) ↦ last ∙ sym again
      ]
    ];
  }

-- ---- two tickets were redeemed and issued again

module _ (entries : List Entry) (s : State) (tickets : AreIssued s entries) (j k : ℕ) (v w : Extent) (first : IsIssued entries j v)
    (second : IsIssued (set entries j (entry_of v false)) k w) where
  -- the second one was live from the start
  pub both_issued : IsIssued entries k w
  both_issued = (redeemed_other entries j v first k w second).1

  -- they are at two addresses
  pub both_apart : v.addr ≢ w.addr
  both_apart same = redeemed_apart entries j v first s tickets k w second (sym same)

  abbrev rest : List Entry
  rest = set (set entries j (entry_of v false)) k (entry_of w false)

  pub issued-again : AreIssued s ((rest ++ entry_of v true ∷ []) ++ entry_of w true ∷ [])
  issued-again =
      let less = issued-less entries j v first s tickets in
      let one = issued-more rest v s (issued-less (set entries j (entry_of v false)) k w second s less) (tickets.issued j v first)
      (λ i x is. redeemed_apart entries j v first s tickets i x (redeemed_other (set entries j (entry_of v false)) k w second i x is).1) in
      issued-more (rest ++ entry_of v true ∷ []) w s one (tickets.issued k w both_issued) (λ i x is. elim (issued_last rest v i x is) [
        | inl old ↦ redeemed_apart (set entries j (entry_of v false)) k w second s less i x old
        | inr (last, new) ↦ λ same. both_apart (ap (λ (y : Extent). y.addr) (sym new) ∙ same)
      ])

-- ---- a live ticket shows a payload, whose bytes behind the first ones come back raw

pub record IsShown (fllen sllen : ℕ) (m : Space) (table : Table) (s : State) (es : List Entry) (k : ℕ) (e : Extent) : Type 0 where
  pub stands : StandsFor fllen sllen (contents m table) s
  pub tickets : AreIssued s es
  pub issued : IsIssued es k e

module _ {fllen sllen : ℕ} {m : Space} {table : Table} {s : State} {es : List Entry} {k : ℕ} {e : Extent} (p : IsShown fllen sllen m table s es k e) where
  pub found : IsPayload s e
  found = p.tickets.issued k e p.issued

  pub block : Used
  block = found.0

  pub held : Holds s e.addr block
  unfolding block
  held = (found.1, found.2)

  pub wide : block.align ≡ e.align
  unfolding block
  wide = found.4

  pub long : (usable block).len ≡ e.len
  unfolding block
  long = found.3

  pub live : align_at s e.addr ≡ Some e.align
  live = align_at-held p.stands.well_formed e.addr block held ∙ ap Some wide

  pub usable_is : usable block ≡ range_at e.addr e.len
  usable_is = λ i. range_at (held.1 i) (long i)

  -- it lies in the memory
  pub lies : LiesIn (range_at e.addr e.len) m.start (length m.bytes)
  lies = subst (λ (r : Range). LiesIn r m.start (length m.bytes)) usable_is (lies_used p.stands block held.0)

  pub ends : end_of block.block ≡ e.addr + e.len
  ends = omega (arith, long, held.1, (p.stands.well_formed.used block held.0).within)

  -- its ticket is redeemed, and its block is released
  pub issued-released : AreIssued (released s block) (set es k (entry_of e false))
  issued-released = record {
    issued = λ j w was.
        let (apart, old) = redeemed_other es k e p.issued j w was in
        let (x, i, at, len, wide) = p.tickets.issued j w old in
        (x, IsIn-others_from block.payload x s.used i (λ same. apart (p.tickets.apart j k w e old p.issued (sym at ∙ same ∙ held.1))), at, len, wide);
    apart = λ i j w x one two at. p.tickets.apart i j w x (redeemed_other es k e p.issued i w one).1 (redeemed_other es k e p.issued j x two).1 at;
  }

-- its bytes behind the first ones are back
pub record IsReturned (fllen sllen : ℕ) (m n : Space) (table : Table) (s : State) (es : List Entry) (k : ℕ) (e : Extent) (kept : ℕ) : Type 0 where
  pub shown : IsShown fllen sllen m table s es k e
  pub within : kept ≤ e.len
  pub memory : IsSpaceWith m n m.bytes (out_raw m (range_at (e.addr + kept) (e.len - kept)))

module _ {fllen sllen : ℕ} {m n : Space} {table : Table} {s : State} {es : List Entry} {k : ℕ} {e : Extent} {kept : ℕ}
    (b : IsReturned fllen sllen m n table s es k e kept) where
  side : (a : ℕ) → (a < (block b.shown).payload) ⊎ (end_of (block b.shown).block ≤ a) → (a < e.addr + kept) ⊎ (e.addr + kept + (e.len - kept) ≤ a)
  side a (inl before) = inl (omega (arith, before, (held b.shown).1))
  side a (inr past) = inr (omega (arith, past, ends b.shown, b.within))

  pub outside-back : (a : ℕ) → m.start ≤ a → IsUnlent s a → out_at n a ≡ out_at m a
  outside-back a from unlent =
      out-back m n (range_at (e.addr + kept) (e.len - kept)) b.memory.start (omega (arith, (lies b.shown).0)) b.memory.out a from
      (side a (unlent (block b.shown) (held b.shown).0))

  pub stands-back : StandsFor fllen sllen (contents n table) s
  stands-back = stands_same m n b.shown.stands b.memory.start b.memory.bytes outside-back

  pub own-back : IsOwned n (range_at (e.addr + kept) (e.len - kept))
  own-back a lo hi =
      (λ i. is_own (kept_at (b.memory.out i) (a - b.memory.start i)))
      ∙ ap is_own (changed-there raw m.out (e.addr + kept - m.start) (e.len - kept) (a - m.start) (omega (arith, lo, (lies b.shown).0)) (omega (arith, hi, lo, (lies b.shown).0)))

-- all bytes are those behind the first 0
pub all_behind : (start len kept : ℕ) → kept ≡ 0 → range_at (start + kept) (len - kept) ≡ range_at start len
all_behind start len kept none = λ i. range_at (let e : start + kept ≡ start = omega (arith, none) in e i) (let e : len - kept ≡ len = omega (arith, none) in e i)

-- ---- payloads that tickets show are live, aligned, each in one chunk, and apart

-- what a redeemed payload's ticket was
pub redeemed_ticket : (p : PayloadView) (es fs : List Entry) → IsRedeemed p es fs
    → (k : ℕ) × IsIssued es k (extent p.start (length p.bytes) p.align) × (fs ≡ set es k (entry_of (extent p.start (length p.bytes) p.align) false))
unfolding IsRedeemed
redeemed_ticket p es fs is = is

module _ {fllen sllen : ℕ} {memory : Range} {s : State} (w : IsWellFormed fllen sllen memory s) where
  module _ (v : Extent) (is : IsPayload s v) where
    abbrev u : Used
    u = is.0

    pub shown_live : align_at s v.addr ≡ Some v.align
    shown_live = align_at-held w v.addr u (is.1, is.2) ∙ ap Some is.4

    pub shown_long : v.len ≡ length (bytes_at s v.addr)
    shown_long = sym (ap length (bytes_at-held w v.addr u (is.1, is.2)) ∙ (w.used u is.1).bytes ∙ is.3)

    pub shown_aligned : v.addr % v.align ≡ 0
    shown_aligned = live_addresses_are_aligned fllen sllen memory s v.addr v.align w (u, (is.1, is.2), is.4)

    pub shown_inside : LiesInChunk s (range_at v.addr v.len)
    unfolding LiesInChunk
    shown_inside =
        let home = home_of_used w u is.1 in
        let of = w.used u is.1 in
        (home.chunk, home.is_chunk, omega (arith, home.from, IsUsed-after_start u of, is.2), omega (arith, home.to, of.within, is.2, is.3))

  -- it is one of another state in which callers see the same at its address
  pub payload_as : {other : Range} {t : State} → IsWellFormed fllen sllen other t → (v : Extent) → IsPayload s v → align_at t v.addr ≡ align_at s v.addr
      → bytes_at t v.addr ≡ bytes_at s v.addr → IsPayload t v
  payload_as {t = t} well v is aligns bytes =
      let (u, holds, wide) = align_at-live t v.addr v.align (aligns ∙ shown_live v is) in
      (u, holds.0, holds.1, sym (ap length (bytes_at-held well v.addr u holds) ∙ (well.used u holds.0).bytes) ∙ ap length bytes ∙ sym (shown_long v is), wide)

  -- payloads at two addresses have no byte in common
  pub shown_apart : (v x : Extent) → IsPayload s v → IsPayload s x → v.addr ≢ x.addr → AreApart (range_at v.addr v.len) (range_at x.addr x.len)
  shown_apart v x one two differ =
      let a = one.0 in
      let b = two.0 in
      let of_a = w.used a one.1 in
      let of_b = w.used b two.1 in
      let same : a ≡ b → ⊥ = λ e. differ (sym one.2 ∙ ap (λ (y : Used). y.payload) e ∙ two.2) in
      elim (cases_lt a.block.start b.block.start) [
        | inl earlier ↦ elim (cases_lt b.block.start (end_of a.block)) [
          | inl inside ↦
              absurd (same (used_used w a b b.block.start one.1 two.1 (record { from = omega arith; to = inside }) (record { from = omega arith; to = omega arith })))
          | inr behind ↦ inl (omega (arith, behind, of_a.within, IsUsed-after_start b of_b, one.2, one.3, two.2))
        ]
        | inr later ↦ elim (cases_lt a.block.start (end_of b.block)) [
          | inl inside ↦
              absurd (same (used_used w a b a.block.start one.1 two.1 (record { from = omega arith; to = omega arith }) (record { from = later; to = inside })))
          | inr behind ↦ inr (omega (arith, behind, of_b.within, IsUsed-after_start a of_a, two.2, two.3, one.2))
        ]
      ]

-- ---- payloads that are known by their address

-- no payload is at the address 0
pub some_address : (fllen sllen : ℕ) (v : HeapView) (s : State) (size align addr : ℕ) → Steps fllen sllen v (Allocates sllen s size align (Some addr)) → addr ≢ 0
unfolding Steps Stands
some_address fllen sllen v s size align addr (p, stands) = grind (arith, p, IsUsed-after_start)

-- what a payload's ticket shows
abbrev pub shown : PayloadView → Extent
shown p = extent p.start (length p.bytes) p.align

-- the payload's ticket
abbrev pub IsTicketFor : PayloadView → Ticket → Type 0
IsTicketFor p t = (t.name ≡ p.identity.ledger) × (t.addr ≡ p.start) × (t.len ≡ length p.bytes) × (t.align ≡ p.align)

module _ {fllen sllen : ℕ} {m : Space} {table : Table} {s : State} {entries : List Entry} (v : StandsFor fllen sllen (contents m table) s) (tickets : AreIssued s entries)
    (of : PayloadView) (addr key : ℕ) (same : of.start ≡ addr) (known : IsIssued entries key (shown of)) where
  p : IsShown fllen sllen m table s entries key (shown of)
  p = record { stands = v; tickets = tickets; issued = known }

  pub live_in : IsLiveIn m addr
  live_in = (fllen, sllen, contents m table, s, refl, v, (block p, ((held p).0, (held p).1 ∙ same)))

  -- the range that is found has its bytes
  pub ranged : (r : Range) → AtEachBlock m addr (λ u. r ≡ usable u) → r ≡ payload_range of
  ranged r each = each fllen sllen (contents m table) s (block p) refl v ((held p).0, (held p).1 ∙ same) ∙ usable_is p

  -- the bytes of a payload that was found with its ticket lie where its length says
  pub comes_found : (h : Identity) → home_of m ≡ h.home → of.identity ≡ h → (p : PayloadView) → p ≡ of → (q : Piece) → (q ≡ bytes_of p) × CanComeBack p → (n : Space)
      → n ≡ record m { touches = m.touches + 3 } → (view : View) → view ≡ n.view → (r : Range) → AtEachBlock m addr (λ u. r ≡ usable u) → CanCome q view r
  comes_found h home heap p same q bytes n touched view viewed r each = grind (arith, ranged)

-- an allocated payload, known by its address
module _ (fllen sllen : ℕ) (before after : HeapView) (size align : ℕ) (p q : PayloadView) (is : q ≡ p)
    (did : Steps fllen sllen after (Allocates sllen before.state size align (Some p.start))) where
  pub is_some : q.start ≢ 0
  is_some e = some_address fllen sllen after before.state size align p.start did (ap (λ (o : PayloadView). o.start) (sym is) ∙ e)

  pub thin_step : Steps fllen sllen after (Allocates sllen before.state size align (reply_of q.start))
  thin_step =
      subst (λ o. Steps fllen sllen after (Allocates sllen before.state size align o)) ((λ i. Some (sym is i).start) ∙ some_reply q.start is_some) did

-- ---- its bytes as a part

module _ (of : PayloadView) (q : Piece) (one : q ≡ bytes_of of) where
  -- the payload is made of the part with its bytes
  pub payload_of_bytes : payload_view q of.align of.identity.ledger ≡ of
  payload_of_bytes = ap (λ (o : Piece). payload_view o of.align of.identity.ledger) one

  -- its ticket is one of this part
  pub ticket_of_bytes : (t : Ticket) → IsTicketFor of t → IsTicketOf q of.align (extent t.addr t.len t.align)
  ticket_of_bytes t is = (ap (λ (o : Piece). o.start) one ∙ sym is.1, ap (λ (o : Piece). length o.bytes) one ∙ sym is.2, sym is.3)

-- ---- a payload gets another size: the others are as they were, and its bytes are the memory's own

-- a ticket is renewed, and the other payloads are as they were
pub issued_renewed : {s t : State} {es : List Entry} (key : ℕ) (shown : Extent) (len : ℕ) → AreIssued s es → IsIssued es key shown
    → ((e : Extent) → IsPayload s e → e.addr ≢ shown.addr → IsPayload t e) → IsPayload t (extent shown.addr len shown.align) → AreIssued t (renewed_entries es key shown len)
issued_renewed {s} {t} {es} key shown len tickets is others there =
    let less = issued-less es key shown is s tickets in
    let apart = redeemed_apart es key shown is s tickets in
    issued-more (set es key (entry_of shown false)) (extent shown.addr len shown.align) t
    (record { issued = λ j e was. others e (less.issued j e was) (apart j e was); apart = less.apart }) there apart

module _ {fllen sllen : ℕ} {m o : Space} {x y : Table} {s t : State} {addr : ℕ} (v : StandsFor fllen sllen (contents m x) s) (w : StandsFor fllen sllen (contents o y) t)
    (kept : KeepsPayloadsResizing s t addr) where
  -- each payload is live, with its alignment
  pub still : (a : ℕ) (u : Used) → Holds s a u → (z : Used) × Holds t a z × (z.align ≡ u.align)
  still a u holds = align_at-live t a u.align (ap (λ f. f a) kept.aligns ∙ align_at-held v.well_formed a u holds)

  -- the others are as long as they were
  many : (a : ℕ) (u z : Used) → Holds s a u → Holds t a z → a ≢ addr → (usable z).len ≡ (usable u).len
  many a u z was is apart =
      sym (w.well_formed.used z is.0).bytes
      ∙ ap length (sym (bytes_at-held w.well_formed a z is) ∙ kept.bytes a apart ∙ bytes_at-held v.well_formed a u was) ∙ (v.well_formed.used u was.0).bytes

  pub payload_still : (e : Extent) → IsPayload s e → e.addr ≢ addr → IsPayload t e
  payload_still e (u, i, at, as_long, wide) apart =
      let (z, holds, same) = still e.addr u (i, at) in (z, holds.0, holds.1, many e.addr u z (i, at) holds apart ∙ as_long, same ∙ wide)

  pub payload_there : (e : Extent) → IsPayload s e → e.addr ≡ addr → (len : ℕ) → ((z : Used) → Holds t addr z → len ≡ (usable z).len)
      → IsPayload t (extent e.addr len e.align)
  payload_there e (u, i, at, _, wide) same len as_long =
      let (z, holds, aligned) = still addr u (i, at ∙ same) in (z, holds.0, holds.1 ∙ sym same, sym (as_long z holds), aligned ∙ wide)

  module _ (u z : Used) (was : Holds s addr u) (is : Holds t addr z) where
    -- a byte that it has now, and had not before, was no payload's
    unlent : (a : ℕ) → end_of u.block ≤ a → addr ≤ a → a < end_of z.block → IsUnlent s a
    unlent a past lo hi y i = elim (cases_eq y.payload addr) [
      | inl same ↦ inr (subst (λ (b : Used). end_of b.block ≤ a) (Holds-unique v.well_formed addr u y was (i, same)) past)
      | inr apart ↦ elim (cases_lt a y.payload) [
        | inl before ↦ inl before
        | inr from ↦ elim (cases_lt a (end_of y.block)) [
          | inl within ↦
              let (b, there, _) = still y.payload y (i, refl) in
              let ends = many y.payload y b (i, refl) there apart in
              let one = used_used w.well_formed b z a there.0 is.0
              (record {
                from = omega (arith, from, there.1, IsUsed-after_start b (w.well_formed.used b there.0));
                to = omega (arith, within, ends, there.1, (v.well_formed.used y i).within, (w.well_formed.used b there.0).within);
              })
              (record { from = omega (arith, lo, is.1, IsUsed-after_start z (w.well_formed.used z is.0)); to = hi }) in
              absurd (apart (sym there.1 ∙ ap (λ (c : Used). c.payload) one ∙ is.1))
          | inr beyond ↦ inr beyond
        ]
      ]
    ]

    -- its bytes are the memory's own if those that it had are
    pub own_at : o.start ≡ m.start → SameOwn m o → (a : ℕ) → addr ≤ a → a < end_of z.block → (a < end_of u.block → is_own (out_at m a) ≡ true) → is_own (out_at o a) ≡ true
    own_at start own a lo hi mine =
        let from : m.start ≤ a = omega (arith, lo, start, is.1, (lies_used w z is.0).0) in
        own a from ∙ elim (cases_lt a (end_of u.block)) [
          | inl inside ↦ mine inside
          | inr past ↦
              let home = home_of_used w.well_formed z is.0 in
              let deep = IsUsed-after_start z (w.well_formed.used z is.0) in
              v.own a from (unlent a past lo hi) home.chunk (subst (IsIn home.chunk) kept.chunks home.is_chunk) (omega (arith, home.from, deep, lo, is.1))
              (omega (arith, home.to, hi))
        ]
