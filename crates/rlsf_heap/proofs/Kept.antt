-- Bytes that calls leave as they are: which are lent, the memory's own, raw or here; and what a call keeps of a heap.
use Rattle.std.proofs.Common.{◌≡◌, ℕ, ◌<◌, ◌≤◌, Bool, true, false, List, arith, inl, inr, refl, sym, ap, subst, ◌∙◌, ◌+◌, ◌-◌, ◌⊎◌, length, slice_index, [], ◌∷◌, map}
use Rattle.std.specs.Prelude.{◌&&◌, ◌||◌, leb}
use Rattle.std.proofs.lemmas.Bool.{and_from, and_parts, cases_lt, false≢true, le-leb, leb-true, or_cases, or_left, or_right}
use Rattle.rlsf_base.specs.declared.memory.range.Range.{Range}
use Rattle.rlsf_base.specs.OpenSpace.{SameOwn, out_raw, out_with, out_without, IsOwned, IsBeside, IsHere}
use Rattle.rlsf_base.specs.Out.{is_own, Change, Kept, here, out, raw, kept_at, is_here}
use Rattle.rlsf_base.specs.Range.{end_of, range_at}
use Rattle.rlsf_base.specs.Space.{Space, out_at, byte_at, bytes_in}
use Rattle.rlsf_model.specs.Lists.{IsIn}
use Rattle.rlsf_model.specs.State.{State, Used, usable}
use Rattle.rlsf_model.specs.WellFormed.{IsWellFormed, coverage, itself}
use Rattle.rlsf_model.proofs.Coverage.{covers-inside, coverage-IsIn, coverage-some}
use Rattle.rlsf_model.proofs.Payloads.{IsUsed-after_start}
use Rattle.rlsf_table.specs.Table.{Table}
use Rattle.rlsf_table.proofs.Tables.Tests.{same_truth}
use Rattle.rlsf_blocks.specs.StandsFor.{contents, IsUnlent, StandsFor}
use Rattle.rlsf_blocks.proofs.Words.Apart.{home_of_used, used_in_memory}
use Rattle.rlsf_heap.specs.Heap.{AreIssued, AreAmong, IsHeapOf, IsOutsideChunks, IsUsable, OwnsRest, heap_view, lent_bytes, HeapView, IsWritten, PayloadView}
use Rattle.rlsf_heap.specs.Kept.{KeepsOwn, KeepsBytesBeside, KeepsSpareBytes, NoneBecomesRaw}
use Rattle.rlsf_base.proofs.Changes.{back-before, back-behind, back-there, changed-before, changed-behind, changed-there}
use Rattle.rlsf_base.specs.Ledger.{Entry}
use Rattle.rlsf_blocks.proofs.Payloads.Unlent.{words_read_no_payload, bytes_in-same, stands_beside}
use Rattle.rlsf_tlsf.proofs.Placed.{lies_used}
use Rattle.rlsf_tlsf.proofs.Arrivals.{read_from-stands, read_from-read_from}
use Rattle.rlsf_tlsf.proofs.Reached.{read_from-same}
use Rattle.rlsf_model.specs.Insert.{IsUntouched}
use Rattle.rlsf_blocks.specs.Laws.{read_from, with_bytes_of}
use Rattle.rlsf_model.specs.Sized.{live_count}
use Rattle.rlsf_blocks.specs.InBand.{sentinel_of}
use Rattle.rlsf_blocks.specs.Spare.{IsSpare, KeepsSpare}
use Rattle.rlsf_blocks.proofs.Words.Stays.{Stays}
use Rattle.rlsf_base.proofs.Lending.Present.{here-none}
use Rattle.rlsf_heap.specs.Settled.{IsSettled}
use Rattle.rlsf_heap.specs.Frame.{KeepsFrame, KeepsHeap, KeepsPayloads}
use Rattle.rlsf_heap.specs.Replies.{IsRefused}

-- ---- which bytes are lent to a heap: calls on payloads and on pools keep them

-- a test that is the same before and after, and another one where that holds
guarded : (g h x y : Bool) → h ≡ g → (g ≡ true → y ≡ x) → (h && y) ≡ (g && x)
guarded true h x y same eq = ap (λ t. t && y) same ∙ eq refl
guarded false h x y same eq = ap (λ t. t && y) same

-- whether a byte is the memory's own, or in a chunk
abbrev has : Space → State → ℕ → Bool
has m s a = is_own (out_at m a) || leb 1 (coverage itself s.chunks a)

-- whether a byte is lent to a heap
abbrev pub is_lent_at : Space → State → ℕ → Bool
is_lent_at m s a = leb m.start a && has m s a

pub lent_same : (m n : Space) (s t : State) → n.start ≡ m.start → ((a : ℕ) → m.start ≤ a → has n t a ≡ has m s a) → is_lent_at n t ≡ is_lent_at m s
lent_same m n s t start each = grind (arith, guarded, has, leb-true)

-- what it says of an address
has_parts : (m : Space) (s : State) (a : ℕ) → is_lent_at m s a ≡ true → (m.start ≤ a) × (has m s a ≡ true)
has_parts m s a is = let (from, has_it) = and_parts (leb m.start a) (has m s a) is in (leb-true m.start a from, has_it)

-- a byte that is the memory's own is lent
pub lent_own : (m : Space) (s : State) (a : ℕ) → m.start ≤ a → is_own (out_at m a) ≡ true → is_lent_at m s a ≡ true
lent_own m s a from own = grind (arith, and_from, has, le-leb, or_left)

-- one that is lent is its own, if it is where a chunk has it
pub lent_own_if : (m : Space) (s : State) (a : ℕ) → is_lent_at m s a ≡ true → (m.start ≤ a → 1 ≤ coverage itself s.chunks a → is_own (out_at m a) ≡ true)
    → is_own (out_at m a) ≡ true
lent_own_if m s a is owned = grind (arith, has_parts, or_cases, leb-true)

-- a byte that is lent stays so, where the chunks stay, if it stays the memory's own
pub lent_still : (m n : Space) (s t : State) → n.start ≡ m.start → t.chunks ≡ s.chunks → (a : ℕ)
    → (m.start ≤ a → is_own (out_at m a) ≡ true → is_own (out_at n a) ≡ true) → is_lent_at m s a ≡ true → is_lent_at n t a ≡ true
lent_still m n s t start chunks a stays is = grind (arith, has_parts, and_from, has, le-leb, or_cases, or_left, or_right)

-- a byte of a chunk is lent
in_chunk : (m : Space) (s : State) (a : ℕ) → 0 < coverage itself s.chunks a → has m s a ≡ true
in_chunk m s a some = or_right (is_own (out_at m a)) (leb 1 (coverage itself s.chunks a)) (le-leb 1 (coverage itself s.chunks a) (omega (arith, some)))

-- a call that leaves the chunks
pub lent_kept : (m n : Space) (s t : State) → n.start ≡ m.start → t.chunks ≡ s.chunks → KeepsOwn m s n t → is_lent_at n t ≡ is_lent_at m s
lent_kept m n s t start chunks keeps = grind (arith, lent_same, cases_lt, in_chunk)

-- a byte that is out is a payload's, where it is in a chunk: a call that leaves the used blocks leaves it in one
in_chunk_still : {fllen sllen : ℕ} {m : Space} {x : Table} {s t : State} {memory : Range} → StandsFor fllen sllen (contents m x) s → IsWellFormed fllen sllen memory t
    → t.used ≡ s.used → (a : ℕ) → m.start ≤ a → is_own (out_at m a) ≡ false → 0 < coverage itself s.chunks a → 0 < coverage itself t.chunks a
in_chunk_still {s = s} {t = t} v w used a from off some = elim (cases_lt 0 (coverage (λ (u : Used). u.block) s.used a)) [
  | inl of_used ↦
      let (u, i, low, high) = coverage-some (λ (u : Used). u.block) s.used a of_used in
      let home = home_of_used w u (subst (IsIn u) (sym used) i) in
      omega (
        arith,
        coverage-IsIn itself home.chunk t.chunks a home.is_chunk,
        covers-inside home.chunk a (omega (arith, home.from, low)) (omega (arith, home.to, high)),
      )
  | inr none ↦
      let unlent : IsUnlent s a = λ u j. elim (cases_lt a u.payload) [
        | inl before ↦ inl before
        | inr payload ↦ elim (cases_lt a (end_of u.block)) [
          | inr behind ↦ inr behind
          | inl to ↦ absurd (omega (
            arith,
            none,
            coverage-IsIn (λ (y : Used). y.block) u s.used a j,
            covers-inside u.block a (omega (arith, payload, IsUsed-after_start u (v.well_formed.used u j))) to,
          ))
        ]
      ] in
      let (c, i, low, high) = coverage-some itself s.chunks a (omega (arith, some)) in
      absurd (false≢true (sym off ∙ v.own a from unlent c i low high))
]

-- a call that leaves the used blocks
pub lent_pools : {fllen sllen : ℕ} {m n : Space} {x y : Table} {s t : State} → StandsFor fllen sllen (contents m x) s → StandsFor fllen sllen (contents n y) t
    → n.start ≡ m.start → SameOwn m n → t.used ≡ s.used → is_lent_at n t ≡ is_lent_at m s
lent_pools {m = m} {n = n} {s = s} {t = t} v w start own used = lent_same m n s t start (λ a from. go a from (is_own (out_at m a)) refl)
  where
    go : (a : ℕ) → m.start ≤ a → (b : Bool) → is_own (out_at m a) ≡ b → has n t a ≡ has m s a
    go a from true is = or_left (is_own (out_at n a)) (leb 1 (coverage itself t.chunks a)) (own a from ∙ is)
        ∙ sym (or_left (is_own (out_at m a)) (leb 1 (coverage itself s.chunks a)) is)
    go a from false is =
        let chunks : leb 1 (coverage itself t.chunks a) ≡ leb 1 (coverage itself s.chunks a) =
        same_truth (leb 1 (coverage itself t.chunks a)) (leb 1 (coverage itself s.chunks a))
        (λ e. le-leb 1 (coverage itself s.chunks a)
        (in_chunk_still w v.well_formed (sym used) a (omega (arith, from, start)) (own a from ∙ is) (leb-true 1 (coverage itself t.chunks a) e)))
        (λ e. le-leb 1 (coverage itself t.chunks a) (in_chunk_still v w.well_formed used a from is (leb-true 1 (coverage itself s.chunks a) e))) in
        λ i. own a from i || chunks i

-- ---- the state that is read from a memory whose bytes change, or from which bytes leave or come back

-- what is out of a memory, once a range of it left or came back: each byte of the range is of one kind, and the others are as they were
module _ (m n : Space) (r : Range) {t : Kept} {cs : List Change} (start : n.start ≡ m.start) (now : n.out ≡ cs) (inside : m.start ≤ r.start)
    (before : (k : ℕ) → k < r.start - m.start → kept_at cs k ≡ kept_at m.out k) (behind : (k : ℕ) → r.start - m.start + r.len ≤ k → kept_at cs k ≡ kept_at m.out k)
    (there : (k : ℕ) → r.start - m.start ≤ k → k < r.start - m.start + r.len → kept_at cs k ≡ t) where
  beside : (a : ℕ) → m.start ≤ a → (a < r.start) ⊎ (end_of r ≤ a) → out_at n a ≡ out_at m a
  beside a from side = grind arith

  either : (a : ℕ) → m.start ≤ a → (out_at n a ≡ out_at m a) ⊎ (out_at n a ≡ t)
  either a from = grind (arith, cases_lt, beside)

module _ (m n : Space) (r : Range) (start : n.start ≡ m.start) (inside : m.start ≤ r.start) where
  -- it left
  module _ (gone : n.out ≡ out_without m r) where
    pub out-left : (a : ℕ) → m.start ≤ a → (a < r.start) ⊎ (end_of r ≤ a) → out_at n a ≡ out_at m a
    out-left = beside m n r start gone inside (changed-before out m.out _ _) (changed-behind out m.out _ _) (changed-there out m.out _ _)

    pub left-or : (a : ℕ) → m.start ≤ a → (out_at n a ≡ out_at m a) ⊎ (out_at n a ≡ out)
    left-or = either m n r start gone inside (changed-before out m.out _ _) (changed-behind out m.out _ _) (changed-there out m.out _ _)

  -- it came back raw
  pub out-back : n.out ≡ out_raw m r → (a : ℕ) → m.start ≤ a → (a < r.start) ⊎ (end_of r ≤ a) → out_at n a ≡ out_at m a
  out-back back = beside m n r start back inside (changed-before raw m.out _ _) (changed-behind raw m.out _ _) (changed-there raw m.out _ _)

  -- it came back with its values
  pub with-or : n.out ≡ out_with m r → (a : ℕ) → m.start ≤ a → (out_at n a ≡ out_at m a) ⊎ (out_at n a ≡ here)
  with-or back = either m n r start back inside (back-before m.out _ _) (back-behind m.out _ _) (back-there m.out _ _)

-- where only usable bytes of live payloads leave or come back, the memory represents the same state
pub stands_same : {fllen sllen : ℕ} (m n : Space) {t : Table} {s : State} → StandsFor fllen sllen (contents m t) s → n.start ≡ m.start → n.bytes ≡ m.bytes
    → ((a : ℕ) → m.start ≤ a → IsUnlent s a → out_at n a ≡ out_at m a) → StandsFor fllen sllen (contents n t) s
stands_same {fllen} {sllen} m n {t} {s} v start bytes kept =
    subst (StandsFor fllen sllen (contents n t)) (read_from-same m n s start bytes ∙ read_from-stands v)
    (words_read_no_payload fllen sllen m n t s v
    (record { start = start; length = ap length bytes; bytes = λ a from unlent. (λ i. slice_index (bytes i) (a - start i)); out = kept }))

-- after the bytes of a payload left, the memory represents the same state
pub stands-without : {fllen sllen : ℕ} {m : Space} {table : Table} {s : State} (v : StandsFor fllen sllen (contents m table) s) (u : Used) (i : IsIn u s.used) (n : Space)
    → n.start ≡ m.start → n.bytes ≡ m.bytes → n.out ≡ out_without m (usable u) → StandsFor fllen sllen (contents n table) s
stands-without {m = m} v u i n start bytes gone = stands_same m n v start bytes (λ a from unlent. out-left m n (usable u) start (lies_used v u i).0 gone a from (elim (unlent u i) [
  | inl before ↦ inl before
  | inr behind ↦ inr (omega (arith, behind, (v.well_formed.used u i).within))
]))

-- where no used block changes, the live entries are still those of live payloads
pub issued-same : (s t : State) {es : List Entry} → t.used ≡ s.used → AreIssued s es → AreIssued t es
issued-same s t used tickets = record {
  issued =
      λ k v is. subst (λ (us : List Used). (u : Used) × IsIn u us × (u.payload ≡ v.addr) × ((usable u).len ≡ v.len) × (u.align ≡ v.align)) (sym used)
      (tickets.issued k v is);
  apart = tickets.apart;
}

-- ---- bytes outside of all chunks, which are the memory's own unless they are lent

-- they are no usable bytes of payloads
pub outside_unlent : {fllen sllen : ℕ} {memory : Range} {s : State} → IsWellFormed fllen sllen memory s → (a : ℕ) → IsOutsideChunks s a → IsUnlent s a
outside_unlent {s = s} w a off u i = elim (cases_lt a u.payload) [
  | inl before ↦ inl before
  | inr from ↦ elim (cases_lt a (end_of u.block)) [
    | inr behind ↦ inr behind
    | inl to ↦
        let home = home_of_used w u i in
        let after = IsUsed-after_start u (w.used u i) in
        absurd (omega (
          arith,
          off,
          coverage-IsIn itself home.chunk s.chunks a home.is_chunk,
          covers-inside home.chunk a (omega (arith, home.from, from, after)) (omega (arith, home.to, to)),
        ))
  ]
]

-- where those outside of all chunks are its own, all are but usable bytes of payloads
pub owns_unlent : {fllen sllen : ℕ} {m : Space} {x : Table} {s : State} → StandsFor fllen sllen (contents m x) s → OwnsRest m s → (a : ℕ) → m.start ≤ a → IsUnlent s a
    → is_own (out_at m a) ≡ true
owns_unlent {s = s} v rest a from unlent = elim (cases_lt 0 (coverage itself s.chunks a)) [
  | inl some ↦ let (c, i, low, high) = coverage-some itself s.chunks a (omega (arith, some)) in v.own a from unlent c i low high
  | inr none ↦ rest a from (omega (arith, none))
]

-- a call that leaves the chunks
pub rest_kept : (m n : Space) (s t : State) → n.start ≡ m.start → t.chunks ≡ s.chunks → KeepsOwn m s n t → OwnsRest m s → OwnsRest n t
rest_kept m n s t start chunks keeps rest a from off = grind arith

-- a call that leaves the used blocks
pub rest_pools : {fllen sllen : ℕ} {m n : Space} {x y : Table} {s t : State} → StandsFor fllen sllen (contents m x) s → StandsFor fllen sllen (contents n y) t
    → n.start ≡ m.start → SameOwn m n → t.used ≡ s.used → OwnsRest m s → OwnsRest n t
rest_pools v w start own used rest a from off =
    own a (omega (arith, from, start)) ∙ owns_unlent v rest a (omega (arith, from, start))
    (subst (λ (us : List Used). (u : Used) → IsIn u us → (a < u.payload) ⊎ (end_of u.block ≤ a)) used (outside_unlent w.well_formed a off))

-- the bytes of a payload left
pub own_without : {fllen sllen : ℕ} {o : Space} {y : Table} {t : State} (v : StandsFor fllen sllen (contents o y) t) (u : Used) (i : IsIn u t.used) (q : Space)
    → q.start ≡ o.start → q.out ≡ out_without o (usable u) → (a : ℕ) → o.start ≤ a → IsOutsideChunks t a → is_own (out_at q a) ≡ is_own (out_at o a)
own_without {o = o} v u i q start gone a from off = ap is_own (out-left o q (usable u) start (lies_used v u i).0 gone a from (elim (outside_unlent v.well_formed a off u i) [
  | inl before ↦ inl before
  | inr behind ↦ inr (omega (arith, behind, (v.well_formed.used u i).within))
]))

-- a range in no chunk that the heap may use is the memory's own
pub owned_range : {fl_bits sl_bits fllen sllen : ℕ} {m : Space} {x : Table} {j : State} {es : List Entry} {count : ℕ} {lent : Bool}
    → IsHeapOf fl_bits sl_bits fllen sllen m x j es count lent → (r : Range) → m.start ≤ r.start → IsUntouched j.chunks r → (ledger : ℕ) → IsUsable (heap_view m x j ledger lent) r
    → IsOwned m r
unfolding lent_bytes IsUntouched AreAmong
owned_range {m = m} {j = j} {lent = lent} is r from clear ledger can_use = go lent refl
  where
    go : (b : Bool) → lent ≡ b → IsOwned m r
    go true e a low high = lent_own_if m (read_from m j) a (can_use e a low high) (λ _ some. absurd (omega (arith, clear a low high, some)))
    go false e a low high = is.rest e a (omega (arith, low, from)) (clear a low high)

-- ---- bytes in no chunk are lent to a heap, or returned: the memory represents the same state

-- at most the bytes of a range changed, or their states
pub record IsChangedIn (r : Range) (m n : Space) : Type 0 where
  pub start : n.start ≡ m.start
  pub long : length n.bytes ≡ length m.bytes
  pub bytes : (a : ℕ) → m.start ≤ a → IsBeside r a → byte_at n a ≡ byte_at m a
  pub out : (a : ℕ) → m.start ≤ a → IsBeside r a → out_at n a ≡ out_at m a

-- where it overlaps no chunk, an address of a chunk is beside it
beside_chunk : (s : State) (r : Range) → IsUntouched s.chunks r → (c : Range) → IsIn c s.chunks → (a : ℕ) → c.start ≤ a → a < end_of c → IsBeside r a
unfolding IsUntouched
beside_chunk s r clear c i a low high = elim (cases_lt a r.start) [
  | inl before ↦ inl before
  | inr from ↦ elim (cases_lt a (end_of r)) [
    | inr behind ↦ inr behind
    | inl to ↦ absurd (omega (arith, clear a from to, coverage-IsIn itself c s.chunks a i, covers-inside c a low high))
  ]
]

module _ {fllen sllen : ℕ} {m n : Space} {x : Table} {s : State} (v : StandsFor fllen sllen (contents m x) s) (r : Range) (clear : IsUntouched s.chunks r)
    (changed : IsChangedIn r m n) where
  stands : StandsFor fllen sllen (contents n x) (read_from n s)
  stands = stands_beside v (record {
    start = changed.start;
    length = changed.long;
    bytes = λ a from unlent c i low high. changed.bytes a from (beside_chunk s r clear c i a low high);
    out = λ a from unlent c i low high. changed.out a from (beside_chunk s r clear c i a low high);
  })

  -- a payload's bytes are as they were
  kept : (u : Used) → IsIn u s.used → bytes_in n (usable u) ≡ u.bytes
  kept u i =
      let home = home_of_used v.well_formed u i in
      let after = IsUsed-after_start u (v.well_formed.used u i) in
      let within = (v.well_formed.used u i).within in
      let from : m.start ≤ u.payload = omega (arith, (used_in_memory v.well_formed u i).0, after) in
      bytes_in-same m n (usable u) changed.start changed.long from
      (λ a low high. changed.bytes a (omega (arith, low, from)) (beside_chunk s r clear home.chunk home.is_chunk a (omega (arith, low, home.from, after))
      (omega (arith, high, home.to, within))))
      ∙ v.payloads.bytes u i

  reread : read_from n s ≡ s
  reread = ap (λ (used : List Used). record { chunks = s.chunks; used = used; free = s.free }) (go s.used kept)
    where
      go : (used : List Used) → ((u : Used) → IsIn u used → (with_bytes_of n u).bytes ≡ u.bytes) → map (with_bytes_of n) used ≡ used
      go [] each = refl
      go (u ∷ us) each = λ i. record { block = u.block; payload = u.payload; align = u.align; bytes = each u (inl refl) i } ∷ go us (λ y h. each y (inr h)) i

module _ {fl_bits sl_bits fllen sllen : ℕ} {m n : Space} {x : Table} {j : State} {es : List Entry} {count : ℕ} {lent : Bool}
    (is : IsHeapOf fl_bits sl_bits fllen sllen m x j es count lent) (r : Range) (clear : IsUntouched j.chunks r) (changed : IsChangedIn r m n) where
  pub same_state : read_from n j ≡ read_from m j
  same_state = sym (read_from-read_from n m j) ∙ reread is.stands r clear changed

  pub stands_lent : StandsFor fllen sllen (contents n x) (read_from n j)
  stands_lent = subst (StandsFor fllen sllen (contents n x)) (read_from-read_from n m j) (stands is.stands r clear changed)

  -- it is a heap, where the range is its own, or its bytes are lent in ranges
  pub IsHeap-lent : (lent ≡ false → IsOwned n r) → IsHeapOf fl_bits sl_bits fllen sllen n x j es count lent
  IsHeap-lent owned = record {
    valid = is.valid;
    stands = stands_lent;
    is_bare = is.is_bare;
    tickets = subst (λ (t : State). AreIssued t es) (sym same_state) is.tickets;
    counted = is.counted ∙ ap live_count (sym same_state);
    rest = rest;
  }
    where
      rest : lent ≡ false → OwnsRest n (read_from n j)
      rest not_lent a from clear_there = elim (cases_lt a r.start) [
        | inl before ↦ ap is_own (changed.out a (omega (arith, from, changed.start)) (inl before)) ∙ is.rest not_lent a (omega (arith, from, changed.start)) clear_there
        | inr low ↦ elim (cases_lt a (end_of r)) [
          | inl high ↦ owned not_lent a low high
          | inr behind ↦ ap is_own (changed.out a (omega (arith, from, changed.start)) (inr behind)) ∙ is.rest not_lent a (omega (arith, from, changed.start)) clear_there
        ]
      ]

-- ---- memories with the same bytes

-- memories with the same start and the same bytes have the same byte at each address
pub same-byte : (m n : Space) → n.start ≡ m.start → n.bytes ≡ m.bytes → (a : ℕ) → byte_at n a ≡ byte_at m a
same-byte m n start bytes a = λ i. slice_index (bytes i) (a - start i)

-- ---- bytes that no block is made of

-- which ones these are depends on the chunks alone
same-chunks : (s t : State) (a : ℕ) → t.chunks ≡ s.chunks → IsSpare s a → IsSpare t a
same-chunks s t a same = subst (λ (cs : List Range). (c : Range) → IsIn c cs → c.start ≤ a → a < end_of c → sentinel_of c + 16 ≤ a) (sym same)

module _ (m n o : Space) (s t : State) where
  -- a memory with the same bytes, before or after
  pub spare-first : n.start ≡ m.start → n.bytes ≡ m.bytes → KeepsSpare n s o t → KeepsSpare m s o t
  spare-first start bytes keeps a from to before after = grind (arith, same-byte)

  pub spare-last : o.start ≡ n.start → o.bytes ≡ n.bytes → KeepsSpare m s n t → KeepsSpare m s o t
  spare-last start bytes keeps a from to before after = same-byte n o start bytes a ∙ keeps a from to before after

  -- after one change another, which leaves the chunks
  pub spare-then : n.start ≡ m.start → length n.bytes ≡ length m.bytes → (u : State) → u.chunks ≡ s.chunks → KeepsSpare m s n u → KeepsSpare n u o t → KeepsSpare m s o t
  spare-then start long u same first second a from to before after = grind (arith, same-chunks)

-- ---- bytes that are raw

only-raw : (x y : Kept) → (x ≡ here → y ≡ here) → is_own y ≡ is_own x → y ≡ raw → x ≡ raw
only-raw here y stays own is = absurd (false≢true (sym (ap is_here is) ∙ ap is_here (stays refl)))
only-raw raw y stays own is = refl
only-raw out y stays own is = absurd (false≢true (sym own ∙ ap is_own is))

-- where bytes that are here stay here, and the same bytes are the memory's own, each byte that is raw was raw
pub raw-stays : {m n : Space} → Stays m n → (a : ℕ) → m.start ≤ a → out_at n a ≡ raw → out_at m a ≡ raw
raw-stays {m} {n} stays a from = only-raw (out_at m a) (out_at n a) (stays.here a from) (stays.own a from)

-- a range came back raw, and bytes that were here stayed here
pub raw-back : (m n o : Space) (r : Range) → n.start ≡ m.start → m.start ≤ r.start → n.out ≡ out_raw m r → Stays n o → (a : ℕ) → m.start ≤ a → IsBeside r a
    → out_at o a ≡ raw → out_at m a ≡ raw
raw-back m n o r start inside back stays a from side is =
    sym (out-back m n r start inside back a from side) ∙ raw-stays stays a (omega (arith, from, start)) is

-- bytes that are raw once a range has left were raw before
pub raw-left : (m n : Space) (r : Range) → n.start ≡ m.start → m.start ≤ r.start → n.out ≡ out_without m r → (a : ℕ) → m.start ≤ a → out_at n a ≡ raw → out_at m a ≡ raw
raw-left m n r start inside left a from is = grind (arith, left-or, false≢true)

-- and so were those that are raw once a range has come back with its values
pub raw-with : (m n : Space) (r : Range) → n.start ≡ m.start → m.start ≤ r.start → n.out ≡ out_with m r → (a : ℕ) → m.start ≤ a → out_at n a ≡ raw → out_at m a ≡ raw
raw-with m n r start inside back a from is = grind (arith, with-or, false≢true)

-- the bytes of a payload behind its first ones came back raw, and other bytes left
pub raw-tail : (m n o q : Space) (start kept len : ℕ) → kept ≤ len → m.start ≤ start → n.start ≡ m.start → n.out ≡ out_raw m (range_at (start + kept) (len - kept)) → Stays n o
    → (r : Range) → q.start ≡ o.start → o.start ≤ r.start → q.out ≡ out_without o r → (a : ℕ) → m.start ≤ a → IsBeside (range_at start len) a → out_at q a ≡ raw
    → out_at m a ≡ raw
raw-tail m n o q start kept len within low same back stays r same_q inside gone a from side is =
    raw-back m n o (range_at (start + kept) (len - kept)) same (omega (arith, low)) back stays a from (elim side [
      | inl before ↦ inl (omega (arith, before))
      | inr past ↦ inr (omega (arith, past, within))
    ]) (raw-left o q r same_q inside gone a (omega (arith, from, same, stays.start)) is)

-- ---- a memory of which no byte is raw: after a write, or after bytes leave or come back, no byte is raw

pub settled-stays : {m n : Space} → Stays m n → IsSettled m → IsSettled n
unfolding IsSettled
settled-stays {m} {n} stays settled a from own = grind arith

module _ (m n : Space) (r : Range) (start : n.start ≡ m.start) (inside : m.start ≤ r.start) where
  pub settled-left : n.out ≡ out_without m r → IsSettled m → IsSettled n
  unfolding IsSettled
  settled-left gone settled a from own = grind (arith, left-or, false≢true)

  pub settled-back : n.out ≡ out_with m r → IsSettled m → IsSettled n
  unfolding IsSettled
  settled-back back settled a from own = grind (arith, with-or)

-- bytes that are the memory's own are then here
pub settled-here : (m : Space) (r : Range) → m.start ≤ r.start → IsOwned m r → IsSettled m → IsHere m r
unfolding IsSettled
settled-here m r inside own settled a lo hi = settled a (omega (arith, inside)) (own a lo hi)

-- a memory of which nothing is out or raw is settled
pub settled-none : (m : Space) → m.out ≡ [] → IsSettled m
unfolding IsSettled
settled-none m none a from own = here-none m (range_at a 1) none a (omega arith) (omega arith)

-- ---- what calls keep of a heap, of none and of two after each other

-- a heap that is unchanged is kept
pub heap_same : (v : HeapView) → KeepsHeap v v
unfolding KeepsSpareBytes
heap_same v = record { identity = refl; place = (refl, refl); spare = λ a from to before after. refl; lent = refl; lent_bytes = refl; grow = omega arith }

pub raw_same : (v : HeapView) → NoneBecomesRaw v v
unfolding NoneBecomesRaw
raw_same v = λ a from is. is

pub frame_same : (v : HeapView) → KeepsFrame v v
frame_same v = record { heap = heap_same v; raw = raw_same v; settled = λ settled. settled; chunks = refl; copied = refl }

pub payloads_same : (v : HeapView) → KeepsPayloads v v
payloads_same v = record { heap = heap_same v; raw = raw_same v; settled = λ settled. settled; aligns = refl; count = refl; copied = refl }

-- a payload that goes back to its caller at once is as it was
pub refused_same : (v : HeapView) (p : PayloadView) → p.identity ≡ v.identity → IsWritten p → IsRefused v v p.start p.align p p
unfolding KeepsBytesBeside
refused_same v p identity written = grind arith

-- what each of two calls keeps, both keep
pub frame_both : (a b c : HeapView) → KeepsFrame a b → KeepsFrame b c → KeepsFrame a c
unfolding KeepsSpareBytes NoneBecomesRaw
frame_both a b c f h = grind (arith, spare-then)
