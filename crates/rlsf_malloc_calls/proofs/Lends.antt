-- A range that is lent to a heap, of which a call takes the first bytes, and the others are returned.
use Rattle.std.proofs.Common.{◌≡◌, ◌≢◌, ℕ, ◌+◌, ◌-◌, ◌≤◌, length, true, arith, sym, ap, subst, ◌∙◌, inl, inr}
use Rattle.rlsf_base.specs.declared.memory.range.Range.{Range}
use Rattle.rlsf_base.specs.Addr.{reply_of}
use Rattle.rlsf_base.specs.Piece.{Piece, piece_range}
use Rattle.rlsf_base.specs.Range.{AreApart, LiesIn, range_at}
use Rattle.rlsf_model_sizes.specs.Rounding.{round32}
use Rattle.rlsf_model.specs.Callers.{align_at}
use Rattle.rlsf_model.specs.Insert.{Appends, Inserts, IsUntouched}
use Rattle.rlsf_model.specs.Sized.{live_count}
use Rattle.rlsf_model.specs.State.{State}
use Rattle.rlsf_model.specs.WellFormed.{coverage, itself}
use Rattle.rlsf_heap.specs.Heap.{HeapView, Identity, IsLent}
use Rattle.rlsf_heap.specs.Lending.{ChangesOutside, IsLentTo, IsReclaimed}
use Rattle.rlsf_malloc_calls.specs.Calls.{AddsLent, AppendsLent, IsGivenBack, IsSameBeside, IsSameHeap, front}
use Rattle.rlsf_malloc_calls.proofs.Outcomes.{lent_heap, part_lent}
use Rattle.rlsf_malloc_calls.proofs.PoolEnds.{inserted-beside, inserted-past}

-- a range of the bytes of p is lent to the heap u, and a call takes the first n of these
pub record Takes (start len n : ℕ) (u v w : HeapView) (p : Piece) : Type 0 where
  pub is : piece_range p ≡ range_at start len
  pub lends : IsLentTo u v p
  pub kept : IsSameHeap v w
  pub lies : LiesIn (range_at start len) u.memory.start (length u.memory.bytes)
  pub clear : IsUntouched u.state.chunks (range_at start len)
  pub others : (r : Range) → IsLent u r → IsLent v r
  pub lent : IsLent v (range_at start len)
  pub is_lent : u.lent ≡ true
  pub few : n ≤ len
  pub past : (a : ℕ) → coverage itself u.state.chunks a ≡ 0 → start + n ≤ a → coverage itself w.state.chunks a ≡ 0

-- the bytes up to the first multiple of 32 are in no chunk
front_clear : (fllen start len n : ℕ) (u x : HeapView) → IsUntouched u.state.chunks (range_at start len) → n ≤ len
    → Inserts fllen u.state (range_at start len) (reply_of n) x.state → n ≢ 0 → IsUntouched x.state.chunks (front start)
unfolding IsUntouched
front_clear fllen start len n u x clear few step some a low high =
    let r = range_at start len in
    let reach : round32 start ≤ start + n = inserted-past fllen r u.state x.state n step some in
    inserted-beside fllen r u.state x.state n step a (clear a (omega (arith, low)) (omega (arith, low, high, reach, few))) (inl (omega (arith, low, high)))

module _ (fllen : ℕ) {start len n : ℕ} {u v w : HeapView} {p : Piece} (t : Takes start len n u v w p) where
  open t use {is, lends, kept, lies, clear, others, lent, is_lent, few, past}

  abbrev r : Range
  r = range_at start len

  abbrev behind : Range
  behind = range_at (start + n) (len - n)

  -- the bytes that aren't taken can be returned
  pub behind-lies : LiesIn behind w.memory.start (length w.memory.bytes)
  behind-lies = let (at, long, _) = lends.heap.place in omega (arith, lies, few, at, long, kept.start, kept.len)

  pub behind-clear : IsUntouched w.state.chunks behind
  unfolding IsUntouched
  behind-clear a low high = past a (clear a (omega (arith, low, few)) (omega (arith, high, few))) low

  pub behind-lent : IsLent w behind
  behind-lent = kept.ranges behind (part_lent v r behind (omega (arith, few)) lent)

  pub still-lent : w.lent ≡ true
  still-lent = kept.lent ∙ lends.heap.lent ∙ is_lent

  -- and are
  module _ (x : HeapView) (back : Piece) (f : IsReclaimed w x behind back) (others' : (q : Range) → IsLent w q → AreApart behind q → IsLent x q) where
    pub same : IsSameBeside r u x
    same = lent_heap r behind (subst (ChangesOutside u v) is lends.heap) others kept f.heap others' (omega (arith, few)) (f.settled kept.ready)

    pub taken-lent : IsLent x (range_at start n)
    taken-lent = others' (range_at start n) (kept.ranges (range_at start n) (part_lent v r (range_at start n) (omega (arith, few)) lent)) (inr (omega arith))

    pub given : IsGivenBack u (start + n) (len - n) back
    given = record {
      home = f.home ∙ ap (λ (i : Identity). i.home) (kept.identity ∙ lends.heap.identity);
      begins = f.part.start;
      long = f.part.len;
      full = f.full kept.ready;
    }

    -- the states are those of the call
    pub same-aligns : align_at w.state ≡ align_at v.state → align_at x.state ≡ align_at u.state
    same-aligns aligns = ap (λ (s : State). align_at s) f.heap.state ∙ aligns ∙ ap (λ (s : State). align_at s) lends.heap.state

    pub same-count : live_count w.state ≡ live_count v.state → live_count x.state ≡ live_count u.state
    same-count count = ap (λ (s : State). live_count s) f.heap.state ∙ count ∙ ap (λ (s : State). live_count s) lends.heap.state

    pub same-untouched : ((q : Range) → IsUntouched v.state.chunks q → AreApart r q → IsUntouched w.state.chunks q)
        → (q : Range) → IsUntouched u.state.chunks q → AreApart r q → IsUntouched x.state.chunks q
    same-untouched stays q untouched apart =
        subst (λ (s : State). IsUntouched s.chunks q) (sym f.heap.state) (stays q (subst (λ (s : State). IsUntouched s.chunks q) (sym lends.heap.state) untouched) apart)

    pub adds : Inserts fllen v.state r (reply_of n) w.state → align_at w.state ≡ align_at v.state → live_count w.state ≡ live_count v.state
        → ((q : Range) → IsUntouched v.state.chunks q → AreApart r q → IsUntouched w.state.chunks q) → AddsLent fllen u start len n back x
    adds did aligns count stays =
        let step : Inserts fllen u.state r (reply_of n) x.state = subst (λ (s : State). Inserts fllen u.state r (reply_of n) s) (sym f.heap.state)
        (subst (λ (s : State). Inserts fllen s r (reply_of n) w.state) lends.heap.state did) in
        record {
          adds = record { step = step; heap = same; aligns = same-aligns aligns; count = same-count count; untouched = same-untouched stays };
          few = few;
          range = taken-lent;
          front = front_clear fllen start len n u x clear few step;
          given = given;
        }

    pub appends : Appends fllen v.state r n w.state → align_at w.state ≡ align_at v.state → live_count w.state ≡ live_count v.state
        → ((q : Range) → IsUntouched v.state.chunks q → AreApart r q → IsUntouched w.state.chunks q) → AppendsLent fllen u start len n back x
    appends did aligns count stays = record {
      step = subst (λ (s : State). Appends fllen u.state r n s) (sym f.heap.state) (subst (λ (s : State). Appends fllen s r n w.state) lends.heap.state did);
      heap = same;
      aligns = same-aligns aligns;
      count = same-count count;
      untouched = same-untouched stays;
      few = few;
      range = taken-lent;
      given = given;
    }
