-- What the calls of a heap return, as the exports say it.
use Rattle.std.proofs.Common.{◌≡◌, ◌≢◌, ◌≤◌, ℕ, ◌+◌, ◌-◌, length, List, [], Bool, Some, None, arith, refl, sym, subst, ◌∙◌, ap, false, true, inl, inr}
use Rattle.std.proofs.lemmas.Bool.{cases_eq, cases_lt, false≢true}
use denote.RawPtr.{Ptr}
use Rattle.rlsf_base.specs.OpenSpace.{IsAway, home_of, place_in}
use Rattle.rlsf_base.proofs.Changes.{changed-behind, changed-there, none-out}
use Rattle.rlsf_base.specs.Layout.{IsLayout}
use Rattle.rlsf_base.specs.Out.{Change, out, is_own, kept_at}
use Rattle.rlsf_base.specs.Range.{AreApart, end_of}
use Rattle.rlsf_base.specs.Space.{Space, range_of}
use Rattle.rlsf_base.specs.declared.memory.range.Range.{Range}
use Rattle.rlsf_model.specs.Allocate as machine
use Rattle.rlsf_model.specs.Callers.{align_at}
use Rattle.rlsf_model.specs.Insert.{IsUntouched}
use Rattle.rlsf_model.specs.Release.{Deallocates}
use Rattle.rlsf_model.specs.Sized.{live_count}
use Rattle.rlsf_model.specs.State.{State}
use Rattle.rlsf_heap.specs.Heap.{AreAmong, HeapView, IsLent, IsWritten, PayloadView, Stands, Steps}
use Rattle.rlsf_heap.specs.Lending.{ChangesOutside}
use Rattle.rlsf_heap.specs.Pools.{RemovesIfIdle}
use Rattle.rlsf_heap.specs.Frame.{KeepsFrame, KeepsHeap}
use Rattle.rlsf_heap.specs.Replies.{IsAllocated, IsUnchanged}
use Rattle.rlsf_heap.specs.Settled.{IsSettled}
use Rattle.rlsf_heap.specs.Thin.{reply_of}
use Rattle.rlsf_malloc_calls.specs.Calls.{AllocatesPayload, Frees, IsAllOut, IsFreshHeap, IsOver, IsReady, IsSameBeside, IsSameHeap, RemovesPool}

-- a step leads to the state after
pub step_of : (fllen sllen : ℕ) (new : HeapView) (P : State → Type 0) → Steps fllen sllen new P → P new.state
unfolding Steps
step_of fllen sllen new P step = step.0

pub some-same : {m n : ℕ} → Some m ≡ Some n → m ≡ n
some-same e = cc

pub same_heap : (old new : HeapView) → new.identity ≡ old.identity
    → (new.memory.start ≡ old.memory.start) × (length new.memory.bytes ≡ length old.memory.bytes) → IsReady new → new.lent ≡ old.lent
    → ((r : Range) → IsLent old r → IsLent new r) → IsSameHeap old new
same_heap old new identity place ready lent ranges =
    record { identity = identity; start = place.0; len = place.1; ready = ready; lent = lent; ranges = ranges }

-- a heap is itself
pub itself_heap : (v : HeapView) → IsReady v → IsSameHeap v v
itself_heap v ready = same_heap v v refl (refl, refl) ready refl (λ r is. is)

-- a heap that is the same one is so beside any range
pub same_beside : {u v : HeapView} (r : Range) → IsSameHeap u v → IsSameBeside r u v
same_beside r h = record { identity = h.identity; start = h.start; len = h.len; ready = h.ready; lent = h.lent; ranges = λ q is apart. h.ranges q is }

-- a heap over addresses is fresh
pub fresh : (p : Ptr) (start len : ℕ) (m : Space) (v : HeapView) → IsOver m v → m.start ≡ start → length m.bytes ≡ len
    → (m.view.base.ptr ≡ p) × (place_in m.view start ≡ 0) → IsAway m (range_of m) → IsFreshHeap p start len v
fresh p start len m v is its_start its_len lies away = record {
  lies = subst (λ (n : Space). (n.view.base.ptr ≡ p) × (place_in n.view start ≡ 0)) (sym is.memory) lies;
  begins = ap (λ (n : Space). n.start) is.memory ∙ its_start;
  long = ap (λ (n : Space). length n.bytes) is.memory ∙ its_len;
  away = subst (λ (n : Space). IsAway n (range_of n)) (sym is.memory) away;
  home = is.home ∙ ap home_of (sym is.memory);
  state = is.state;
  untouched = is.untouched;
  ready = is.ready;
  lent = is.lent;
}

-- a memory of which all is out has no raw byte
pub all_out_settled : (m : Space) → IsAllOut m → IsSettled m
unfolding IsSettled
all_out_settled m is a from own = elim (cases_lt (a - m.start) (length m.bytes)) [
  | inl inside ↦ absurd (false≢true (sym (ap (λ (cs : List Change). is_own (kept_at cs (a - m.start))) is
      ∙ ap is_own (changed-there out [] 0 (length m.bytes) (a - m.start) (omega arith) (omega (arith, inside)))) ∙ own))
  | inr past ↦ ap (λ (cs : List Change). kept_at cs (a - m.start)) is ∙ changed-behind out [] 0 (length m.bytes) (a - m.start) (omega (arith, past)) ∙ none-out (a - m.start)
]

-- a heap that is kept is the same one
pub kept_heap : {old new : HeapView} → KeepsHeap old new → (IsSettled old.memory → IsSettled new.memory) → IsReady old → IsSameHeap old new
kept_heap {old = old} {new = new} kept settled ready =
    same_heap old new kept.identity kept.place (settled ready) kept.lent (λ r is. subst (λ (bs : ℕ → Bool). AreAmong bs r) (sym kept.lent_bytes) is)

pub allocated : (fllen sllen : ℕ) (old new : HeapView) (size align : ℕ) (p : PayloadView) → IsReady old → IsLayout size align
    → Steps fllen sllen new (machine.Allocates sllen old.state size align (reply_of p.start)) → (p.start ≢ 0 → IsWritten p)
    → (p.start ≢ 0 → IsAllocated old new size align p) → KeepsFrame old new → (p.start ≡ 0 → IsUnchanged old new)
    → AllocatesPayload sllen old size align p new
allocated fllen sllen old new size align p ready layout step written made frame refused = record {
  no_layout = λ never. absurd (never layout);
  step = λ l. step_of fllen sllen new (machine.Allocates sllen old.state size align (reply_of p.start)) step;
  heap = kept_heap frame.heap frame.settled ready;
  at = record { start = refl; heap = λ some. (made some).identity ∙ sym frame.heap.identity; written = written };
  new = λ some. (made some).new;
  sized = λ some. let m = made some in
      record { live = m.live; requested = m.requested; aligned = m.aligned; sized = m.sized; few = m.few; long = m.long };
  aligns = λ a apart. elim (cases_eq p.start 0) [
    | inl none ↦ ap (λ (s : State). align_at s a) (refused none).same
    | inr some ↦ (made some).aligns a apart
  ];
  count = λ some. (made some).count;
  chunks = frame.chunks;
  same = λ none. (refused none).same;
}

module _ (fllen sllen : ℕ) (old new : HeapView) (same : IsSameHeap old new) where
  pub freed : (addr : ℕ) (p : PayloadView) → p.start ≡ addr → addr ≢ 0 → Steps fllen sllen new (Deallocates old.state addr)
      → align_at old.state addr ≡ Some p.align → align_at new.state addr ≡ None → ((a : ℕ) → a ≢ addr → align_at new.state a ≡ align_at old.state a)
      → live_count old.state ≡ live_count new.state + 1 → new.state.chunks ≡ old.state.chunks → Frees old addr p new
  freed addr p at some step live gone aligns count chunks = record {
    heap = same;
    freed = λ apart. record {
      step = subst (λ (n : ℕ). Deallocates old.state n new.state) (sym at) (step_of fllen sllen new (Deallocates old.state addr) step);
      live = subst (λ (n : ℕ). align_at old.state n ≡ Some p.align) (sym at) live;
      gone = subst (λ (n : ℕ). align_at new.state n ≡ None) (sym at) gone;
      count = count;
      chunks = chunks;
      aligns = λ a off. aligns a (λ e. off (e ∙ sym at));
    };
    nothing = λ e. absurd (some e);
  }

-- a pool is removed, or it isn't
pub removed_pool : (fllen sllen : ℕ) (old new : HeapView) (changed r : Range) (b : Bool) → b ≡ true → IsSameBeside changed old new
    → Steps fllen sllen new (RemovesIfIdle old.state r b) → (b ≡ true → IsUntouched new.state.chunks r) → align_at new.state ≡ align_at old.state
    → live_count new.state ≡ live_count old.state → ((q : Range) → IsUntouched old.state.chunks q → IsUntouched new.state.chunks q) → RemovesPool old changed r 1 new
removed_pool fllen sllen old new changed r b is heap step gone aligns count untouched =
    let did = subst (λ (d : Bool). RemovesIfIdle old.state r d new.state) is (step_of fllen sllen new (RemovesIfIdle old.state r b) step) in
    record {
      step = λ some. did;
      one = λ some. refl;
      gone = λ some. gone is;
      used = λ none idle. omega (arith, none);
      same = λ none. absurd (omega (arith, none));
      heap = heap;
      aligns = aligns;
      count = count;
      untouched = untouched;
    }

pub kept_pool : (fllen sllen : ℕ) (old new : HeapView) (changed r : Range) (b : Bool) → b ≡ false → IsSameBeside changed old new
    → Steps fllen sllen new (RemovesIfIdle old.state r b) → (b ≡ false → new ≡ old) → align_at new.state ≡ align_at old.state
    → live_count new.state ≡ live_count old.state → ((q : Range) → IsUntouched old.state.chunks q → IsUntouched new.state.chunks q) → RemovesPool old changed r 0 new
kept_pool fllen sllen old new changed r b is heap step same aligns count untouched =
    let did = subst (λ (d : Bool). RemovesIfIdle old.state r d new.state) is (step_of fllen sllen new (RemovesIfIdle old.state r b) step) in
    record {
      step = λ some. absurd (some refl);
      one = λ some. absurd (some refl);
      gone = λ some. absurd (some refl);
      used = λ none. did.0;
      same = λ none. same is;
      heap = heap;
      aligns = aligns;
      count = count;
      untouched = untouched;
    }

-- bytes were lent, a call kept the heap, and bytes of the same range were returned, or none
pub lent_heap : {u v w x : HeapView} (r back : Range) → ChangesOutside u v r → ((q : Range) → IsLent u q → IsLent v q) → IsSameHeap v w
    → ChangesOutside w x back → ((q : Range) → IsLent w q → AreApart back q → IsLent x q) → (r.start ≤ back.start) × (end_of back ≤ end_of r) → IsReady x → IsSameBeside r u x
lent_heap r back e others k f others' within ready = record {
  identity = f.identity ∙ k.identity ∙ e.identity;
  start = f.place.0 ∙ k.start ∙ e.place.0;
  len = f.place.1 ∙ k.len ∙ e.place.1;
  ready = ready;
  lent = f.lent ∙ k.lent ∙ e.lent;
  ranges = λ q is apart. others' q (k.ranges q (others q is)) (elim apart [
    | inl before ↦ inl (omega (arith, before, within))
    | inr behind ↦ inr (omega (arith, behind, within))
  ]);
}

-- a call kept the heap, and bytes were returned
pub heap_lent : {u v w : HeapView} (r : Range) → IsSameHeap u v → ChangesOutside v w r → ((q : Range) → IsLent v q → AreApart r q → IsLent w q) → IsReady w
    → IsSameBeside r u w
heap_lent r k e others ready = record {
  identity = e.identity ∙ k.identity;
  start = e.place.0 ∙ k.start;
  len = e.place.1 ∙ k.len;
  ready = ready;
  lent = e.lent ∙ k.lent;
  ranges = λ q is apart. others q (k.ranges q is) apart;
}

-- a part of a range that is lent is lent
pub part_lent : (v : HeapView) (r part : Range) → (r.start ≤ part.start) × (end_of part ≤ end_of r) → IsLent v r → IsLent v part
unfolding AreAmong
part_lent v r part within is a low high = is a (omega (arith, low, within)) (omega (arith, high, within))

-- a step that led to a state leads to it, where that state is well-formed in a heap's memory
pub steps_again : (fllen sllen : ℕ) (last new : HeapView) (P : State → Type 0) → new.state ≡ last.state → Steps fllen sllen last P → Stands fllen sllen new
    → Steps fllen sllen new P
unfolding Steps
steps_again fllen sllen last new P same did stands = (subst P (sym same) did.0, stands)
