-- A heap in which the length of a payload was found, where only word accesses were counted; and a payload that stays or moves then.
use Rattle.std.proofs.Common.{◌≡◌, ℕ, ◌+◌, Option, arith, refl, sym, ap, subst, ◌∙◌, ◌≢◌, Some, None, true≢false, get_or-take, slice_index, ◌<◌, ◌≤◌, ◌%◌, List, length, Result, Ok, Err}
use Rattle.rlsf_base.specs.Layout.{IsLayout}
use Rattle.rlsf_base.specs.OpenSpace.{IsAway}
use Rattle.rlsf_base.specs.Piece.{Piece, piece_range}
use Rattle.rlsf_model_sizes.specs.Sizes.{request_size}
use Rattle.rlsf_model.specs.Sized.{live_bytes}
use Rattle.rlsf_model.specs.State.{State, filled}
use Rattle.rlsf_heap.specs.Frame.{KeepsFrame, KeepsHeap, KeepsSized}
use Rattle.rlsf_heap.specs.Heap.{HeapView, IsOwners, IsWritten, PayloadView, Steps, lent_bytes, payload_view, Stands}
use Rattle.rlsf_heap.specs.Kept.{KeepsBytesBeside, KeepsSpareBytes, NoneBecomesRaw}
use Rattle.rlsf_heap.specs.Replies.{IsDeallocated, IsGone, IsRefused, IsResized}
use Rattle.rlsf_heap.specs.Settled.{IsSettled}
use Rattle.std.specs.Prelude.{IfErr, IfOk}
use Rattle.rlsf_model.specs.Allocate.{Allocates}
use Rattle.rlsf_model.specs.Callers.{align_at, bytes_at}
use Rattle.rlsf_model.specs.Release.{Deallocates}
use Rattle.rlsf_model.proofs.CallerWords.{gone_seen}
use Rattle.rlsf_heap.specs.ThinReplies.{MovesElsewhere}
use Rattle.rlsf_model.specs.Reallocate.{Keeps, Plan}
use Rattle.rlsf_model.specs.NoMove.{ReallocatesUnmovedBy, ReallocatesWithoutMove, unmoved_plan}
use Rattle.rlsf_heap.specs.ThinUnknownAlign.{StaysOrMoves, StaysOrMovesBy}
use Rattle.rlsf_heap.specs.declared.thin.ThinPayload.{ThinPayload}

-- the heap once three words were read
abbrev pub found : HeapView → HeapView
found v = record v { memory = record v.memory { touches = v.memory.touches + 3 } }

-- its memory is settled if it was
pub settled_found : (v w : HeapView) → w ≡ found v → IsSettled v.memory → IsSettled w.memory
unfolding IsSettled
settled_found v w is settled = subst (λ (o : HeapView). IsSettled o.memory) (sym is) settled

-- what is kept since then is kept since before
pub heap_found : (v w new : HeapView) → w ≡ found v → KeepsHeap w new → KeepsHeap v new
unfolding KeepsSpareBytes lent_bytes
heap_found v w new is kept =
    let k = subst (λ (x : HeapView). KeepsHeap x new) is kept in
    record { identity = k.identity; place = k.place; spare = k.spare; lent = k.lent; lent_bytes = k.lent_bytes; grow = omega (arith, k.grow) }

pub raw_found : (v w new : HeapView) → w ≡ found v → NoneBecomesRaw w new → NoneBecomesRaw v new
unfolding NoneBecomesRaw
raw_found v w new is raw = subst (λ (x : HeapView). NoneBecomesRaw x new) is raw

pub frame_found : (v w new : HeapView) → w ≡ found v → KeepsFrame w new → KeepsFrame v new
frame_found v w new is kept = record {
  heap = heap_found v w new is kept.heap;
  raw = raw_found v w new is kept.raw;
  settled = λ settled. kept.settled (settled_found v w is settled);
  chunks = kept.chunks ∙ ap (λ (x : HeapView). x.state.chunks) is;
  copied = kept.copied ∙ ap (λ (x : HeapView). x.memory.copied) is;
}

-- a deallocation of the bytes of a payload is one of the payload
pub deallocated : (old new : HeapView) (q : Piece) (align ledger : ℕ) (p : PayloadView) {addr : ℕ} → payload_view q align ledger ≡ p → p.start ≡ addr
    → IsAway old.memory (piece_range q) → align_at old.state q.start ≡ Some align → IsGone old.state new.state q.start
    → live_bytes new.state + request_size (length q.bytes) 16 ≤ live_bytes old.state → IsDeallocated old new addr p
unfolding IsOwners
deallocated old new q align ledger p parts at away live gone freed = grind arith

-- the length of a payload was found in the memory, and the payload is returned with it and with its alignment
pub record IsFound (v w : HeapView) (p q : PayloadView) (addr align : ℕ) : Type 0 where
  pub heap : w ≡ found v
  pub same : q ≡ p
  pub at : p.start ≡ addr
  pub wide : p.align ≡ align

module _ {v w : HeapView} {p q : PayloadView} {addr align : ℕ} (f : IsFound v w p q addr align) where
  start_is : q.start ≡ addr
  start_is = ap (λ (o : PayloadView). o.start) f.same ∙ f.at

  align_is : q.align ≡ align
  align_is = ap (λ (o : PayloadView). o.align) f.same ∙ f.wide

  -- what is so of the payload that was found, and of a payload made of it, is so of the payload as its caller has it, and of that one by its address
  pub as_found : (to now : PayloadView) → now ≡ to → (So : HeapView → PayloadView → ℕ → ℕ → PayloadView → Type 0) → So w q q.start q.align to → So (found v) p addr align now
  as_found to now thin So so = grind (arith, start_is, align_is)

  -- a step of the payload that was found is one of the payload as its caller has it
  pub step_found : (fllen sllen : ℕ) (new : HeapView) (size : ℕ) (Step : State → ℕ → Option ℕ → State → Type 0) (from to : Option ℕ) → from ≡ to
      → Steps fllen sllen new (λ t. IsLayout size q.align → Step (filled w.state q.start q.bytes) q.start from t)
      → Steps fllen sllen new (λ t. IsLayout size align → Step (filled v.state p.start p.bytes) addr to t)
  step_found fllen sllen new size Step from to reply did =
      subst (λ (x : State × PayloadView × ℕ × ℕ × Option ℕ). Steps fllen sllen new (λ t. IsLayout size x.3 → Step (filled x.0 x.1.start x.1.bytes) x.2 x.4 t))
      (λ i. ((f.heap i).state, f.same i, start_is i, align_is i, reply i)) did

  pub sized_found : (sllen size : ℕ) (new : HeapView) → KeepsSized sllen w.state new.state size q.align → KeepsSized sllen v.state new.state size align
  sized_found sllen size new kept = subst (λ (x : HeapView × ℕ). KeepsSized sllen x.0.state new.state size x.1) (λ i. (f.heap i, align_is i)) kept

  -- it has the size, of the same heap and with the same alignment
  pub resized_found : (size : ℕ) (new : HeapView) (to now : PayloadView) → now ≡ to → IsResized w new size q.align q to → IsResized v new size align p now
  resized_found size new to now thin is =
      let r = as_found to now thin (λ x from addr wide made. IsResized x new size wide from made) is in record {
        identity = r.identity;
        requested = r.requested;
        live = r.live;
        long = r.long;
        aligned = r.aligned;
        sized = r.sized;
        few = r.few;
        kept = r.kept;
        each = r.each;
        here = r.here;
        shrunk = r.shrunk;
        written = λ settled. r.written (settled_found v (found v) refl settled);
      }

  -- or it was refused
  pub refused_found : (new : HeapView) (to now : PayloadView) → now ≡ to → IsRefused w new q.start q.align q to → IsRefused v new addr align p now
  unfolding KeepsBytesBeside
  refused_found new to now thin is =
      let r = as_found to now thin (λ x from addr wide made. IsRefused x new addr wide from made) is in record {
        identity = r.identity;
        requested = r.requested;
        start = r.start;
        bytes = r.bytes;
        written = r.written;
        alike = r.alike;
        aligns = r.aligns;
        unchanged = r.unchanged;
      }

-- ---- a payload that moved into a new one, whatever its alignment is

module _ (fllen sllen : ℕ) (old first mid last : HeapView) (is : first ≡ found old) (size align addr from to : ℕ) (at : from ≡ addr)
    (made : Steps fllen sllen mid (Allocates sllen first.state size align (Some to))) (gone : Steps fllen sllen last (Deallocates mid.state from)) where
  same_state : first.state ≡ old.state
  same_state = ap (λ (v : HeapView). v.state) is

  pub move_step : (now : ℕ) → now ≡ to → Steps fllen sllen last (MovesElsewhere sllen old.state addr size align (Some now))
  unfolding Steps
  move_step now there =
      let step : MovesElsewhere sllen old.state addr size align (Some to) last.state = (
        mid.state,
        subst (λ s. Allocates sllen s size align (Some to) mid.state) same_state made.0,
        subst (λ a. Deallocates mid.state a last.state) at gone.0,
      ) in
      (subst (λ n. MovesElsewhere sllen old.state addr size align (Some n) last.state) (sym there) step, gone.1)

  -- the bytes of the others stay
  pub others_stay : (a : ℕ) → a ≢ addr → bytes_at last.state a ≡ bytes_at mid.state a
  unfolding Steps Stands
  others_stay a apart =
      (gone_seen made.1 last.state from (gone.0.block, gone.0.holds) gone.0).bytes a (λ e. apart (e ∙ at))

-- a payload that is new isn't one that was live
pub new_is_other : (s t : State) → t ≡ s → (a b align : ℕ) → align_at s a ≡ Some align → align_at t b ≡ None → b ≢ a
new_is_other s t same a b align live new e = grind (arith, true≢false)

-- ---- reallocation of a payload with the bytes that its owner wrote, as callers see it

-- each byte that both have is kept
pub Keeps-each : (old new : List ℕ) → Keeps old new → (k : ℕ) → k < length old → k < length new → slice_index new k ≡ slice_index old k
Keeps-each old new keeps k low high = grind (arith, get_or-take, slice_index)

-- ---- a payload whose alignment isn't known stays, or moves into a new one

module _ (sllen : ℕ) (s : State) (addr size align : ℕ) where
  stays_there : (to : ℕ) (t : State) → ReallocatesWithoutMove s addr size (Some to) t → StaysOrMoves sllen s addr size align (Some to) t
  stays_there to t did = record { block = did.block; holds = did.holds; step = go (unmoved_plan s did.block size) did.step }
    where
      go : (o : Option Plan) → ReallocatesUnmovedBy s did.block o (Some to) t → StaysOrMovesBy sllen s did.block size align o (Some to) t
      go None by = absurd by
      go (Some p) by = by

  moves_away : (mid t : State) (reply : Option ℕ) → ReallocatesWithoutMove s addr size None mid → MovesElsewhere sllen mid addr size align reply t
      → StaysOrMoves sllen s addr size align reply t
  moves_away mid t reply was moves = go (unmoved_plan s was.block size) refl was.step
    where
      go : (o : Option Plan) → unmoved_plan s was.block size ≡ o → ReallocatesUnmovedBy s was.block o None mid → StaysOrMoves sllen s addr size align reply t
      go None none same =
          let moved : MovesElsewhere sllen s was.block.payload size align reply t =
          subst (λ (x : State × ℕ). MovesElsewhere sllen x.0 x.1 size align reply t) (λ i. (same i, sym was.holds.1 i)) moves in
          record { block = was.block; holds = was.holds; step = subst (λ o. StaysOrMovesBy sllen s was.block size align o reply t) (sym none) moved }
      go (Some p) some by = absurd by

  module _ (fllen : ℕ) (new : HeapView) where
    -- a reallocation without a move leaves the payload where it is
    pub step_stays : (to : ℕ) → Steps fllen sllen new (ReallocatesWithoutMove s addr size (Some to)) → Steps fllen sllen new (StaysOrMoves sllen s addr size align (Some to))
    unfolding Steps
    step_stays to did = (stays_there to new.state did.0, did.1)

    -- if it is refused, the payload moves
    pub step_moves : (mid : HeapView) (reply : Option ℕ) → Steps fllen sllen mid (ReallocatesWithoutMove s addr size None)
        → Steps fllen sllen new (MovesElsewhere sllen mid.state addr size align reply) → Steps fllen sllen new (StaysOrMoves sllen s addr size align reply)
    unfolding Steps
    step_moves mid reply was did = (moves_away mid.state new.state reply was.0 did.0, did.1)

-- what is so of a returned payload
module _ {P Q : ThinPayload → Type 0} where
  pub if_ok : (r : Result ThinPayload ThinPayload) → ((p : ThinPayload) → P p → Q p) → IfOk r P → IfOk r Q
  if_ok (Ok p) f is = f p is
  if_ok (Err p) f is = tt

  pub if_err : (r : Result ThinPayload ThinPayload) → ((p : ThinPayload) → P p → Q p) → IfErr r P → IfErr r Q
  if_err (Ok p) f is = tt
  if_err (Err p) f is = f p is

-- a payload that moved has another size, also as one of the payload with the same bytes that was there before
pub resized_as : (before mid after : HeapView) (first was p : PayloadView) (size align : ℕ) → mid.identity ≡ before.identity → first.bytes ≡ was.bytes → IsWritten p
    → IsResized mid after size align first p → IsResized before after size p.align was p
resized_as before mid after first was p size align identity same written is =
    let kept : Keeps was.bytes p.bytes = subst (λ (l : List ℕ). Keeps l p.bytes) same is.kept in record {
      identity = is.identity ∙ identity;
      requested = refl;
      live = is.live ∙ ap Some (sym is.requested);
      long = is.long;
      aligned = subst (λ a. p.start % a ≡ 0) (sym is.requested) is.aligned;
      sized = is.sized;
      few = is.few;
      kept = kept;
      each = Keeps-each was.bytes p.bytes kept;
      here = λ i from high. written i from (omega (arith, high));
      shrunk = λ _. written;
      written = λ _. written;
    }
