-- The reference model, if its fresh bytes are all zero: its replies, computed, and that it is a run.
use Rattle.std.proofs.Common.{◌≡◌, ℕ, ◌-◌, ◌^◌, ◌<◌, ◌≤◌, Bool, true, false, ◌&&◌, ◌||◌, leb, eqb, List, [], ◌∷◌, ◌++◌, length, take}
use Rattle.std.proofs.Common.{replicate, Option, Some, None, find, true≢false, arith, refl, sym, inl, inr, length-append, length-take}
use Rattle.std.proofs.lemmas.Bool.Decides.{nat_tests}
use Rattle.std.specs.Option.{is_some}
use Rattle.std.proofs.lemmas.Bool.{and_parts, leb-true, eqb-true}
use Rattle.std.proofs.lemmas.List.{length-replicate, take-append-le, take-take}
use Rattle.rlsf_base.specs.declared.memory.range.Range.{Range}
use Rattle.rlsf_model_sizes.specs.PowerOfTwo.{floor_log2}
use Rattle.rlsf_base.specs.Range.{end_of}
use Rattle.rlsf_model_sizes.specs.Sizes.{max_pool_size, request_size}
use Rattle.rlsf_model.specs.Allocate.{choice, placed, given, Allocates}
use Rattle.rlsf_model.specs.Insert.{cut, aligned_part, bytes_taken, with_chunks, appended, appended_bytes, IsFresh, IsNext, IsVacant}
use Rattle.rlsf_model.specs.Join.{ends_at}
use Rattle.rlsf_model.specs.Lists.{IsIn}
use Rattle.rlsf_model.specs.Payload.{payload_of, block_for}
use Rattle.rlsf_model.specs.Reallocate.{Plan, plan, Keeps, Replans, ReallocatesBy, Reallocates}
use Rattle.rlsf_model.specs.Release.{released, Deallocates}
use Rattle.rlsf_model.specs.Run.{Event, insert, append, allocate, deallocate, reallocate, Leads, MayCall, Runs}
use Rattle.rlsf_model.specs.State.{State, Used, Holds}
use Rattle.rlsf_model.specs.WellFormed.{coverage, itself}
use Rattle.rlsf_model.proofs.Coverage.{covers-before, covers-behind, find-some}
use Rattle.rlsf_model.proofs.Names.{replanned}

abbrev pub at : ℕ → Used → Bool
at addr u = eqb u.payload addr

-- the old bytes, cut or filled up to a length
abbrev pub refilled : ℕ → List ℕ → List ℕ
refilled n old = take n (old ++ replicate n 0)

-- a used block as an example shows it: its start, its length and the address of its payload
pub record Block : Type 0 where
  pub start : ℕ
  pub len : ℕ
  pub payload : ℕ

-- the block with these numbers
abbrev pub block : ℕ → ℕ → ℕ → Block
block start len payload = record { start = start; len = len; payload = payload }

-- used blocks as an example shows them
abbrev pub seen : List Used → List Block
seen [] = []
seen (u ∷ us) = block u.block.start u.block.len u.payload ∷ seen us

-- ---- its replies, and the state after it

abbrev pub new_bytes : Range → ℕ → ℕ → List ℕ → List ℕ
new_bytes f size align old = refilled (end_of (block_for f.start (payload_of f.start align) size) - payload_of f.start align) old

abbrev pub address : ℕ → Option Range → Option ℕ
address align None = None
address align (Some f) = Some (payload_of f.start align)

abbrev pub allocate_after : ℕ → State → ℕ → ℕ → List ℕ → Option Range → State
allocate_after sllen s size align old None = s
allocate_after sllen s size align old (Some f) = given sllen s f (placed f size align (new_bytes f size align old))

abbrev pub deallocate_after : State → Option Used → State
deallocate_after s None = s
deallocate_after s (Some u) = released s u

abbrev pub move_after : ℕ → State → Used → ℕ → Option Range → State
move_after sllen s u size None = s
move_after sllen s u size (Some f) = released (given sllen s f (placed f size u.align (new_bytes f size u.align u.bytes))) u

abbrev pub planned_reply : ℕ → State → Used → ℕ → Option Plan → Option ℕ
planned_reply sllen s u size (Some p) = Some p.payload
planned_reply sllen s u size None = address u.align (choice sllen (request_size size u.align) s.free)

abbrev pub planned_after : ℕ → State → Used → ℕ → Option Plan → State
planned_after sllen s u size (Some p) = replanned s u p (refilled (end_of p.block - p.payload) u.bytes)
planned_after sllen s u size None = move_after sllen s u size (choice sllen (request_size size u.align) s.free)

abbrev pub reallocate_reply : ℕ → State → ℕ → Option Used → Option ℕ
reallocate_reply sllen s size None = None
reallocate_reply sllen s size (Some u) = planned_reply sllen s u size (plan s u size)

abbrev pub reallocate_after : ℕ → State → ℕ → Option Used → State
reallocate_after sllen s size None = s
reallocate_after sllen s size (Some u) = planned_after sllen s u size (plan s u size)

-- the call with the reply that it has
abbrev pub answered : ℕ → ℕ → State → Event → Event
answered fllen sllen s (insert r reply) = insert r (bytes_taken r.start (cut (max_pool_size fllen) (aligned_part r)))
answered fllen sllen s (append r reply) = append r (appended_bytes (max_pool_size fllen) r)
answered fllen sllen s (allocate size align reply) = allocate size align (address align (choice sllen (request_size size align) s.free))
answered fllen sllen s (reallocate addr size reply) = reallocate addr size (reallocate_reply sllen s size (find (at addr) s.used))
answered fllen sllen s e = e

abbrev pub after : ℕ → ℕ → State → Event → State
after fllen sllen s (insert r reply) = with_chunks (cut (max_pool_size fllen) (aligned_part r)) s
after fllen sllen s (append r reply) = appended (max_pool_size fllen) r s
after fllen sllen s (allocate size align reply) = allocate_after sllen s size align [] (choice sllen (request_size size align) s.free)
after fllen sllen s (deallocate addr) = deallocate_after s (find (at addr) s.used)
after fllen sllen s (reallocate addr size reply) = reallocate_after sllen s size (find (at addr) s.used)
after fllen sllen s e = s

-- ---- whether the caller may make the call

-- whether a range overlaps none of the others
abbrev pub is_apart : Range → List Range → Bool
is_apart r [] = true
is_apart r (c ∷ cs) = (leb (end_of r) c.start || leb (end_of c) r.start) && is_apart r cs

-- whether a range lies in the memory and overlaps none of the others
abbrev pub is_vacant : Range → List Range → Range → Bool
is_vacant memory taken r = leb memory.start r.start && (leb (end_of r) (end_of memory) && is_apart r taken)

abbrev pub may_call : Range → State → Event → Bool
may_call memory s (insert r reply) = is_vacant memory s.chunks r
may_call memory s (append r reply) = is_vacant memory s.chunks r && is_some (find (ends_at r.start) s.chunks)
may_call memory s (allocate size align reply) = eqb align (2 ^ floor_log2 align)
may_call memory s (deallocate addr) = is_some (find (at addr) s.used)
may_call memory s (reallocate addr size reply) = is_some (find (at addr) s.used)
may_call memory s e = false

abbrev pub all_events : ℕ → ℕ → State → List Event → List Event
all_events fllen sllen s [] = []
all_events fllen sllen s (e ∷ es) = answered fllen sllen s e ∷ all_events fllen sllen (after fllen sllen s e) es

abbrev pub all_after : ℕ → ℕ → State → List Event → State
all_after fllen sllen s [] = s
all_after fllen sllen s (e ∷ es) = all_after fllen sllen (after fllen sllen s e) es

abbrev pub may_call_all : ℕ → ℕ → Range → State → List Event → Bool
may_call_all fllen sllen memory s [] = true
may_call_all fllen sllen memory s (e ∷ es) = may_call memory s e && may_call_all fllen sllen memory (after fllen sllen s e) es

-- ---- it is a run

pub length-refilled : (n : ℕ) (old : List ℕ) → length (refilled n old) ≡ n
length-refilled n old = omega (arith, length-take n (old ++ replicate n 0), length-append old (replicate n 0), length-replicate {A = ℕ} n 0)

pub Keeps-refilled : (n : ℕ) (old : List ℕ) → Keeps old (refilled n old)
Keeps-refilled n old = grind (arith, length-refilled, take-take, take-append-le)

-- what is_apart tests
may_apart : (r : Range) (cs : List Range) → is_apart r cs ≡ true → (a : ℕ) → r.start ≤ a → a < end_of r → coverage itself cs a ≡ 0
may_apart r [] e a low high = refl
may_apart r (c ∷ cs) e a low high = grind (arith, nat_tests, may_apart r cs, and_parts, covers-before, covers-behind)

-- what is_vacant tests
pub IsVacant-from : (memory : Range) (taken : List Range) (r : Range) → is_vacant memory taken r ≡ true → IsVacant memory taken r
IsVacant-from memory taken r e = grind (arith, and_parts, leb-true, may_apart)

pub allocate_step : (sllen : ℕ) (s : State) (size align : ℕ) (old : List ℕ) (o : Option Range) → choice sllen (request_size size align) s.free ≡ o
    → Allocates sllen s size align (address align o) (allocate_after sllen s size align old o)
allocate_step sllen s size align old None e = (e, refl)
allocate_step sllen s size align old (Some f) e = grind (arith, length-refilled)

-- a block goes as planned
pub replans_step : (s : State) (u : Used) (p : Plan) → Replans s u p p.payload (replanned s u p (refilled (end_of p.block - p.payload) u.bytes))
replans_step s u p = grind (arith, length-refilled, Keeps-refilled)

module _ (fllen sllen : ℕ) (memory : Range) (s : State) where
  held : (addr : ℕ) (u : Used) → find (at addr) s.used ≡ Some u → Holds s addr u
  held addr u e = let is = find-some (at addr) u s.used e in (is.0, eqb-true u.payload addr is.1)

  deallocate_step : (addr : ℕ) (o : Option Used) → find (at addr) s.used ≡ o → is_some o ≡ true → Deallocates s addr (deallocate_after s o)
  deallocate_step addr None e some = absurd (true≢false (sym some))
  deallocate_step addr (Some u) e some = record { block = u; holds = held addr u e; after = refl }

  move_step : (u : Used) → IsIn u s.used → (size : ℕ) (o : Option Range) → choice sllen (request_size size u.align) s.free ≡ o
      → ReallocatesBy sllen s u size None (address u.align o) (move_after sllen s u size o)
  move_step u h size None e = (e, refl)
  move_step u h size (Some f) e =
      let bytes = new_bytes f size u.align u.bytes in
      let block = placed f size u.align bytes in
      record {
        meanwhile = given sllen s f block;
        allocated = allocate_step sllen s size u.align u.bytes (Some f) e;
        block = block;
        holds = (inl refl, refl);
        kept = Keeps-refilled (end_of (block_for f.start (payload_of f.start u.align) size) - payload_of f.start u.align) u.bytes;
        released = record { block = u; holds = (inr h, refl); after = refl };
      }

  pub planned_step : (u : Used) → IsIn u s.used → (size : ℕ) (o : Option Plan)
      → ReallocatesBy sllen s u size o (planned_reply sllen s u size o) (planned_after sllen s u size o)
  planned_step u h size (Some p) = replans_step s u p
  planned_step u h size None = move_step u h size (choice sllen (request_size size u.align) s.free) refl

  reallocate_step : (addr size : ℕ) (o : Option Used) → find (at addr) s.used ≡ o → is_some o ≡ true
      → Reallocates sllen s addr size (reallocate_reply sllen s size o) (reallocate_after sllen s size o)
  reallocate_step addr size None e some = absurd (true≢false (sym some))
  reallocate_step addr size (Some u) e some = record { block = u; holds = held addr u e; step = planned_step u (held addr u e).0 size (plan s u size) }

  step : (e : Event) → may_call memory s e ≡ true → MayCall memory s (answered fllen sllen s e) × Leads fllen sllen s (answered fllen sllen s e) (after fllen sllen s e)
  step (insert r reply) may = (IsVacant-from memory s.chunks r may, record { answer = refl; after = refl })
  step (append r reply) may =
      let (fresh, some) = and_parts (is_vacant memory s.chunks r) (is_some (find (ends_at r.start) s.chunks)) may in
      (next r (IsVacant-from memory s.chunks r fresh) (find (ends_at r.start) s.chunks) refl some, record { answer = refl; after = refl })
    where
      next : (r : Range) → IsFresh memory s r → (o : Option Range) → find (ends_at r.start) s.chunks ≡ o → is_some o ≡ true → IsNext memory s r
      next r fresh None e some = absurd (true≢false (sym some))
      next r fresh (Some c) e some = let is = find-some (ends_at r.start) c s.chunks e in
          record { fresh = fresh; chunk = c; is_chunk = is.0; ends = eqb-true (end_of c) r.start is.1 }
  step (allocate size align reply) may = (eqb-true align (2 ^ floor_log2 align) may, allocate_step sllen s size align [] (choice sllen (request_size size align) s.free) refl)
  step (deallocate addr) may = let d = deallocate_step addr (find (at addr) s.used) refl may in ((d.block, d.holds), d)
  step (reallocate addr size reply) may = let d = reallocate_step addr size (find (at addr) s.used) refl may in ((d.block, d.holds), d)
  step e may = absurd (true≢false (sym may))

pub Runs-all : (fllen sllen : ℕ) (memory : Range) (s : State) (es : List Event) → may_call_all fllen sllen memory s es ≡ true
    → Runs fllen sllen memory s (all_events fllen sllen s es) (all_after fllen sllen s es)
Runs-all fllen sllen memory s [] may = refl
Runs-all fllen sllen memory s (c ∷ cs) may = grind (arith, Runs-all fllen sllen memory (after fllen sllen s c) cs, and_parts, step)
