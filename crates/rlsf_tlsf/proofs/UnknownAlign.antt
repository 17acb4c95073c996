-- A reallocation by a caller that does not know the payload's alignment: it stays, or moves into one that is allocated for it.
use Rattle.std.proofs.Common.{◌≡◌, ◌≢◌, ℕ, ◌+◌, ◌<◌, ◌≤◌, List, length, Option, Some, None, IsSome, arith, inr, refl, sym, ◌∙◌, ap, subst}
use Rattle.std.proofs.lemmas.Option.{none-some}
use Rattle.rlsf_base.specs.declared.memory.range.Range.{Range}
use Rattle.rlsf_model_sizes.specs.PowerOfTwo.{IsPowerOfTwo}
use Rattle.rlsf_model.specs.Callers.{align_at, bytes_at}
use Rattle.rlsf_model.specs.Lists.{IsIn}
use Rattle.rlsf_model.specs.NoMove.{ReallocatesUnmovedBy, ReallocatesWithoutMove, unmoved_plan}
use Rattle.rlsf_model.specs.Reallocate.{HasRoomToStay, Keeps, MovesAway, Plan}
use Rattle.rlsf_model.specs.Release.{Deallocates}
use Rattle.rlsf_model.specs.Sized.{live_count}
use Rattle.rlsf_model.specs.State.{Holds, State, Used}
use Rattle.rlsf_model.specs.WellFormed.{IsWellFormed}
use Rattle.rlsf_model.proofs.Allocations.{Allocates-keeps}
use Rattle.rlsf_model.proofs.CallerWords.{SeesGone, SeesNew, align_at-held, bytes_at-held, gone_seen, new_seen}
use Rattle.rlsf_model.proofs.Changes.{Holds-unique}
use Rattle.rlsf_model.proofs.Chunks.{chunks-allocated, chunks-deallocated}
use Rattle.rlsf_model.proofs.Payloads.{payload_of-after, usable-short}
use Rattle.rlsf_model.proofs.SizedWords.{count_gone, count_new, sized_gone, sized_new}
use Rattle.rlsf_blocks.specs.Steps.Resize.{realigned}
use Rattle.rlsf_blocks.proofs.Reallocate.FirstPlan.{in_place-none}
use Rattle.rlsf_tlsf.specs.Bounds.{KeepsBoundsAnyAlign}
use Rattle.rlsf_tlsf.specs.Results.{IsReallocatedAnyAlign}
use Rattle.rlsf_tlsf.specs.Steps.Moves.{allocated, bare, deallocated}
use Rattle.rlsf_tlsf.specs.UnknownAlign.{ReallocatesAnyAlign, ResizesBy}
use Rattle.rlsf_tlsf.proofs.Moved.{allocated-bare, deallocated-bare}

-- ---- it stays

pub stayed : (sllen : ℕ) {s t : State} {addr size : ℕ} (align : ℕ) → ReallocatesWithoutMove s addr size (Some addr) t → ReallocatesAnyAlign sllen s addr size align (Some addr) t
stayed sllen {s} {t} {addr} {size} align did = record { block = did.block; holds = did.holds; step = go (unmoved_plan s did.block size) did.step }
  where
    go : (o : Option Plan) → ReallocatesUnmovedBy s did.block o (Some addr) t → ResizesBy sllen s did.block size align o (Some addr) t
    go None by = absurd by
    go (Some p) by = by

-- ---- it can't stay

module _ {fllen sllen : ℕ} {memory : Range} {s t : State} {addr size : ℕ} (w : IsWellFormed fllen sllen memory s) (no : ReallocatesWithoutMove s addr size None t) where
  pub denied_by : (unmoved_plan s no.block size ≡ None) × (t ≡ s)
  denied_by = go (unmoved_plan s no.block size) refl no.step
    where
      go : (o : Option Plan) → unmoved_plan s no.block size ≡ o → ReallocatesUnmovedBy s no.block o None t → (unmoved_plan s no.block size ≡ None) × (t ≡ s)
      go None e did = (e, did)
      go (Some p) e did = absurd did

  -- its bytes are too few
  pub denied_short : length (bytes_at s addr) < size
  denied_short =
      let short = usable-short w no.block no.holds.0 size (in_place-none s no.block size denied_by.0) in
      omega (arith, ap length (bytes_at-held w addr no.block no.holds), (w.used no.block no.holds.0).bytes, short)

  pub no_room_to_stay : HasRoomToStay s addr size → ⊥
  no_room_to_stay (u, p, holds, plan) =
      let one : u ≡ no.block = Holds-unique w addr u no.block holds no.holds in
      let some : unmoved_plan s no.block size ≡ Some p = subst (λ x. unmoved_plan s x size ≡ Some p) one plan in
      let none = denied_by.0 in
      absurd (cc)

-- ---- it moves

-- what is so of the state after
pub record IsMoved (sllen : ℕ) (s t : State) (addr size align to : ℕ) : Type 0 where
  pub step : ReallocatesAnyAlign sllen s addr size align (Some to) t
  pub result : IsReallocatedAnyAlign s t addr size align to
  pub some : 0 < to
  pub bounds : KeepsBoundsAnyAlign sllen s addr size align t
  pub count : live_count t ≡ live_count s
  pub chunks : t.chunks ≡ s.chunks

module _ {fllen sllen : ℕ} {memory : Range} {s t : State} {addr size align to : ℕ} (w : IsWellFormed fllen sllen memory s) (u : Used) (holds : Holds s addr u)
    (power : IsPowerOfTwo align) (none : unmoved_plan s u size ≡ None) (moves : MovesAway sllen s (realigned u align) size to t) where
  abbrev mid : State
  mid = moves.meanwhile

  mid_well_formed : IsWellFormed fllen sllen memory mid
  mid_well_formed = Allocates-keeps w size align (Some to) mid power moves.allocated

  still : Holds mid addr u
  still = (subst (λ (x : State). IsIn u x.used) (sym moves.allocated.after) (inr holds.0), holds.1)

  released : Deallocates mid addr t
  released = subst (λ a. Deallocates mid a t) holds.1 moves.released

  new : SeesNew s mid size align to
  new = new_seen w mid size align to power moves.allocated

  gone : SeesGone mid t addr
  gone = gone_seen mid_well_formed t addr (u, still) released

  off : to ≢ addr
  off e = none-some u.align (sym new.new ∙ ap (align_at s) e ∙ align_at-held w addr u holds)

  has : bytes_at mid to ≡ moves.block.bytes
  has = bytes_at-held mid_well_formed to moves.block moves.holds

  pub moved : IsMoved sllen s t addr size align to
  moved =
      let live : align_at t to ≡ Some align = gone.aligns to off ∙ new.live in
      let kept : bytes_at t to ≡ bytes_at mid to = gone.bytes to off in
      record {
        step = record { block = u; holds = holds; step = subst (λ o. ResizesBy sllen s u size align o (Some to) t) (sym none) moves };
        result = record {
          live = subst IsSome (sym live) refl;
          there = λ e. absurd (off e);
          moved = λ apart. live;
          gone = λ apart. gone.gone;
          sized = subst (λ (l : List ℕ). size ≤ length l) (sym kept) new.sized;
          few = subst (λ (l : List ℕ). length l < size + 32) (sym kept) new.few;
          kept = subst (λ (x : List ℕ × List ℕ). Keeps x.0 x.1) (λ i. (sym (bytes_at-held w addr u holds) i, sym (kept ∙ has) i)) moves.kept;
          new = λ apart. new.new;
          aligns = λ a from at. gone.aligns a from ∙ new.aligns a at;
          bytes = λ a from at. gone.bytes a from ∙ new.bytes a at;
        };
        some = omega (arith, moves.allocated.answer, payload_of-after moves.allocated.range.start align);
        bounds = λ count most widest was sized live within short fits. sized_gone mid_well_formed t count most widest
            (sized_new w mid count most widest sized size align (Some to) power short fits moves.allocated) addr (u, still) released;
        count = omega (arith, count_new w mid size align to power moves.allocated, count_gone mid_well_formed t addr (u, still) released);
        chunks = chunks-deallocated mid t addr released ∙ chunks-allocated sllen s mid size align (Some to) moves.allocated;
      }

  pub moved-bare : deallocated addr (allocated sllen size align (bare s)) ≡ bare t
  moved-bare = ap (deallocated addr) (allocated-bare sllen s mid size align to moves.allocated) ∙ deallocated-bare mid_well_formed t addr released
