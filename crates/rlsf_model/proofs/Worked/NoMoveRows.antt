-- Reallocations without a move, on literals: what each replies, and the blocks and free ranges that there are after it.
use Rattle.std.proofs.Common.{◌≡◌, ℕ, ◌-◌, Bool, true, ◌&&◌, true≢false, List, [], ◌∷◌, Option, Some, None, find, refl, sym, subst}
use Rattle.std.specs.Option.{is_some}
use Rattle.std.proofs.lemmas.Bool.{and_parts, eqb-true}
use Rattle.rlsf_base.specs.declared.memory.range.Range.{Range}
use Rattle.rlsf_base.specs.Range.{end_of, range_at}
use Rattle.rlsf_model.specs.NoMove.{ReallocatesUnmovedBy, ReallocatesWithoutMove, unmoved_plan}
use Rattle.rlsf_model.specs.Reallocate.{Plan}
use Rattle.rlsf_model.specs.Run.{Event, insert, allocate, deallocate, Runs}
use Rattle.rlsf_model.specs.State.{State, Used, empty}
use Rattle.rlsf_model.proofs.Coverage.{find-some}
use Rattle.rlsf_model.proofs.Examples.{Block, block, seen, at, refilled, replans_step, all_after, all_events, may_call_all, Runs-all}
use Rattle.rlsf_model.proofs.Names.{replanned}

-- a payload at an address that is to have a size in place, with the reply, and the used blocks and the free ranges after it, the newest first
pub record Resized : Type 0 where
  pub addr : ℕ
  pub size : ℕ
  pub reply : Option ℕ
  pub used : List Block
  pub free : List Range

-- a resize with these parts
abbrev pub resized : ℕ → ℕ → Option ℕ → List Block → List Range → Resized
resized addr size reply used free = record { addr = addr; size = size; reply = reply; used = used; free = free }

-- from a state on, the resizes have their replies one after another, and leave their blocks and ranges
abbrev pub ResizesAll : State → List Resized → Type 0
ResizesAll s [] = Unit {0}
ResizesAll s (r ∷ rs) = (t : State) × ReallocatesWithoutMove s r.addr r.size r.reply t × (seen t.used ≡ r.used) × (t.free ≡ r.free) × ResizesAll t rs

-- These calls with these replies lead from the empty state to a state. From there the resizes have their replies, and leave their
-- blocks and ranges
record GivesUnmoved (fllen sllen : ℕ) (memory : Range) (events : List Event) (resizes : List Resized) : Type 0 where
  before : State
  run : Runs fllen sllen memory empty events before
  resizes_so : ResizesAll before resizes

-- ---- what is replied, and the state after it, computed

abbrev planned_reply : Option Plan → Option ℕ
planned_reply None = None
planned_reply (Some p) = Some p.payload

abbrev planned_after : State → Used → Option Plan → State
planned_after s u None = s
planned_after s u (Some p) = replanned s u p (refilled (end_of p.block - p.payload) u.bytes)

abbrev resize_reply : State → ℕ → Option Used → Option ℕ
resize_reply s size None = None
resize_reply s size (Some u) = planned_reply (unmoved_plan s u size)

abbrev resize_after : State → ℕ → Option Used → State
resize_after s size None = s
resize_after s size (Some u) = planned_after s u (unmoved_plan s u size)

abbrev after : State → Resized → State
after s r = resize_after s r.size (find (at r.addr) s.used)

abbrev all_resized : State → List Resized → List Resized
all_resized s [] = []
all_resized s (r ∷ rs) = resized r.addr r.size (resize_reply s r.size (find (at r.addr) s.used)) (seen (after s r).used) (after s r).free ∷ all_resized (after s r) rs

-- whether some payload is live at the address of each
abbrev may_resize_all : State → List Resized → Bool
may_resize_all s [] = true
may_resize_all s (r ∷ rs) = is_some (find (at r.addr) s.used) && may_resize_all (after s r) rs

-- ---- it is so

planned_step : (s : State) (u : Used) (o : Option Plan) → ReallocatesUnmovedBy s u o (planned_reply o) (planned_after s u o)
planned_step s u None = refl
planned_step s u (Some p) = replans_step s u p

resize_step : (s : State) (addr size : ℕ) (o : Option Used) → find (at addr) s.used ≡ o → is_some o ≡ true
    → ReallocatesWithoutMove s addr size (resize_reply s size o) (resize_after s size o)
resize_step s addr size None e some = absurd (true≢false (sym some))
resize_step s addr size (Some u) e some =
    let is = find-some (at addr) u s.used e in
    record { block = u; holds = (is.0, eqb-true u.payload addr is.1); step = planned_step s u (unmoved_plan s u size) }

ResizesAll-all : (s : State) (rs : List Resized) → may_resize_all s rs ≡ true → ResizesAll s (all_resized s rs)
ResizesAll-all s [] may = tt
ResizesAll-all s (r ∷ rs) may =
    let (here, rest) = and_parts (is_some (find (at r.addr) s.used)) (may_resize_all (after s r) rs) may in
    (after s r, resize_step s r.addr r.size (find (at r.addr) s.used) refl here, refl, refl, ResizesAll-all (after s r) rs rest)

gives_unmoved : {fllen sllen : ℕ} {memory : Range} {events : List Event} {rs : List Resized} → may_call_all fllen sllen memory empty events ≡ true
    → all_events fllen sllen empty events ≡ events → may_resize_all (all_after fllen sllen empty events) rs ≡ true
    → all_resized (all_after fllen sllen empty events) rs ≡ rs → GivesUnmoved fllen sllen memory events rs
gives_unmoved {fllen} {sllen} {memory} {events} {rs} may replies may_resize same =
    let before = all_after fllen sllen empty events in
    record {
      before = before;
      run = subst (λ es. Runs fllen sllen memory empty es before) replies (Runs-all fllen sllen memory empty events may);
      resizes_so = subst (ResizesAll before) same (ResizesAll-all before rs may_resize);
    }

-- ---- rows

-- a payload that may not move is refused where the block behind it is used; one takes all of the free range behind it; one leaves its
-- tail free, and takes it again
takes_the_next_range_alone : GivesUnmoved 8 8 (range_at 4096 4096)
    (insert (range_at 4096 256) (Some 256) ∷ allocate 17 1 (Some 4112) ∷ allocate 0 1 (Some 4176) ∷ [])
    (resized 4112 100 None (block 4160 32 4176 ∷ block 4096 64 4112 ∷ []) (range_at 4192 128 ∷ [])
    ∷ resized 4176 140 (Some 4176) (block 4160 160 4176 ∷ block 4096 64 4112 ∷ []) []
    ∷ resized 4112 0 (Some 4112) (block 4096 32 4112 ∷ block 4160 160 4176 ∷ []) (range_at 4128 32 ∷ [])
    ∷ resized 4112 48 (Some 4112) (block 4096 64 4112 ∷ block 4160 160 4176 ∷ []) []
    ∷ [])
takes_the_next_range_alone = gives_unmoved refl refl refl refl

-- where only the range before it is free, it is refused, and nothing changes
leaves_the_previous_range : GivesUnmoved 8 8 (range_at 4096 4096)
    (insert (range_at 4096 256) (Some 256) ∷ allocate 0 1 (Some 4112) ∷ allocate 40 1 (Some 4144) ∷ allocate 100 1 (Some 4208) ∷ deallocate 4112 ∷ [])
    (resized 4144 70 None (block 4192 128 4208 ∷ block 4128 64 4144 ∷ []) (range_at 4096 32 ∷ []) ∷ [])
leaves_the_previous_range = gives_unmoved refl refl refl refl
