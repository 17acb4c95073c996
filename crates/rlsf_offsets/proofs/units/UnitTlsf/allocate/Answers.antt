use Rattle.std.proofs.Common.{◌≡◌, ◌≤◌, ℕ, Some, ◌+◌, ◌-◌, ◌^◌, ◌/◌, ap, sym, refl, false, true, arith}
use Rattle.std.proofs.lemmas.Option.{none-some}
use Rattle.std.specs.Prelude.{IsSome}
use Rattle.rlsf_base.proofs.Numbers.PowersOfTwo.{IsPowerOfTwo-positive}
use Rattle.rlsf_blocks.specs.Laws.{read_from}
use Rattle.rlsf_model.proofs.Chunks.{chunks-allocated}
use Rattle.rlsf_tlsf.specs.Allocator.{allocator}
use Rattle.rlsf_offsets.specs.Units.{IsUnitAllocator, offsets}
use Rattle.rlsf_offsets.proofs.Allocations.{AreWhole-allocated, IsFull-answered, HasNoRoomFor-longer, IsFull-refused, IsLayout-units, IsReserved-allocated, if_none, if_some, is_high, sized-kept, sized-same, within-full, within-room}
use Rattle.rlsf_offsets.proofs.Kept.{IsUnitAllocator-left}
use Rattle.rlsf_offsets.proofs.Rooms.{no_run}
use Rattle.rlsf_offsets.proofs.units.UnitTlsf.allocate.Goals as goal
use Rattle.rlsf_offsets.proofs.units.UnitTlsf.allocate.Goals.{In_ok-payload}

-- ---- more units than the space has

pub returns-then-saturating_add-self : goal.returns-then-saturating_add-self
returns-then-saturating_add-self c =
    let n = c.args.units in
    let align = c.args.align in
    let positive = IsPowerOfTwo-positive align c.requires.align in
    let shadow = c.self.invariant.shadow in
    let full = HasNoRoomFor-longer shadow (n + align - 1)
    (omega (arith, c.saturating_add.ensures, c.if-saturating_add-self.true, shadow.few, c.requires.some, positive)) in
    let v = offsets c.self.inside.units (allocator c.self.inside.memory c.self.inside.table c.self.inside.state.state) in
    rw (← c.self.view_is) (record {
      reserved = tt;
      refused = (λ e. full, λ h. refl);
      room = λ o m run long. absurd (no_run shadow (n + align - 1) o m (omega (arith, c.requires.some, positive)) full run long);
      within = within-full shadow n align c.requires.some positive (false ≡ true) full;
      sized = sized-same v v n align refl;
      same = record { space = refl; limit = refl; same = refl };
      touches = omega arith;
    })

-- ---- refused

pub from_size_align_unchecked-layout-requires : goal.from_size_align_unchecked-layout-requires
from_size_align_unchecked-layout-requires c =
    let few = c.self.invariant.shadow.few in
    IsLayout-units c.args.units c.args.align c.requires.align (omega (arith, c.saturating_add.ensures, c.if-saturating_add-self.false, few, c.requires.some))
    (omega (arith, c.saturating_add.ensures, c.if-saturating_add-self.false, few, IsPowerOfTwo-positive c.args.align c.requires.align))

pub returns-in_err-payload : goal.returns-in_err-payload
returns-in_err-payload c =
    let n = c.args.units in
    let align = c.args.align in
    let positive = IsPowerOfTwo-positive align c.requires.align in
    let shadow = c.self.invariant.shadow in
    let (es, ea) = c.from_size_align_unchecked-layout.ensures in
    let v = offsets c.self.inside.units (allocator c.self.inside.memory c.self.inside.table c.self.inside.state.state) in
    let b = allocator c.allocate_in.new.memory c.allocate_in.new.table c.allocate_in.new.state.state in
    let e = c.in_err-payload.ensures in
    let full = IsFull-refused shadow b n align _ _ es ea c.requires.some positive e.step in
    let none = c.from_residual.ensures in
    rw (← c.self.view_is) (record {
      reserved = if_some _ none;
      refused = (λ h. full, λ h. none);
      room = λ o m run long. absurd (no_run shadow (n + align - 1) o m (omega (arith, c.requires.some, positive)) full run long);
      within = within-full shadow n align c.requires.some positive (IsSome c.from_residual.result) full;
      sized = sized-same v (offsets c.self.inside.units b) n align e.refused.same;
      same = if_none _ none (record { space = refl; limit = ap (λ (k : ℕ). k / 32 - 1) e.left.costs.length; same = e.refused.same });
      touches = e.left.costs.touches;
    })

-- ---- allocated

-- the alignment is small
small : (c : In_ok-payload) → c.args.align ≤ 2 ^ 56
small c = omega (arith, c.saturating_add.ensures, c.if-saturating_add-self.false, c.self.invariant.shadow.few, c.requires.some)

kept : (c : In_ok-payload) → IsUnitAllocator c.self.inside.units c.allocate_in.new.memory c.allocate_in.new.table c.allocate_in.new.state.state
kept c =
    let positive = IsPowerOfTwo-positive c.args.align c.requires.align in
    let (es, ea) = c.from_size_align_unchecked-layout.ensures in
    let e = c.in_ok-payload.ensures in
    let b = allocator c.allocate_in.new.memory c.allocate_in.new.table c.allocate_in.new.state.state in
    let s = read_from c.self.inside.memory c.self.inside.state.state in
    let size = c.from_size_align_unchecked-layout.result.size in
    let wide = c.from_size_align_unchecked-layout.result.align in
    IsUnitAllocator-left c.self.invariant e.left (chunks-allocated 8 s b.state size wide (Some c.in_ok-payload.payload.start) e.step)
    (AreWhole-allocated c.self.invariant.shadow b c.args.units c.args.align size wide es ea c.requires.some positive (Some c.in_ok-payload.payload.start) e.step)

pub overflow_sub-result : goal.overflow_sub-result
overflow_sub-result c =
    let d = (goal.at.overflow_sub-result c).In_ok-payload in
    let (es, ea) = c.from_size_align_unchecked-layout.ensures in
    let size = c.from_size_align_unchecked-layout.result.size in
    let wide = c.from_size_align_unchecked-layout.result.align in
    omega (
      arith,
      is_high c.self.invariant.shadow (kept d).shadow c.args.units c.args.align size wide c.in_ok-payload.payload.start es ea c.requires.some
          c.requires.align (small d) c.in_ok-payload.ensures.result.made,
    )

pub invariant_of-self-2 : goal.invariant_of-self-2
invariant_of-self-2 c = kept (goal.at.invariant_of-self-2 c).In_ok-payload

pub returns : goal.returns
returns c =
    let d = (goal.at.returns c).In_ok-payload in
    let n = c.args.units in
    let align = c.args.align in
    let (es, ea) = c.from_size_align_unchecked-layout.ensures in
    let b = allocator c.allocate_in.new.memory c.allocate_in.new.table c.allocate_in.new.state.state in
    let e = c.in_ok-payload.ensures in
    let addr = c.in_ok-payload.payload.start in
    let size = c.from_size_align_unchecked-layout.result.size in
    let wide = c.from_size_align_unchecked-layout.result.align in
    let v = offsets c.self.inside.units (allocator c.self.inside.memory c.self.inside.table c.self.inside.state.state) in
    let x = offsets c.self.inside.units b in
    let answered = IsFull-answered c.self.invariant.shadow b n align _ _ es ea c.requires.some (IsPowerOfTwo-positive align c.requires.align) addr e.step in
    rw (← c.self.view_is) (record {
      reserved = IsReserved-allocated c.self.invariant.shadow (kept d).shadow n align size wide addr es ea c.requires.some c.requires.align (small d) e.result.made
          e.left.costs.length;
      refused = (λ h. absurd (none-some _ (sym h)), λ full. absurd (answered full));
      room = λ o m run long. refl;
      within = within-room v x n align size wide es ea (true ≡ true) e.room;
      sized = sized-kept v x n align size wide es ea e.bounds;
      same = tt;
      touches = e.left.costs.touches;
    })
