use Rattle.std.proofs.Common.{◌≡◌, ◌+◌, ◌-◌, ℕ, length, None, Some, arith, refl, sym, ap, subst, ◌∙◌}
use Rattle.std.proofs.lemmas.Bool.{false≢true}
use Rattle.rlsf_base.specs.Layout.{IsLayout}
use Rattle.rlsf_base.specs.Range.{range_at}
use Rattle.rlsf_model_sizes.specs.Rounding.{round32}
use Rattle.rlsf_model.specs.Callers.{align_at, bytes_at}
use Rattle.rlsf_model.specs.Reallocate.{Reallocates}
use Rattle.rlsf_model.specs.State.{State, filled}
use Rattle.rlsf_blocks.specs.Laws.{read_from}
use Rattle.rlsf_tlsf.specs.Allocator.{allocator}
use Rattle.rlsf_tlsf.specs.Bounds.{KeepsBounds}
use Rattle.rlsf_tlsf.specs.CoreResizes.{KeepsPayloadsResizing}
use Rattle.rlsf_tlsf.specs.Moving.{IsRelocated, span}
use Rattle.rlsf_tlsf.specs.Results.{KeepsFrameMoving as CoreFrame}
use Rattle.rlsf_tlsf.proofs.Relocated.{end_relocated}
use Rattle.rlsf_heap.specs.Heap.{HeapView, Steps}
use Rattle.rlsf_heap.proofs.OnCores.{Steps-arrived, bare-kept}
use Rattle.rlsf_heap.proofs.Kept.{heap_same, raw_same, refused_same}
use Rattle.rlsf_heap.proofs.TakenBack.{IsAt, IsBack, IsHeap-over, core_back, count_back, frame_over, here_there, kept_same, lies_over, own_over, payload_back, range_back}
use Rattle.rlsf_heap.proofs.TakenBack.{bytes_are, reads_over, refused_over, relocated_at, resized_over, seen_back, sized_back, sized_over, step_over, taken_back, there_at, told_as}
use Rattle.rlsf_heap.proofs.heap.Heap.reallocate.Given as given
use Rattle.rlsf_heap.proofs.heap.Heap.reallocate.Goals as goal
use Rattle.rlsf_heap.proofs.heap.Heap.reallocate.Goals.{In-Some, In_default-moved}

-- ---- the payload is back in the memory

pub reallocate_in-moved-requires : goal.reallocate_in-moved-requires
reallocate_in-moved-requires g c =
    let back = taken_back c.args.payload c.take_back.ensures.back in (
      omega arith,
      (
        core_back c.self.invariant c.args.payload back g.FLBitmap.BitPattern.width_limit,
        (payload_back c.self.invariant c.args.payload back c.addr-addr.ensures (c.in-Ok.ensures.layout.1 ∙ c.align-align.ensures), λ one. absurd (omega (arith, one))),
      ),
    )

-- ---- the reallocation is refused, and the payload is handed over as it was

module _ (g : given.Over) (c : In_default-moved g) where
  back_refused : IsBack c.self.inside.memory c.take_back.new.memory c.self.inside.ledger.entries c.take_back.new.ledger.entries c.args.payload
  back_refused = taken_back c.args.payload c.take_back.ensures.back

  kept : KeepsPayloadsResizing (read_from c.take_back.new.memory c.self.inside.state.state) (read_from c.reallocate_in-moved.new.memory c.reallocate_in-moved.new.state.state)
      c.args.payload.start
  kept = kept_same c.args.payload.start c.in_default-moved.ensures.refused.same

  -- it is where it was
  stayed : IsAt c.reallocate_in-moved.new.memory (read_from c.take_back.new.memory c.self.inside.state.state)
      (read_from c.reallocate_in-moved.new.memory c.reallocate_in-moved.new.state.state) c.args.payload.start c.args.payload.align c.args.payload.start
  stayed = there_at c.self.invariant c.args.payload back_refused c.in_default-moved.ensures.left kept

  -- and its range is as long
  whole : range_at c.addr-addr.result c.len-len.result
      ≡ span (read_from c.reallocate_in-moved.new.memory c.reallocate_in-moved.new.state.state) c.args.payload.start c.args.payload.start
  whole =
      range_back c.self.invariant c.args.payload back_refused c.in_default-moved.ensures.left kept c.addr-addr.ensures
      (c.len-len.ensures ∙ sym (ap length (ap (λ (x : State). bytes_at x c.args.payload.start) c.in_default-moved.ensures.refused.same
      ∙ bytes_are c.self.invariant c.args.payload back_refused)))

pub hand_over-payload-requires-clause-place : goal.hand_over-payload-requires-clause-place
hand_over-payload-requires-clause-place g c =
    let d = (goal.at.hand_over-payload-requires-clause-place g c).In_default-moved in
    lies_over c.self.invariant c.args.payload (back_refused g d) c.in_default-moved.ensures.left (stayed g d) (whole g d)

pub hand_over-payload-requires-clause-own : goal.hand_over-payload-requires-clause-own
hand_over-payload-requires-clause-own g c =
    let d = (goal.at.hand_over-payload-requires-clause-own g c).In_default-moved in
    own_over c.self.invariant c.args.payload (back_refused g d) c.in_default-moved.ensures.left (stayed g d) (whole g d)

pub invariant_of-self : goal.invariant_of-self
invariant_of-self g c =
    let d = (goal.at.invariant_of-self g c).In_default-moved in
    IsHeap-over c.self.invariant c.args.payload (back_refused g d) c.in_default-moved.ensures.left (stayed g d) (whole g d)
    c.align-align.ensures c.hand_over-payload.ensures.over c.in_default-moved.ensures.frame.chunks

pub returns-in_default-moved : goal.returns-in_default-moved
returns-in_default-moved g c =
    let d = (goal.at.returns-in_default-moved g c).In_default-moved in
    let is = c.self.invariant in
    let pay = c.args.payload in
    let back = back_refused g d in
    let n = c.take_back.new.memory in
    let o = c.reallocate_in-moved.new.memory in
    let j = c.self.inside.state.state in
    let k = c.reallocate_in-moved.new.state.state in
    let ledger = c.self.inside.ledger.name in
    let label = c.hand_over-payload.new.ledger.name in
    let e = c.in_default-moved.ensures in
    let over = c.hand_over-payload.ensures.over in
    let place = c.addr-addr.ensures in
    let sizes = c.in-Ok.ensures.layout.0 in
    let told = c.in-Ok.ensures.layout.1 ∙ c.align-align.ensures in
    let at = stayed g d in
    let whole = whole g d in
    let frame = told_as place sizes told (λ a size wide. CoreFrame a size (allocator n c.self.inside.table j) (allocator o c.reallocate_in-moved.new.table k)) e.frame in
    rw (← c.self.view_is) (record {
      step = step_over is pay back e.left at whole c.align-align.ensures over label
          (λ x y. IsLayout c.args.size pay.align → Reallocates g.row.SLLEN x pay.start c.args.size None y)
          (λ fits. told_as place sizes told (λ a size wide. Reallocates g.row.SLLEN (read_from n j) a size None (read_from o k)) e.step);
      result = tt;
      room = λ most longest widest sized few short fits _.
          absurd (false≢true (e.room most longest widest (sized_back is pay back most longest widest sized) (omega (arith, few, count_back is pay back))
          (omega (arith, short, sizes)) (omega (arith, fits, told))));
      bounds = sized_over is pay back e.left at whole c.align-align.ensures over c.args.size
          (told_as place sizes told (λ a size wide. KeepsBounds g.row.SLLEN (read_from n j) (read_from o k) size wide) e.bounds);
      refused = refused_over is pay back e.left at whole c.align-align.ensures over ledger label c.take_back.ensures.name e.refused.same e.refused.bytes refl
          (here_there is pay back e.left (kept g d));
      frame = frame_over is pay back e.left at whole c.align-align.ensures over ledger label (c.hand_over-payload.ensures.name ∙ c.take_back.ensures.name) c.args.size frame;
      touches = omega (arith, e.left.costs.touches, over.counts.0, back.counts.0);
    })

-- ---- the payload has another size, and is handed over

module _ (g : given.Over) (c : In-Some g) where
  back_moved : IsBack c.self.inside.memory c.take_back.new.memory c.self.inside.ledger.entries c.take_back.new.ledger.entries c.args.payload
  back_moved = taken_back c.args.payload c.take_back.ensures.back

  is_moved : IsRelocated c.reallocate_in-moved.new.memory (read_from c.take_back.new.memory c.self.inside.state.state)
      (read_from c.reallocate_in-moved.new.memory c.reallocate_in-moved.new.state.state) c.args.payload.start c.args.size c.args.payload.align c.in-Some.to
  is_moved =
      told_as c.addr-addr.ensures c.in-Ok.ensures.layout.0 (c.in-Ok.ensures.layout.1 ∙ c.align-align.ensures)
      (λ a size wide. IsRelocated c.reallocate_in-moved.new.memory (read_from c.take_back.new.memory c.self.inside.state.state)
      (read_from c.reallocate_in-moved.new.memory c.reallocate_in-moved.new.state.state) a size wide c.in-Some.to) c.in-Some.ensures.result

  -- it is at the returned address
  moved : IsAt c.reallocate_in-moved.new.memory (read_from c.take_back.new.memory c.self.inside.state.state)
      (read_from c.reallocate_in-moved.new.memory c.reallocate_in-moved.new.state.state) c.args.payload.start c.args.payload.align c.in-Some.to
  moved = relocated_at is_moved c.in-Some.ensures.frame.count

  -- its length is that of the range
  long : {end len : ℕ} → end ≡ round32 (c.in-Some.to + c.args.size) → len ≡ end - c.in-Some.to
      → range_at c.in-Some.to len ≡ span (read_from c.reallocate_in-moved.new.memory c.reallocate_in-moved.new.state.state) c.in-Some.to c.in-Some.to
  long {end} {len} is_end is_len =
      let many : len ≡ length (bytes_at (read_from c.reallocate_in-moved.new.memory c.reallocate_in-moved.new.state.state) c.in-Some.to) =
      omega (arith, is_end, is_len, end_relocated is_moved) in
      λ i. range_at c.in-Some.to (many i)

pub hand_over-payload-requires-2-clause-place : goal.hand_over-payload-requires-2-clause-place
hand_over-payload-requires-2-clause-place g c =
    let d = (goal.at.hand_over-payload-requires-2-clause-place g c).In-Some in
    lies_over c.self.invariant c.args.payload (back_moved g d) c.in-Some.ensures.left (moved g d) (long g d c.next_multiple_of_32-end.ensures.value refl)

pub hand_over-payload-requires-2-clause-own : goal.hand_over-payload-requires-2-clause-own
hand_over-payload-requires-2-clause-own g c =
    let d = (goal.at.hand_over-payload-requires-2-clause-own g c).In-Some in
    own_over c.self.invariant c.args.payload (back_moved g d) c.in-Some.ensures.left (moved g d) (long g d c.next_multiple_of_32-end.ensures.value refl)

pub invariant_of-self-2 : goal.invariant_of-self-2
invariant_of-self-2 g c =
    let d = (goal.at.invariant_of-self-2 g c).In-Some in
    IsHeap-over c.self.invariant c.args.payload (back_moved g d) c.in-Some.ensures.left (moved g d) (long g d c.next_multiple_of_32-end.ensures.value refl)
    c.align-align.ensures c.hand_over-payload-2.ensures.over c.in-Some.ensures.frame.chunks

pub returns : goal.returns
returns g c =
    let d = (goal.at.returns g c).In-Some in
    let is = c.self.invariant in
    let pay = c.args.payload in
    let back = back_moved g d in
    let n = c.take_back.new.memory in
    let o = c.reallocate_in-moved.new.memory in
    let j = c.self.inside.state.state in
    let k = c.reallocate_in-moved.new.state.state in
    let before = read_from c.self.inside.memory j in
    let ledger = c.self.inside.ledger.name in
    let label = c.hand_over-payload-2.new.ledger.name in
    let e = c.in-Some.ensures in
    let over = c.hand_over-payload-2.ensures.over in
    let place = c.addr-addr.ensures in
    let sizes = c.in-Ok.ensures.layout.0 in
    let told = c.in-Ok.ensures.layout.1 ∙ c.align-align.ensures in
    let p = c.hand_over-payload-2.result in
    let at = moved g d in
    let whole = long g d c.next_multiple_of_32-end.ensures.value refl in
    let now = is_moved g d in
    let starts : c.in-Some.to ≡ p.start = sym over.at in
    let reads = reads_over is pay back e.left at whole c.align-align.ensures over in
    let frame = told_as place sizes told (λ a size wide. CoreFrame a size (allocator n c.self.inside.table j) (allocator o c.reallocate_in-moved.new.table k)) e.frame in
    rw (← c.self.view_is) (record {
      step = step_over is pay back e.left at whole c.align-align.ensures over label
          (λ x y. IsLayout c.args.size pay.align → Reallocates g.row.SLLEN x pay.start c.args.size (Some p.start) y)
          (λ fits. subst (λ b. Reallocates g.row.SLLEN (read_from n j) pay.start c.args.size (Some b) (read_from o k)) starts
          (told_as place sizes told (λ a size wide. Reallocates g.row.SLLEN (read_from n j) a size (Some c.in-Some.to) (read_from o k)) e.step));
      result = record {
        layout = subst (IsLayout c.args.size) c.align-align.ensures (c.in-Ok.ensures.succeeds.0 refl);
        resized = resized_over is pay back e.left at whole c.align-align.ensures over ledger label c.take_back.ensures.name c.args.size now.made.sized now.made.few now.made.kept
            now.here;
        some = λ zero. omega (arith, now.some, starts, zero);
        new = λ apart. sym ((seen_back is pay back).aligns p.start) ∙ ap (align_at (read_from n j)) (sym starts) ∙ at.new (λ same. apart (sym starts ∙ same));
        aligns = λ a off off_to. reads (λ (x : State). align_at x a ≡ align_at before a) (at.aligns a off (λ same. off_to (same ∙ starts)) ∙ (seen_back is pay back).aligns a);
      };
      room = λ most longest widest sized few short fits _. refl;
      bounds = sized_over is pay back e.left at whole c.align-align.ensures over c.args.size
          (told_as place sizes told (λ a size wide. KeepsBounds g.row.SLLEN (read_from n j) (read_from o k) size wide) e.bounds);
      refused = tt;
      frame = frame_over is pay back e.left at whole c.align-align.ensures over ledger label (c.hand_over-payload-2.ensures.name ∙ c.take_back.ensures.name) c.args.size frame;
      touches = omega (arith, e.left.costs.touches, over.counts.0, back.counts.0);
    })

-- ---- no layout has the size

pub returns-in_default : goal.returns-in_default
returns-in_default g c =
    let none : IsLayout c.args.size c.args.payload.align → ⊥ =
    λ fits. false≢true (c.in_default.ensures.succeeds.1 (subst (IsLayout c.args.size) (sym c.align-align.ensures) fits)) in record {
      step = subst (λ (o : HeapView). Steps g.row.FLLEN g.row.SLLEN o (λ t. IsLayout c.args.size c.args.payload.align
          → Reallocates g.row.SLLEN (filled c.args.self.now.state c.args.payload.start c.args.payload.bytes) c.args.payload.start c.args.size None t)) c.self.view_is
          (Steps-arrived c.self.invariant.stands c.self.inside.state.state (sym (bare-kept c.self.invariant)) c.self.inside.ledger.name c.self.inside.lent
          (λ t. IsLayout c.args.size c.args.payload.align
          → Reallocates g.row.SLLEN (filled c.args.self.now.state c.args.payload.start c.args.payload.bytes) c.args.payload.start c.args.size None t)
          (λ fits. absurd (none fits)));
      result = tt;
      room = λ count most wide sized few short fits whole. absurd (none whole);
      bounds = record { sized = λ count most wide sized short fits. sized; count = refl };
      refused = refused_same c.args.self.now c.args.payload c.requires.identity c.requires.written;
      frame = record {
        heap = heap_same c.args.self.now;
        raw = raw_same c.args.self.now;
        settled = λ settled. settled;
        chunks = refl;
        copied = omega arith;
        grow_copied = omega arith;
        stays = λ room. refl;
      };
      touches = omega arith;
    }
