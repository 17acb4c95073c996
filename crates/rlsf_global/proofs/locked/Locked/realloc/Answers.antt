use Rattle.std.proofs.Common.{rules, ◌≤◌, length, Some, Ok, Err, lit<, ap, ◌∙◌, subst, sym, refl, arith}
use Rattle.std.proofs.lemmas.Bool.{not-false, not-true}
use Rattle.rlsf_global.proofs.KeptMemories.{keeps_looked_resizing}
use Rattle.rlsf_global.proofs.Layouts.{content_at-bytes, layout_at-moved_left, layout_at-moved_other, layout_at-none, layout_at-put_here}
use Rattle.rlsf_base.specs.Addr.{at}
use Rattle.rlsf_global.specs.LiveRows.{looked}
use Rattle.rlsf_global.specs.Locked.{heap_of, locked_contents}
use Rattle.rlsf_model_global.proofs.Histories.{is_same-align}
use Rattle.rlsf_model_global.proofs.Moved.{is_same-size}
use Rattle.rlsf_global.proofs.MovedPayloads.{moved_locked, moved_row}
use Rattle.rlsf_global.proofs.Kept.{kept_asked, kept_usable}
use Rattle.rlsf_global.proofs.Lives.{has_row, known, unknown}
use Rattle.rlsf_global.proofs.Places.{has_code, listed, space_stays}
use Rattle.rlsf_global.proofs.Placements.{live_row, no_row, refused_locked, row_sized, same_heap}
use Rattle.rlsf_model.specs.Callers.{bytes_at}
use Rattle.rlsf_model_global.specs.declared.error.GlobalError.TheVariants.{NoRoom, WrongLayout}
use Rattle.rlsf_model_global.specs.Moves.{HeapReallocatesAs}
use Rattle.rlsf_global.proofs.locked.Locked.realloc.Given as given
use Rattle.rlsf_global.proofs.locked.Locked.realloc.Goals as goal
use Rattle.rlsf_global.proofs.locked.Locked.realloc.Goals.{After-move_row}

pub row_of-requires : goal.row_of-requires
row_of-requires g c = (lit< tt, c.self.invariant.locked.lists)

pub invariant_of-self : goal.invariant_of-self
invariant_of-self g c = rw c.row_of.ensures.table (record { locked = c.self.invariant.locked; space = c.self.invariant.space })

pub invariant_of-self-then-ne : goal.invariant_of-self-then-ne
invariant_of-self-then-ne g c = rw c.row_of.ensures.table (record { locked = c.self.invariant.locked; space = c.self.invariant.space })

pub resize-requires : goal.resize-requires
resize-requires g c =
    let row = sym c.in-Some.ensures.row in
    let same = not-false _ (sym c.if-ne.ensures) in
    let live =
    live_row c.self.inside.flex c.self.inside.rows.rows c.self.invariant.locked (at c.args.addr) c.in-Some.row row
    ∙ ap Some (is_same-align c.in-Some.row.1 c.args.layout same) in
    let sized =
    subst (λ n. n ≤ length (bytes_at c.self.inside.flex.state.machine (at c.args.addr))) (is_same-size c.in-Some.row.1 c.args.layout same)
    (row_sized c.self.inside.flex c.self.inside.rows.rows c.self.invariant.locked (at c.args.addr) c.in-Some.row row) in
    (lit< tt, (live, (sized, (c.from_size_align_unchecked-wanted.ensures.1 ∙ c.align.ensures.value, c.self.invariant.locked.flex))))

pub move_row-requires-clause-live : goal.move_row-requires-clause-live
move_row-requires-clause-live g c =
    rw c.row_of.ensures.table
    (has_row c.self.inside.rows.rows (at c.args.addr) c.in-Some.row (sym c.in-Some.ensures.row))

pub move_row-requires-clause-fresh : goal.move_row-requires-clause-fresh
move_row-requires-clause-fresh g c =
    rw c.row_of.ensures.table
    (moved_row c.self.inside.flex c.self.inside.rows.rows c.self.invariant.locked c.resize.new.flex (at c.args.addr) c.from_size_align_unchecked-wanted.result
    c.in-Some-resize.moved
    c.in-Some-resize.ensures.moved)

pub move_row-requires-clause-place : goal.move_row-requires-clause-place
move_row-requires-clause-place g c =
    rw c.row_of.ensures.table
    (let moved = c.in-Some-resize.ensures.moved in
    has_code c.resize.new.flex moved.stands c.self.inside.rows.space
    (space_stays c.self.inside.flex.memory c.resize.new.flex.memory c.self.inside.rows.space c.self.invariant.space c.resize.ensures.frame.memory.place)
    (at c.in-Some-resize.moved) _ moved.live)

pub invariant_of-self-in_default-resize : goal.invariant_of-self-in_default-resize
invariant_of-self-in_default-resize g c =
    rw c.row_of.ensures.table
    (listed c.self.inside.flex c.resize.new.flex c.self.inside.rows (looked c.self.inside.rows) c.self.invariant.space c.resize.ensures.frame.memory.place refl
    (refused_locked c.self.inside.flex c.self.inside.rows.rows c.self.invariant.locked c.resize.new.flex c.in_default-resize.ensures.refused))

pub invariant_of-self-2 : goal.invariant_of-self-2
invariant_of-self-2 g c =
    listed c.self.inside.flex c.resize.new.flex c.self.inside.rows c.move_row.new.self c.self.invariant.space c.resize.ensures.frame.memory.place
    (rw c.row_of.ensures.table at c.move_row.ensures.space)
    (moved_locked c.self.inside.flex c.self.inside.rows.rows c.self.invariant.locked c.resize.new.flex (at c.args.addr)
    c.from_size_align_unchecked-wanted.result c.in-Some-resize.moved c.in-Some-resize.ensures.moved _ (rw c.row_of.ensures.table at c.move_row.ensures.rows))

-- the reference model made the step
did_step : (g : given.Over) (c : After-move_row g)
    → HeapReallocatesAs g.Options.GlobalTlsfOptions.ENABLE_REALLOCATION (heap_of c.self.inside.flex c.self.inside.rows.rows) (at c.args.addr) c.args.layout c.args.new_size
    (Ok c.in-Some-resize.moved) (heap_of c.resize.new.flex c.move_row.new.self.rows)
did_step g c =
    let wanted = c.from_size_align_unchecked-wanted in
    let rows = rw c.row_of.ensures.table at c.move_row.ensures.rows in
    rw (← c.in-Some.ensures.row, not-false _ (sym c.if-ne.ensures))
    (wanted.result, wanted.ensures.0, wanted.ensures.1 ∙ c.align.ensures.value, rw rows (c.in-Some-resize.ensures.step c.self.inside.rows.rows))

pub returns : goal.returns
returns g c =
    let k = (goal.at.returns g c).After-move_row in
    let rows = rw c.row_of.ensures.table at c.move_row.ensures.rows in
    let step = did_step g k in
    let moved = c.in-Some-resize.ensures.moved in
    let wanted = c.from_size_align_unchecked-wanted in
    let enabled = g.Options.GlobalTlsfOptions.ENABLE_REALLOCATION in
    let before = heap_of c.self.inside.flex c.self.inside.rows.rows in
    let after = heap_of c.resize.new.flex c.move_row.new.self.rows in
    let contents = locked_contents c.self.inside.flex c.self.inside.rows in
    let row = sym c.in-Some.ensures.row in
    let sized =
    subst (λ n. n ≤ length (bytes_at c.self.inside.flex.state.machine (at c.args.addr))) (is_same-size c.in-Some.row.1 c.args.layout (not-false _ (sym c.if-ne.ensures)))
    (row_sized c.self.inside.flex c.self.inside.rows.rows c.self.invariant.locked (at c.args.addr) c.in-Some.row row) in
    rw (← c.self.view_is) (record {
      step = step;
      result = record {
        live = (
          wanted.result,
          layout_at-put_here before after (c.in-Some-resize.moved, wanted.result) _ rows,
          wanted.ensures.0,
          wanted.ensures.1 ∙ c.align.ensures.value,
        );
        new = λ off. layout_at-none before (at c.in-Some-resize.moved) (no_row c.self.inside.flex c.self.inside.rows.rows c.self.invariant.locked (at c.in-Some-resize.moved)
            (moved.new off));
        left = λ off. layout_at-moved_left before after (at c.args.addr) (c.in-Some-resize.moved, wanted.result) rows off;
        kept = kept_asked contents c.self.invariant.locked _ c.in-Some-resize.moved (at c.args.addr) c.args.layout c.args.new_size enabled step sized;
        kept_usable = λ on. kept_usable contents c.self.invariant.locked _ c.in-Some-resize.moved (at c.args.addr) c.args.layout c.args.new_size enabled step on;
        layouts = layout_at-moved_other before after (at c.args.addr) (c.in-Some-resize.moved, wanted.result) rows;
        contents = λ a off off_to. content_at-bytes before after a a (moved.bytes a off off_to);
      };
      unknown = known c.self.inside.flex c.self.inside.rows.rows (at c.args.addr) _ row (Ok c.in-Some-resize.moved) refl;
      refused = tt;
      unasked = tt;
      frame = record {
        memory = c.resize.ensures.frame.memory;
        grow = c.resize.ensures.frame.grow;
        copied = rw (← wanted.ensures.0) c.resize.ensures.frame.copied;
        looks = let looks = rw c.row_of.ensures.table at c.move_row.ensures.looks in omega (arith, looks);
        codes = λ _. c.move_row.ensures.room;
      };
      touches = rw (← wanted.ensures.0, ← (wanted.ensures.1 ∙ c.align.ensures.value)) c.resize.ensures.touches;
    })

pub returns-in_default : goal.returns-in_default
returns-in_default g c =
    rw (← c.self.view_is, c.row_of.ensures.table) (record {
      step = search rules;
      result = tt;
      unknown = unknown c.self.inside.flex c.self.inside.rows.rows (at c.args.addr) (sym c.in_default.ensures.row);
      refused = record { same = refl; bytes = refl };
      unasked = refl;
      frame =
          keeps_looked_resizing g.Options.GlobalTlsfOptions.ENABLE_REALLOCATION (at c.args.addr) c.args.layout.size c.args.new_size c.self.inside.flex c.self.inside.rows;
      touches = record { room = λ _ _. omega arith; elsewhere = λ _ _. omega arith };
    })

pub returns-then-ne : goal.returns-then-ne
returns-then-ne g c =
    rw (← c.self.view_is, c.row_of.ensures.table) (record {
      step = rw (← c.in-Some.ensures.row, not-true _ (sym c.if-ne.ensures)) (refl, refl);
      result = tt;
      unknown = known c.self.inside.flex c.self.inside.rows.rows (at c.args.addr) _ (sym c.in-Some.ensures.row) (Err WrongLayout) refl;
      refused = record { same = refl; bytes = refl };
      unasked = refl;
      frame =
          keeps_looked_resizing g.Options.GlobalTlsfOptions.ENABLE_REALLOCATION (at c.args.addr) c.args.layout.size c.args.new_size c.self.inside.flex c.self.inside.rows;
      touches = record { room = λ _ _. omega arith; elsewhere = λ _ _. omega arith };
    })

pub returns-in_default-resize : goal.returns-in_default-resize
returns-in_default-resize g c =
    let wanted = c.from_size_align_unchecked-wanted in
    let stays = c.in_default-resize.ensures.refused in
    rw (← c.self.view_is, c.row_of.ensures.table) (record {
      step =
          rw (← c.in-Some.ensures.row, not-false _ (sym c.if-ne.ensures))
          (wanted.result, wanted.ensures.0, wanted.ensures.1 ∙ c.align.ensures.value, c.in_default-resize.ensures.none c.self.inside.rows.rows);
      result = tt;
      unknown = known c.self.inside.flex c.self.inside.rows.rows (at c.args.addr) _ (sym c.in-Some.ensures.row) (Err NoRoom) refl;
      refused = record { same = same_heap c.self.inside.flex c.resize.new.flex c.self.inside.rows.rows stays.state stays.source; bytes = stays.bytes };
      unasked = tt;
      frame = record {
        memory = c.resize.ensures.frame.memory;
        grow = c.resize.ensures.frame.grow;
        copied = rw (← wanted.ensures.0) c.resize.ensures.frame.copied;
        looks = omega arith;
        codes = λ has. has;
      };
      touches = rw (← wanted.ensures.0, ← (wanted.ensures.1 ∙ c.align.ensures.value)) c.resize.ensures.touches;
    })
