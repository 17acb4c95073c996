use Rattle.rlsf_global.proofs.KeptMemories.{KeepsMemory-refl}
use Rattle.rlsf_global.proofs.Layouts.{content_at-bytes, content_at-is, layout_at-moved_left, layout_at-moved_other, layout_at-none, layout_at-put_here}
use Rattle.std.proofs.Common.{rules, ◌+◌, length, arith, min, Some, Ok, Err, lit<, ap, ◌∙◌, sym, refl}
use Rattle.rlsf_base.specs.Addr.{at}
use Rattle.rlsf_global.specs.LiveRows.{looked}
use Rattle.rlsf_global.specs.Locked.{heap_of, locked_contents}
use Rattle.rlsf_global.proofs.MovedPayloads.{moved_locked, moved_row}
use Rattle.rlsf_global.proofs.Kept.{kept_elsewhere}
use Rattle.rlsf_global.proofs.Lives.{has_row, known, unknown}
use Rattle.rlsf_global.proofs.Places.{has_code, listed, space_stays}
use Rattle.rlsf_global.proofs.Placements.{live_here, live_row, no_row, refused_locked, same_heap}
use Rattle.rlsf_model_global.specs.declared.error.GlobalError.TheVariants.{NoRoom}
use Rattle.rlsf_model_global.specs.Moves.{HeapReallocates}
use Rattle.rlsf_global.proofs.locked.Locked.reallocate.Given as given
use Rattle.rlsf_global.proofs.locked.Locked.reallocate.Goals as goal
use Rattle.rlsf_global.proofs.locked.Locked.reallocate.Goals.{After-move_row}

pub row_of-requires : goal.row_of-requires
row_of-requires g c = (lit< tt, c.self.invariant.locked.lists)

pub invariant_of-self : goal.invariant_of-self
invariant_of-self g c = rw c.row_of.ensures.table (record { locked = c.self.invariant.locked; space = c.self.invariant.space })

pub allocation_usable_size-requires : goal.allocation_usable_size-requires
allocation_usable_size-requires g c =
    (lit< tt, live_here c.self.inside.flex c.self.inside.rows.rows c.self.invariant.locked (at c.args.addr) _ (sym c.in-Some.ensures.row))

pub move_away-requires : goal.move_away-requires
move_away-requires g c =
    let row = sym c.in-Some.ensures.row in
    let live = live_row c.self.inside.flex c.self.inside.rows.rows c.self.invariant.locked (at c.args.addr) c.in-Some.row row ∙ ap Some (sym c.align-align.ensures.value) in
    (lit< tt, (live, (omega (arith, c.min-keep.ensures, c.allocation_usable_size.ensures), omega (arith, c.min-keep.ensures, c.size.ensures.value))))

pub move_row-requires-clause-live : goal.move_row-requires-clause-live
move_row-requires-clause-live g c =
    rw c.row_of.ensures.table
    (has_row c.self.inside.rows.rows (at c.args.addr) c.in-Some.row (sym c.in-Some.ensures.row))

pub move_row-requires-clause-fresh : goal.move_row-requires-clause-fresh
move_row-requires-clause-fresh g c =
    rw c.row_of.ensures.table
    (moved_row c.self.inside.flex c.self.inside.rows.rows c.self.invariant.locked c.move_away.new.flex (at c.args.addr) c.args.layout c.in-Some-move_away.to
    c.in-Some-move_away.ensures.moved)

pub move_row-requires-clause-place : goal.move_row-requires-clause-place
move_row-requires-clause-place g c =
    rw c.row_of.ensures.table
    (let moved = c.in-Some-move_away.ensures.moved in
    has_code c.move_away.new.flex moved.stands c.self.inside.rows.space
    (space_stays c.self.inside.flex.memory c.move_away.new.flex.memory c.self.inside.rows.space c.self.invariant.space c.move_away.ensures.frame.memory.place)
    (at c.in-Some-move_away.to) _ moved.live)

pub invariant_of-self-in_default-move_away : goal.invariant_of-self-in_default-move_away
invariant_of-self-in_default-move_away g c =
    rw c.row_of.ensures.table
    (listed c.self.inside.flex c.move_away.new.flex c.self.inside.rows (looked c.self.inside.rows) c.self.invariant.space c.move_away.ensures.frame.memory.place refl
    (refused_locked c.self.inside.flex c.self.inside.rows.rows c.self.invariant.locked c.move_away.new.flex c.in_default-move_away.ensures.refused))

pub invariant_of-self-2 : goal.invariant_of-self-2
invariant_of-self-2 g c =
    listed c.self.inside.flex c.move_away.new.flex c.self.inside.rows c.move_row.new.self c.self.invariant.space c.move_away.ensures.frame.memory.place
    (rw c.row_of.ensures.table at c.move_row.ensures.space)
    (moved_locked c.self.inside.flex c.self.inside.rows.rows c.self.invariant.locked c.move_away.new.flex (at c.args.addr) c.args.layout
    c.in-Some-move_away.to c.in-Some-move_away.ensures.moved _ (rw c.row_of.ensures.table at c.move_row.ensures.rows))

-- the reference model made the step
did_step : (g : given.Over) (c : After-move_row g)
    → HeapReallocates (heap_of c.self.inside.flex c.self.inside.rows.rows) (at c.args.addr) c.args.layout (Ok c.in-Some-move_away.to)
    (heap_of c.move_away.new.flex c.move_row.new.self.rows)
did_step g c =
    let keep = c.min-keep.ensures ∙ ap (λ n. min n c.allocation_usable_size.result) c.size.ensures.value ∙ ap (min c.args.layout.size) c.allocation_usable_size.ensures in
    let rows = rw c.row_of.ensures.table at c.move_row.ensures.rows in
    rw (← c.in-Some.ensures.row, ← keep, rows) (c.in-Some-move_away.ensures.step c.self.inside.rows.rows)

pub returns : goal.returns
returns g c =
    let k = (goal.at.returns g c).After-move_row in
    let rows = rw c.row_of.ensures.table at c.move_row.ensures.rows in
    let step = did_step g k in
    let moved = c.in-Some-move_away.ensures.moved in
    let before = heap_of c.self.inside.flex c.self.inside.rows.rows in
    let after = heap_of c.move_away.new.flex c.move_row.new.self.rows in
    rw (← c.self.view_is) (record {
      step = step;
      result = record {
        live = layout_at-put_here before after (c.in-Some-move_away.to, c.args.layout) _ rows;
        new = λ off. layout_at-none before (at c.in-Some-move_away.to) (no_row c.self.inside.flex c.self.inside.rows.rows c.self.invariant.locked (at c.in-Some-move_away.to)
            (moved.new off));
        left = λ off. layout_at-moved_left before after (at c.args.addr) (c.in-Some-move_away.to, c.args.layout) rows off;
        kept = kept_elsewhere (locked_contents c.self.inside.flex c.self.inside.rows) c.self.invariant.locked _ c.in-Some-move_away.to
            (at c.args.addr) c.args.layout step;
        layouts = layout_at-moved_other before after (at c.args.addr) (c.in-Some-move_away.to, c.args.layout) rows;
        contents = λ a off off_to. content_at-bytes before after a a (moved.bytes a off off_to);
      };
      unknown = known c.self.inside.flex c.self.inside.rows.rows (at c.args.addr) _ (sym c.in-Some.ensures.row) (Ok c.in-Some-move_away.to) refl;
      refused = tt;
      unasked = tt;
      frame = record {
        memory = c.move_away.ensures.frame.memory;
        grow = c.move_away.ensures.frame.grow;
        copied = c.in-Some-move_away.ensures.frame.copied ∙ ap (λ n. c.self.inside.flex.memory.copied + n)
            (c.min-keep.ensures ∙ ap (λ n. min n c.allocation_usable_size.result) c.size.ensures.value
            ∙ ap (min c.args.layout.size) (c.allocation_usable_size.ensures ∙ ap length (sym (content_at-is before (at c.args.addr)))));
        copied_none = tt;
        looks = let looks = rw c.row_of.ensures.table at c.move_row.ensures.looks in omega (arith, looks);
        codes = λ _. c.move_row.ensures.room;
      };
      touches = c.move_away.ensures.touches;
    })

pub returns-in_default : goal.returns-in_default
returns-in_default g c =
    rw (← c.self.view_is, c.row_of.ensures.table) (record {
      step = search rules;
      result = tt;
      unknown = unknown c.self.inside.flex c.self.inside.rows.rows (at c.args.addr) (sym c.in_default.ensures.row);
      refused = record { same = refl; bytes = refl };
      unasked = refl;
      frame = record {
        memory = KeepsMemory-refl c.self.inside.flex;
        grow = omega arith;
        copied = tt;
        copied_none = refl;
        looks = omega arith;
        codes = λ has. has;
      };
      touches = λ _. omega arith;
    })

pub returns-in_default-move_away : goal.returns-in_default-move_away
returns-in_default-move_away g c =
    let stays = c.in_default-move_away.ensures.refused in
    rw (← c.self.view_is, c.row_of.ensures.table) (record {
      step = rw (← c.in-Some.ensures.row) (c.in_default-move_away.ensures.none c.self.inside.rows.rows);
      result = tt;
      unknown = known c.self.inside.flex c.self.inside.rows.rows (at c.args.addr) _ (sym c.in-Some.ensures.row) (Err NoRoom) refl;
      refused = record { same = same_heap c.self.inside.flex c.move_away.new.flex c.self.inside.rows.rows stays.state stays.source; bytes = stays.bytes };
      unasked = tt;
      frame = record {
        memory = c.move_away.ensures.frame.memory;
        grow = c.move_away.ensures.frame.grow;
        copied = tt;
        copied_none = c.in_default-move_away.ensures.frame.copied_none;
        looks = omega arith;
        codes = λ has. has;
      };
      touches = c.move_away.ensures.touches;
    })
