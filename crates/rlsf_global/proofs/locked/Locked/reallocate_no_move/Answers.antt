use Rattle.std.proofs.Common.{rules, ◌≡◌, IsSome, Some, Ok, Err, lit<, ap, ◌∙◌, subst, sym, refl, arith}
use Rattle.std.proofs.lemmas.Bool.{not-false, not-true}
use Rattle.rlsf_model_global.specs.Heap.{layout_at}
use Rattle.rlsf_global.proofs.KeptMemories.{keeps_alone, keeps_looked}
use Rattle.rlsf_global.proofs.Layouts.{content_at-bytes, layout_at-moved_other, layout_at-put_here}
use Rattle.rlsf_base.specs.Addr.{at}
use Rattle.rlsf_global.specs.LiveRows.{looked}
use Rattle.rlsf_global.specs.Locked.{heap_of, locked_contents}
use Rattle.rlsf_model_global.proofs.Histories.{is_same-align}
use Rattle.rlsf_global.proofs.Kept.{kept_there}
use Rattle.rlsf_global.proofs.Lives.{has_row, known, unknown}
use Rattle.rlsf_global.proofs.Places.{listed}
use Rattle.rlsf_global.proofs.Placements.{live_row, same_heap}
use Rattle.rlsf_global.proofs.Resizes.{not_resized, not_resized_locked, resized, resized_locked, row_there}
use Rattle.rlsf_model_global.specs.declared.error.GlobalError.TheVariants.{NoRoom, WrongLayout}
use Rattle.rlsf_model_global.specs.Moves.{HeapReallocatesThere}
use Rattle.rlsf_model_global.specs.Rows.{put, row_at, without_row}
use Rattle.rlsf_global.proofs.locked.Locked.reallocate_no_move.Given as given
use Rattle.rlsf_global.proofs.locked.Locked.reallocate_no_move.Goals as goal
use Rattle.rlsf_global.proofs.locked.Locked.reallocate_no_move.Goals.{After-replace}

-- the entry of the address now has the wanted layout
replaced : (g : given.Over) (c : After-replace g)
    → c.replace.new.self.rows ≡ put (c.in-Some-reallocate_no_move.to, c.from_size_align_unchecked-wanted.result) (without_row (at c.args.addr) c.self.inside.rows.rows)
replaced g c =
    row_there c.self.inside.rows.rows c.replace.new.self.rows (at c.args.addr) c.in-Some-reallocate_no_move.to c.from_size_align_unchecked-wanted.result
    c.in-Some-reallocate_no_move.ensures.result.there (rw c.row_of.ensures.table at c.replace.ensures.rows)

pub row_of-requires : goal.row_of-requires
row_of-requires g c = (lit< tt, c.self.invariant.locked.lists)

pub invariant_of-self : goal.invariant_of-self
invariant_of-self g c = rw c.row_of.ensures.table (record { locked = c.self.invariant.locked; space = c.self.invariant.space })

pub invariant_of-self-then-ne : goal.invariant_of-self-then-ne
invariant_of-self-then-ne g c = rw c.row_of.ensures.table (record { locked = c.self.invariant.locked; space = c.self.invariant.space })

pub reallocate_no_move-requires : goal.reallocate_no_move-requires
reallocate_no_move-requires g c =
    let row = sym c.in-Some.ensures.row in
    let aligned = is_same-align c.in-Some.row.1 c.args.layout (not-false _ (sym c.if-ne.ensures)) ∙ sym (c.from_size_align_unchecked-wanted.ensures.1 ∙ c.align.ensures.value) in
    (lit< tt, live_row c.self.inside.flex c.self.inside.rows.rows c.self.invariant.locked (at c.args.addr) c.in-Some.row row ∙ ap Some aligned)

pub invariant_of-self-in_default-reallocate_no_move : goal.invariant_of-self-in_default-reallocate_no_move
invariant_of-self-in_default-reallocate_no_move g c =
    rw c.row_of.ensures.table
    (let did = c.in_default-reallocate_no_move.ensures in
    listed c.self.inside.flex c.reallocate_no_move.new.self c.self.inside.rows (looked c.self.inside.rows) c.self.invariant.space did.frame.place refl
    (not_resized_locked c.self.inside.flex c.self.inside.rows.rows c.self.invariant.locked c.reallocate_no_move.new.self (at c.args.addr) c.from_size_align_unchecked-wanted.result
    did.frame.source did.step did.refused.same))

pub replace-requires : goal.replace-requires
replace-requires g c =
    rw c.row_of.ensures.table
    (record {
      live =
          subst (λ a. IsSome (row_at a c.self.inside.rows.rows)) (sym c.in-Some-reallocate_no_move.ensures.result.there)
          (has_row c.self.inside.rows.rows (at c.args.addr) c.in-Some.row (sym c.in-Some.ensures.row));
    })

pub invariant_of-self-2 : goal.invariant_of-self-2
invariant_of-self-2 g c =
    let did = c.in-Some-reallocate_no_move.ensures in
    let rows = replaced g c in
    listed c.self.inside.flex c.reallocate_no_move.new.self c.self.inside.rows c.replace.new.self c.self.invariant.space did.frame.place
    (rw c.row_of.ensures.table at c.replace.ensures.space)
    (resized_locked c.self.inside.flex c.self.inside.rows.rows c.self.invariant.locked c.reallocate_no_move.new.self (at c.args.addr) c.from_size_align_unchecked-wanted.result
    did.frame.source
    c.in-Some-reallocate_no_move.to did.result.there did.step _ rows
    (record { live = did.frame.live; sized = did.result.sized; few = did.result.few }) did.frame.aligns did.frame.bytes)

-- the reference model made the step
did_step : (g : given.Over) (c : After-replace g)
    → HeapReallocatesThere (heap_of c.self.inside.flex c.self.inside.rows.rows) (at c.args.addr) c.args.layout c.args.new_size (Ok c.in-Some-reallocate_no_move.to)
    (heap_of c.reallocate_no_move.new.self c.replace.new.self.rows)
did_step g c =
    let did = c.in-Some-reallocate_no_move.ensures in
    let wanted = c.from_size_align_unchecked-wanted in
    rw (← c.in-Some.ensures.row, not-false _ (sym c.if-ne.ensures)) (
      wanted.result,
      wanted.ensures.0,
      wanted.ensures.1 ∙ c.align.ensures.value,
      resized c.self.inside.flex c.self.inside.rows.rows c.self.invariant.locked c.reallocate_no_move.new.self (at c.args.addr) wanted.result did.frame.source
          c.in-Some-reallocate_no_move.to did.result.there did.step _ (replaced g c),
    )

pub returns : goal.returns
returns g c =
    let k = (goal.at.returns g c).After-replace in
    let rows = replaced g k in
    let step = did_step g k in
    let did = c.in-Some-reallocate_no_move.ensures in
    let wanted = c.from_size_align_unchecked-wanted in
    let before = heap_of c.self.inside.flex c.self.inside.rows.rows in
    let after = heap_of c.reallocate_no_move.new.self c.replace.new.self.rows in
    let here = layout_at-put_here before after (c.in-Some-reallocate_no_move.to, wanted.result) _ rows in
    let looks = rw c.row_of.ensures.table at c.replace.ensures.looks in
    rw (← c.self.view_is) (record {
      step = step;
      result = record {
        there = did.result.there;
        live = (wanted.result, subst (λ a. layout_at after a ≡ Some wanted.result) did.result.there here, wanted.ensures.0, wanted.ensures.1 ∙ c.align.ensures.value);
        kept =
            kept_there (locked_contents c.self.inside.flex c.self.inside.rows) c.self.invariant.locked _ c.in-Some-reallocate_no_move.to
            (at c.args.addr) c.args.layout
            c.args.new_size step;
        layouts = λ a off. layout_at-moved_other before after (at c.args.addr) (c.in-Some-reallocate_no_move.to, wanted.result) rows a off
            (λ same. off (same ∙ did.result.there));
        contents = λ a off. content_at-bytes before after a a (did.frame.bytes a off);
      };
      unknown = known c.self.inside.flex c.self.inside.rows.rows (at c.args.addr) _ (sym c.in-Some.ensures.row) (Ok c.in-Some-reallocate_no_move.to) refl;
      refused = tt;
      unasked = tt;
      frame =
          keeps_alone c.self.inside.flex c.reallocate_no_move.new.self c.self.inside.rows c.replace.new.self _ c.self.invariant.locked.flex did.step did.frame.place
          did.frame.grow did.frame.copied (omega (arith, looks)) (λ _. c.replace.ensures.room);
      touches = did.touches;
    })

pub returns-in_default : goal.returns-in_default
returns-in_default g c =
    rw (← c.self.view_is, c.row_of.ensures.table) (record {
      step = search rules;
      result = tt;
      unknown = unknown c.self.inside.flex c.self.inside.rows.rows (at c.args.addr) (sym c.in_default.ensures.row);
      refused = record { same = refl; bytes = refl };
      unasked = refl;
      frame = keeps_looked c.self.inside.flex c.self.inside.rows;
      touches = omega arith;
    })

pub returns-then-ne : goal.returns-then-ne
returns-then-ne g c =
    rw (← c.self.view_is, c.row_of.ensures.table) (record {
      step = rw (← c.in-Some.ensures.row, not-true _ (sym c.if-ne.ensures)) (refl, refl);
      result = tt;
      unknown = known c.self.inside.flex c.self.inside.rows.rows (at c.args.addr) _ (sym c.in-Some.ensures.row) (Err WrongLayout) refl;
      refused = record { same = refl; bytes = refl };
      unasked = refl;
      frame = keeps_looked c.self.inside.flex c.self.inside.rows;
      touches = omega arith;
    })

pub returns-in_default-reallocate_no_move : goal.returns-in_default-reallocate_no_move
returns-in_default-reallocate_no_move g c =
    let did = c.in_default-reallocate_no_move.ensures in
    let wanted = c.from_size_align_unchecked-wanted in
    let same = same_heap c.self.inside.flex c.reallocate_no_move.new.self c.self.inside.rows.rows did.refused.same did.frame.source in
    rw (← c.self.view_is, c.row_of.ensures.table) (record {
      step = rw (← c.in-Some.ensures.row, not-false _ (sym c.if-ne.ensures)) (
        wanted.result,
        wanted.ensures.0,
        wanted.ensures.1 ∙ c.align.ensures.value,
        not_resized c.self.inside.flex c.self.inside.rows.rows c.self.invariant.locked c.reallocate_no_move.new.self (at c.args.addr) wanted.result did.frame.source
            did.step did.refused.same,
      );
      result = tt;
      unknown = known c.self.inside.flex c.self.inside.rows.rows (at c.args.addr) _ (sym c.in-Some.ensures.row) (Err NoRoom) refl;
      refused = record { same = same; bytes = did.refused.bytes };
      unasked = tt;
      frame =
          keeps_alone c.self.inside.flex c.reallocate_no_move.new.self c.self.inside.rows (looked c.self.inside.rows) _ c.self.invariant.locked.flex did.step did.frame.place
          did.frame.grow did.frame.copied (omega arith) (λ has. has);
      touches = did.touches;
    })
