use Rattle.std.proofs.Common.{rules, arith, ◌∙◌, None, Some, refl}
use Rattle.rlsf_base.specs.Addr.{at}
use Rattle.rlsf_flex.proofs.InnerAllocator.{flex_opened}
use Rattle.rlsf_global.specs.Locked.{heap_of}
use Rattle.rlsf_global.proofs.KeptMemories.{keeps_unchanged, kept_allocated}
use Rattle.rlsf_global.proofs.Layouts.{content_at-bytes, content_at-is, layout_at-none, layout_at-put_here, layout_at-put_other}
use Rattle.rlsf_global.proofs.Placements.{allocated, allocated_locked, no_row, refusal_made, refusal_stays, refused_locked}
use Rattle.rlsf_global.proofs.Places.{has_code, listed, space_stays}
use Rattle.rlsf_model.specs.FlexAllocate.{FlexAllocates}
use Rattle.rlsf_model_global.specs.Cursor.{terms_of}
use Rattle.rlsf_global.specs.Steps.Moves.{StaysRefused}
use Rattle.rlsf_global.proofs.locked.Locked.allocate.Given as given
use Rattle.rlsf_global.proofs.locked.Locked.allocate.Goals as goal
use Rattle.rlsf_global.proofs.locked.Locked.allocate.Goals.{In_default}

pub returns-then-is_err : goal.returns-then-is_err
returns-then-is_err g c = rw (← c.self.view_is) (record {
  step = rw c.reserve.ensures.rows refl;
  result = tt;
  refused = record { same = rw c.reserve.ensures.rows refl; bytes = refl };
  unasked = refl;
  frame =
      keeps_unchanged c.self.inside.flex c.self.inside.rows c.reserve.new.self (omega (arith, c.reserve.ensures.looks)) (search rules);
  touches = search rules;
  table = search rules;
})

-- where it is refused, nothing changed
stays : (g : given.Over) (c : In_default g) → StaysRefused c.self.inside.flex c.allocate.new.self
stays g c =
    let did = c.in_default.ensures in
    refusal_stays c.self.inside.flex c.allocate.new.self _ did.step (λ notes is. (_, is.extends)) did.refused.same did.refused.bytes

pub invariant_of-self-in_default : goal.invariant_of-self-in_default
invariant_of-self-in_default g c =
    listed c.self.inside.flex c.allocate.new.self c.self.inside.rows c.reserve.new.self c.self.invariant.space
    (kept_allocated c.self.inside.flex c.allocate.new.self c.args.layout.size c.args.layout.align None c.in_default.ensures.step).place c.reserve.ensures.space
    (rw c.reserve.ensures.rows
    (refused_locked c.self.inside.flex c.self.inside.rows.rows c.self.invariant.locked c.allocate.new.self (stays g (goal.at.invariant_of-self-in_default g c).In_default)))

pub put-requires-clause-fresh : goal.put-requires-clause-fresh
put-requires-clause-fresh g c = rw c.reserve.ensures.rows (no_row c.self.inside.flex c.self.inside.rows.rows c.self.invariant.locked _ c.in-Some.ensures.result.new)

pub put-requires-clause-place : goal.put-requires-clause-place
put-requires-clause-place g c =
    let f = c.self.inside.flex in
    let size = c.args.layout.size in
    let align = c.args.layout.align in
    let (notes, step, led, outside, stands) =
    flex_opened f c.allocate.new.self (FlexAllocates 64 64 (terms_of f.source) f.state size align (Some (at c.in-Some.addr))) c.in-Some.ensures.step in
    has_code c.allocate.new.self stands c.reserve.new.self.space
    (c.reserve.ensures.space ∙ space_stays f.memory c.allocate.new.self.memory c.self.inside.rows.space c.self.invariant.space outside.place)
    (at c.in-Some.addr) _ c.in-Some.ensures.result.live

pub invariant_of-self-2 : goal.invariant_of-self-2
invariant_of-self-2 g c =
    let did = c.in-Some.ensures.result in
    let step = c.in-Some.ensures.step in
    listed c.self.inside.flex c.allocate.new.self c.self.inside.rows c.put.new.self c.self.invariant.space
    (kept_allocated c.self.inside.flex c.allocate.new.self c.args.layout.size c.args.layout.align (Some (at c.in-Some.addr)) step).place
    (c.put.ensures.space ∙ c.reserve.ensures.space)
    (allocated_locked c.self.inside.flex c.self.inside.rows.rows c.self.invariant.locked c.allocate.new.self c.args.layout c.in-Some.addr step _
    (rw c.reserve.ensures.rows at c.put.ensures.rows) did.new (record { live = did.live; sized = did.sized; few = did.few }) did.aligns did.bytes)

pub returns-in_default : goal.returns-in_default
returns-in_default g c =
    let did = c.in_default.ensures in
    let made = refusal_made c.self.inside.flex c.allocate.new.self _ did.step (stays g (goal.at.returns-in_default g c).In_default) c.self.inside.rows.rows in
    rw (← c.self.view_is) (record {
      step = rw c.reserve.ensures.rows made;
      result = tt;
      refused = record { same = rw c.reserve.ensures.rows made.1; bytes = did.refused.bytes };
      unasked = tt;
      frame = record {
        memory = kept_allocated c.self.inside.flex c.allocate.new.self c.args.layout.size c.args.layout.align None did.step;
        grow = did.frame.grow;
        copied = did.frame.copied;
        looks = omega (arith, c.reserve.ensures.looks);
        codes = search rules;
      };
      touches = did.touches;
      table = search rules;
    })

pub returns : goal.returns
returns g c =
    let did = c.in-Some.ensures in
    let rows = rw c.reserve.ensures.rows at c.put.ensures.rows in
    let before = heap_of c.self.inside.flex c.self.inside.rows.rows in
    let after = heap_of c.allocate.new.self c.put.new.self.rows in
    rw (← c.self.view_is) (record {
      step = allocated c.self.inside.flex c.self.inside.rows.rows c.self.invariant.locked c.allocate.new.self c.args.layout c.in-Some.addr did.step _ rows;
      result = record {
        live = layout_at-put_here before after (c.in-Some.addr, c.args.layout) c.self.inside.rows.rows rows;
        sized = rw (content_at-is after (at c.in-Some.addr)) did.result.sized;
        new = layout_at-none before (at c.in-Some.addr) (no_row c.self.inside.flex c.self.inside.rows.rows c.self.invariant.locked (at c.in-Some.addr) did.result.new);
        layouts = layout_at-put_other before after (c.in-Some.addr, c.args.layout) rows;
        contents = λ a off. content_at-bytes before after a a (did.result.bytes a off);
      };
      refused = tt;
      unasked = tt;
      frame = record {
        memory = kept_allocated c.self.inside.flex c.allocate.new.self c.args.layout.size c.args.layout.align (Some (at c.in-Some.addr)) did.step;
        grow = did.frame.grow;
        copied = did.frame.copied;
        looks = omega (arith, c.put.ensures.looks, c.reserve.ensures.looks);
        codes = λ _. c.put.ensures.room;
      };
      touches = did.touches;
      table = c.put.ensures.room;
    })
