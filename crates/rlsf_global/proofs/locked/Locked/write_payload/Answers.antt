use Rattle.rlsf_global.proofs.KeptMemories.{keeps_looked_writing, kept_alone}
use Rattle.rlsf_global.proofs.Layouts.{content_at-bytes, content_at-is, layout_at-row}
use Rattle.std.proofs.Common.{rules, arith, ◌+◌, nat_le, length, Ok, Err, lit<, refl, ap, ◌∙◌, subst, sym}
use Rattle.std.specs.List.{splice}
use Rattle.rlsf_base.specs.Addr.{at}
use Rattle.rlsf_flex.specs.Lending.{flex_written}
use Rattle.rlsf_global.specs.LiveRows.{looked}
use Rattle.rlsf_global.specs.Locked.{heap_of}
use Rattle.rlsf_global.proofs.Lives.{known, unknown}
use Rattle.rlsf_global.proofs.Places.{listed}
use Rattle.rlsf_global.proofs.Placements.{filled, filled_locked, live_here}
use Rattle.rlsf_model.specs.Run.{Fills}
use Rattle.rlsf_model_global.specs.declared.error.GlobalError.TheVariants.{OutOfRange}
use Rattle.rlsf_global.proofs.locked.Locked.write_payload.Goals as goal

pub row_of-requires : goal.row_of-requires
row_of-requires g c = (lit< tt, c.self.invariant.locked.lists)

pub invariant_of-self : goal.invariant_of-self
invariant_of-self g c = rw c.row_of.ensures.table (record { locked = c.self.invariant.locked; space = c.self.invariant.space })

pub invariant_of-self-then-not-fits : goal.invariant_of-self-then-not-fits
invariant_of-self-then-not-fits g c = rw c.row_of.ensures.table (record { locked = c.self.invariant.locked; space = c.self.invariant.space })

pub allocation_usable_size-requires : goal.allocation_usable_size-requires
allocation_usable_size-requires g c =
    (lit< tt, live_here c.self.inside.flex c.self.inside.rows.rows c.self.invariant.locked (at c.args.addr) _ (sym c.in-Some.ensures.row))

pub payload_mut-requires : goal.payload_mut-requires
payload_mut-requires g c = (lit< tt, live_here c.self.inside.flex c.self.inside.rows.rows c.self.invariant.locked (at c.args.addr) _ (sym c.in-Some.ensures.row))

pub invariant_of-self-2 : goal.invariant_of-self-2
invariant_of-self-2 g c =
    let w = c.write_at.new.payload in
    let did = c.payload_mut.ensures in
    let after = flex_written c.self.inside.flex (at c.args.addr) (length c.payload_mut.result.now) w in
    let (chunks, after_place, source, place, stands, touches, copied) = did.rest w in
    rw c.row_of.ensures.table
    (listed c.self.inside.flex after c.self.inside.rows (looked c.self.inside.rows) c.self.invariant.space place refl
    (filled_locked c.self.inside.flex c.self.inside.rows.rows c.self.invariant.locked (flex_written c.self.inside.flex (at c.args.addr) (length c.payload_mut.result.now) w)
    (at c.args.addr) w
    (did.meaning w c.write_at.ensures.len) refl
    (did.aligns w) (did.lengths w ∙ ap length did.value) (did.bytes w)))

pub returns-in_default : goal.returns-in_default
returns-in_default g c = rw (← c.self.view_is, c.row_of.ensures.table) (record {
  step = search rules;
  result = tt;
  unknown = unknown c.self.inside.flex c.self.inside.rows.rows (at c.args.addr) (sym c.in_default.ensures.row);
  refused = record { same = refl; memory = refl };
  frame = keeps_looked_writing c.self.inside.flex c.self.inside.rows;
  touches = omega arith;
})

pub returns-then-not-fits : goal.returns-then-not-fits
returns-then-not-fits g c =
    let far = c.if-not-fits.ensures ∙ ap (nat_le (c.args.offset + length c.args.bytes.now)) c.allocation_usable_size.ensures in
    rw (← c.self.view_is, c.row_of.ensures.table) (record {
      step = rw (← c.in-Some.ensures.row, ← far) (refl, refl);
      result = tt;
      unknown = known c.self.inside.flex c.self.inside.rows.rows (at c.args.addr) _ (sym c.in-Some.ensures.row) (Err OutOfRange) refl;
      refused = record { same = refl; memory = refl };
      frame = keeps_looked_writing c.self.inside.flex c.self.inside.rows;
      touches = omega arith;
    })

pub returns : goal.returns
returns g c =
    let addr = at c.args.addr in
    let offset = c.args.offset in
    let bytes = c.args.bytes.now in
    let w = c.write_at.new.payload in
    let did = c.payload_mut.ensures in
    let written_flex = flex_written c.self.inside.flex addr (length c.payload_mut.result.now) w in
    let before = heap_of c.self.inside.flex c.self.inside.rows.rows in
    let after = heap_of written_flex c.self.inside.rows.rows in
    let near = c.if-not-fits.ensures ∙ ap (nat_le (offset + length bytes)) c.allocation_usable_size.ensures in
    let (fills, leads) = filled c.self.inside.flex c.self.inside.rows.rows c.self.invariant.locked written_flex addr w (did.meaning w c.write_at.ensures.len) refl in
    let spliced = c.write_at.ensures.bytes ∙ ap (λ l. splice l offset (offset + length bytes) bytes) did.value in
    let (chunks, after_place, source, place, stands, touches, copied) = did.rest w in
    rw (← c.self.view_is, c.row_of.ensures.table) (record {
      step =
          rw (← c.in-Some.ensures.row, ← near)
          (refl, (written_flex.state.machine, subst (λ l. Fills before.flex.machine addr l written_flex.state.machine) spliced fills, leads));
      result = record {
        written = content_at-is after addr ∙ did.filled w c.write_at.ensures.len ∙ spliced
            ∙ ap (λ l. splice l offset (offset + length bytes) bytes) (sym (content_at-is before addr));
        contents = λ a off. content_at-bytes before after a a (did.bytes w a off);
      };
      unknown = known c.self.inside.flex c.self.inside.rows.rows addr _ (sym c.in-Some.ensures.row) (Ok tt) refl;
      refused = tt;
      frame = record {
        layouts = λ i a. layout_at-row before after a a refl i;
        memory = kept_alone c.self.inside.flex written_flex _ c.self.invariant.locked.flex (did.meaning w c.write_at.ensures.len) place;
        grow = omega (arith, touches);
        copied = copied;
        looks = omega arith;
        codes = λ has. has;
      };
      touches = omega (arith, touches);
    })
