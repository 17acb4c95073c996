use Rattle.std.proofs.Common.{rules, ◌+◌, ◌-◌, ◌≡◌, nat_le, length, take, drop, Err, Ok, arith, lit<, ap, ◌∙◌, sym, refl}
use Rattle.rlsf_base.specs.Addr.{at}
use Rattle.rlsf_global.specs.Locked.{heap_of}
use Rattle.rlsf_global.proofs.Layouts.{content_at-is}
use Rattle.rlsf_global.proofs.Lives.{found_row, known, no_row_found, unknown}
use Rattle.rlsf_global.proofs.Placements.{live_here}
use Rattle.rlsf_model_global.specs.declared.error.GlobalError.TheVariants.{OutOfRange}
use Rattle.rlsf_global.proofs.locked.Locked.read_payload.Goals as goal

pub payload-payload-requires : goal.payload-payload-requires
payload-payload-requires g c =
    let found = found_row c.self.inside.rows.rows (at c.args.addr) c.if-not-has_row.ensures in
    (lit< tt, live_here c.self.inside.flex c.self.inside.rows.rows c.self.invariant.locked (at c.args.addr) found.0 found.1)

pub returns-then-not-has_row : goal.returns-then-not-has_row
returns-then-not-has_row g c =
    let absent = no_row_found c.self.inside.rows.rows (at c.args.addr) c.if-not-has_row.ensures in
    rw (← c.self.view_is) (record {
      step = search rules;
      unknown = unknown c.self.inside.flex c.self.inside.rows.rows (at c.args.addr) absent;
      told = tt;
      refused = refl;
    })

pub returns-then-not-fits : goal.returns-then-not-fits
returns-then-not-fits g c =
    let found = found_row c.self.inside.rows.rows (at c.args.addr) c.if-not-has_row.ensures in
    let far = c.if-not-fits.ensures ∙ ap (λ l. nat_le (c.args.offset + length c.args.bytes.now) (length l)) c.payload-payload.ensures in
    rw (← c.self.view_is) (record {
      step = rw (found.1, ← far) (refl, refl);
      unknown = known c.self.inside.flex c.self.inside.rows.rows (at c.args.addr) found.0 found.1 (Err OutOfRange) refl;
      told = tt;
      refused = refl;
    })

pub returns : goal.returns
returns g c =
    let found = found_row c.self.inside.rows.rows (at c.args.addr) c.if-not-has_row.ensures in
    let h = heap_of c.self.inside.flex c.self.inside.rows.rows in
    let lent = c.args.bytes.now in
    let offset = c.args.offset in
    let same = c.payload-payload.ensures in
    let near = c.if-not-fits.ensures ∙ ap (λ l. nat_le (offset + length lent) (length l)) same in
    let n : offset + length lent - offset ≡ length lent = omega arith in
    let copied = c.copy_from_slice.ensures.after ∙ ap (λ k. take k (drop offset c.payload-payload.result.now)) n in
    rw (← c.self.view_is) (record {
      step = rw (found.1, ← near) (refl, copied ∙ ap (λ l. take (length lent) (drop offset l)) same);
      unknown = known c.self.inside.flex c.self.inside.rows.rows (at c.args.addr) found.0 found.1 (Ok tt) refl;
      told = copied ∙ ap (λ l. take (length lent) (drop offset l)) (same ∙ sym (content_at-is h (at c.args.addr)));
      refused = tt;
    })
