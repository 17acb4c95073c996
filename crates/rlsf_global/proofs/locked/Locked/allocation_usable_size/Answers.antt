use Rattle.std.proofs.Common.{rules, Ok, lit<, length, ap, ◌∙◌, sym, refl}
use Rattle.rlsf_base.specs.Addr.{at}
use Rattle.rlsf_global.specs.Locked.{heap_of}
use Rattle.rlsf_global.proofs.Layouts.{content_at-is}
use Rattle.rlsf_global.proofs.Lives.{found_row, known, no_row_found, unknown}
use Rattle.rlsf_global.proofs.Placements.{live_here}
use Rattle.rlsf_global.proofs.locked.Locked.allocation_usable_size.Goals as goal

pub allocation_usable_size-requires : goal.allocation_usable_size-requires
allocation_usable_size-requires g c =
    let found = found_row c.self.inside.rows.rows (at c.args.addr) c.if-not-has_row.ensures in
    (lit< tt, live_here c.self.inside.flex c.self.inside.rows.rows c.self.invariant.locked (at c.args.addr) found.0 found.1)

pub returns-then-not-has_row : goal.returns-then-not-has_row
returns-then-not-has_row g c =
    let absent = no_row_found c.self.inside.rows.rows (at c.args.addr) c.if-not-has_row.ensures in
    rw (← c.self.view_is) (record {
      step = search rules;
      unknown = unknown c.self.inside.flex c.self.inside.rows.rows (at c.args.addr) absent;
      len = tt;
    })

pub returns : goal.returns
returns g c =
    let found = found_row c.self.inside.rows.rows (at c.args.addr) c.if-not-has_row.ensures in
    let h = heap_of c.self.inside.flex c.self.inside.rows.rows in
    rw (← c.self.view_is) (record {
      step = rw found.1 (ap Ok c.allocation_usable_size.ensures);
      unknown = known c.self.inside.flex c.self.inside.rows.rows (at c.args.addr) found.0 found.1 (Ok c.allocation_usable_size.result) refl;
      len = c.allocation_usable_size.ensures ∙ ap length (sym (content_at-is h (at c.args.addr)));
    })
