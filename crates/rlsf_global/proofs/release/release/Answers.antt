use Rattle.rlsf_global.proofs.Deallocations.{deallocated}
use Rattle.rlsf_global.proofs.KeptMemories.{keeps_alone}
use Rattle.rlsf_global.proofs.Lives.{has_row}
use Rattle.rlsf_global.proofs.Places.{listed}
use Rattle.rlsf_global.proofs.Placements.{live_row, released, released_locked}
use Rattle.rlsf_global.specs.Locked.{heap_of}
use Rattle.rlsf_base.specs.Addr.{at}
use Rattle.std.proofs.Common.{Some, lit<, ap, ◌∙◌, sym, arith}
use Rattle.rlsf_global.proofs.release.release.Goals as goal

pub remove-requires : goal.remove-requires
remove-requires g c = record { live = has_row c.args.table.now.rows (at c.args.addr) c.args.row c.requires.row }

pub deallocate-requires : goal.deallocate-requires
deallocate-requires g c = (
  lit< tt,
  live_row c.args.flex.now c.args.table.now.rows c.requires.listed.locked (at c.args.addr) c.args.row c.requires.row ∙ ap Some (sym c.align.ensures.value),
)

pub returns : goal.returns
returns g c =
    let did = c.deallocate.ensures in
    let entry = c.remove.ensures in
    let before = c.args.flex.now in
    let after = c.deallocate.new.self in
    let entries = c.args.table.now.rows in
    let locked = c.requires.listed.locked in
    record {
      listed =
          listed before after c.args.table.now c.remove.new.self c.requires.listed.space did.frame.place entry.space
          (released_locked before entries locked after (at c.args.addr) did.step did.frame.source _ entry.rows did.result.gone did.result.aligns did.result.bytes);
      step = released before entries locked after (at c.args.addr) did.step did.frame.source _ entry.rows;
      result = deallocated (heap_of before entries) (heap_of after c.remove.new.self.rows) (at c.args.addr) entry.rows did.result.bytes;
      frame =
          keeps_alone before after c.args.table.now c.remove.new.self _ locked.flex did.step did.frame.place did.frame.grow did.frame.copied
          (omega (arith, entry.looks)) (λ _. entry.room);
      looks = entry.looks;
      touches = did.touches;
    }
