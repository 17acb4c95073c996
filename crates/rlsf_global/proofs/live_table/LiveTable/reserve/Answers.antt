use Rattle.rlsf_global.proofs.CodedRows.{kept-reserved}
use Rattle.rlsf_global.proofs.live_table.LiveTable.reserve.Goals as goal

pub invariant_of-self : goal.invariant_of-self
invariant_of-self c =
    let t = c.self.inside in
    let made = c.reserve.ensures in
    kept-reserved t.codes c.reserve.new.self t.entries.rows t.live c.self.invariant made.space made.codes made.more
