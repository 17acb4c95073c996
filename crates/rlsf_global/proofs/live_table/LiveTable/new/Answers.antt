use Rattle.rlsf_global.proofs.CodedRows.{kept-none}
use Rattle.rlsf_global.proofs.live_table.LiveTable.new.Goals as goal

pub invariant_of-result : goal.invariant_of-result
invariant_of-result c =
    let made = c.new.ensures in
    kept-none c.new.result c.args.start c.args.len made.none made.space c.new-2.result.rows c.new-2.ensures
