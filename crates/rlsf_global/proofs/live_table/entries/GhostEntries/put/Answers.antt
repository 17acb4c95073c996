use Rattle.std.proofs.Common.{◌∙◌, ap}
use Rattle.rlsf_global.proofs.RowNumbers.{put_from, put_from-row}
use Rattle.rlsf_global.proofs.live_table.entries.GhostEntries.put.Goals as goal

pub returns : goal.returns
returns c =
    let row = c.args.row in let rows = c.args.self.now.rows in
    c.advance.ensures ∙ ap (λ n. put_from n row.1.size row.1.align rows) c.get.ensures.value ∙ put_from-row row rows
