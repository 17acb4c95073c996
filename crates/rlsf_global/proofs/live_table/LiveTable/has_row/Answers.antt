use Rattle.std.proofs.Common.{◌∙◌, ap, is_some}
use Rattle.rlsf_base.specs.Addr.{at}
use Rattle.rlsf_codes.specs.Codes.{code_at}
use Rattle.rlsf_model_global.specs.Rows.{row_at}
use Rattle.rlsf_global.proofs.CodedRows.{code_in-tells, coded-at}
use Rattle.rlsf_global.specs.LiveRows.{LiveRows}
use Rattle.rlsf_global.proofs.live_table.LiveTable.has_row.Goals as goal

pub returns : goal.returns
returns c =
    let t = c.self.inside in
    let code = c.get-2.ensures ∙ ap (code_at t.codes) c.get.ensures.value ∙ coded-at t.codes t.entries.rows c.self.invariant.coded (at c.args.addr) in
    code_in-tells c.get-2.result (row_at (at c.args.addr) t.entries.rows) code ∙ ap (λ (v : LiveRows). is_some (row_at (at c.args.addr) v.rows)) c.self.view_is
