use Rattle.std.proofs.Common.{◌∙◌, ap}
use Rattle.std.specs.Vec.{vec_capacity}
use Rattle.rlsf_base.specs.Addr.{at}
use Rattle.rlsf_codes.specs.Codes.{code_at}
use Rattle.rlsf_model_global.specs.Rows.{row_at}
use Rattle.rlsf_global.proofs.CodedRows.{coded-at, kept-looked}
use Rattle.rlsf_global.specs.LiveRows.{LiveRows, code_in, looked}
use Rattle.rlsf_global.proofs.live_table.LiveTable.look.Goals as goal

pub invariant_of-self : goal.invariant_of-self
invariant_of-self c =
    let t = c.self.inside in
    kept-looked t.codes c.look.new.self t.entries.rows t.live c.self.invariant c.look.ensures.space c.look.ensures.codes

pub returns-clause-code : goal.returns-clause-code
returns-clause-code c =
    let t = c.self.inside in
    c.look.ensures.code ∙ ap (code_at t.codes) c.get.ensures.value ∙ coded-at t.codes t.entries.rows c.self.invariant.coded (at c.args.addr)
    ∙ ap (λ (v : LiveRows). code_in (row_at (at c.args.addr) v.rows)) c.self.view_is

pub returns-clause-table : goal.returns-clause-table
returns-clause-table c =
    let look = c.look.ensures in
    (λ i. record { rows = c.self.inside.entries.rows; room = vec_capacity (look.codes i); space = look.space i; looks = look.looks i }) ∙ ap looked c.self.view_is
