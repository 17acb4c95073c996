use Rattle.std.proofs.Common.{Some, ap, ◌∙◌, subst, sym}
use Rattle.rlsf_base.specs.declared.memory.layout.Layout.{Layout}
use Rattle.rlsf_global.specs.LiveRows.{IsToldBy}
use Rattle.rlsf_global.proofs.ToldLayouts.{told-row}
use Rattle.rlsf_global.proofs.rows.row_of.Goals as goal

pub layout_of-requires : goal.layout_of-requires
layout_of-requires g c =
    let code = c.look-code.result in
    let is = told-row c.args.table.now.rows c.args.flex.now.state.machine c.requires.lists c.args.addr code c.look-code.ensures.code c.if-code-eq0.false in
    (is.layout, subst (λ n. IsToldBy code n is.layout) (sym c.allocation_usable_size.ensures) is.told)

pub returns-clause-row : goal.returns-clause-row
returns-clause-row g c =
    let code = c.look-code.result in
    let is = told-row c.args.table.now.rows c.args.flex.now.state.machine c.requires.lists c.args.addr code c.look-code.ensures.code c.if-code-eq0.false in
    let told = subst (λ n. IsToldBy code n is.layout) (sym c.allocation_usable_size.ensures) is.told in
    ap (λ (l : Layout). Some (c.args.addr, l)) (c.layout_of.ensures is.layout told) ∙ sym is.here
