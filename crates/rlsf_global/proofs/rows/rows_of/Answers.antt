use Rattle.std.proofs.Common.{◌≡◌, ◌+◌, ◌*◌, ◌++◌, List, [], ◌∷◌, arith, ap, ap₂, length, ◌∙◌, subst, sym}
use Rattle.rlsf_base.specs.Addr.{at}
use Rattle.rlsf_base.specs.declared.memory.layout.Layout.{Layout}
use Rattle.rlsf_global.specs.LiveRows.{IsToldBy}
use Rattle.rlsf_global.proofs.RowsBelow.{below, below-empty, below-end, below-first, below-more, below-room, place-some, told_in}
use Rattle.rlsf_model_global.specs.Rows.{Row}
use Rattle.rlsf_global.proofs.rows.rows_of.Goals as goal

pub loop-place-init : goal.loop-place-init
loop-place-init g c =
    let parts = c.into_codes-codes.ensures in
    record { items = c.requires.none ∙ sym (below-first c.into_codes-codes.result c.args.table.rows parts.codes parts.sorted); room = c.requires.room }

pub loop-place-preserved-then-code-eq0 : goal.loop-place-preserved-then-code-eq0
loop-place-preserved-then-code-eq0 g c =
    let codes = c.into_codes-codes.result in let parts = c.into_codes-codes.ensures in
    let same = below-empty codes c.args.table.rows parts.codes parts.sorted c.loop-place.place c.code-code.result c.code-code.ensures c.if-code-eq0.true in
    record { items = c.loop-place.invariant.items ∙ sym same; room = c.loop-place.invariant.room }

pub addr-requires : goal.addr-requires
addr-requires g c =
    let codes = c.into_codes-codes.result in let parts = c.into_codes-codes.ensures in let code = c.code-code.result in
    (place-some codes c.args.table.rows parts.codes parts.sorted c.loop-place.place code parts.addresses c.code-code.ensures c.if-code-eq0.false).1

pub loop-place-preserved-in_default : goal.loop-place-preserved-in_default
loop-place-preserved-in_default g c =
    let codes = c.into_codes-codes.result in let parts = c.into_codes-codes.ensures in let code = c.code-code.result in
    let is = place-some codes c.args.table.rows parts.codes parts.sorted c.loop-place.place code parts.addresses c.code-code.ensures c.if-code-eq0.false in
    let some = is.0 in let addr = c.addr.ensures in let none = c.in_default.ensures in
    absurd (omega (arith, some, addr, none))

pub allocation_usable_size-requires : goal.allocation_usable_size-requires
allocation_usable_size-requires g c =
    let codes = c.into_codes-codes.result in let parts = c.into_codes-codes.ensures in
    let here = c.in-Some.ensures ∙ c.addr.ensures in
    let is = told_in codes c.args.table.rows parts.codes parts.sorted c.args.flex.now.state.machine c.requires.lists c.loop-place.place c.code-code.result
    c.in-Some.addr here c.code-code.ensures c.if-code-eq0.false in
    (omega arith, is.live)

pub layout_of-requires : goal.layout_of-requires
layout_of-requires g c =
    let codes = c.into_codes-codes.result in let parts = c.into_codes-codes.ensures in
    let here = c.in-Some.ensures ∙ c.addr.ensures in
    let is = told_in codes c.args.table.rows parts.codes parts.sorted c.args.flex.now.state.machine c.requires.lists c.loop-place.place c.code-code.result
    c.in-Some.addr here c.code-code.ensures c.if-code-eq0.false in
    (is.layout, subst (λ n. IsToldBy c.code-code.result n is.layout) (sym c.allocation_usable_size.ensures) is.told)

pub push_reserved-requires : goal.push_reserved-requires
push_reserved-requires g c =
    let codes = c.into_codes-codes.result in let parts = c.into_codes-codes.ensures in
    let here = c.in-Some.ensures ∙ c.addr.ensures in
    let is = told_in codes c.args.table.rows parts.codes parts.sorted c.args.flex.now.state.machine c.requires.lists c.loop-place.place c.code-code.result
    c.in-Some.addr here c.code-code.ensures c.if-code-eq0.false in
    let row : Row = (c.in-Some.addr, is.layout) in
    let room = below-room codes c.args.table.rows parts.codes parts.sorted c.loop-place.place (at c.in-Some.addr) row here is.here in
    let items = ap length c.loop-place.invariant.items in
    omega (arith, room, items, c.loop-place.invariant.room)

pub loop-place-preserved : goal.loop-place-preserved
loop-place-preserved g c =
    let codes = c.into_codes-codes.result in let parts = c.into_codes-codes.ensures in
    let here = c.in-Some.ensures ∙ c.addr.ensures in
    let is = told_in codes c.args.table.rows parts.codes parts.sorted c.args.flex.now.state.machine c.requires.lists c.loop-place.place c.code-code.result
    c.in-Some.addr here c.code-code.ensures c.if-code-eq0.false in
    let row : Row = (c.in-Some.addr, is.layout) in
    let told = subst (λ n. IsToldBy c.code-code.result n is.layout) (sym c.allocation_usable_size.ensures) is.told in
    let more = below-more codes c.args.table.rows parts.codes parts.sorted c.loop-place.place (at c.in-Some.addr) row here is.here in
    let made = c.layout_of.ensures is.layout told in
    record {
      items = c.push_reserved.ensures.items ∙ ap₂ (λ (xs : List Row) (l : Layout). xs ++ (c.in-Some.addr, l) ∷ []) c.loop-place.invariant.items made ∙ sym more;
      room = omega (arith, c.loop-place.invariant.room, c.push_reserved.ensures.capacity);
    }

pub returns : goal.returns
returns g c =
    let codes = c.into_codes-codes.result in let parts = c.into_codes-codes.ensures in
    let end : c.loop-place.place ≡ length codes.codes.items = omega arith in
    c.loop-place.invariant.items ∙ ap (λ n. below ((codes.first + n) * 16) c.args.table.rows) end
    ∙ below-end codes c.args.table.rows parts.codes parts.sorted
