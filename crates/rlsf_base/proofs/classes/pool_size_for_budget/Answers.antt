use Rattle.std.proofs.Common.{◌≡◌, ◌∙◌, ap, arith, sym}
use Rattle.std.specs.Option.{option_and_then}
use Rattle.rlsf_model_sizes.specs.Sizes.{budget_length, chunk_length, map_ceil_and_unmap, request_size}
use Rattle.rlsf_base.proofs.SizeMaps.ChunkLengths.{budget-is, chunk_length-past}
use Rattle.rlsf_base.proofs.SizeMaps.Laws.{IsUnmapped-some, pool_fits}
use Rattle.rlsf_base.proofs.classes.pool_size_for_budget.Goals as goal

pub overflow_sub-least : goal.overflow_sub-least
overflow_sub-least g c =
    let size = c.request_size.ensures.size in
    let start = (IsUnmapped-some g.row.FLLEN g.row.SLLEN c.request_size.result c.in_ok-least.least c.requires.parameters.power_of_two size (sym c.in_ok-least.ensures)).start in
    omega (arith, size.0, size.1, start.enough)

pub overflow_add-least : goal.overflow_add-least
overflow_add-least g c =
    omega (
      arith,
      pool_fits g.row.FLLEN g.row.SLLEN c.request_size.result c.in_ok-least.least c.requires.parameters.power_of_two c.request_size.ensures.size c.in_ok-least.ensures,
    )

pub returns-in_err-least : goal.returns-in_err-least
returns-in_err-least g c =
    c.from_residual.ensures ∙ ap (option_and_then (λ n. chunk_length g.row.FLLEN (budget_length c.args.count c.args.bytes n)))
    (c.in_err-least.ensures ∙ ap (map_ceil_and_unmap g.row.FLLEN g.row.SLLEN) c.request_size.ensures.value)

pub returns-in_err-free : goal.returns-in_err-free
returns-in_err-free g c =
    let size = c.request_size.result in let least = c.in_ok-least.least in
    budget-is g.row.FLLEN g.row.SLLEN c.args.count c.args.bytes size (request_size c.args.layout.size c.args.layout.align) least c.request_size.ensures.value c.in_ok-least.ensures
    (c.from_residual-in_err-free.ensures ∙ chunk_length-past g.row.FLLEN (budget_length c.args.count c.args.bytes least) (omega (arith, c.in_err-free.ensures)))

pub returns-in_err-checked_add : goal.returns-in_err-checked_add
returns-in_err-checked_add g c =
    let size = c.request_size.result in let least = c.in_ok-least.least in
    budget-is g.row.FLLEN g.row.SLLEN c.args.count c.args.bytes size (request_size c.args.layout.size c.args.layout.align) least c.request_size.ensures.value c.in_ok-least.ensures
    (c.from_residual-in_err-checked_add.ensures ∙ chunk_length-past g.row.FLLEN (budget_length c.args.count c.args.bytes least) (omega (arith, c.in_err-checked_add.ensures)))

pub returns-in_err-len : goal.returns-in_err-len
returns-in_err-len g c =
    let size = c.request_size.result in let least = c.in_ok-least.least in
    budget-is g.row.FLLEN g.row.SLLEN c.args.count c.args.bytes size (request_size c.args.layout.size c.args.layout.align) least c.request_size.ensures.value c.in_ok-least.ensures
    (c.from_residual-in_err-len.ensures ∙ chunk_length-past g.row.FLLEN (budget_length c.args.count c.args.bytes least) (omega (arith, c.in_err-len.ensures)))

pub returns : goal.returns
returns g c =
    let size = c.request_size.result in let least = c.in_ok-least.least in
    let is = c.request_size.ensures.size in
    let start = (IsUnmapped-some g.row.FLLEN g.row.SLLEN size least c.requires.parameters.power_of_two is (sym c.in_ok-least.ensures)).start in
    let len : c.in_ok-len.len ≡ budget_length c.args.count c.args.bytes least =
    omega (arith, c.in_ok-len.ensures, c.in_ok-checked_add.ensures, c.in_ok-free.ensures, is.0, is.1, start.enough) in
    budget-is g.row.FLLEN g.row.SLLEN c.args.count c.args.bytes size (request_size c.args.layout.size c.args.layout.align) least c.request_size.ensures.value c.in_ok-least.ensures
    (c.within_longest.ensures ∙ ap (chunk_length g.row.FLLEN) len)
