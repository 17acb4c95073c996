use Rattle.std.proofs.Common.{◌≡◌, ◌∙◌, ap, arith, sym}
use Rattle.std.specs.Option.{option_and_then}
use Rattle.rlsf_model_sizes.specs.Sizes.{chunk_length, map_ceil_and_unmap, payloads_length, request_size}
use Rattle.rlsf_base.proofs.SizeMaps.ChunkLengths.{chunk_length-past, payloads-are}
use Rattle.rlsf_base.proofs.SizeMaps.Laws.{IsUnmapped-some, pool_fits}
use Rattle.rlsf_base.proofs.classes.pool_size_for_payloads.Goals as goal

pub overflow_sub-least : goal.overflow_sub-least
overflow_sub-least g c =
    let size = c.request_size-size.ensures.size in
    let start =
    (IsUnmapped-some g.row.FLLEN g.row.SLLEN c.request_size-size.result c.in_ok-least.least c.requires.parameters.power_of_two size (sym c.in_ok-least.ensures)).start in
    omega (arith, size.0, size.1, start.enough)

pub overflow_add-least : goal.overflow_add-least
overflow_add-least g c =
    omega (
      arith,
      pool_fits g.row.FLLEN g.row.SLLEN c.request_size-size.result c.in_ok-least.least c.requires.parameters.power_of_two c.request_size-size.ensures.size
          c.in_ok-least.ensures,
    )

pub returns-in_err-least : goal.returns-in_err-least
returns-in_err-least g c =
    let asked = request_size c.args.layout.size c.args.layout.align in
    c.from_residual.ensures ∙ ap (option_and_then (λ n. chunk_length g.row.FLLEN (payloads_length c.args.count asked n)))
    (c.in_err-least.ensures ∙ ap (map_ceil_and_unmap g.row.FLLEN g.row.SLLEN) c.request_size-size.ensures.value)

pub returns-in_err-used : goal.returns-in_err-used
returns-in_err-used g c =
    let size = c.request_size-size.result in let least = c.in_ok-least.least in
    payloads-are g.row.FLLEN g.row.SLLEN c.args.count size (request_size c.args.layout.size c.args.layout.align) least c.request_size-size.ensures.value c.in_ok-least.ensures
    (c.from_residual-in_err-used.ensures ∙ chunk_length-past g.row.FLLEN (payloads_length c.args.count size least) (omega (arith, c.in_err-used.ensures)))

pub returns-in_err-free : goal.returns-in_err-free
returns-in_err-free g c =
    let size = c.request_size-size.result in let least = c.in_ok-least.least in
    payloads-are g.row.FLLEN g.row.SLLEN c.args.count size (request_size c.args.layout.size c.args.layout.align) least c.request_size-size.ensures.value c.in_ok-least.ensures
    (c.from_residual-in_err-free.ensures ∙ chunk_length-past g.row.FLLEN (payloads_length c.args.count size least) (omega (arith, c.in_err-free.ensures)))

pub returns-in_err-checked_add : goal.returns-in_err-checked_add
returns-in_err-checked_add g c =
    let size = c.request_size-size.result in let least = c.in_ok-least.least in
    payloads-are g.row.FLLEN g.row.SLLEN c.args.count size (request_size c.args.layout.size c.args.layout.align) least c.request_size-size.ensures.value c.in_ok-least.ensures
    (c.from_residual-in_err-checked_add.ensures ∙ chunk_length-past g.row.FLLEN (payloads_length c.args.count size least) (omega (arith, c.in_err-checked_add.ensures)))

pub returns-in_err-len : goal.returns-in_err-len
returns-in_err-len g c =
    let size = c.request_size-size.result in let least = c.in_ok-least.least in
    payloads-are g.row.FLLEN g.row.SLLEN c.args.count size (request_size c.args.layout.size c.args.layout.align) least c.request_size-size.ensures.value c.in_ok-least.ensures
    (c.from_residual-in_err-len.ensures ∙ chunk_length-past g.row.FLLEN (payloads_length c.args.count size least) (omega (arith, c.in_err-len.ensures)))

pub returns : goal.returns
returns g c =
    let size = c.request_size-size.result in let least = c.in_ok-least.least in
    let len : c.in_ok-len.len ≡ payloads_length c.args.count size least =
    omega (arith, c.in_ok-len.ensures, c.in_ok-checked_add.ensures, c.in_ok-used.ensures, c.in_ok-free.ensures) in
    payloads-are g.row.FLLEN g.row.SLLEN c.args.count size (request_size c.args.layout.size c.args.layout.align) least c.request_size-size.ensures.value c.in_ok-least.ensures
    (c.within_longest.ensures ∙ ap (chunk_length g.row.FLLEN) len)
