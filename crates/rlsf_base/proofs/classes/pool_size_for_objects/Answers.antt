use Rattle.std.proofs.Common.{◌≡◌, ◌+◌, ◌-◌, ◌*◌, Some, arith, sym, ◌∙◌, ap}
use Rattle.std.specs.Option.{option_and_then, option_map}
use Rattle.rlsf_model_sizes.specs.Rounding.{round32}
use Rattle.rlsf_model_sizes.specs.Sizes.{chunk_length, map_ceil_and_unmap, object_length, objects_in}
use Rattle.rlsf_base.proofs.SizeMaps.ChunkLengths.{chunk_length-past, object_length-enough, object_length-past, objects-none}
use Rattle.rlsf_base.proofs.classes.pool_size_for_objects.Goals as goal

pub returns-in_err-checked_add : goal.returns-in_err-checked_add
returns-in_err-checked_add g c =
    c.from_residual.ensures ∙ ap (option_and_then (objects_in g.row.FLLEN c.args.count))
    (object_length-past g.row.FLLEN g.row.SLLEN c.args.size c.requires.parameters.power_of_two (omega (arith, c.in_err-checked_add.ensures)))

pub returns-in_err-block : goal.returns-in_err-block
returns-in_err-block g c =
    let sought : c.next_multiple_of-sought.result ≡ round32 (c.args.size + 16) = c.next_multiple_of-sought.ensures.value ∙ ap round32 (omega arith) in
    c.from_residual-in_err-block.ensures
    ∙ ap (option_and_then (objects_in g.row.FLLEN c.args.count)) (c.in_err-block.ensures ∙ ap (map_ceil_and_unmap g.row.FLLEN g.row.SLLEN) sought)

pub overflow_sub-result : goal.overflow_sub-result
overflow_sub-result g c =
    let sought : c.next_multiple_of-sought.result ≡ round32 (c.args.size + 16) = c.next_multiple_of-sought.ensures.value ∙ ap round32 (omega arith) in
    let object : Some c.in_ok-block.block ≡ object_length g.row.FLLEN g.row.SLLEN c.args.size =
    c.in_ok-block.ensures ∙ ap (map_ceil_and_unmap g.row.FLLEN g.row.SLLEN) sought in
    omega (arith, object_length-enough g.row.FLLEN g.row.SLLEN c.args.size c.in_ok-block.block c.requires.parameters.power_of_two (sym object))

pub returns : goal.returns
returns g c =
    let sought : c.next_multiple_of-sought.result ≡ round32 (c.args.size + 16) = c.next_multiple_of-sought.ensures.value ∙ ap round32 (omega arith) in
    let block = c.in_ok-block.block in
    let object : Some block ≡ object_length g.row.FLLEN g.row.SLLEN c.args.size = c.in_ok-block.ensures ∙ ap (map_ceil_and_unmap g.row.FLLEN g.row.SLLEN) sought in
    let len : c.in_ok-len.len ≡ c.args.count * block + 32 = omega arith in
    let pool : Some c.in_ok-pool.pool ≡ chunk_length g.row.FLLEN (c.args.count * block + 32) = c.in_ok-pool.ensures ∙ ap (chunk_length g.row.FLLEN) len in
    ap (option_map (λ n. (n, block - 16))) pool ∙ ap (option_and_then (objects_in g.row.FLLEN c.args.count)) object

pub returns-in_err-checked_mul : goal.returns-in_err-checked_mul
returns-in_err-checked_mul g c =
    let sought : c.next_multiple_of-sought.result ≡ round32 (c.args.size + 16) = c.next_multiple_of-sought.ensures.value ∙ ap round32 (omega arith) in
    let block = c.in_ok-block.block in
    let object : Some block ≡ object_length g.row.FLLEN g.row.SLLEN c.args.size = c.in_ok-block.ensures ∙ ap (map_ceil_and_unmap g.row.FLLEN g.row.SLLEN) sought in
    c.from_residual-in_err-checked_mul.ensures ∙ objects-none g.row.FLLEN g.row.SLLEN c.args.count c.args.size block object
    (chunk_length-past g.row.FLLEN (c.args.count * block + 32) (omega (arith, c.in_err-checked_mul.ensures)))

pub returns-in_err-len : goal.returns-in_err-len
returns-in_err-len g c =
    let sought : c.next_multiple_of-sought.result ≡ round32 (c.args.size + 16) = c.next_multiple_of-sought.ensures.value ∙ ap round32 (omega arith) in
    let block = c.in_ok-block.block in
    let object : Some block ≡ object_length g.row.FLLEN g.row.SLLEN c.args.size = c.in_ok-block.ensures ∙ ap (map_ceil_and_unmap g.row.FLLEN g.row.SLLEN) sought in
    c.from_residual-in_err-len.ensures ∙ objects-none g.row.FLLEN g.row.SLLEN c.args.count c.args.size block object
    (chunk_length-past g.row.FLLEN (c.args.count * block + 32) (omega (arith, c.in_err-len.ensures)))

pub returns-in_err-pool : goal.returns-in_err-pool
returns-in_err-pool g c =
    let sought : c.next_multiple_of-sought.result ≡ round32 (c.args.size + 16) = c.next_multiple_of-sought.ensures.value ∙ ap round32 (omega arith) in
    let block = c.in_ok-block.block in
    let object : Some block ≡ object_length g.row.FLLEN g.row.SLLEN c.args.size = c.in_ok-block.ensures ∙ ap (map_ceil_and_unmap g.row.FLLEN g.row.SLLEN) sought in
    let len : c.in_ok-len.len ≡ c.args.count * block + 32 = omega arith in
    c.from_residual-in_err-pool.ensures ∙ objects-none g.row.FLLEN g.row.SLLEN c.args.count c.args.size block object
    (c.in_err-pool.ensures ∙ ap (chunk_length g.row.FLLEN) len)
