use Rattle.std.proofs.Common.{ℕ, ◌+◌, ◌^◌, ◌<◌, ◌≤◌, Bool, true, false, Some, None, rules, arith, cond, sym, ap, ◌∙◌}
use Rattle.std.specs.Prelude.{nat_lt}
use Rattle.std.proofs.lemmas.Bool.{cond-true, lt-ltb}
use Rattle.rlsf_model_sizes.specs.PowerOfTwo.{floor_log2}
use Rattle.rlsf_model_sizes.specs.SizeClass.{SizeClass, class_of, next_class, reaches, reaching_class}
use Rattle.rlsf_model_sizes.specs.Sizes.{indices}
use Rattle.rlsf_base.proofs.Numbers.PowersOfTwo.{floor_log2-le, pow-between}
use Rattle.rlsf_base.proofs.SizeMaps.Reaching.{in_row}
use Rattle.rlsf_base.proofs.classes.map_ceil.Goals as goal

-- one of two classes
either : (test : Bool) (c d : SizeClass) (most : ℕ) → c.exponent ≤ most → d.exponent ≤ most → (cond test c d).exponent ≤ most
either true c d most first second = first
either false c d most first second = second

-- the first class that reaches a size is in its row or the next one
last_row : (sllen size : ℕ) → 0 < size → size < 2 ^ 64 → (reaching_class sllen size).exponent ≤ 64
last_row sllen size some word =
    let row : floor_log2 size ≤ 63 = pow-between size (floor_log2 size) 63 (floor_log2-le size some) word in
    let c = class_of sllen size in
    let next = either (nat_lt (c.division + 1) sllen) (in_row c.exponent (c.division + 1)) (in_row (c.exponent + 1) 0) 64 (omega arith) (omega arith) in
    either (reaches sllen c size) c (next_class sllen c) 64 (omega arith) next

pub returns-then-this-ge60 : goal.returns-then-this-ge60
returns-then-this-ge60 g c =
    let class = reaching_class g.row.SLLEN c.args.size in
    let valid = last_row g.row.SLLEN c.args.size (omega arith) (omega arith) in
    ap (λ p. Some p) c.reaching_class.ensures ∙ sym (cond-true _ (Some (indices class)) None (lt-ltb class.exponent (5 + g.row.FLLEN) (omega arith)))

pub returns-else-this-ge60 : goal.returns-else-this-ge60
returns-else-this-ge60 g c = search rules
