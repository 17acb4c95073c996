use Rattle.std.proofs.Common.{◌≡◌, ◌↔◌, ◌/◌, ◌^◌, ◌<◌, ℕ, arith, subst}
use Rattle.std.specs.Prelude.{IfOk, IsErrOf, max}
use Rattle.rlsf_base.specs.declared.memory.MemoryError.TheVariants.{TooLong}
use Rattle.rlsf_offsets.specs.Units.{Offsets, limit_of}
use Rattle.rlsf_offsets.proofs.offsets.OffsetTlsf.new.Goals as goal

pub returns : goal.returns
returns g c =
    let e = c.with_limit.ensures in
    let units = c.args.len / g.row.UNIT in
    let same : max units units ≡ units = omega arith in
    let too_long = subst (λ (n : ℕ). IsErrOf c.with_limit.result TooLong ↔ (2 ^ 56 < n)) same e.too_long in
    assumption (too_long, subst (λ (n : ℕ). IfOk c.with_limit.result (λ (space : Offsets). (space.units ≡ units) × (limit_of space ≡ n))) same e.units, e)
