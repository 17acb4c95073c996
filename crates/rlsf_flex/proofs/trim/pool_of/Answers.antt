use Rattle.std.proofs.Common.{◌≡◌, ℕ, Option, Some, None, MatchOption, refl, sym, ap, subst}
use Rattle.rlsf_base.specs.declared.memory.range.Range.{Range}
use Rattle.rlsf_model.specs.FlexWellFormed.{IsPool}
use Rattle.rlsf_flex.specs.declared.pool.Pool.{Pool}
use Rattle.rlsf_flex.proofs.trim.pool_of.Goals as goal

pub returns-in-Some : goal.returns-in-Some
returns-in-Some g c =
    let pool : ℕ → Option Pool = λ len. Some (record { range = c.in-Some.range; len = len }) in
    subst (λ (o : Option Range). MatchOption o (pool c.pool_len.result ≡ None)
    (λ r. (len : ℕ) → IsPool c.args.tlsf.now.state r len → pool c.pool_len.result ≡ Some (record { range = r; len = len }))) (sym c.in-Some.is)
    (λ len is. ap pool (c.pool_len.ensures len is))

pub returns-in-None : goal.returns-in-None
returns-in-None g c =
    let none : Option Pool = None in
    subst (λ (o : Option Range). MatchOption o (none ≡ None) (λ r. (len : ℕ) → IsPool c.args.tlsf.now.state r len → none ≡ Some (record { range = r; len = len })))
    (sym c.in-None.is) refl
