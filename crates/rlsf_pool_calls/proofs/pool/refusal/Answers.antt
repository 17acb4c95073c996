use Rattle.std.proofs.Common.{ℕ, ◌+◌, ◌^◌, Bool, cond, nat_le, ◌==◌, ◌||◌, Option, None, Some, sym, ◌∙◌, ap}
use Rattle.std.proofs.lemmas.Bool.{ne_eqb}
use Rattle.rlsf_pool_calls.proofs.pool.refusal.Goals as goal

-- what is reported of a start and a length
told : ℕ → ℕ → Bool → Option ℕ
told start len known = cond known (cond (start == 0) (Some 12) (cond (nat_le (2 ^ 64) (start + len)) (Some 13) None)) (Some 11)

pub returns-then-kind-ne2 : goal.returns-then-kind-ne2
unfolding told
returns-then-kind-ne2 c = sym (
    ap (λ b. told c.args.start c.args.len (b || (c.args.kind == 2))) (ne_eqb c.args.kind 1 c.if-kind-ne1.true)
    ∙ ap (told c.args.start c.args.len) (ne_eqb c.args.kind 2 c.if-kind-ne2.true))
