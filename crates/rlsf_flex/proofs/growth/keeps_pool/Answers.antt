use Rattle.std.proofs.Common.{◌||◌, sym, ◌∙◌, ap}
use Rattle.rlsf_flex.proofs.growth.keeps_pool.Goals as goal

pub returns-then-supports_dealloc : goal.returns-then-supports_dealloc
returns-then-supports_dealloc g c =
    c.if-supports_dealloc.true ∙ ap (λ b. b || (g.S.FlexSource.terms c.args.source.now).grow) (sym c.if-supports_dealloc.true ∙ c.supports_dealloc.ensures)

pub returns-else-supports_dealloc : goal.returns-else-supports_dealloc
returns-else-supports_dealloc g c =
    c.supports_realloc_inplace_grow.ensures ∙ ap (λ b. b || (g.S.FlexSource.terms c.args.source.now).grow) (sym c.if-supports_dealloc.false ∙ c.supports_dealloc.ensures)
