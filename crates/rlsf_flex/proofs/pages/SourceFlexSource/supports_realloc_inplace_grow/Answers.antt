use Rattle.rlsf_flex.proofs.pages.SourceFlexSource.supports_realloc_inplace_grow.Goals as goal

pub returns : goal.returns
returns g c = rw (← c.self.view_is) c.COALESCE_POOLS.ensures
