-- By what a call through the lock can be refused.
use Rattle.std.specs.Prelude.{List, Result, IfErr}
use Rattle.rlsf_model.specs.Lists.{IsIn}
use Rattle.rlsf_model_global.specs.declared.error.GlobalError.{GlobalError}

-- an error is one of these
abbrev pub RefusesOnlyBy : {A : Type 0} → List GlobalError → Result A GlobalError → Type 0
RefusesOnlyBy errors result = IfErr result (λ error. IsIn error errors)
