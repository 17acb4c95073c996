-- What a ghost member of the bump source cites.
use Rattle.std.specs.Prelude.{◌≡◌, Some, None}
use Rattle.std.proofs.Common.{ap}
use Rattle.rlsf_model.specs.Note.{Note, alloc, dealloc, grow}
use Rattle.rlsf_flex.specs.Bump.{Bump, BumpLeads, bump_terms}

-- no question changes the source's terms
pub constant_bump : (x y : Bump) (n : Note) → BumpLeads x n y → bump_terms y ≡ bump_terms x
constant_bump x y (alloc size None) led = ap bump_terms led.1
constant_bump x y (alloc size (Some r)) led = ap bump_terms led.2
constant_bump x y (grow r len None) led = ap bump_terms led.1
constant_bump x y (grow r len (Some given)) led = ap bump_terms led.3
constant_bump x y (dealloc r) led = ap bump_terms led
