use Rattle.std.proofs.Common.{ap, refl, subst, sym, ◌≡◌, ◌∙◌, IfSome}
use Rattle.rlsf_model.specs.State.{Used}
use Rattle.rlsf_model.proofs.Changes.{Holds-unique}
use Rattle.rlsf_blocks.specs.StandsFor.{contents}
use Rattle.rlsf_tlsf.proofs.core_calls.find_block.Goals as goal

pub returns-in-Some-clause-block : goal.returns-in-Some-clause-block
returns-in-Some-clause-block c = λ fllen sllen t s u v is.
    let (z, held, _, start) = c.used_block.ensures.block fllen sllen t s v (u, is.0, subst (λ o. IfSome o (λ a. u.align ≡ a)) c.in-Some.is is.1) in
    sym start ∙ ap (λ (w : Used). w.block.start) (Holds-unique v.well_formed c.args.addr z u held is.0)

pub returns-in-None-clause-block : goal.returns-in-None-clause-block
returns-in-None-clause-block c = λ fllen sllen t s u v is. c.load_block_of.ensures.block fllen sllen (contents c.args.memory.now t) s u refl v is.0
