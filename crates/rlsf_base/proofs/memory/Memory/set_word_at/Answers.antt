use Rattle.rlsf_base.specs.Space.{word_range}
use Rattle.rlsf_base.proofs.Lending.Whole.{writable, none-with}
use Rattle.rlsf_base.proofs.memory.Memory.set_word_at.Goals as goal

pub set_word_at-requires-clause-place : goal.set_word_at-requires-clause-place
set_word_at-requires-clause-place c = writable c.self.view_is c.self.invariant c.requires.place

pub invariant_of-self : goal.invariant_of-self
invariant_of-self c = none-with c.self.inside.inner c.set_word_at.new.self (word_range c.args.addr) c.set_word_at.ensures.out c.self.invariant
