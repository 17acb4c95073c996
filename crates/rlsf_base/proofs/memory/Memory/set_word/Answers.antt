use Rattle.rlsf_base.specs.Space.{word_range}
use Rattle.rlsf_base.proofs.Lending.Whole.{writable, none-with}
use Rattle.rlsf_base.proofs.memory.Memory.set_word.Goals as goal

pub set_word-requires : goal.set_word-requires
set_word-requires c = writable c.self.view_is c.self.invariant c.requires

pub invariant_of-self : goal.invariant_of-self
invariant_of-self c = none-with c.self.inside.inner c.set_word.new.self (word_range c.args.addr) c.set_word.ensures.out c.self.invariant
