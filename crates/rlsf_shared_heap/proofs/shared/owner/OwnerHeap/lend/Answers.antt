use Rattle.std.proofs.Common.{arith, refl, rules}
use Rattle.std.proofs.lemmas.Bool.{false≢true}
use Rattle.rlsf_shared_heap.proofs.shared.owner.OwnerHeap.lend.Goals as goal

pub returns-then-self-room : goal.returns-then-self-room
returns-then-self-room g c =
    rw (← c.self.view_is) (record {
      which = (λ e. absurd (false≢true e), λ less. absurd (omega (arith, less)));
      lent = tt;
      refused = (refl, refl);
      heap = refl;
      room = refl;
    })

pub returns : goal.returns
returns g c =
    rw (← c.self.view_is) (record { which = (λ _. omega arith, λ _. refl); lent = (c.new.ensures, refl); refused = tt; heap = refl; room = refl })

pub overflow_add-self : goal.overflow_add-self
overflow_add-self g c = search rules

pub invariant_of-self : goal.invariant_of-self
invariant_of-self g c = (c.self.invariant.0, omega arith)
