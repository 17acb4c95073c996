use Rattle.std.proofs.Common.{rules, ◌<◌, length, IsErrOf, arith, refl, sym, ap, ◌∙◌}
use Rattle.rlsf_example_libraries.specs.declared.objects.TakeError.TheVariants.{NoRoom}
use Rattle.rlsf_example_libraries.proofs.Capacities.{IsObjectPool-taken, pool_has_room}
use Rattle.rlsf_example_libraries.proofs.objects.Objects.take.Goals as goal

pub invariant_of-self : goal.invariant_of-self
invariant_of-self c =
    let i = c.self.inside in
    let few : length i.items.lists < i.capacity = omega (arith, c.self.invariant.within) in
    IsObjectPool-taken c.add_zeros.result i.items c.add_zeros.new.self i.layout.size i.layout.align i.capacity c.self.invariant few c.add_zeros.ensures.added
    c.add_zeros.ensures.refused c.add_zeros.ensures.uniform

pub returns-clause-full : goal.returns-clause-full
returns-clause-full c =
    let i = c.self.inside in
    let few : length i.items.lists < i.capacity = omega (arith, c.self.invariant.within) in
    rw (← c.self.view_is) (
      (λ refused. absurd (pool_has_room i.items i.layout.size i.layout.align i.capacity (IsErrOf c.add_zeros.result NoRoom) c.self.invariant few c.add_zeros.ensures.room
          c.add_zeros.ensures.enough c.add_zeros.ensures.tiled refused)),
      λ full. absurd (omega (arith, full)),
    )

pub returns-then-len-self : goal.returns-then-len-self
returns-then-len-self c = record {
  taken = search rules;
  new = search rules;
  full = rw (← c.self.view_is) ((λ _. sym c.len.ensures ∙ c.if-len-self.true), λ _. refl);
  room = rw (← c.self.view_is) (λ none fits _. absurd (omega (arith, c.self.invariant.fits fits, c.len.ensures, c.if-len-self.true, ap length none)));
  refused = search rules;
}
