use Rattle.std.proofs.Common.{◌≡◌, ◌+◌, ◌<◌, List, arith, refl, rules}
use Rattle.rlsf_blocks.proofs.Reallocate.Occupied.{IsInnerRoom-rest, IsOccupied-rest, IsOccupied-whole_span, named_from, rest_of, sized_from}
use Rattle.rlsf_base.specs.declared.memory.range.Range.{Range}
use Rattle.rlsf_blocks.specs.Steps.Resize.{IsSpanRoom}
use Rattle.rlsf_table.proofs.Words.Writing.{IsWrite, wrote, wrote_there}
use Rattle.rlsf_table.proofs.Costs.{Costs-then, Costs-within, Costs-written}
use Rattle.rlsf_blocks.proofs.reallocation.resize.occupy.Given as given
use Rattle.rlsf_blocks.proofs.reallocation.resize.occupy.Goals as goal
use Rattle.rlsf_blocks.proofs.reallocation.resize.occupy.Goals.{After-set_word_at}

-- the size word is written
sized : (g : given.Over) (c : After-set_word_at g) {free : List Range} (span : Range) → span.start ≡ c.args.block → span.len ≡ c.args.total
    → IsSpanRoom g.row.FLLEN g.row.SLLEN c.args.memory.now c.args.table.now free span c.args.taken
    → IsWrite c.args.memory.now c.set_word_at.new.self c.args.block (c.args.taken + 1)
sized g c span start len inner = grind (arith, sized_from, wrote, wrote_there, c.set_word_at.ensures, c.requires.part)

pub leave_rest-requires : goal.leave_rest-requires
leave_rest-requires g c =
    let (free, span, start, len, inner) = c.requires.room in
    let short : c.args.taken < c.args.total = omega (arith, c.if-taken-total.true) in
    let room = IsInnerRoom-rest span start len inner c.requires.part (sized g (goal.at.leave_rest-requires g c).After-set_word_at span start len inner) short in
    (omega arith, (c.requires.parameters, ((free, rest_of c.args.block c.args.taken span, refl, omega (arith, start, len, short), room), search rules)))

pub returns-then-taken-total : goal.returns-then-taken-total
returns-then-taken-total g c =
    let write = c.set_word_at.ensures in
    record {
      step = λ free span start len inner.
          let short : c.args.taken < c.args.total = omega (arith, c.if-taken-total.true) in
          let word = sized g ((goal.at.returns-then-taken-total g c).After-set_word_at) span start len inner in
          let rest = rest_of c.args.block c.args.taken span in
          let left = c.leave_rest.ensures.step free rest refl (omega (arith, start, len, short)) (IsInnerRoom-rest span start len inner c.requires.part word short) in
          IsOccupied-rest span start len inner c.requires.part word short left;
      costs = Costs-then (Costs-written c.args.memory.now c.set_word_at.new.self c.args.block write.start write.len write.touches write.copied write.view write.out)
          c.leave_rest.ensures.costs;
    }

pub returns-else-taken-total : goal.returns-else-taken-total
returns-else-taken-total g c =
    let n = c.set_word_at.new.self in
    let o = c.set_word_at-else-taken-total.new.self in
    let a = c.args.block + c.args.total + 8 in
    let one = c.set_word_at.ensures in
    let two = c.set_word_at-else-taken-total.ensures in
    record {
      step = λ free span start len inner.
          let part = c.requires.part in
          let word = sized g ((goal.at.returns-else-taken-total g c).After-set_word_at) span start len inner in
          let named =
          named_from span start len inner part word {n = o} two.start (wrote n o a c.args.block two.bytes (omega arith) (omega arith)) (wrote_there n o a two.out (omega arith)) in
          IsOccupied-whole_span span start len inner part word (omega (arith, c.if-taken-total.false)) named;
      costs = Costs-within (omega arith)
          (Costs-then (Costs-written c.args.memory.now n c.args.block one.start one.len one.touches one.copied one.view one.out)
          (Costs-written n o a two.start two.len two.touches two.copied two.view two.out));
    }
