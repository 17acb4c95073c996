use Rattle.std.proofs.Common.{◌≡◌, ◌+◌, List, arith, rules}
use Rattle.rlsf_base.specs.declared.memory.range.Range.{Range}
use Rattle.rlsf_blocks.specs.Steps.Rest.{IsInnerRoom}
use Rattle.rlsf_blocks.proofs.Allocate.Rests.{AreLeft, ArePut-from, IsNewFreeBlock-written, IsRoom-written}
use Rattle.rlsf_blocks.proofs.Words.Stays.{IsWritable-in, placed_as}
use Rattle.rlsf_table.proofs.Costs.{Costs-then, Costs-written}
use Rattle.rlsf_blocks.proofs.free.put.Given as given
use Rattle.rlsf_blocks.proofs.free.put.Goals as goal
use Rattle.rlsf_blocks.proofs.free.put.Goals.{After-set_word_at-2}

pub set_word_at-requires-2-clause-place : goal.set_word_at-requires-2-clause-place
set_word_at-requires-2-clause-place g c = grind (arith, placed_as, IsWritable-in)

-- the two words are written
written : (g : given.Over) (c : After-set_word_at-2 g) {free : List Range} (r : Range) → IsInnerRoom g.row.FLLEN g.row.SLLEN c.args.memory.now c.args.table.now free r
    → r.start ≡ c.args.block → r.len ≡ c.args.len → AreLeft ⊥ c.args.memory.now c.set_word_at.new.self c.set_word_at.new.self c.set_word_at-2.new.self 0 r
written g c r room start len =
    let one = c.set_word_at.ensures in
    let two = c.set_word_at-2.ensures in
    ArePut-from c.args.block c.args.len r room start len (one.start, one.bytes, one.out) (two.start, two.bytes, two.out)

pub link_joined_block-requires : goal.link_joined_block-requires
link_joined_block-requires g c =
    let (free, r, start, len, room) = c.requires.room in
    let writes = written g (goal.at.link_joined_block-requires g c).After-set_word_at-2 r room start len in
    (omega arith, (c.requires.parameters, ((r, free, start, len, IsRoom-written r room writes), search rules)))

pub returns : goal.returns
returns g c =
    let n1 = c.set_word_at.new.self in
    let one = c.set_word_at.ensures in
    let two = c.set_word_at-2.ensures in
    record {
      step = λ free r start len room.
          let writes = written g ((goal.at.returns g c).After-set_word_at-2) r room start len in
          IsNewFreeBlock-written r room writes (c.link_joined_block.ensures.step r free start len (IsRoom-written r room writes)) (λ none. none);
      costs =
          let first = Costs-written c.args.memory.now n1 c.args.block one.start one.len one.touches one.copied one.view one.out in
          let second = Costs-written n1 c.set_word_at-2.new.self (c.args.block + c.args.len + 8) two.start two.len two.touches two.copied two.view two.out in
          Costs-then (Costs-then first second) c.link_joined_block.ensures.costs;
    }
