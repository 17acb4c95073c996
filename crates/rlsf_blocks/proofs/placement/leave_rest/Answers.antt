use Rattle.rlsf_base.specs.Range.{range_at, end_of}
use Rattle.std.proofs.Common.{◌≡◌, ◌+◌, ◌-◌, List, arith, rules}
use Rattle.rlsf_base.specs.declared.memory.range.Range.{Range}
use Rattle.rlsf_table.proofs.Words.Writing.{wrote, wrote_there}
use Rattle.rlsf_blocks.specs.Steps.Rest.{IsInnerRoom}
use Rattle.rlsf_blocks.proofs.Allocate.Rests.{AreLeft, AreLeft-from, IsFreeBlockBehind-written, IsRoom-written}
use Rattle.rlsf_blocks.proofs.Words.Stays.{IsWritable-in, placed_as, placed_then}
use Rattle.rlsf_table.proofs.Costs.{Costs-then, Costs-written}
use Rattle.rlsf_blocks.proofs.placement.leave_rest.Given as given
use Rattle.rlsf_blocks.proofs.placement.leave_rest.Goals as goal
use Rattle.rlsf_blocks.proofs.placement.leave_rest.Goals.{After-set_word_at-3}

-- the three words of the rest are written
written : (g : given.Over) (c : After-set_word_at-3 g) {free : List Range} (r : Range) → IsInnerRoom g.row.FLLEN g.row.SLLEN c.args.memory.now c.args.table.now free r
    → r.start ≡ c.args.block + c.args.taken → r.len + c.args.taken ≡ c.args.len
    → AreLeft (Unit {0}) c.args.memory.now c.set_word_at.new.self c.set_word_at-2.new.self c.set_word_at-3.new.self c.args.block r
written g c r room start len =
    let block = c.args.block in
    let rest = c.args.block + c.args.taken in
    let one = wrote c.args.memory.now c.set_word_at.new.self rest (c.args.len - c.args.taken) c.set_word_at.ensures.bytes (omega arith) (omega arith) in
    let two = wrote c.set_word_at.new.self c.set_word_at-2.new.self (rest + 8) block c.set_word_at-2.ensures.bytes (omega arith) (omega arith) in
    let three = wrote c.set_word_at-2.new.self c.set_word_at-3.new.self (block + c.args.len + 8) rest c.set_word_at-3.ensures.bytes (omega arith) (omega arith) in
    AreLeft-from block c.args.len c.args.taken r room start len (omega arith)
    (c.set_word_at.ensures.start, one, wrote_there c.args.memory.now c.set_word_at.new.self rest c.set_word_at.ensures.out (omega arith))
    (c.set_word_at-2.ensures.start, two, wrote_there c.set_word_at.new.self c.set_word_at-2.new.self (rest + 8) c.set_word_at-2.ensures.out (omega arith))
    (c.set_word_at-3.ensures.start, three, wrote_there c.set_word_at-2.new.self c.set_word_at-3.new.self (block + c.args.len + 8) c.set_word_at-3.ensures.out (omega arith))

pub set_word_at-requires-2-clause-place : goal.set_word_at-requires-2-clause-place
set_word_at-requires-2-clause-place g c = grind (arith, placed_as, IsWritable-in)

pub set_word_at-requires-3-clause-place : goal.set_word_at-requires-3-clause-place
set_word_at-requires-3-clause-place g c =
    let (free, r, start, len, room) = c.requires.room in
    let first = c.set_word_at.ensures in
    let second = c.set_word_at-2.ensures in
    let one = placed_as c.args.memory.now c.set_word_at.new.self first.start first.len first.own in
    let two = placed_then one (placed_as c.set_word_at.new.self c.set_word_at-2.new.self second.start second.len second.own) in
    IsWritable-in two (range_at (end_of r) 16) (omega arith, room.not_last) room.behind (c.args.block + c.args.len + 8) (omega arith) (omega arith) (omega arith)

pub link_free_block-requires : goal.link_free_block-requires
link_free_block-requires g c =
    let (free, r, start, len, room) = c.requires.room in
    let writes = written g (goal.at.link_free_block-requires g c).After-set_word_at-3 r room start len in
    (omega arith, (c.requires.parameters, ((r, free, start, omega (arith, len), IsRoom-written r room writes), search rules)))

pub returns : goal.returns
returns g c =
    let n2 = c.set_word_at-2.new.self in
    let one = c.set_word_at.ensures in
    let two = c.set_word_at-2.ensures in
    let three = c.set_word_at-3.ensures in
    record {
      step = λ free r start len room.
          let writes = written g ((goal.at.returns g c).After-set_word_at-3) r room start len in
          IsFreeBlockBehind-written r room writes (c.link_free_block.ensures.step r free start (omega (arith, len)) (IsRoom-written r room writes)) tt;
      costs =
          let first = Costs-written c.args.memory.now c.set_word_at.new.self (c.args.block + c.args.taken) one.start one.len one.touches one.copied one.view one.out in
          let second = Costs-written c.set_word_at.new.self n2 (c.args.block + c.args.taken + 8) two.start two.len two.touches two.copied two.view two.out in
          let third = Costs-written n2 c.set_word_at-3.new.self (c.args.block + c.args.len + 8) three.start three.len three.touches three.copied three.view three.out in
          Costs-then (Costs-then (Costs-then first second) third) c.link_free_block.ensures.costs;
    }
