use Rattle.std.proofs.Common.{◌+◌, ◌-◌, arith, refl, rules}
use Rattle.rlsf_model.specs.Insert.{body}
use Rattle.rlsf_model.specs.State.{State}
use Rattle.rlsf_table.proofs.Words.Writing.{wrote, wrote_there}
use Rattle.rlsf_blocks.specs.StandsFor.{contents, StandsFor}
use Rattle.rlsf_blocks.specs.Steps.Pool.{IsNewChunk}
use Rattle.rlsf_blocks.proofs.Chunks.ChunkWrites.{AreWrites, AreWrites-from, IsAdded-written, IsRoom-body}
use Rattle.rlsf_table.proofs.Costs.{Costs-then, Costs-written}
use Rattle.rlsf_blocks.proofs.pool.add_chunk.Given as given
use Rattle.rlsf_blocks.proofs.pool.add_chunk.Goals as goal
use Rattle.rlsf_blocks.proofs.pool.add_chunk.Goals.{After-set_word-2, After-set_word-4}
use Rattle.rlsf_blocks.proofs.Words.Stays.{IsPlacedAs, IsWritable-in, placed_as, placed_then}

-- the four words of the chunk are written
written : (g : given.Over) (c : After-set_word-4 g) {s : State} → StandsFor g.row.FLLEN g.row.SLLEN (contents c.args.memory.now c.args.table.now) s
    → IsNewChunk g.row.FLLEN g.row.SLLEN c.args.memory.now s c.args.chunk
    → AreWrites c.args.memory.now c.set_word.new.self c.set_word-2.new.self c.set_word-3.new.self c.set_word-4.new.self c.args.chunk
written g c v new =
    let start = c.args.chunk.start in
    let len = c.args.chunk.len - 32 in
    let sentinel = start + len in
    let one = wrote c.args.memory.now c.set_word.new.self start len c.set_word.ensures.bytes (omega arith) (omega arith) in
    let three = wrote c.set_word-2.new.self c.set_word-3.new.self sentinel 35 {put = 35} c.set_word-3.ensures.bytes (omega arith) (omega arith) in
    let four = wrote c.set_word-3.new.self c.set_word-4.new.self (sentinel + 8) start c.set_word-4.ensures.bytes (omega arith) (omega arith) in
    AreWrites-from c.args.chunk len sentinel new v.well_formed.addressable refl refl
    (c.set_word.ensures.start, one, wrote_there c.args.memory.now c.set_word.new.self start c.set_word.ensures.out (omega arith))
    (c.set_word-2.ensures.start, c.set_word-2.ensures.bytes, c.set_word-2.ensures.out)
    (c.set_word-3.ensures.start, three, wrote_there c.set_word-2.new.self c.set_word-3.new.self sentinel c.set_word-3.ensures.out (omega arith))
    (c.set_word-4.ensures.start, four, wrote_there c.set_word-3.new.self c.set_word-4.new.self (sentinel + 8) c.set_word-4.ensures.out (omega arith))

-- so far words of the chunk were written
first_two : (g : given.Over) (c : After-set_word-2 g) → IsPlacedAs c.args.memory.now c.set_word-2.new.self
first_two g c =
    let one = c.set_word in
    let two = c.set_word-2 in
    placed_then (placed_as c.args.memory.now one.new.self one.ensures.start one.ensures.len one.ensures.own)
    (placed_as one.new.self two.new.self two.ensures.start two.ensures.len two.ensures.own)

pub set_word-requires-2 : goal.set_word-requires-2
set_word-requires-2 g c = grind (arith, placed_as, IsWritable-in, c.requires.fresh, c.set_word.ensures.start, c.set_word.ensures.len, c.set_word.ensures.own)

pub set_word-requires-3 : goal.set_word-requires-3
set_word-requires-3 g c = grind (arith, first_two, After-set_word-2, IsWritable-in, c.requires.fresh)

pub set_word-requires-4 : goal.set_word-requires-4
set_word-requires-4 g c =
    let (s, v, new) = c.requires.fresh in
    let last = placed_as c.set_word-2.new.self c.set_word-3.new.self c.set_word-3.ensures.start c.set_word-3.ensures.len c.set_word-3.ensures.own in
    let three = placed_then (first_two g (goal.at.set_word-requires-4 g c).After-set_word-2) last in
    IsWritable-in three c.args.chunk new.lies_in new.own (c.args.chunk.start + (c.args.chunk.len - 32) + 8) (omega arith) (omega arith) (omega arith)

pub link_free_block-requires : goal.link_free_block-requires
link_free_block-requires g c =
    let (s, v, new) = c.requires.fresh in
    let writes = written g (goal.at.link_free_block-requires g c).After-set_word-4 v new in
    (omega arith, (c.requires.parameters, ((body c.args.chunk, s.free, refl, refl, IsRoom-body v c.args.chunk new writes), search rules)))

pub returns : goal.returns
returns g c =
    let chunk = c.args.chunk in
    let n3 = c.set_word-3.new.self in
    let one = c.set_word.ensures in
    let two = c.set_word-2.ensures in
    let three = c.set_word-3.ensures in
    let four = c.set_word-4.ensures in
    record {
      step = λ s v new.
          let writes = written g ((goal.at.returns g c).After-set_word-4) v new in
          IsAdded-written v chunk new writes (c.link_free_block.ensures.step (body chunk) s.free refl refl (IsRoom-body v chunk new writes));
      costs =
          let first = Costs-written c.args.memory.now c.set_word.new.self chunk.start one.start one.len one.touches one.copied one.view one.out in
          let second = Costs-written c.set_word.new.self c.set_word-2.new.self (chunk.start + 8) two.start two.len two.touches two.copied two.view two.out in
          let third = Costs-written c.set_word-2.new.self n3 (chunk.start + (chunk.len - 32)) three.start three.len three.touches three.copied three.view three.out in
          let fourth = Costs-written n3 c.set_word-4.new.self (chunk.start + (chunk.len - 32) + 8) four.start four.len four.touches four.copied four.view four.out in
          Costs-then (Costs-then (Costs-then (Costs-then first second) third) fourth) c.link_free_block.ensures.costs;
    }
