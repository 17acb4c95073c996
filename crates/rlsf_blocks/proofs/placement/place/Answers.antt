use Rattle.std.proofs.Common.{◌≡◌, ◌+◌, ◌-◌, ◌^◌, ◌<◌, ◌≤◌, Some, arith, refl, sym, ◌∙◌, rules, subst}
use Rattle.rlsf_blocks.proofs.Words.NeverOut.{free_word}
use Rattle.rlsf_base.specs.declared.memory.range.Range.{Range}
use Rattle.rlsf_model_sizes.specs.Sizes.{request_size}
use Rattle.rlsf_model_sizes.specs.Rounding.{round32}
use Rattle.rlsf_model.specs.Allocate.{choice}
use Rattle.rlsf_model.specs.Payload.{payload_of}
use Rattle.rlsf_model.specs.State.{State}
use Rattle.rlsf_table.proofs.FreeLists.Counted.{word_at-counted}
use Rattle.rlsf_table.proofs.Words.Writes.{Writes-none}
use Rattle.rlsf_table.proofs.Words.Writing.{wrote, wrote_there}
use Rattle.rlsf_blocks.specs.StandsFor.{contents, StandsFor}
use Rattle.rlsf_table.specs.Counts.{Costs}
use Rattle.rlsf_table.specs.Table.{IsClassAt}
use Rattle.rlsf_blocks.proofs.Words.Apart.{free_in_memory}
use Rattle.rlsf_blocks.proofs.RepresentedStates.Counted.{KeepsSpare-counted_first, StandsFor-counted}
use Rattle.rlsf_blocks.proofs.Allocate.Placements.{AreComputed, AreComputed-from, fitting, is_free, IsSized, IsSized-from, IsTaken-computed, IsWritable-block, IsWritable-pad}
use Rattle.rlsf_blocks.proofs.Allocate.Placements.{padded, Places-sized, Stays-sized}
use Rattle.rlsf_blocks.proofs.Words.Stays.{placed_by, Stays-same, Stays-then}
use Rattle.rlsf_model.proofs.Allocations.{placed-fits}
use Rattle.rlsf_table.proofs.Costs.{Costs-loaded, Costs-then, Costs-within, Costs-written}
use Rattle.rlsf_blocks.proofs.placement.place.Given as given
use Rattle.rlsf_blocks.proofs.placement.place.Goals as goal
use Rattle.rlsf_blocks.proofs.placement.place.Goals.{After-load_at-len, After-front-payload, After-set_word_at}

pub load_at-len-requires-clause-place : goal.load_at-len-requires-clause-place
load_at-len-requires-clause-place g c =
    let (s, f, v, chosen, start) = c.requires.chosen in
    free_word v f (is_free v f c.args.layout.size c.args.layout.align c.args.layout.valid.aligned chosen) c.args.found.start start

pub front-payload-requires : goal.front-payload-requires
front-payload-requires g c =
    let (s, f, v, chosen, start) = c.requires.chosen in
    let layout = c.args.layout in
    let place = free_in_memory v.well_formed f (is_free v f layout.size layout.align layout.valid.aligned chosen) in
    let fit = fitting v f layout.size layout.align layout.valid.aligned chosen in
    let fits = placed-fits v.well_formed f layout.size layout.align layout.valid.aligned chosen in
    let address : payload_of f.start layout.align < 2 ^ 64 = omega (arith, fit.before_end, fits, place.1, v.well_formed.addressable) in
    record {
      whole = omega (arith, fit.whole, start);
      address = subst (λ b. payload_of b layout.align < 2 ^ 64) start address;
      length = subst (λ b. round32 (payload_of b layout.align - b + layout.size) < 2 ^ 64) start (omega (arith, fits, place.1, v.well_formed.addressable));
    }

-- the memory whose word was read represents the same states
loaded : (g : given.Over) (c : After-load_at-len g) {s : State} → StandsFor g.row.FLLEN g.row.SLLEN (contents c.args.memory.now c.args.table.now) s
    → StandsFor g.row.FLLEN g.row.SLLEN (contents c.load_at-len.new.self c.args.table.now) s
loaded g c v = StandsFor-counted c.args.memory.now c.load_at-len.new.self c.load_at-len.ensures.start c.load_at-len.ensures.bytes c.load_at-len.ensures.out v

-- for each state and the choice in it, what is computed is as the definitions have it
computed : (g : given.Over) (c : After-front-payload g) {s : State} (v : StandsFor g.row.FLLEN g.row.SLLEN (contents c.load_at-len.new.self c.args.table.now) s) (f : Range)
    (chosen : choice g.row.SLLEN (request_size c.args.layout.size c.args.layout.align) s.free ≡ Some f) → f.start ≡ c.args.found.start
    → AreComputed v f c.args.layout.size c.args.layout.align c.args.layout.valid.aligned chosen c.args.found.start c.load_at-len.result c.front-payload.result.0
    c.front-payload.result.1
computed g c v f chosen start =
    let word =
    c.load_at-len.ensures.word
    ∙ sym (word_at-counted c.args.memory.now c.load_at-len.new.self c.load_at-len.ensures.start c.load_at-len.ensures.bytes c.load_at-len.ensures.out
    c.args.found.start) in
    AreComputed-from v f c.args.layout.size c.args.layout.align c.args.layout.valid.aligned chosen _ _ _ _ _ _ start word refl c.front-payload.ensures.payload refl
    c.front-payload.ensures.length

-- and once the block is taken out, its size word is written
sized : (g : given.Over) (c : After-set_word_at g) {s : State} {v : StandsFor g.row.FLLEN g.row.SLLEN (contents c.load_at-len.new.self c.args.table.now) s} {f : Range}
    {chosen : choice g.row.SLLEN (request_size c.args.layout.size c.args.layout.align) s.free ≡ Some f}
    (are : AreComputed v f c.args.layout.size c.args.layout.align c.args.layout.valid.aligned chosen c.args.found.start c.load_at-len.result c.front-payload.result.0
    c.front-payload.result.1)
    → IsSized are c.take_out.new.memory c.set_word_at.new.self c.take_out.new.table
sized g c {s} {v} {f} are =
    IsSized-from are (c.take_out.ensures.step s f v (IsTaken-computed are)) c.set_word_at.ensures.start
    (wrote c.take_out.new.memory c.set_word_at.new.self c.args.found.start (c.front-payload.result.1 + 1) c.set_word_at.ensures.bytes (omega arith) (omega arith)) (omega arith)
    (wrote_there c.take_out.new.memory c.set_word_at.new.self c.args.found.start c.set_word_at.ensures.out (omega arith))

pub take_out-requires : goal.take_out-requires
take_out-requires g c =
    let (s, f, v, chosen, start) = c.requires.chosen in
    let at = goal.at.take_out-requires g c in
    let stands = loaded g at.After-load_at-len v in
    let class = subst (λ n. IsClassAt g.row.FLLEN g.row.SLLEN n c.args.found.class.fl c.args.found.class.sl) (sym c.load_at-len.ensures.word) c.requires.class in
    (omega arith, (c.requires.parameters, (class, ((s, f, stands, IsTaken-computed (computed g at.After-front-payload stands f chosen start)), search rules))))

pub set_word_at-requires-clause-place : goal.set_word_at-requires-clause-place
set_word_at-requires-clause-place g c =
    let (s, f, v, chosen, start) = c.requires.chosen in
    let at = goal.at.set_word_at-requires-clause-place g c in
    let stands = loaded g at.After-load_at-len v in
    let are = computed g at.After-front-payload stands f chosen start in
    IsWritable-block are (placed_by (c.take_out.ensures.step s f stands (IsTaken-computed are)).rewrites)

pub set_word_at-requires-then-wide-clause-place : goal.set_word_at-requires-then-wide-clause-place
set_word_at-requires-then-wide-clause-place g c =
    let (s, f, v, chosen, start) = c.requires.chosen in
    let at = goal.at.set_word_at-requires-then-wide-clause-place g c in
    let are = computed g at.After-front-payload (loaded g at.After-load_at-len v) f chosen start in
    IsWritable-pad are (sized g at.After-set_word_at are) (omega arith)

-- what it costs until the size word is written
so_far : (g : given.Over) (c : After-set_word_at g) → Costs c.args.memory.now c.set_word_at.new.self 22 0
so_far g c =
    let read = c.load_at-len.ensures in
    let write = c.set_word_at.ensures in
    let loaded = Costs-loaded c.args.memory.now c.load_at-len.new.self read.start read.bytes read.touches read.copied read.view read.out in
    Costs-then (Costs-then loaded c.take_out.ensures.costs)
    (Costs-written c.take_out.new.memory c.set_word_at.new.self c.args.found.start write.start write.len write.touches write.copied write.view write.out)

-- the payload's bytes end where its block does
pub overflow_add-range : goal.overflow_add-range
overflow_add-range g c =
    let (s, f, v, chosen, start) = c.requires.chosen in
    let at = goal.at.overflow_add-range g c in
    let layout = c.args.layout in
    let are = computed g at.After-front-payload (loaded g at.After-load_at-len v) f chosen start in
    let place = free_in_memory v.well_formed f (is_free v f layout.size layout.align layout.valid.aligned chosen) in
    let room = placed-fits v.well_formed f layout.size layout.align layout.valid.aligned chosen in
    omega (arith, are.start, are.taken, room, place.1, v.well_formed.addressable)

pub returns-then-wide : goal.returns-then-wide
returns-then-wide g c =
    let at = goal.at.returns-then-wide g c in
    let m = c.args.memory.now in
    let o = c.set_word_at.new.self in
    let n = c.set_word_at-then-wide.new.self in
    let read = c.load_at-len.ensures in
    let write = c.set_word_at-then-wide.ensures in
    let pad = c.front-payload.result.0 - 8 in
    let wide : 32 ≤ c.args.layout.align = omega arith in
    let written = wrote o n pad c.args.found.start write.bytes (omega arith) (omega arith) in
    let there = wrote_there o n pad write.out (omega arith) in
    let (s, f, v, chosen, start) = c.requires.chosen in
    let are = computed g at.After-front-payload (loaded g at.After-load_at-len v) f chosen start in
    let is = sized g at.After-set_word_at are in
    let stays = Stays-then (Stays-same m c.load_at-len.new.self read.start read.out) (Stays-sized are is (padded are is n wide write.start written there)) in
    record {
      step = λ s f v chosen start.
          let are = computed g at.After-front-payload (loaded g at.After-load_at-len v) f chosen start in
          let is = sized g at.After-set_word_at are in
          let (t, places, stands, spare) = Places-sized are is (padded are is n wide write.start written there) in
          (t, places, stands, KeepsSpare-counted_first m c.load_at-len.new.self read.start read.bytes read.out s t n spare);
      len = λ s f v chosen start.
          let are = computed g at.After-front-payload (loaded g at.After-load_at-len v) f chosen start in
          omega (arith, are.start, are.payload, are.taken);
      costs = Costs-then (so_far g at.After-set_word_at) (Costs-written o n pad write.start write.len write.touches write.copied write.view write.out);
      own = stays.own;
      here = stays.here;
    }

pub returns-else-wide : goal.returns-else-wide
returns-else-wide g c =
    let at = goal.at.returns-else-wide g c in
    let o = c.set_word_at.new.self in
    let read = c.load_at-len.ensures in
    let narrow : ¬ (32 ≤ c.args.layout.align) = λ wide. omega arith in
    let padded = Writes-none o o (32 ≤ c.args.layout.align) (c.front-payload.result.0 - 8) c.args.found.start refl narrow in
    let (s, f, v, chosen, start) = c.requires.chosen in
    let are = computed g at.After-front-payload (loaded g at.After-load_at-len v) f chosen start in
    let stays = Stays-then (Stays-same c.args.memory.now c.load_at-len.new.self read.start read.out) (Stays-sized are (sized g at.After-set_word_at are) padded) in
    record {
      step = λ s f v chosen start.
          let are = computed g at.After-front-payload (loaded g at.After-load_at-len v) f chosen start in
          let (t, places, stands, spare) = Places-sized are (sized g at.After-set_word_at are) padded in
          (t, places, stands, KeepsSpare-counted_first c.args.memory.now c.load_at-len.new.self read.start read.bytes read.out s t o spare);
      len = λ s f v chosen start.
          let are = computed g at.After-front-payload (loaded g at.After-load_at-len v) f chosen start in
          omega (arith, are.start, are.payload, are.taken);
      costs = Costs-within (omega arith) (so_far g at.After-set_word_at);
      own = stays.own;
      here = stays.here;
    }
