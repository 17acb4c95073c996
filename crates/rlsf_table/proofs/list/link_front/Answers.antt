-- The block whose link is written has room for it; and the three writes put the block in front.
use Rattle.std.proofs.Common.{◌+◌, ◌∙◌, arith, refl}
use Rattle.rlsf_table.proofs.FreeLists.Front.{Fronts, Links-front, own_placed, Rewrites-front}
use Rattle.rlsf_table.proofs.Words.Writes.{fits_at, IsWritable-at, Writes, Writes-some}
use Rattle.rlsf_table.proofs.Words.Writing.{wrote, wrote_there}
use Rattle.rlsf_base.proofs.Words.Written.{is_own-written}
use Rattle.rlsf_base.specs.OpenSpace.{SameOwn}
use Rattle.rlsf_table.proofs.Costs.{Costs-then, Costs-written}
use Rattle.rlsf_table.proofs.list.link_front.Goals as goal

pub overflow_add-first_or_own : goal.overflow_add-first_or_own
overflow_add-first_or_own c =
    let own = own_placed c.requires.place.3 c.requires.place.2 c.requires.place.4 c.first_or_own.ensures in
    record { fits = fits_at 24 (omega arith) refl own.1 own.2 c.requires.place.3.addressable }

pub set_word_at-requires-2-clause-place : goal.set_word_at-requires-2-clause-place
set_word_at-requires-2-clause-place c =
    let own = own_placed c.requires.place.3 c.requires.place.2 c.requires.place.4 c.first_or_own.ensures in
    IsWritable-at 24 (omega arith) refl own.1 own.2 c.set_word_at.new.self c.set_word_at.ensures.start c.set_word_at.ensures.len
    (is_own-written c.args.memory.now c.set_word_at.new.self (c.args.block + 16) c.args.newest
    (IsWritable-at 16 (omega arith) refl c.requires.place.2 c.requires.place.4 c.args.memory.now refl refl (λ a inside. refl)) c.set_word_at.ensures.start
    (wrote c.args.memory.now c.set_word_at.new.self (c.args.block + 16) c.args.newest c.set_word_at.ensures.bytes (omega arith) (omega arith))
    (wrote_there c.args.memory.now c.set_word_at.new.self (c.args.block + 16) c.set_word_at.ensures.out (omega arith)))

pub set_word_at-requires-3-clause-place : goal.set_word_at-requires-3-clause-place
set_word_at-requires-3-clause-place c =
    let m = c.args.memory.now in
    let one = c.set_word_at.new.self in
    let two = c.set_word_at-2.new.self in
    let own = own_placed c.requires.place.3 c.requires.place.2 c.requires.place.4 c.first_or_own.ensures in
    let at = c.first_or_own.result in
    let first : SameOwn m one =
    is_own-written m one (c.args.block + 16) c.args.newest (IsWritable-at 16 (omega arith) refl c.requires.place.2 c.requires.place.4 m refl refl (λ a inside. refl))
    c.set_word_at.ensures.start (wrote m one (c.args.block + 16) c.args.newest c.set_word_at.ensures.bytes (omega arith) (omega arith))
    (wrote_there m one (c.args.block + 16) c.set_word_at.ensures.out (omega arith)) in
    let second : SameOwn one two =
    is_own-written one two (at + 24) c.args.block (IsWritable-at 24 (omega arith) refl own.1 own.2 one c.set_word_at.ensures.start c.set_word_at.ensures.len first)
    c.set_word_at-2.ensures.start (wrote one two (at + 24) c.args.block c.set_word_at-2.ensures.bytes (omega arith) (omega arith))
    (wrote_there one two (at + 24) c.set_word_at-2.ensures.out (omega arith)) in
    IsWritable-at 24 (omega arith) refl c.requires.place.2 c.requires.place.4 two (c.set_word_at-2.ensures.start ∙ c.set_word_at.ensures.start)
    (c.set_word_at-2.ensures.len ∙ c.set_word_at.ensures.len) (λ a inside. second a (omega (arith, c.set_word_at.ensures.start)) ∙ first a inside)

pub returns-clause-step : goal.returns-clause-step
returns-clause-step c =
    λ r free place list placed apart.
    let m = c.args.memory.now in
    let one = c.set_word_at.new.self in
    let two = c.set_word_at-2.new.self in
    let n = c.set_word_at-3.new.self in
    let at = c.first_or_own.result in
    let own = own_placed list place placed c.first_or_own.ensures in
    let next : Writes m one (Unit {0}) (c.args.block + 16) c.args.newest =
    Writes-some (Unit {0}) tt (IsWritable-at 16 (omega arith) refl place placed m refl refl (λ a inside. refl)) c.ranges.newest.fits c.set_word_at.ensures.start
    (wrote m one (c.args.block + 16) c.args.newest c.set_word_at.ensures.bytes (omega arith) (omega arith))
    (wrote_there m one (c.args.block + 16) c.set_word_at.ensures.out (omega arith)) in
    let back : Writes one two (Unit {0}) (at + 24) c.args.block =
    Writes-some (Unit {0}) tt (IsWritable-at 24 (omega arith) refl own.1 own.2 one next.rewrites.start next.rewrites.length next.rewrites.own) c.ranges.block.fits
    c.set_word_at-2.ensures.start
    (wrote one two (at + 24) c.args.block c.set_word_at-2.ensures.bytes (omega arith) (omega arith)) (wrote_there one two (at + 24) c.set_word_at-2.ensures.out (omega arith)) in
    let previous : Writes two n (Unit {0}) (c.args.block + 24) 0 =
    Writes-some (Unit {0}) tt
    (IsWritable-at 24 (omega arith) refl place placed two (back.rewrites.start ∙ next.rewrites.start) (back.rewrites.length ∙ next.rewrites.length)
    (λ a inside. back.rewrites.own a (omega (arith, next.rewrites.start)) ∙ next.rewrites.own a inside)) (omega arith) c.set_word_at-3.ensures.start
    c.set_word_at-3.ensures.bytes c.set_word_at-3.ensures.out in
    let fronts : Fronts m n c.args.newest c.args.block at = record { one = one; two = two; own = c.first_or_own.ensures; next = next; back = back; previous = previous } in
    (Links-front m n c.args.newest c.args.block at r free place list placed apart fronts, Rewrites-front m n c.args.newest c.args.block at r free place list placed apart fronts)

pub returns-clause-costs : goal.returns-clause-costs
returns-clause-costs c =
    let one = c.set_word_at in
    let two = c.set_word_at-2 in
    let three = c.set_word_at-3 in
    let first =
    Costs-written c.args.memory.now one.new.self (c.args.block + 16) one.ensures.start one.ensures.len one.ensures.touches one.ensures.copied one.ensures.view
    one.ensures.out in
    let second =
    Costs-written one.new.self two.new.self (c.first_or_own.result + 24) two.ensures.start two.ensures.len two.ensures.touches two.ensures.copied two.ensures.view
    two.ensures.out in
    let third =
    Costs-written two.new.self three.new.self (c.args.block + 24) three.ensures.start three.ensures.len three.ensures.touches three.ensures.copied three.ensures.view
    three.ensures.out in
    Costs-then (Costs-then first second) third
