-- The blocks that the block's links name are placed, so that their words can be written; and the two writes take the block out.
use Rattle.std.proofs.Common.{◌≢◌, ◌∷◌, ◌+◌, arith, inl, refl}
use Rattle.rlsf_table.proofs.FreeLists.Removal.{Cuts, Links-out, next_placed, previous_placed, Rewrites-out, Writes-back, Writes-forth}
use Rattle.rlsf_table.proofs.FreeLists.Touches.{before_touches, behind_touches, both_touches, first_is, later_is}
use Rattle.rlsf_table.proofs.Words.Writes.{fits_at, IsWritable-at, Writes, Writes-none}
use Rattle.rlsf_model.proofs.Coverage.{IsIn-append_right}
use Rattle.rlsf_table.proofs.Costs.{Costs-same, Costs-then, Costs-within, Costs-written}
use Rattle.rlsf_table.proofs.list.unlink_between.Goals as goal
use Rattle.rlsf_table.proofs.list.unlink_between.Goals.{Joined-next-ne0, then-next-ne0, else-next-ne0}

-- the write that the block behind gets, if there is one
back : (c : Joined-next-ne0) → Writes c.args.memory.now c.if-next-ne0.memory (c.args.next ≢ 0) (c.args.next + 24) c.args.previous
back c = elim c.if-next-ne0.branch [
  | then-next-ne0 w ↦ Writes-back c.requires.listed.0 c.requires.listed.3 c.requires.listed.4 c.requires.listed.5 c.if-next-ne0.memory w.set_word_at.new.self c.requires.links.0
      w.if-next-ne0.true c.ranges.previous.fits w.memory-is w.set_word_at.ensures.start w.set_word_at.ensures.bytes w.set_word_at.ensures.out
  | else-next-ne0 w ↦ Writes-none _ _ _ _ _ w.memory-is (λ some. some w.if-next-ne0.false)
]

pub overflow_add-next : goal.overflow_add-next
overflow_add-next c =
    let found = next_placed c.requires.listed.0 c.requires.listed.3 c.requires.listed.4 c.requires.listed.5 c.requires.links.0 c.if-next-ne0.true in
    record { fits = fits_at 24 (omega arith) refl found.1 found.2 c.requires.listed.5.addressable }

pub set_word_at-requires-clause-place : goal.set_word_at-requires-clause-place
set_word_at-requires-clause-place c =
    let found = next_placed c.requires.listed.0 c.requires.listed.3 c.requires.listed.4 c.requires.listed.5 c.requires.links.0 c.if-next-ne0.true in
    IsWritable-at 24 (omega arith) refl found.1 found.2 c.args.memory.now refl refl (λ a inside. refl)

pub overflow_add-previous : goal.overflow_add-previous
overflow_add-previous c =
    let found = previous_placed c.requires.listed.0 c.requires.listed.3 c.requires.listed.4 c.requires.listed.5 c.requires.links.1 c.if-previous-ne0.true in
    record { fits = fits_at 16 (omega arith) refl found.1 found.2 c.requires.listed.5.addressable }

pub set_word_at-requires-then-previous-ne0-clause-place : goal.set_word_at-requires-then-previous-ne0-clause-place
set_word_at-requires-then-previous-ne0-clause-place c =
    let found = previous_placed c.requires.listed.0 c.requires.listed.3 c.requires.listed.4 c.requires.listed.5 c.requires.links.1 c.if-previous-ne0.true in
    let first = back (goal.at.set_word_at-requires-then-previous-ne0-clause-place c).Joined-next-ne0 in
    IsWritable-at 16 (omega arith) refl found.1 found.2 c.if-next-ne0.memory first.rewrites.start first.rewrites.length first.rewrites.own

pub returns-then-previous-ne0-clause-step : goal.returns-then-previous-ne0-clause-step
returns-then-previous-ne0-clause-step c =
    λ newest r before after place list.
    let m = c.args.memory.now in
    let n = c.set_word_at-then-previous-ne0.new.self in
    let last = c.set_word_at-then-previous-ne0 in
    let next = c.args.next in
    let previous = c.args.previous in
    let there = IsIn-append_right r before (r ∷ after) (inl refl) in
    let first = back (goal.at.returns-then-previous-ne0-clause-step c).Joined-next-ne0 in
    let cuts : Cuts m n next previous = record {
      one = c.if-next-ne0.memory;
      back = first;
      forth =
          Writes-forth r place there list c.if-next-ne0.memory n c.requires.links.1 c.if-previous-ne0.true c.ranges.next.fits first last.ensures.start last.ensures.bytes
          last.ensures.out;
    } in (
      Links-out m n newest c.args.block next previous r before after place list c.requires.links.0 c.requires.links.1 cuts _ (λ none. absurd (c.if-previous-ne0.true none))
          (λ some. later_is next previous newest some),
      Rewrites-out m n newest c.args.block next previous r before after place list c.requires.links.0 c.requires.links.1 cuts,
    )

pub returns-else-previous-ne0-clause-step : goal.returns-else-previous-ne0-clause-step
returns-else-previous-ne0-clause-step c =
    λ newest r before after place list.
    let m = c.args.memory.now in
    let n = c.if-next-ne0.memory in
    let next = c.args.next in
    let previous = c.args.previous in
    let cuts : Cuts m n next previous = record {
      one = n;
      back = back (goal.at.returns-else-previous-ne0-clause-step c).Joined-next-ne0;
      forth = Writes-none n n (previous ≢ 0) (previous + 16) next refl (λ some. some c.if-previous-ne0.false);
    } in (
      Links-out m n newest c.args.block next previous r before after place list c.requires.links.0 c.requires.links.1 cuts _ (λ none. first_is next previous newest none)
          (λ some. absurd (some c.if-previous-ne0.false)),
      Rewrites-out m n newest c.args.block next previous r before after place list c.requires.links.0 c.requires.links.1 cuts,
    )

-- what the write costs that the block behind gets
pub returns-else-previous-ne0-clause-costs : goal.returns-else-previous-ne0-clause-costs
returns-else-previous-ne0-clause-costs c = elim c.if-next-ne0.branch [
  | then-next-ne0 w ↦
      let write =
      Costs-written c.args.memory.now w.set_word_at.new.self (c.args.next + 24) w.set_word_at.ensures.start w.set_word_at.ensures.len w.set_word_at.ensures.touches
      w.set_word_at.ensures.copied w.set_word_at.ensures.view w.set_word_at.ensures.out in
      Costs-within (behind_touches c.args.next c.args.previous w.if-next-ne0.true) (Costs-then write (Costs-same _ _ w.memory-is))
  | else-next-ne0 w ↦ Costs-within (omega arith) (Costs-same _ _ w.memory-is)
]

pub returns-then-previous-ne0-clause-costs : goal.returns-then-previous-ne0-clause-costs
returns-then-previous-ne0-clause-costs c =
    let last = c.set_word_at-then-previous-ne0 in
    let second =
    Costs-written c.if-next-ne0.memory last.new.self (c.args.previous + 16) last.ensures.start last.ensures.len last.ensures.touches last.ensures.copied last.ensures.view
    last.ensures.out in
    elim c.if-next-ne0.branch [
      | then-next-ne0 w ↦
          let write =
          Costs-written c.args.memory.now w.set_word_at.new.self (c.args.next + 24) w.set_word_at.ensures.start w.set_word_at.ensures.len w.set_word_at.ensures.touches
          w.set_word_at.ensures.copied w.set_word_at.ensures.view w.set_word_at.ensures.out in
          Costs-within (both_touches c.args.next c.args.previous w.if-next-ne0.true c.if-previous-ne0.true) (Costs-then (Costs-then write (Costs-same _ _ w.memory-is)) second)
      | else-next-ne0 w ↦ Costs-within (before_touches c.args.next c.args.previous c.if-previous-ne0.true) (Costs-then (Costs-same _ _ w.memory-is) second)
    ]
