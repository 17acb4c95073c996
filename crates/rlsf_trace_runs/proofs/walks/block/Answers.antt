use mathlib.Core.Path.{ap₂}
use Rattle.std.proofs.Common.{arith, length, Some, None, true≢false, refl, sym, ◌∙◌, ap, subst, ◌<◌, ◌^◌}
use Rattle.std.specs.Option.{option_map}
use Rattle.rlsf_base.specs.Range.{LiesIn, end_of}
use Rattle.rlsf_base.specs.Space.{range_of}
use Rattle.rlsf_model.specs.ChunkRows.{IsRow}
use Rattle.rlsf_blocks.specs.Blocks.{AreBlocks, walked}
use Rattle.rlsf_trace_text.specs.declared.op.Answer.TheVariants.{Block as Told, Refused}
use Rattle.rlsf_trace_text.specs.declared.op.Op.TheVariants.{Block}
use Rattle.rlsf_trace_text.specs.declared.op.TraceError.TheVariants.{BadRange}
use Rattle.rlsf_tlsf.proofs.Standing.{at_state, of_state}
use Rattle.rlsf_trace_runs.specs.Runs.{told_of}
use Rattle.rlsf_trace_runs.proofs.NamedPayloads.{LeadsOn-nothing}
use Rattle.rlsf_trace_runs.proofs.Walked.{IsRow-walked, MayWalk-tables, MayWalk-tested, nth-list}
use Rattle.rlsf_trace_runs.proofs.walks.block.Goals as goal

pub may_walk-requires-clause-inside : goal.may_walk-requires-clause-inside
may_walk-requires-clause-inside g c =
    let (s, at) = c.requires in
    λ p i. subst (λ m. LiesIn p m.start (length m.bytes)) (sym c.memory_ref.ensures.memory) (at.inside p i)

pub returns-then-not-may_walk : goal.returns-then-not-may_walk
returns-then-not-may_walk g c = λ s at.
    LeadsOn-nothing at (Block c.args.range c.args.index) (Refused BadRange)
    (λ may. true≢false (sym (c.may_walk.ensures.1 (MayWalk-tables at c.args.range c.memory_ref.ensures.memory may)) ∙ c.if-not-may_walk.true), refl)

pub iter_blocks-requires : goal.iter_blocks-requires
iter_blocks-requires g c =
    let (s, at) = c.requires in
    let may = MayWalk-tested at c.args.range c.memory_ref.ensures.memory (c.may_walk.ensures.0 c.if-not-may_walk.false) in
    (omega arith, of_state at.stands (λ x. IsRow x (walked c.args.range)) (IsRow-walked at c.args.range may))

pub returns-in-Some : goal.returns-in-Some
returns-in-Some g c = λ s at.
    let r = c.args.range in
    let may = MayWalk-tested at r c.memory_ref.ensures.memory (c.may_walk.ensures.0 c.if-not-may_walk.false) in
    let bs = c.iter_blocks.result in
    let are = at_state at.stands (λ x. AreBlocks x (walked r) bs) c.iter_blocks.ensures.blocks in
    let is = nth-list c.args.index bs c.nth.new.self c.nth.result c.nth.ensures.ran in
    let pair = ap₂ (λ range used. (range, used)) c.as_ptr.ensures c.is_occupied.ensures in
    let told = ap Some pair ∙ ap (option_map told_of) (sym c.in-Some.is ∙ is) in
    LeadsOn-nothing at (Block r c.args.index) (Told (Some (c.as_ptr.result, c.is_occupied.result))) (may, bs, are, told, refl)

pub returns-in-None : goal.returns-in-None
returns-in-None g c = λ s at.
    let r = c.args.range in
    let may = MayWalk-tested at r c.memory_ref.ensures.memory (c.may_walk.ensures.0 c.if-not-may_walk.false) in
    let bs = c.iter_blocks.result in
    let are = at_state at.stands (λ x. AreBlocks x (walked r) bs) c.iter_blocks.ensures.blocks in
    let is = nth-list c.args.index bs c.nth.new.self c.nth.result c.nth.ensures.ran in
    LeadsOn-nothing at (Block r c.args.index) (Told None) (may, bs, are, ap (option_map told_of) (sym c.in-None.is ∙ is), refl)

pub may_walk-requires-clause-in_runs : goal.may_walk-requires-clause-in_runs
may_walk-requires-clause-in_runs g c =
    let (s, at) = c.requires in
    at.in_runs

pub may_walk-requires-clause-apart : goal.may_walk-requires-clause-apart
may_walk-requires-clause-apart g c =
    let (s, at) = c.requires in
    at.apart

pub may_walk-requires-clause-addressable : goal.may_walk-requires-clause-addressable
may_walk-requires-clause-addressable g c =
    let (s, at) = c.requires in
    subst (λ m. end_of (range_of m) < 2 ^ 64) (sym c.memory_ref.ensures.memory) at.stands.stands.well_formed.addressable
