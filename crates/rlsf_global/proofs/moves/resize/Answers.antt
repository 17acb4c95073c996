use Rattle.std.proofs.Common.{rules, min, ap, true≢false, ◌∙◌, ◌≡◌, ◌≤◌, ◌+◌, Some, None, IsSome, Option, refl, subst, sym}
use Rattle.std.specs.declared.num.NonZeroUsize.{NonZeroUsize}
use Rattle.rlsf_base.specs.Addr.{at, reply}
use Rattle.rlsf_flex.specs.StandsFor.{FlexSteps}
use Rattle.rlsf_tlsf.specs.Results.{IsReallocated}
use Rattle.rlsf_global.specs.Steps.Moves.{StaysRefused}
use Rattle.rlsf_model_global.specs.Pages.{MayOwe}
use Rattle.rlsf_global.proofs.KeptMemories.{copied_at_most, kept_reallocated}
use Rattle.rlsf_global.proofs.MovedPayloads.{reallocated, reallocated_left, reallocated_stands}
use Rattle.rlsf_global.proofs.Placements.{refusal_made, refusal_stays}
use Rattle.rlsf_global.proofs.Results.{for_none, for_some, none_of, some_of}
use Rattle.rlsf_model.specs.FlexReallocate.{FlexReallocates}
use Rattle.rlsf_model.proofs.CallerWords.{align_at-some}
use Rattle.rlsf_model_global.specs.Cursor.{PageLeads, terms_of}
use Rattle.rlsf_global.proofs.moves.resize.Given as given
use Rattle.rlsf_global.proofs.moves.resize.Goals as goal
use Rattle.rlsf_global.proofs.moves.resize.Goals.{After-move_away}

-- the allocator's reallocation with its result
steps_with : (g : given.Over) (c : goal.After-reallocate g) (o : Option NonZeroUsize) → c.reallocate.result ≡ o
    → FlexSteps 64 64 terms_of MayOwe PageLeads c.args.flex.now c.reallocate.new.self
    (FlexReallocates 64 64 (terms_of c.args.flex.now.source) c.args.flex.now.state (at c.args.addr) c.args.wanted.size (reply o))
steps_with g c o is = subst
    (λ o. FlexSteps 64 64 terms_of MayOwe PageLeads c.args.flex.now c.reallocate.new.self
    (FlexReallocates 64 64 (terms_of c.args.flex.now.source) c.args.flex.now.state (at c.args.addr) c.args.wanted.size (reply o)))
    is c.reallocate.ensures.step

-- where it is refused, nothing changed
stays : (g : given.Over) (c : goal.After-reallocate g) → c.reallocate.result ≡ None → StaysRefused c.args.flex.now c.reallocate.new.self
stays g c none =
    let is = none_of c.reallocate.result none c.reallocate.ensures.refused in
    refusal_stays c.args.flex.now c.reallocate.new.self _ (steps_with g c None none) (λ notes step. (_, step.asks.extends)) is.same is.bytes

pub returns-then-ENABLE_REALLOCATION : goal.returns-then-ENABLE_REALLOCATION
returns-then-ENABLE_REALLOCATION g c = record {
  step = for_some c.reallocate.result (λ to some rows. rw (← c.if-ENABLE_REALLOCATION.ensures)
      (reallocated c.args.flex.now c.reallocate.new.self (at c.args.addr) c.args.wanted to (steps_with g c (Some to) some) rows));
  moved = for_some c.reallocate.result (λ to some.
      let old = c.args.flex.now in
      let new = c.reallocate.new.self in
      let addr = at c.args.addr in
      let did = c.reallocate.ensures in
      let steps = steps_with g c (Some to) some in
      let live = align_at-some old.state.machine addr (subst IsSome (sym c.requires.live) refl) in
      let is = some_of (λ to. IsReallocated old.state.machine new.state.machine addr c.args.wanted.size c.args.wanted.align (at to)) c.reallocate.result to some did.result in
      record {
        stands = reallocated_stands old new addr c.args.wanted to steps;
        live = is.live;
        sized = is.sized;
        few = is.few;
        new = is.new;
        left = reallocated_left old new addr c.args.wanted to steps c.requires.stands live;
        aligns = is.aligns;
        bytes = is.bytes;
      });
  none = for_none c.reallocate.result (λ none rows. rw (← c.if-ENABLE_REALLOCATION.ensures)
      (refusal_made c.args.flex.now c.reallocate.new.self _ (steps_with g c None none) (stays g c none) rows));
  refused = for_none c.reallocate.result (stays g c);
  touches = record {
    room = λ on room. c.reallocate.ensures.touches room;
    elsewhere = λ off some. absurd (true≢false (c.if-ENABLE_REALLOCATION.ensures ∙ off));
  };
  frame = record {
    memory =
        kept_reallocated c.args.flex.now c.reallocate.new.self (at c.args.addr) c.args.wanted.size (reply c.reallocate.result) c.reallocate.ensures.step;
    grow = search rules;
    copied = record {
      grow = c.reallocate.ensures.frame.grow_copied;
      room = λ on room. c.reallocate.ensures.frame.copied room;
      stays = λ on room. c.reallocate.ensures.frame.stays room;
      elsewhere = λ off. absurd (true≢false (c.if-ENABLE_REALLOCATION.ensures ∙ off));
    };
  };
}

-- the move copies at most the bytes of the smaller size
few_copied : (g : given.Over) (c : After-move_away g)
    → (c.args.flex.now.memory.copied ≤ c.move_away.new.flex.memory.copied)
    × (c.move_away.new.flex.memory.copied ≤ c.args.flex.now.memory.copied + c.min-keep.result)
few_copied g c =
    copied_at_most c.move_away.result c.args.flex.now.memory.copied c.move_away.new.flex.memory.copied c.min-keep.result c.move_away.ensures.frame.copied
    c.move_away.ensures.frame.copied_none

pub returns-else-ENABLE_REALLOCATION : goal.returns-else-ENABLE_REALLOCATION
returns-else-ENABLE_REALLOCATION g c = record {
  step = search rules;
  moved = search rules;
  none = for_none c.move_away.result (λ none rows. rw (← c.if-ENABLE_REALLOCATION.ensures) (none_of c.move_away.result none c.move_away.ensures.none rows));
  refused = search rules;
  touches = record {
    room = λ on room. absurd (true≢false (sym on ∙ sym c.if-ENABLE_REALLOCATION.ensures));
    elsewhere = λ off some. c.move_away.ensures.touches some;
  };
  frame =
      let (more, few) = few_copied g (goal.at.returns-else-ENABLE_REALLOCATION g c).After-move_away in record {
        memory = c.move_away.ensures.frame.memory;
        grow = c.move_away.ensures.frame.grow;
        copied = record {
          grow = more;
          room = λ on room. absurd (true≢false (sym on ∙ sym c.if-ENABLE_REALLOCATION.ensures));
          stays = λ on room. absurd (true≢false (sym on ∙ sym c.if-ENABLE_REALLOCATION.ensures));
          elsewhere = λ off. subst (λ n. c.move_away.new.flex.memory.copied ≤ c.args.flex.now.memory.copied + n)
              (c.min-keep.ensures ∙ ap (λ n. min n c.size-else-ENABLE_REALLOCATION.result) c.size.ensures.value
              ∙ ap (min c.args.layout.size) c.size-else-ENABLE_REALLOCATION.ensures.value)
              few;
        };
      };
}
