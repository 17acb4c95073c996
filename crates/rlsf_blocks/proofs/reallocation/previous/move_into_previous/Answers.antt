use Rattle.std.proofs.Common.{◌≡◌, ◌-◌, ◌≤◌, None, rules, arith, refl, ◌∙◌, ap, sym}
use Rattle.rlsf_base.specs.Range.{end_of, range_at}
use Rattle.rlsf_base.specs.OpenSpace.{IsHere}
use Rattle.rlsf_base.proofs.Lending.Present.{here-same}
use Rattle.rlsf_model.specs.Join.{ends_at}
use Rattle.rlsf_model.specs.Lists.{without}
use Rattle.rlsf_model.specs.Reallocate.{in_place, into_previous}
use Rattle.rlsf_model.specs.State.{State, Used, between, usable}
use Rattle.rlsf_blocks.specs.StandsFor.{contents, StandsFor}
use Rattle.rlsf_blocks.specs.Steps.Join.{union, untouched}
use Rattle.rlsf_blocks.specs.Steps.Resize.{IsUsedAt}
use Rattle.rlsf_blocks.proofs.Deallocate.Marks.{IsMarked-behind}
use Rattle.rlsf_blocks.proofs.Deallocate.Releases.{end_computed, word_computed}
use Rattle.rlsf_blocks.proofs.RepresentedStates.Counted.{StandsFor-counted}
use Rattle.rlsf_table.proofs.Words.Writes.{Writes-none}
use Rattle.rlsf_blocks.proofs.Words.NeverOut.{used_word}
use Rattle.rlsf_blocks.proofs.Reallocate.PreviousPlans.{AreOut, are_units, here_moved, IsHere-payload, IsOwned-moved, IsUsedBlock-from, IsWritable-pad, LiesIn-moved, LiesIn-payload}
use Rattle.rlsf_blocks.proofs.Reallocate.PreviousPlans.{moved_to, padded, part, payload_within, room, sixteen-le, stays_moved, total_is, total-fits, union_begins}
use Rattle.rlsf_blocks.proofs.Words.Apart.{used_in_memory}
use Rattle.rlsf_blocks.proofs.Words.Stays.{Stays-same}
use Rattle.rlsf_table.proofs.Words.Writing.{wrote, wrote_there}
use Rattle.rlsf_blocks.proofs.Refused.{none_none, none_some}
use mathlib.Core.Path.{ap₂}
use Rattle.rlsf_base.specs.declared.memory.range.Range.{Range}
use Rattle.rlsf_table.specs.Counts.{Costs, Counts}
use Rattle.rlsf_blocks.proofs.Counting.{Counts-counted_first, Counts-loaded, copied-more}
use Rattle.rlsf_table.proofs.Costs.{Costs-counted, Costs-then, Costs-within, Costs-written}
use Rattle.rlsf_blocks.proofs.Allocate.Rests.{IsSpanRoom-inner}
use Rattle.rlsf_blocks.proofs.Reallocate.Copies.{Costs-copied, Costs-moving, copied-costs}
use Rattle.rlsf_blocks.proofs.reallocation.previous.move_into_previous.Given as given
use Rattle.rlsf_blocks.proofs.reallocation.previous.move_into_previous.Goals as goal
use Rattle.rlsf_blocks.proofs.reallocation.previous.move_into_previous.Goals.{After-load_at, After-used_end-end, After-take_if_free-next, In_ok-moved, After-occupy, After-place_before}

pub load_at-requires-clause-place : goal.load_at-requires-clause-place
load_at-requires-clause-place g c =
    let (s, u, v, used, short, here) = c.requires.used in
    used_word v u used.is_used c.args.block used.start

-- where a used block ends, by the word that was read, and the state that the memory represents then
ends : (g : given.Over) (c : After-used_end-end g) {s : State} {u : Used} → StandsFor g.row.FLLEN g.row.SLLEN (contents c.args.memory.now c.args.table.now) s
    → IsUsedAt s u c.args.block c.args.payload c.args.layout.align → end_of u.block ≡ c.used_end-end.result
ends g c {u = u} v used = end_computed v u used.is_used used.start c.load_at.ensures.word ∙ sym c.used_end-end.ensures

loaded : (g : given.Over) (c : After-load_at g) {s : State} → StandsFor g.row.FLLEN g.row.SLLEN (contents c.args.memory.now c.args.table.now) s
    → StandsFor g.row.FLLEN g.row.SLLEN (contents c.load_at.new.self c.args.table.now) s
loaded g c v = StandsFor-counted c.args.memory.now c.load_at.new.self c.load_at.ensures.start c.load_at.ensures.bytes c.load_at.ensures.out v

pub used_end-end-requires : goal.used_end-end-requires
used_end-end-requires g c =
    let (s, u, v, used, short, here) = c.requires.used in
    record {
      used = omega (arith, word_computed v u used.is_used used.start c.load_at.ensures.word);
      fits = omega (arith, end_computed v u used.is_used used.start c.load_at.ensures.word, used_in_memory v.well_formed u used.is_used, v.well_formed.addressable);
    }

pub place_before-requires-clause-used : goal.place_before-requires-clause-used
place_before-requires-clause-used g c =
    let (s, u, v, used, short, here) = c.requires.used in
    let at = goal.at.place_before-requires-clause-used g c in
    (g.row.FLLEN, g.row.SLLEN, c.args.table.now, s, u, loaded g at.After-load_at v, IsUsedBlock-from used (ends g at.After-used_end-end v used))

-- ---- what is counted: the word that is read, and then the search for a place

sought : (g : given.Over) (c : After-place_before g) → Counts c.args.memory.now c.place_before.new.memory 4
sought g c =
    Counts-counted_first c.args.memory.now c.load_at.new.self c.place_before.new.memory 1 3
    (Counts-loaded c.args.memory.now c.load_at.new.self c.load_at.ensures.start c.load_at.ensures.bytes c.load_at.ensures.touches c.load_at.ensures.copied
    c.load_at.ensures.view c.load_at.ensures.out) c.place_before.ensures.counts

-- ---- the payload fits nowhere before it

pub returns-in_err-moved : goal.returns-in_err-moved
returns-in_err-moved g c =
    let at = goal.at.returns-in_err-moved g c in
    let m = c.args.memory.now in
    let n = c.place_before.new.memory in
    let counts = sought g at.After-place_before in
    let stays = Stays-same m n counts.start counts.out in
    record {
      moved = λ s u v used short here. none_some _ c.from_residual.result c.from_residual.ensures;
      refused = λ s u v used short. none_none {P = into_previous s u c.args.layout.size ≡ None} c.from_residual.result
          (c.in_err-moved.ensures.place g.row.FLLEN g.row.SLLEN c.args.table.now s u (loaded g at.After-load_at v)
          (IsUsedBlock-from used (ends g at.After-used_end-end v used)));
      unchanged = none_none {P = Counts m n 4 × (c.args.table.now ≡ c.args.table.now)} c.from_residual.result (counts, refl);
      costs = Costs-moving (omega (arith, counts.copied)) (Costs-within (omega arith) (Costs-counted counts));
      copied = λ s u v used. copied-more m n (usable u).len counts.copied;
      own = stays.own;
      here = stays.here;
      kept_here = λ s u v used short here. none_some _ c.from_residual.result c.from_residual.ensures;
    }

-- ---- it fits, and the free blocks before it and behind it are taken out

stood : (g : given.Over) (c : In_ok-moved g) {s : State} → StandsFor g.row.FLLEN g.row.SLLEN (contents c.args.memory.now c.args.table.now) s
    → StandsFor g.row.FLLEN g.row.SLLEN (contents c.place_before.new.memory c.args.table.now) s
stood g c v =
    let counts = c.place_before.ensures.counts in
    StandsFor-counted c.load_at.new.self c.place_before.new.memory counts.start counts.bytes counts.out
    (StandsFor-counted c.args.memory.now c.load_at.new.self c.load_at.ensures.start c.load_at.ensures.bytes c.load_at.ensures.out v)

pub take_previous-start-requires : goal.take_previous-start-requires
take_previous-start-requires g c =
    let (s, u, v, used, short, here) = c.requires.used in
    (omega arith, (c.requires.parameters, ((s, u, stood g (goal.at.take_previous-start-requires g c).In_ok-moved v, used.is_used, used.start), search rules)))

pub take_if_free-next-requires : goal.take_if_free-next-requires
take_if_free-next-requires g c =
    let (s, u, v, used, short, here) = c.requires.used in
    let at = goal.at.take_if_free-next-requires g c in
    let v0 = stood g at.In_ok-moved v in
    let out = c.take_previous-start.ensures.step s u v0 used.is_used used.start in
    let marked = IsMarked-behind v0 u used.is_used used.start out _ (ends g at.After-used_end-end v used) in
    (omega arith, (c.requires.parameters, ((without (ends_at c.args.block) s.free, out.list, marked), search rules)))

abbrev Outs : (g : given.Over) (c : After-take_if_free-next g) → State → Used → Type 0
Outs g c s u =
    AreOut g.row.FLLEN g.row.SLLEN c.args.memory.now c.place_before.new.memory c.args.table.now s u c.args.block c.used_end-end.result c.args.payload c.args.layout.align
    c.args.layout.size c.in_ok-moved.moved c.in_ok-moved.taken c.take_previous-start.new.memory c.take_if_free-next.new.memory c.take_previous-start.new.table
    c.take_if_free-next.new.table c.take_previous-start.result c.take_if_free-next.result

outs : (g : given.Over) (c : After-take_if_free-next g) → Counts c.args.memory.now c.place_before.new.memory 4 → {s : State} {u : Used}
    → StandsFor g.row.FLLEN g.row.SLLEN (contents c.args.memory.now c.args.table.now) s → IsUsedAt s u c.args.block c.args.payload c.args.layout.align
    → in_place s u c.args.layout.size ≡ None → IsHere c.args.memory.now (usable u) → Outs g c s u
outs g c counts {s} {u} v used short here =
    let m = c.args.memory.now in
    let read = StandsFor-counted m c.load_at.new.self c.load_at.ensures.start c.load_at.ensures.bytes c.load_at.ensures.out v in
    let v0 = StandsFor-counted m c.place_before.new.memory counts.start counts.bytes counts.out v in
    let end = end_computed v u used.is_used used.start c.load_at.ensures.word ∙ sym c.used_end-end.ensures in
    let out = c.take_previous-start.ensures.step s u v0 used.is_used used.start in
    record {
      counts = (counts.start, counts.bytes, counts.out);
      stands = v0;
      used = used;
      is_end = end;
      short = short;
      here = here-same m c.place_before.new.memory (usable u) counts.start counts.out here;
      plan = c.in_ok-moved.ensures.place g.row.FLLEN g.row.SLLEN c.args.table.now s u read (IsUsedBlock-from used end);
      out = out;
      more = c.take_if_free-next.ensures.step (without (ends_at c.args.block) s.free) out.list (IsMarked-behind v0 u used.is_used used.start out _ end);
    }

-- for the block that the caller has
ours : (g : given.Over) (c : After-take_if_free-next g) → Counts c.args.memory.now c.place_before.new.memory 4 → (s : State) × (u : Used) × Outs g c s u
ours g c counts = let (s, u, v, used, short, here) = c.requires.used in (s, u, outs g c counts v used short here)

-- ---- the payload is copied

pub overflow_sub-end : goal.overflow_sub-end
overflow_sub-end g c =
    let at = goal.at.overflow_sub-end g c in
    let (s, u, are) = ours g at.After-take_if_free-next (sought g at.After-place_before) in
    payload_within are

pub copy_payload-requires : goal.copy_payload-requires
copy_payload-requires g c =
    let at = goal.at.copy_payload-requires g c in
    let (s, u, are) = ours g at.After-take_if_free-next (sought g at.After-place_before) in
    record {
      from = LiesIn-payload are;
      here = IsHere-payload are;
      own = IsOwned-moved are;
      to = LiesIn-moved are;
      view = search rules;
      units = are_units are;
      whole = λ is. are.more.rewrites.none (are.out.rewrites.none (c.place_before.ensures.counts.out ∙ c.load_at.ensures.out ∙ c.requires.whole is));
    }

-- ---- the block is made

pub overflow_sub-end-2 : goal.overflow_sub-end-2
overflow_sub-end-2 g c =
    let at = goal.at.overflow_sub-end-2 g c in
    let (s, u, are) = ours g at.After-take_if_free-next (sought g at.After-place_before) in
    (total_is are).0

pub overflow_add-end : goal.overflow_add-end
overflow_add-end g c =
    let at = goal.at.overflow_add-end g c in
    let (s, u, are) = ours g at.After-take_if_free-next (sought g at.After-place_before) in
    record { fits = total-fits are }

pub occupy-requires : goal.occupy-requires
occupy-requires g c =
    let at = goal.at.occupy-requires g c in
    let (s, u, are) = ours g at.After-take_if_free-next (sought g at.After-place_before) in
    let inner = room are c.copy_payload.ensures.start c.copy_payload.ensures.bytes c.copy_payload.ensures.out in
    let total = (total_is are).1 in (
      omega arith,
      (
        c.requires.parameters,
        ((untouched u.block s.free, union u.block s.free, union_begins are, total, IsSpanRoom-inner c.in_ok-moved.taken inner), (part are, search rules)),
      ),
    )

pub overflow_sub-moved : goal.overflow_sub-moved
overflow_sub-moved g c =
    let at = goal.at.overflow_sub-moved g c in
    let (s, u, are) = ours g at.After-take_if_free-next (sought g at.After-place_before) in
    omega (arith, sixteen-le are)

pub set_word_at-requires-clause-place : goal.set_word_at-requires-clause-place
set_word_at-requires-clause-place g c =
    let at = goal.at.set_word_at-requires-clause-place g c in
    let (s, u, are) = ours g at.After-take_if_free-next (sought g at.After-place_before) in
    IsWritable-pad are c.copy_payload.ensures.start c.copy_payload.ensures.bytes c.copy_payload.ensures.out c.occupy.ensures.step
    (omega (arith, c.align-wide.ensures.value, c.if-wide.true))

-- what it costs until then
occupied : (g : given.Over) (c : After-occupy g) → Counts c.args.memory.now c.place_before.new.memory 4
    → Costs c.args.memory.now c.occupy.new.memory 36 (c.used_end-end.result - c.args.payload)
occupied g c counts =
    let copy = c.copy_payload.ensures in
    let copied =
    Costs-copied c.take_if_free-next.new.memory c.copy_payload.new.memory (range_at c.in_ok-moved.moved (c.used_end-end.result - c.args.payload)) copy.start copy.len
    copy.touches copy.copied copy.view copy.out in
    let taken = Costs-then (Costs-then (Costs-counted counts) c.take_previous-start.ensures.costs) c.take_if_free-next.ensures.costs in
    Costs-moving (omega arith) (Costs-then (Costs-then taken copied) c.occupy.ensures.costs)

-- as many bytes are copied as the payload has
long : (g : given.Over) (c : After-used_end-end g) {s : State} {u : Used} → StandsFor g.row.FLLEN g.row.SLLEN (contents c.args.memory.now c.args.table.now) s
    → IsUsedAt s u c.args.block c.args.payload c.args.layout.align → c.used_end-end.result - c.args.payload ≡ (usable u).len
long g c v used = ap (λ (r : Range). r.len) (ap₂ (λ from to. between from to) (sym used.caller) (sym (ends g c v used)))

pub returns-then-wide : goal.returns-then-wide
returns-then-wide g c =
    let at = goal.at.returns-then-wide g c in
    let counts = sought g at.After-place_before in
    let copy = c.copy_payload.ensures in
    let write = c.set_word_at.ensures in
    let o = c.occupy.new.memory in
    let n = c.set_word_at.new.self in
    let pad = c.in_ok-moved.moved - 8 in
    let wide : 32 ≤ c.args.layout.align = omega (arith, c.align-wide.ensures.value, c.if-wide.true) in
    let written = wrote o n pad c.take_previous-start.result write.bytes (omega arith) (omega arith) in
    let there = wrote_there o n pad write.out (omega arith) in
    let costs : Costs c.args.memory.now n 37 (c.used_end-end.result - c.args.payload) =
    Costs-moving (omega arith)
    (Costs-then (occupied g at.After-occupy counts) (Costs-written o n pad write.start write.len write.touches write.copied write.view write.out)) in
    let (s, u, ours) = ours g at.After-take_if_free-next counts in
    let named = padded ours copy.start copy.bytes copy.out c.occupy.ensures.step n wide write.start written there in
    let stays = stays_moved ours copy.start copy.bytes copy.out c.occupy.ensures.step named in
    record {
      moved = λ s u v used short here.
          let are = outs g at.After-take_if_free-next counts v used short here in
          moved_to are copy.start copy.bytes copy.out c.occupy.ensures.step (padded are copy.start copy.bytes copy.out c.occupy.ensures.step n wide write.start written there);
      refused = λ s u v used short. tt;
      unchanged = tt;
      costs = Costs-moving (omega (arith, costs.copied)) costs;
      copied = λ s u v used. copied-costs costs (long g at.After-used_end-end v used);
      own = stays.own;
      here = stays.here;
      kept_here = λ s u v used short here.
          let are = outs g at.After-take_if_free-next counts v used short here in
          here_moved are copy.start copy.bytes copy.out c.occupy.ensures.step (padded are copy.start copy.bytes copy.out c.occupy.ensures.step n wide write.start written there);
    }

pub returns-else-wide : goal.returns-else-wide
returns-else-wide g c =
    let at = goal.at.returns-else-wide g c in
    let counts = sought g at.After-place_before in
    let copy = c.copy_payload.ensures in
    let narrow : ¬ (32 ≤ c.args.layout.align) = λ wide. omega (arith, c.align-wide.ensures.value, c.if-wide.false) in
    let padded = Writes-none c.occupy.new.memory c.occupy.new.memory (32 ≤ c.args.layout.align) (c.in_ok-moved.moved - 8) c.take_previous-start.result refl narrow in
    let costs = occupied g at.After-occupy counts in
    let (s, u, ours) = ours g at.After-take_if_free-next counts in
    let stays = stays_moved ours copy.start copy.bytes copy.out c.occupy.ensures.step padded in
    record {
      moved = λ s u v used short here.
          moved_to (outs g at.After-take_if_free-next counts v used short here) copy.start copy.bytes copy.out c.occupy.ensures.step padded;
      refused = λ s u v used short. tt;
      unchanged = tt;
      costs = Costs-moving (omega (arith, costs.copied)) (Costs-within (omega arith) costs);
      copied = λ s u v used. copied-costs costs (long g at.After-used_end-end v used);
      own = stays.own;
      here = stays.here;
      kept_here = λ s u v used short here.
          here_moved (outs g at.After-take_if_free-next counts v used short here) copy.start copy.bytes copy.out c.occupy.ensures.step padded;
    }
