use Rattle.std.proofs.Common.{◌≡◌, ℕ, ◌-◌, ◌%◌, ◌≤◌, ◌⊎◌, List, Option, Some, None, MatchOption, arith, refl, sym, ◌∙◌, ap, subst, inr, length, rules}
use mathlib.Core.Path.{ap₂}
use Rattle.rlsf_base.specs.declared.memory.range.Range.{Range}
use Rattle.rlsf_base.specs.Range.{end_of, range_at, LiesIn}
use Rattle.rlsf_base.specs.OpenSpace.{IsHere, IsOwned, SameOwn, StaysHere}
use Rattle.rlsf_base.proofs.Lending.Present.{out-same, own-same}
use Rattle.rlsf_model.specs.Allocate.{Places}
use Rattle.rlsf_model.specs.Lists.{IsIn}
use Rattle.rlsf_model.specs.Reallocate.{in_place}
use Rattle.rlsf_model.proofs.Payloads.{IsUsed-after_start}
use Rattle.rlsf_model.specs.Release.{released}
use Rattle.rlsf_model.specs.State.{State, Used, between, usable}
use Rattle.rlsf_blocks.specs.Spare.{KeepsSpare}
use Rattle.rlsf_blocks.specs.StandsFor.{contents, StandsFor}
use Rattle.rlsf_blocks.specs.Steps.Resize.{IsUsedAt}
use Rattle.rlsf_blocks.proofs.Deallocate.Releases.{end_computed, word_computed}
use Rattle.rlsf_blocks.proofs.RepresentedStates.Counted.{KeepsSpare-counted_first, StandsFor-counted}
use Rattle.rlsf_blocks.proofs.Words.NeverOut.{used_word}
use Rattle.rlsf_blocks.proofs.Reallocate.Elsewhere.{are_units, both, copied_stands, IsCopied, IsOwned-new, IsOwned-old, KeepsSpare-copied, LiesIn-new, LiesIn-old, MovesAway-copied}
use Rattle.rlsf_blocks.proofs.Words.Apart.{used_in_memory}
use Rattle.rlsf_blocks.proofs.Words.Stays.{Stays, Stays-same, Stays-then}
use Rattle.rlsf_table.specs.Counts.{Costs}
use Rattle.rlsf_blocks.proofs.Counting.{Counts-counted_first, Counts-loaded, copied-more}
use Rattle.rlsf_table.proofs.Costs.{Costs-counted, Costs-loaded, Costs-then, Costs-within}
use Rattle.rlsf_blocks.proofs.Refused.{none_none, none_some}
use Rattle.rlsf_blocks.proofs.Reallocate.Copies.{Costs-copied, Costs-moving, copied-costs}
use Rattle.rlsf_blocks.proofs.reallocation.elsewhere.move_elsewhere.Given as given
use Rattle.rlsf_blocks.proofs.reallocation.elsewhere.move_elsewhere.Goals as goal
use Rattle.rlsf_blocks.proofs.reallocation.elsewhere.move_elsewhere.Goals.{After-copy_payload, After-deallocate_block, After-load_at, In_ok-moved}

-- what holds where nothing was returned
on_none : {A P : Type 0} (Q : A → Type 0) (o : Option A) → o ≡ None → P → MatchOption o P Q
on_none Q None e holds = holds
on_none Q (Some x) e holds = absurd (cc)

-- the memory whose word was read represents the same states
loaded : (g : given.Over) (c : After-load_at g) {s : State} → StandsFor g.row.FLLEN g.row.SLLEN (contents c.args.memory.now c.args.table.now) s
    → StandsFor g.row.FLLEN g.row.SLLEN (contents c.load_at.new.self c.args.table.now) s
loaded g c v = StandsFor-counted c.args.memory.now c.load_at.new.self c.load_at.ensures.start c.load_at.ensures.bytes c.load_at.ensures.out v

-- a block is allocated for it
placing : (g : given.Over) (c : In_ok-moved g) (s : State) (u : Used) → StandsFor g.row.FLLEN g.row.SLLEN (contents c.args.memory.now c.args.table.now) s
    → IsUsedAt s u c.args.block c.args.payload u.align
    → (t : State) × Places g.row.SLLEN s c.args.layout.size c.args.layout.align c.in_ok-moved.moved t
    × StandsFor g.row.FLLEN g.row.SLLEN (contents c.allocate_block.new.memory c.allocate_block.new.table) t × KeepsSpare c.args.memory.now s c.allocate_block.new.memory t
placing g c s u v is =
    let before = c.load_at.ensures in
    let (t, places, now, spare) = c.in_ok-moved.ensures.step s (StandsFor-counted c.args.memory.now c.load_at.new.self before.start before.bytes before.out v) in (
      t,
      places,
      now,
      KeepsSpare-counted_first c.args.memory.now c.load_at.new.self before.start before.bytes before.out s t c.allocate_block.new.memory spare,
    )

-- what the memory's own is stays, and what is here
still : (g : given.Over) (c : In_ok-moved g) → SameOwn c.args.memory.now c.allocate_block.new.memory × StaysHere c.args.memory.now c.allocate_block.new.memory
still g c =
    let before = c.load_at.ensures in
    let n = c.load_at.new.self in (
      λ a inside. c.in_ok-moved.ensures.own a (omega (arith, before.start)) ∙ own-same c.args.memory.now n before.start before.out a inside,
      λ a inside is. c.in_ok-moved.ensures.here a (omega (arith, before.start)) (out-same c.args.memory.now n a before.start before.out ∙ is),
    )

-- what is copied is the old payload
old_payload : (g : given.Over) (c : In_ok-moved g) {s : State} (u : Used) → StandsFor g.row.FLLEN g.row.SLLEN (contents c.args.memory.now c.args.table.now) s
    → IsUsedAt s u c.args.block c.args.payload u.align
    → range_at c.args.payload (c.used_end-end.result - c.args.payload) ≡ usable u
old_payload g c u v is = ap₂ (λ from to. between from to) (sym is.caller) (c.used_end-end.ensures ∙ sym (end_computed v u is.is_used is.start c.load_at.ensures.word))

-- it is here still
payload_here : (g : given.Over) (c : In_ok-moved g) {s : State} (u : Used) → StandsFor g.row.FLLEN g.row.SLLEN (contents c.args.memory.now c.args.table.now) s → IsIn u s.used
    → IsHere c.args.memory.now (usable u) → IsHere c.allocate_block.new.memory (usable u)
payload_here g c u v i here a lo hi = (still g c).1 a (omega (arith, lo, (used_in_memory v.well_formed u i).0, IsUsed-after_start u (v.well_formed.used u i))) (here a lo hi)

pub load_at-requires-clause-place : goal.load_at-requires-clause-place
load_at-requires-clause-place g c =
    let (s, u, v, is, short, here) = c.requires.used in
    used_word v u is.is_used c.args.block is.start

pub used_end-end-requires : goal.used_end-end-requires
used_end-end-requires g c =
    let (s, u, v, is, short, here) = c.requires.used in
    record {
      used = omega (arith, word_computed v u is.is_used is.start c.load_at.ensures.word);
      fits = omega (arith, end_computed v u is.is_used is.start c.load_at.ensures.word, used_in_memory v.well_formed u is.is_used, v.well_formed.addressable);
    }

pub allocate_block-requires : goal.allocate_block-requires
allocate_block-requires g c =
    let (s, u, v, is, short, here) = c.requires.used in
    (omega arith, (c.requires.parameters, ((s, loaded g (goal.at.allocate_block-requires g c).After-load_at v), search rules)))

pub copy_payload-requires : goal.copy_payload-requires
copy_payload-requires g c =
    let (s, u, v, is, short, here) = c.requires.used in
    let at = (goal.at.copy_payload-requires g c).In_ok-moved in
    let m = c.allocate_block.new.memory in
    let same = sym (old_payload g at u v is) in
    let (t, places, now, spare) = placing g at s u v is in
    record {
      from = subst (λ r. LiesIn r m.start (length m.bytes)) same (LiesIn-old v.well_formed u is.is_used c.args.layout.size short places now);
      here = subst (IsHere m) same (payload_here g at u v is.is_used here);
      own = subst (λ (r : Range). IsOwned m (range_at c.in_ok-moved.moved r.len)) same
          (IsOwned-new v.well_formed u is.is_used c.args.layout.size short places now c.args.layout.valid.aligned c.args.memory.now c.args.table.now v (still g at).0);
      to = subst (λ (r : Range). LiesIn (range_at c.in_ok-moved.moved r.len) m.start (length m.bytes)) same
          (LiesIn-new v.well_formed u is.is_used c.args.layout.size short places now);
      view = search rules;
      units = subst (λ (r : Range). (r.len % 16 ≡ 0) × ((end_of r ≤ c.in_ok-moved.moved) ⊎ (c.in_ok-moved.moved ≤ r.start))) same
          (are_units v.well_formed u is.is_used c.args.layout.size short places now c.args.layout.valid.aligned);
      whole = λ is. c.in_ok-moved.ensures.costs.none (c.load_at.ensures.out ∙ c.requires.whole is);
    }

-- the bytes are copied there
copying : (g : given.Over) (c : After-copy_payload g) → SameOwn c.args.memory.now c.allocate_block.new.memory → {s : State} {u : Used}
    (v : StandsFor g.row.FLLEN g.row.SLLEN (contents c.args.memory.now c.args.table.now) s) (is : IsUsedAt s u c.args.block c.args.payload u.align)
    (short : in_place s u c.args.layout.size ≡ None) {t : State} (places : Places g.row.SLLEN s c.args.layout.size c.args.layout.align c.in_ok-moved.moved t)
    (now : StandsFor g.row.FLLEN g.row.SLLEN (contents c.allocate_block.new.memory c.allocate_block.new.table) t)
    → range_at c.args.payload (c.used_end-end.result - c.args.payload) ≡ usable u
    → (bytes : List ℕ) × IsCopied v.well_formed u is.is_used c.args.layout.size short places now c.copy_payload.new.memory bytes
copying g c own {s} {u} v is short places now old =
    copied_stands v.well_formed u is.is_used c.args.layout.size short places now c.args.layout.valid.aligned c.args.memory.now c.args.table.now v own old
    c.copy_payload.new.memory c.copy_payload.ensures.start c.copy_payload.ensures.bytes c.copy_payload.ensures.out

pub deallocate_block-requires : goal.deallocate_block-requires
deallocate_block-requires g c =
    let (s, u, v, is, short, here) = c.requires.used in
    let at = goal.at.deallocate_block-requires g c in
    let (t, places, now, spare) = placing g at.In_ok-moved s u v is in
    let (bytes, copied) = copying g at.After-copy_payload (still g at.In_ok-moved).0 v is short places now (old_payload g at.In_ok-moved u v is) in
    let there = IsOwned-old v.well_formed u is.is_used c.args.layout.size short places now copied (payload_here g at.In_ok-moved u v is.is_used here) in (
      omega arith,
      (
        c.requires.parameters,
        ((both v.well_formed u is.is_used c.args.layout.size short places now bytes, u, copied.stands, inr is.is_used, is.start, there), search rules),
      ),
    )

-- ---- where it is refused: a word was read, and then nothing was allocated

pub returns-in_err-moved : goal.returns-in_err-moved
returns-in_err-moved g c =
    let m = c.args.memory.now in
    let n = c.allocate_block.new.memory in
    let read = c.load_at.ensures in
    let counts =
    Counts-counted_first m c.load_at.new.self n 1 4
    (Counts-loaded m c.load_at.new.self read.start read.bytes read.touches read.copied read.view read.out) c.in_err-moved.ensures.unchanged.0 in
    let stays = Stays-same m n counts.start counts.out in
    record {
      step = λ s u v is short here.
          let (t, none, now, spare) = c.in_err-moved.ensures.step s (loaded g (goal.at.returns-in_err-moved g c).After-load_at v) in
          on_none _ c.from_residual.result c.from_residual.ensures (none.0, refl);
      unchanged = none_none c.from_residual.result (counts, c.in_err-moved.ensures.unchanged.1);
      costs = Costs-moving (omega (arith, counts.copied)) (Costs-within (omega arith) (Costs-counted counts));
      copied = λ s u v is. copied-more m n (usable u).len counts.copied;
      own = stays.own;
      here = stays.here;
      kept_here = λ s u v is short here. none_some _ c.from_residual.result c.from_residual.ensures;
    }

-- ---- where it moves: a payload that is allocated, a copy and a release

moving : (g : given.Over) (c : After-deallocate_block g) → Costs c.load_at.new.self c.allocate_block.new.memory 27 0
    → Costs c.args.memory.now c.deallocate_block.new.memory 59 (c.used_end-end.result - c.args.payload)
moving g c placed =
    let len = c.used_end-end.result - c.args.payload in
    let read = c.load_at.ensures in
    let copy = c.copy_payload.ensures in
    let copied =
    Costs-copied c.allocate_block.new.memory c.copy_payload.new.memory (range_at c.in_ok-moved.moved len) copy.start copy.len copy.touches copy.copied copy.view copy.out in
    let loaded = Costs-loaded c.args.memory.now c.load_at.new.self read.start read.bytes read.touches read.copied read.view read.out in
    Costs-moving (omega arith) (Costs-then (Costs-then (Costs-then loaded placed) copied) c.deallocate_block.ensures.costs)

pub returns : goal.returns
returns g c =
    let at = goal.at.returns g c in
    let placed = c.in_ok-moved.ensures.costs in
    let costs = moving g at.After-deallocate_block placed in
    let size = c.args.layout.size in
    let (s, u, v, is, short, here) = c.requires.used in
    let (t, places, now, spare) = placing g at.In_ok-moved s u v is in
    let (bytes, copied) = copying g at.After-copy_payload (still g at.In_ok-moved).0 v is short places now (old_payload g at.In_ok-moved u v is) in
    let first : Stays c.args.memory.now c.allocate_block.new.memory =
    record { start = placed.start ∙ c.load_at.ensures.start; own = (still g at.In_ok-moved).0; here = (still g at.In_ok-moved).1 } in
    let second : Stays c.allocate_block.new.memory c.copy_payload.new.memory = record { start = c.copy_payload.ensures.start; own = copied.own; here = copied.here } in
    let third : Stays c.copy_payload.new.memory c.deallocate_block.new.memory =
    record { start = c.deallocate_block.ensures.costs.start; own = c.deallocate_block.ensures.own; here = c.deallocate_block.ensures.here } in
    let stays = Stays-then (Stays-then first second) third in
    record {
      step = λ s u v is short here.
          let (t, places, now, spare) = placing g at.In_ok-moved s u v is in
          let (bytes, copied) = copying g at.After-copy_payload (still g at.In_ok-moved).0 v is short places now (old_payload g at.In_ok-moved u v is) in
          let w = v.well_formed in
          let i = is.is_used in
          let meanwhile = both w u i size short places now bytes in
          let own = IsOwned-old w u i size short places now copied (payload_here g at.In_ok-moved u v i here) in
          let (stands, last) = c.deallocate_block.ensures.step meanwhile u copied.stands (inr i) is.start own in (
            released meanwhile u,
            MovesAway-copied w u i size short places now copied,
            stands,
            KeepsSpare-copied w u i size short places now copied c.args.memory.now c.deallocate_block.new.memory
                (placed.start ∙ c.load_at.ensures.start, placed.length ∙ ap length c.load_at.ensures.bytes) spare last,
          );
      unchanged = tt;
      costs = Costs-moving (omega (arith, costs.copied)) costs;
      copied = λ s u v is. copied-costs costs (ap (λ (r : Range). r.len) (old_payload g at.In_ok-moved u v is));
      own = stays.own;
      here = stays.here;
      kept_here = λ s u v is short here.
          let (t, places, now, spare) = placing g at.In_ok-moved s u v is in
          let (bytes, copied) = copying g at.After-copy_payload (still g at.In_ok-moved).0 v is short places now (old_payload g at.In_ok-moved u v is) in
          let there = LiesIn-new v.well_formed u is.is_used size short places now in
          λ a lo hi. c.deallocate_block.ensures.here a (omega (arith, there, c.copy_payload.ensures.start)) (copied.there a lo hi);
    }
