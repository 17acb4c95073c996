use Rattle.std.specs.Prelude.{take, drop, ◌++◌}
use Rattle.std.proofs.Common.{[], ◌≡◌, ◌≤◌, ℕ, List, IsSome, length, arith, sym, ◌∙◌, subst, ◌+◌, ap}
use Rattle.rlsf_base.specs.Addr.{at}
use Rattle.rlsf_base.specs.Range.{LiesIn, range_at}
use Rattle.rlsf_base.proofs.Lending.Present.{here-none, own-none}
use Rattle.rlsf_base.proofs.Lending.Whole.{none-with}
use Rattle.rlsf_base.specs.Space.{Space, bytes_in, with_bytes, SamePlace}
use Rattle.rlsf_model.specs.Callers.{align_at, bytes_at}
use Rattle.rlsf_model.specs.Run.{Fills}
use Rattle.rlsf_model.specs.State.{State}
use Rattle.rlsf_model.proofs.CallerWords.{filled_seen}
use Rattle.rlsf_model.proofs.Chunks.{chunks-filled}
use Rattle.rlsf_model.proofs.SizedWords.{count_filled, sized_filled}
use Rattle.rlsf_table.specs.Table.{Table}
use Rattle.rlsf_blocks.specs.Laws.{read_from}
use Rattle.rlsf_blocks.specs.Spare.{KeepsSpare}
use Rattle.rlsf_blocks.specs.StandsFor.{contents, StandsFor}
use Rattle.rlsf_blocks.proofs.Payloads.Fronts.{LiesIn-front, stands_copied}
use Rattle.rlsf_tlsf.specs.Allocator.{Allocator, IsAllocator, allocator, Steps}
use Rattle.rlsf_tlsf.specs.Steps.Moves.{bare}
use Rattle.rlsf_tlsf.proofs.Arrivals.{IsAllocator-arrived, Steps-arrived, bare-filled, bare-kept, bytes_inside, long_inside, opened, some_inside, view_well_formed}
use Rattle.rlsf_tlsf.proofs.LiveBytes.{bytes_filled}
use Rattle.rlsf_tlsf.proofs.Opened.{IsAllocator-opened, view-opened}
use Rattle.rlsf_tlsf.proofs.tlsf.Tlsf.copy_payload.Given as given
use Rattle.rlsf_tlsf.proofs.tlsf.Tlsf.copy_payload.Goals as goal
use Rattle.rlsf_tlsf.proofs.tlsf.Tlsf.copy_payload.Goals.{After-copy_within}

-- the first bytes of a payload lie in the memory
lies : {fl_bits sl_bits fllen sllen : ℕ} {m : Space} {x : Table} {j : State} (is : IsAllocator fl_bits sl_bits fllen sllen m x j) (v : Allocator) → allocator m x j ≡ v
    → (addr len : ℕ) → IsSome (align_at v.state addr) → len ≤ length (bytes_at v.state addr) → LiesIn (range_at addr len) m.start (length m.bytes)
lies is v view addr len live long = let (u, holds) = some_inside is v view addr live in LiesIn-front is.stands len addr u holds (long_inside is v view addr len u holds long)

pub copy_within-requires-clause-from : goal.copy_within-requires-clause-from
copy_within-requires-clause-from g c =
    let there = lies (IsAllocator-opened c.self-inside.view_is c.self.invariant) c.args.self.now (view-opened c.self-inside.view_is c.self.view_is) (at c.args.from) c.args.len
    c.requires.live.0 c.requires.long.0 in
    (omega (arith, c.get.ensures.value, there), omega (arith, c.get.ensures.value, there))

pub copy_within-requires-clause-to : goal.copy_within-requires-clause-to
copy_within-requires-clause-to g c =
    let there = lies (IsAllocator-opened c.self-inside.view_is c.self.invariant) c.args.self.now (view-opened c.self-inside.view_is c.self.view_is) (at c.args.to) c.args.len
    c.requires.live.1 c.requires.long.1 in
    (omega (arith, c.get-2.ensures.value, there), omega (arith, c.get-2.ensures.value, there))

pub copy_within-requires-clause-here : goal.copy_within-requires-clause-here
copy_within-requires-clause-here g c = here-none c.self-inside.inside.0.0.inner (range_at c.get.result c.args.len) (IsAllocator-opened c.self-inside.view_is c.self.invariant).whole

pub copy_within-requires-clause-own : goal.copy_within-requires-clause-own
copy_within-requires-clause-own g c = own-none c.self-inside.inside.0.0.inner (range_at c.get-2.result c.args.len) (IsAllocator-opened c.self-inside.view_is c.self.invariant).whole

module _ (g : given.Over) (c : After-copy_within g) where
  abbrev m : Space
  m = c.self-inside.inside.0.0.inner

  abbrev j : State
  j = c.self-inside.inside.0.1.1.0.state

  abbrev old : Allocator
  old = c.args.self.now

  abbrev after : Allocator
  after = allocator c.copy_within.new.self c.self-inside.inside.0.1.0 j

  abbrev front : List ℕ
  front = (take c.args.len (bytes_at old.state (at c.args.from)) ++ drop c.args.len (bytes_at old.state (at c.args.to)))

  view : allocator m c.self-inside.inside.0.1.0 j ≡ old
  view = view-opened c.self-inside.view_is c.self.view_is

  -- nothing is out after it
  none : c.copy_within.new.self.out ≡ []
  none = none-with m c.copy_within.new.self (range_at c.get-2.result c.args.len) c.copy_within.ensures.memory.out (IsAllocator-opened c.self-inside.view_is c.self.invariant).whole

  -- the front is copied
  copying : (t : State) × Fills (read_from m j) (at c.args.to) front t × StandsFor g.row.FLLEN g.row.SLLEN (contents c.copy_within.new.self c.self-inside.inside.0.1.0) t
      × KeepsSpare m (read_from m j) c.copy_within.new.self t
  copying =
      let is = IsAllocator-opened c.self-inside.view_is c.self.invariant in
      let n = c.copy_within.new.self in
      let len = c.args.len in
      let (u, source) = some_inside is old view (at c.args.from) c.requires.live.0 in
      let (w, target) = some_inside is old view (at c.args.to) c.requires.live.1 in
      let bytes : n.bytes ≡ with_bytes m (at c.args.to) (bytes_in m (range_at (at c.args.from) len)) =
      c.copy_within.ensures.memory.bytes ∙ (λ i. with_bytes m (c.get-2.ensures.value i) (bytes_in m (range_at (c.get.ensures.value i) len))) in
      subst (λ (bs : List ℕ). (t : State) × Fills (read_from m j) (at c.args.to) bs t × StandsFor g.row.FLLEN g.row.SLLEN (contents n c.self-inside.inside.0.1.0) t
      × KeepsSpare m (read_from m j) n t) {x = (take len u.bytes ++ drop len w.bytes)}
      (λ i. (take len (sym (bytes_inside is old view (at c.args.from) u source) i) ++ drop len (sym (bytes_inside is old view (at c.args.to) w target) i)))
      (stands_copied is.stands len (at c.args.from) (at c.args.to) u w source target (long_inside is old view (at c.args.from) len u source c.requires.long.0)
      (long_inside is old view (at c.args.to) len w target c.requires.long.1) n c.copy_within.ensures.memory.start bytes (none ∙ sym is.whole))

  -- what is kept of the state is kept of the state after
  kept : j ≡ bare copying.0
  kept =
      sym (bare-kept (IsAllocator-opened c.self-inside.view_is c.self.invariant)) ∙ sym (bare-filled (read_from m j) copying.0 (at c.args.to) front copying.1)

  done : Steps g.row.FLLEN g.row.SLLEN old after (Fills old.state (at c.args.to) front)
  done = Steps-arrived copying.2 j kept none old m c.self-inside.inside.0.1.0 j view (λ before. Fills before (at c.args.to) front) copying.1 copying.3

  filled : Fills old.state (at c.args.to) front after.state
  filled = (opened g.row.FLLEN g.row.SLLEN old after (Fills old.state (at c.args.to) front) done).0

pub invariant_of-self-inside : goal.invariant_of-self-inside
invariant_of-self-inside g c = none g (goal.at.invariant_of-self-inside g c).After-copy_within

pub invariant_of-self : goal.invariant_of-self
invariant_of-self g c =
    let d = (goal.at.invariant_of-self g c).After-copy_within in
    IsAllocator-arrived (copying g d).2 c.self-inside.inside.0.1.1.0.state (kept g d) (none g d) c.self.invariant.valid

pub returns : goal.returns
returns g c =
    let d = (goal.at.returns g c).After-copy_within in
    let view = view g d in
    let fills = filled g d in
    let w = view_well_formed c.self.invariant c.args.self.now c.self.view_is in
    let seen = filled_seen w (after g d).state (at c.args.to) (front g d) fills in
    let e = c.copy_within.ensures in
    record {
      step = done g d;
      result = record {
        filled = seen.here;
        bytes = seen.bytes;
        aligns = λ i a. seen.aligns a i;
        count = count_filled w (after g d).state (at c.args.to) (front g d) (fills.block, fills.holds) fills;
        blocks = bytes_filled c.args.self.now.state (after g d).state (at c.args.to) (front g d) fills;
      };
      bounds = λ count size align sized. sized_filled w (after g d).state count size align sized (at c.args.to) (front g d) (fills.block, fills.holds) fills;
      frame = record {
        chunks = chunks-filled c.args.self.now.state (after g d).state (at c.args.to) (front g d) fills;
        place = subst (λ (o : Allocator). SamePlace o.memory c.copy_within.new.self) view (e.memory.start, e.len, e.memory.view, λ _. none g d);
        copied = e.counts.1 ∙ ap (λ (o : Allocator). o.memory.copied + c.args.len) view;
      };
      touches = e.counts.0 ∙ ap (λ (o : Allocator). o.memory.touches) view;
    }
