use Rattle.std.proofs.Common.{◌≡◌, ◌+◌, ◌%◌, None, Some, length, arith, refl, sym, ◌∙◌, ap, subst}
use Rattle.rlsf_base.specs.Ledger.{extent}
use Rattle.rlsf_model.specs.Allocate.{Allocates}
use Rattle.rlsf_model.specs.Callers.{bytes_at}
use Rattle.rlsf_model.specs.Sized.{live_count}
use Rattle.rlsf_model.specs.State.{State}
use Rattle.rlsf_blocks.specs.Laws.{read_from}
use Rattle.rlsf_blocks.specs.StandsFor.{contents, StandsFor}
use Rattle.rlsf_tlsf.specs.Results.{IsAllocated}
use Rattle.rlsf_tlsf.proofs.Arrivals.{arrived}
use Rattle.rlsf_tlsf.proofs.LiveBytes.{budget_allows, bytes_more}
use Rattle.rlsf_tlsf.proofs.Reached.{bare-core}
use Rattle.rlsf_heap.specs.Heap.{AreIssued, Stands, Steps, lent_bytes}
use Rattle.rlsf_heap.specs.Kept.{KeepsOwn, KeepsSpareBytes, NoneBecomesRaw}
use Rattle.rlsf_heap.proofs.OnCores.{issued-new, one_more, own-left, stands-left, IsHeap-arrived, IsHeap-left, Steps-left, frame-left, same_identity, stays}
use Rattle.rlsf_heap.proofs.Kept.{rest_kept, raw-left, raw-stays, spare-last, lent_kept, settled-here, settled-left, settled-stays}
use Rattle.rlsf_heap.proofs.heap.Heap.allocate.Given as given
use Rattle.rlsf_heap.proofs.heap.Heap.allocate.Goals as goal
use Rattle.rlsf_heap.proofs.heap.Heap.allocate.Goals.{After-hand_over-payload}

-- ---- a refused allocation changes nothing

pub invariant_of-self-in-None : goal.invariant_of-self-in-None
invariant_of-self-in-None g c =
    let e = c.in-None.ensures in
    IsHeap-left e.left c.self.invariant.valid c.self.inside.ledger.entries
    (subst (λ (t : State). AreIssued t c.self.inside.ledger.entries) (sym e.refused.same) c.self.invariant.tickets)
    c.self.inside.live (c.self.invariant.counted ∙ ap live_count (sym e.refused.same))
    (λ not_lent. rest_kept c.self.inside.memory c.allocate_in.new.memory (read_from c.self.inside.memory c.self.inside.state.state)
    (read_from c.allocate_in.new.memory c.allocate_in.new.state.state) e.left.costs.start (ap (λ (t : State). t.chunks) e.refused.same)
    (λ a from out again. e.left.own a from) (c.self.invariant.rest not_lent))

pub returns-in-None : goal.returns-in-None
returns-in-None g c =
    let s = read_from c.self.inside.memory c.self.inside.state.state in
    let t = read_from c.allocate_in.new.memory c.allocate_in.new.state.state in
    let e = c.in-None.ensures in
    let ledger = c.self.inside.ledger.name in
    rw (← c.self.view_is) (record {
      step = Steps-left e.left ledger c.self.inside.lent (Allocates g.row.SLLEN s c.args.layout.size c.args.layout.align None) e.step;
      result = tt;
      room = record {
        bounds = e.room;
        budget = budget_allows c.self.invariant.stands.well_formed t c.args.layout.size c.args.layout.align _ e.step;
        bytes = bytes_more c.self.invariant.stands.well_formed t c.args.layout.size c.args.layout.align None c.args.layout.valid.aligned e.step;
      };
      bounds = e.bounds;
      refused = record { same = e.refused.same; bytes = e.refused.bytes };
      frame = frame-left e.left ledger c.self.inside.table (ap (λ (t : State). t.chunks) e.refused.same);
      touches = omega (arith, e.left.costs.touches);
    })

-- ---- a payload is placed, and its bytes leave

pub overflow_add-self : goal.overflow_add-self
overflow_add-self g c =
    let e = c.in-Some.ensures in
    omega (arith, (one_more e.step e.left.core.stands e.result c.self.inside.live c.self.invariant.counted).1)

-- the memory without the payload's bytes represents the same state
stands : (g : given.Over) (c : After-hand_over-payload g) → StandsFor g.row.FLLEN g.row.SLLEN (contents c.hand_over-payload.new.memory c.allocate_in.new.table)
    (read_from c.allocate_in.new.memory c.allocate_in.new.state.state)
stands g c =
    let e = c.in-Some.ensures in
    let over = c.hand_over-payload.ensures.over in
    stands-left e.step e.left.core.stands e.result c.hand_over-payload.new.memory over.memory.start over.memory.bytes over.memory.out

-- the same bytes outside of all chunks are the memory's own
kept_own : (g : given.Over) (c : After-hand_over-payload g) → KeepsOwn c.self.inside.memory (read_from c.self.inside.memory c.self.inside.state.state)
    c.hand_over-payload.new.memory (read_from c.allocate_in.new.memory c.allocate_in.new.state.state)
kept_own g c a from out again =
    let e = c.in-Some.ensures in
    let over = c.hand_over-payload.ensures.over in
    own-left e.step e.left.core.stands e.result c.hand_over-payload.new.memory over.memory.start over.memory.out a (omega (arith, from, e.left.costs.start)) again
    ∙ e.left.own a from

pub invariant_of-self : goal.invariant_of-self
invariant_of-self g c =
    let e = c.in-Some.ensures in
    let d = (goal.at.invariant_of-self g c).After-hand_over-payload in
    let r = c.in-Some.range in
    let t = read_from c.allocate_in.new.memory c.allocate_in.new.state.state in
    IsHeap-arrived (stands g d) c.allocate_in.new.state.state (sym (bare-core e.left.core)) c.self.invariant.valid c.hand_over-payload.new.ledger.entries
    (subst (AreIssued t) (sym c.hand_over-payload.ensures.over.entries)
    (issued-new e.step e.left.core.stands e.result c.self.invariant.stands.well_formed c.self.inside.ledger.entries c.self.invariant.tickets
    (extent r.start r.len c.align-align.result) refl refl c.align-align.ensures.value))
    (c.self.inside.live + 1) (one_more e.step e.left.core.stands e.result c.self.inside.live c.self.invariant.counted).0
    (λ not_lent. rest_kept c.self.inside.memory c.hand_over-payload.new.memory (read_from c.self.inside.memory c.self.inside.state.state) t
    (c.hand_over-payload.ensures.over.memory.start ∙ e.left.costs.start) (ap (λ (x : State). x.chunks) e.step.after) (kept_own g d) (c.self.invariant.rest not_lent))

pub returns-in-Some : goal.returns-in-Some
unfolding Steps Stands lent_bytes KeepsSpareBytes NoneBecomesRaw
returns-in-Some g c =
    let m = c.self.inside.memory in
    let n = c.allocate_in.new.memory in
    let o = c.hand_over-payload.new.memory in
    let s = read_from m c.self.inside.state.state in
    let t = read_from n c.allocate_in.new.state.state in
    let size = c.args.layout.size in
    let align = c.args.layout.align in
    let e = c.in-Some.ensures in
    let r = c.in-Some.range in
    let p = e.result in
    let costs = e.left.costs in
    let over = c.hand_over-payload.ensures.over in
    let q = c.hand_over-payload.result in
    let at : r.start ≡ q.start = sym over.at in
    let made : IsAllocated s t size align q.start = subst (IsAllocated s t size align) at p.made in
    let long : length q.bytes ≡ length (bytes_at t q.start) = over.long ∙ p.long ∙ ap (λ a. length (bytes_at t a)) at in
    rw (← c.self.view_is) (rw (arrived (stands g c) c.allocate_in.new.state.state (sym (bare-core e.left.core))) (record {
      step = (subst (λ a. Allocates g.row.SLLEN s size align (Some a) t) at e.step, (stands g c).well_formed);
      result = record {
        identity = over.identity ∙ same_identity m n costs.start costs.length costs.view c.self.inside.ledger.name c.self.inside.ledger.name refl;
        live = made.live;
        requested = over.align ∙ c.align-align.ensures.value;
        long = long;
        aligned = subst (λ a. a % align ≡ 0) at p.aligned;
        sized = omega (arith, long, made.sized);
        few = omega (arith, long, made.few);
        new = made.new;
        count = made.count;
        aligns = made.aligns;
        written = λ settled. over.full (settled-here n r p.lies.0 p.own (settled-stays (stays e.left) settled));
      };
      room = record {
        bounds = e.room;
        budget = λ count bytes most widest sized few little short fits. refl;
        bytes = bytes_more c.self.invariant.stands.well_formed t size align (Some r.start) c.args.layout.valid.aligned e.step;
      };
      bounds = e.bounds;
      refused = tt;
      frame = record {
        heap = record {
          identity = same_identity m o (over.memory.start ∙ costs.start) (ap length over.memory.bytes ∙ costs.length) (over.memory.view ∙ costs.view) c.self.inside.ledger.name
              c.hand_over-payload.new.ledger.name c.hand_over-payload.ensures.name;
          place = (over.memory.start ∙ costs.start, ap length over.memory.bytes ∙ costs.length);
          spare = spare-last m n o s t over.memory.start over.memory.bytes e.left.spare;
          lent = refl;
          lent_bytes = lent_kept m o s t (over.memory.start ∙ costs.start) (ap (λ (x : State). x.chunks) e.step.after)
              (kept_own g (goal.at.returns-in-Some g c).After-hand_over-payload);
          grow = omega (arith, costs.grow, over.counts.0);
        };
        raw = λ a from is. raw-stays (stays e.left) a from (raw-left n o r over.memory.start p.lies.0 over.memory.out a (omega (arith, from, costs.start)) is);
        settled = λ settled. settled-left n o r over.memory.start p.lies.0 over.memory.out (settled-stays (stays e.left) settled);
        chunks = ap (λ (x : State). x.chunks) e.step.after;
        copied = omega (arith, costs.copied, over.counts.1);
      };
      touches = omega (arith, costs.touches, over.counts.0);
    }))
