use Rattle.std.proofs.Common.{Some, None, arith, sym, subst}
use Rattle.rlsf_model.specs.Allocate.{Allocates}
use Rattle.rlsf_model.proofs.Chunks.{chunks-allocated}
use Rattle.rlsf_blocks.specs.Laws.{read_from}
use Rattle.rlsf_blocks.proofs.Words.NonZeroNumbers.{number, on_none, on_some}
use Rattle.rlsf_tlsf.specs.Allocator.{Steps, allocator}
use Rattle.rlsf_tlsf.specs.Results.{IsAllocated}
use Rattle.rlsf_tlsf.proofs.LiveBytes.{budget_allows, bytes_more}
use Rattle.rlsf_tlsf.proofs.Opened.{IsAllocator-opened, view-opened}
use Rattle.rlsf_tlsf.proofs.Replied.{some_answer}
use Rattle.rlsf_tlsf.proofs.Whole.{Steps-left, frame-left}
use Rattle.rlsf_tlsf.proofs.tlsf.Tlsf.allocate.Goals as goal

pub returns-in-Some : goal.returns-in-Some
returns-in-Some g c =
    let is = IsAllocator-opened c.self-inside.view_is c.self.invariant in
    let before = allocator c.self-inside.inside.0.0.inner c.self-inside.inside.0.1.0 c.self-inside.inside.0.1.1.0.state in
    let after = allocator c.allocate_in.new.memory c.allocate_in.new.table c.allocate_in.new.state.state in
    let e = c.in-Some.ensures in
    let start = c.in-Some.range.start in
    let answer = (number c.new.result start c.new.ensures).1 e.result.some in
    let size = c.args.layout.size in
    let align = c.args.layout.align in
    rw (← view-opened c.self-inside.view_is c.self.view_is) (record {
      step = subst (λ o. Steps g.row.FLLEN g.row.SLLEN before after (Allocates g.row.SLLEN before.state size align o)) (sym answer)
          (Steps-left is e.left (Allocates g.row.SLLEN before.state size align (Some start)) e.step);
      result = on_some (IsAllocated before.state after.state size align) c.new.result start c.new.ensures e.result.made;
      room = record {
        bounds = λ count most widest sized few short fits. some_answer c.new.result start answer;
        budget = λ count bytes most widest sized few little short fits. some_answer c.new.result start answer;
        bytes = bytes_more is.stands.well_formed after.state size align (Some start) c.args.layout.valid.aligned e.step;
      };
      bounds = e.bounds;
      refused = on_none c.new.result start c.new.ensures (λ zero. absurd (omega (arith, e.result.some, zero)));
      frame = frame-left is e.left (chunks-allocated g.row.SLLEN before.state after.state size align (Some start) e.step);
      touches = e.left.costs.touches;
    })

pub returns-in-None : goal.returns-in-None
returns-in-None g c =
    let is = IsAllocator-opened c.self-inside.view_is c.self.invariant in
    let before = allocator c.self-inside.inside.0.0.inner c.self-inside.inside.0.1.0 c.self-inside.inside.0.1.1.0.state in
    let after = read_from c.allocate_in.new.memory c.allocate_in.new.state.state in
    let e = c.in-None.ensures in
    rw (← view-opened c.self-inside.view_is c.self.view_is) (record {
      step = Steps-left is e.left (Allocates g.row.SLLEN before.state c.args.layout.size c.args.layout.align None) e.step;
      result = tt;
      room = record {
        bounds = e.room;
        budget = budget_allows is.stands.well_formed after c.args.layout.size c.args.layout.align _ e.step;
        bytes = bytes_more is.stands.well_formed after c.args.layout.size c.args.layout.align None c.args.layout.valid.aligned e.step;
      };
      bounds = e.bounds;
      refused = e.refused;
      frame = frame-left is e.left (chunks-allocated g.row.SLLEN before.state after c.args.layout.size c.args.layout.align None e.step);
      touches = e.left.costs.touches;
    })
