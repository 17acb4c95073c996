use Rattle.std.proofs.Common.{sym, ◌∙◌, arith}
use Rattle.rlsf_base.specs.Addr.{at}
use Rattle.rlsf_base.proofs.Lending.Present.{own-none}
use Rattle.rlsf_model.specs.Release.{Deallocates}
use Rattle.rlsf_model.specs.State.{usable}
use Rattle.rlsf_model.proofs.Chunks.{chunks-deallocated}
use Rattle.rlsf_tlsf.specs.Allocator.{allocator}
use Rattle.rlsf_tlsf.proofs.Arrivals.{some_inside}
use Rattle.rlsf_tlsf.proofs.Opened.{IsAllocator-opened, view-opened}
use Rattle.rlsf_tlsf.proofs.Whole.{core_again, Steps-left, frame-left}
use Rattle.rlsf_tlsf.proofs.tlsf.Tlsf.deallocate_unknown_align.Goals as goal

pub deallocate_in-requires : goal.deallocate_in-requires
deallocate_in-requires g c =
    let is = IsAllocator-opened c.self-inside.view_is c.self.invariant in
    let (u, holds) = some_inside is c.args.self.now (view-opened c.self-inside.view_is c.self.view_is) (at c.args.addr) c.requires in
    let own = own-none c.self-inside.inside.0.0.inner (usable u) is.whole in
    (omega arith, (core_again c.self-inside.view_is c.self.invariant g.FLBitmap.BitPattern.width_limit, (u, ((holds.0, holds.1 ∙ sym c.get.ensures.value), tt), own)))

pub returns : goal.returns
returns g c =
    let is = IsAllocator-opened c.self-inside.view_is c.self.invariant in
    let before = allocator c.self-inside.inside.0.0.inner c.self-inside.inside.0.1.0 c.self-inside.inside.0.1.1.0.state in
    let after = allocator c.deallocate_in.new.memory c.deallocate_in.new.table c.deallocate_in.new.state.state in
    let e = c.deallocate_in.ensures in
    let step = Steps-left is e.left (Deallocates before.state c.get.result) e.step in
    let frame = frame-left is e.left (chunks-deallocated before.state after.state c.get.result e.step) in
    rw (← view-opened c.self-inside.view_is c.self.view_is) (rw (← c.get.ensures.value) (assumption (step, frame, e)))
