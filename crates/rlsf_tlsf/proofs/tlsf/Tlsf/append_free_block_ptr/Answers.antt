use Rattle.std.proofs.Common.{sym, subst, arith}
use Rattle.rlsf_base.specs.Space.{range_of}
use Rattle.rlsf_base.proofs.Lending.Present.{own-none}
use Rattle.rlsf_model.specs.Insert.{Appends, IsNext}
use Rattle.rlsf_tlsf.specs.Allocator.{Allocator, allocator}
use Rattle.rlsf_tlsf.proofs.Opened.{IsAllocator-opened, view-opened}
use Rattle.rlsf_tlsf.proofs.Whole.{core_again, Steps-left}
use Rattle.rlsf_tlsf.proofs.tlsf.Tlsf.append_free_block_ptr.Goals as goal

pub append_in-requires : goal.append_in-requires
append_in-requires g c =
    let next = subst (λ (o : Allocator). IsNext (range_of o.memory) o.state c.args.range) (sym (view-opened c.self-inside.view_is c.self.view_is)) c.requires in
    let own = own-none c.self-inside.inside.0.0.inner c.args.range (IsAllocator-opened c.self-inside.view_is c.self.invariant).whole in
    (omega arith, (core_again c.self-inside.view_is c.self.invariant g.FLBitmap.BitPattern.width_limit, (next, own)))

pub returns : goal.returns
returns g c =
    let before = allocator c.self-inside.inside.0.0.inner c.self-inside.inside.0.1.0 c.self-inside.inside.0.1.1.0.state in
    let e = c.append_in.ensures in
    let step = Steps-left (IsAllocator-opened c.self-inside.view_is c.self.invariant) e.left (Appends g.row.FLLEN before.state c.args.range c.append_in.result) e.step in
    rw (← view-opened c.self-inside.view_is c.self.view_is) (assumption (step, e))
