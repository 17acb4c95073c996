use Rattle.std.proofs.Common.{sym, subst, arith}
use Rattle.rlsf_base.specs.Addr.{reply}
use Rattle.rlsf_base.specs.Space.{range_of}
use Rattle.rlsf_base.proofs.Lending.Present.{own-none}
use Rattle.rlsf_model.specs.Insert.{Inserts, IsFresh}
use Rattle.rlsf_model.proofs.Untouched.{IsFresh-untouched}
use Rattle.rlsf_tlsf.specs.Allocator.{Allocator, allocator}
use Rattle.rlsf_tlsf.proofs.Opened.{IsAllocator-opened, view-opened}
use Rattle.rlsf_tlsf.proofs.Whole.{core_again, Steps-left}
use Rattle.rlsf_tlsf.proofs.tlsf.Tlsf.insert_free_block_ptr.Goals as goal

pub insert_in-requires : goal.insert_in-requires
insert_in-requires g c =
    let fresh = subst (λ (o : Allocator). IsFresh (range_of o.memory) o.state c.args.range) (sym (view-opened c.self-inside.view_is c.self.view_is))
    (IsFresh-untouched (range_of c.args.self.now.memory) c.args.self.now.state c.args.range c.requires.lies_in c.requires.untouched) in
    let own = own-none c.self-inside.inside.0.0.inner c.args.range (IsAllocator-opened c.self-inside.view_is c.self.invariant).whole in
    (omega arith, (core_again c.self-inside.view_is c.self.invariant g.FLBitmap.BitPattern.width_limit, (fresh, own)))

pub returns : goal.returns
returns g c =
    let before = allocator c.self-inside.inside.0.0.inner c.self-inside.inside.0.1.0 c.self-inside.inside.0.1.1.0.state in
    let e = c.insert_in.ensures in
    let step = Steps-left (IsAllocator-opened c.self-inside.view_is c.self.invariant) e.left (Inserts g.row.FLLEN before.state c.args.range (reply c.insert_in.result)) e.step in
    rw (← view-opened c.self-inside.view_is c.self.view_is) (assumption (step, e))
