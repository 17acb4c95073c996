use Rattle.std.proofs.Common.{arith, sym, subst}
use Rattle.rlsf_model.specs.ChunkRows.{IsRow}
use Rattle.rlsf_model.specs.Remove.{IsIdle, Removes}
use Rattle.rlsf_blocks.specs.Blocks.{walked}
use Rattle.rlsf_tlsf.specs.Allocator.{Allocator, allocator}
use Rattle.rlsf_tlsf.proofs.Opened.{IsAllocator-opened, view-opened}
use Rattle.rlsf_tlsf.proofs.Whole.{Steps-left, core_of}
use Rattle.rlsf_tlsf.proofs.tlsf.Tlsf.remove_pool.Goals as goal

pub remove_in-requires : goal.remove_in-requires
remove_in-requires g c =
    let is = IsAllocator-opened c.self-inside.view_is c.self.invariant in
    let view = view-opened c.self-inside.view_is c.self.view_is in
    let row = subst (λ (o : Allocator). IsRow o.state (walked c.args.range)) (sym view) c.requires.row in
    let idle = subst (λ (o : Allocator). IsIdle o.state (walked c.args.range)) (sym view) c.requires.idle in
    (omega arith, (core_of is g.FLBitmap.BitPattern.width_limit, (row, idle)))

pub returns : goal.returns
returns g c =
    let before = allocator c.self-inside.inside.0.0.inner c.self-inside.inside.0.1.0 c.self-inside.inside.0.1.1.0.state in
    let e = c.remove_in.ensures in
    let step = Steps-left (IsAllocator-opened c.self-inside.view_is c.self.invariant) e.left (Removes before.state (walked c.args.range)) e.step in
    rw (← view-opened c.self-inside.view_is c.self.view_is) (assumption (step, e))
