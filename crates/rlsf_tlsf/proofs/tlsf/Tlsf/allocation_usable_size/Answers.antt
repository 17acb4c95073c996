use Rattle.std.proofs.Common.{length, refl, sym, ◌∙◌, ap}
use Rattle.rlsf_base.specs.declared.memory.range.Range.{Range}
use Rattle.rlsf_base.specs.Addr.{at}
use Rattle.rlsf_blocks.specs.StandsFor.{contents}
use Rattle.rlsf_tlsf.proofs.Arrivals.{IsLiveIn-inside, bytes_inside, some_inside}
use Rattle.rlsf_tlsf.proofs.Opened.{IsAllocator-opened, view-opened}
use Rattle.rlsf_tlsf.proofs.tlsf.Tlsf.allocation_usable_size.Goals as goal

pub usable_bytes-requires : goal.usable_bytes-requires
usable_bytes-requires g c =
    IsLiveIn-inside (IsAllocator-opened c.self-inside.view_is c.self.invariant) c.args.self.now (view-opened c.self-inside.view_is c.self.view_is) (at c.args.addr)
    c.get.ensures.value c.requires

pub returns : goal.returns
returns g c =
    let is = IsAllocator-opened c.self-inside.view_is c.self.invariant in
    let view = view-opened c.self-inside.view_is c.self.view_is in
    let addr = at c.args.addr in
    let fields = contents c.self-inside.inside.0.0.inner c.self-inside.inside.0.1.0 in
    let (u, holds) = some_inside is c.args.self.now view addr c.requires in
    let range = c.usable_bytes.ensures g.row.FLLEN g.row.SLLEN fields _ u refl is.stands (holds.0, holds.1 ∙ sym c.get.ensures.value) in
    ap (λ (r : Range). r.len) range ∙ sym (is.stands.well_formed.used u holds.0).bytes ∙ ap length (sym (bytes_inside is c.args.self.now view addr u holds))
