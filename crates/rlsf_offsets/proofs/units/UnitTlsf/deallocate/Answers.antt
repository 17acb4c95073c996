use Rattle.std.proofs.Common.{subst, sym, arith}
use Rattle.std.specs.Prelude.{IsSome}
use Rattle.rlsf_blocks.specs.Laws.{read_from}
use Rattle.rlsf_model.proofs.Chunks.{chunks-deallocated}
use Rattle.rlsf_tlsf.specs.Allocator.{allocator}
use Rattle.rlsf_offsets.specs.Units.{IsReleased, Offsets, offsets, units_at}
use Rattle.rlsf_offsets.proofs.Frees.{AreWhole-deallocated, IsReleased-deallocated, sized-freed}
use Rattle.rlsf_offsets.proofs.Kept.{IsCore-kept, IsUnitAllocator-left, own_found}
use Rattle.rlsf_offsets.proofs.Ranges.{live_place}
use Rattle.rlsf_offsets.proofs.units.UnitTlsf.deallocate.Goals as goal

pub place_of-addr-requires : goal.place_of-addr-requires
place_of-addr-requires c =
    let is = live_place c.self.invariant.shadow c.args.first (subst (λ (v : Offsets). IsSome (units_at v c.args.first)) (sym c.self.view_is) c.requires) in
    (is.0, c.self.invariant.shadow.few)

pub deallocate_in-requires : goal.deallocate_in-requires
deallocate_in-requires c =
    let is = live_place c.self.invariant.shadow c.args.first (subst (λ (v : Offsets). IsSome (units_at v c.args.first)) (sym c.self.view_is) c.requires) in
    (omega arith, (IsCore-kept c.self.invariant, own_found c.self.invariant c.args.first c.place_of-addr.result c.place_of-addr.ensures is.1))

pub invariant_of-self : goal.invariant_of-self
invariant_of-self c =
    let e = c.deallocate_in.ensures in
    let s = read_from c.self.inside.memory c.self.inside.state.state in
    let t = read_from c.deallocate_in.new.memory c.deallocate_in.new.state.state in
    let addr = c.place_of-addr.result in
    IsUnitAllocator-left c.self.invariant e.left (chunks-deallocated s t addr e.step) (AreWhole-deallocated s t addr e.step c.self.invariant.shadow.whole)

pub returns : goal.returns
returns c =
    let e = c.deallocate_in.ensures in
    let v = offsets c.self.inside.units (allocator c.self.inside.memory c.self.inside.table c.self.inside.state.state) in
    let x = offsets c.self.inside.units (allocator c.deallocate_in.new.memory c.deallocate_in.new.table c.deallocate_in.new.state.state) in
    let released : IsReleased v x c.args.first = IsReleased-deallocated c.args.first c.place_of-addr.result c.place_of-addr.ensures e.left.costs.length e.result in
    rw (← c.self.view_is) (assumption (released, sized-freed v x e.bounds, e))
