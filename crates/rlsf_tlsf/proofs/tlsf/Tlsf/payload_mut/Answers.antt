use Rattle.std.proofs.Common.{length, refl, sym, ◌∙◌, ap, subst}
use Rattle.rlsf_base.specs.Addr.{at}
use Rattle.rlsf_base.specs.Range.{LiesIn}
use Rattle.rlsf_base.specs.Space.{Space, bytes_in}
use Rattle.rlsf_model.proofs.CallerWords.{bytes_at-held}
use Rattle.rlsf_blocks.specs.StandsFor.{contents}
use Rattle.rlsf_tlsf.proofs.Arrivals.{IsLiveIn-inside, some_inside}
use Rattle.rlsf_tlsf.proofs.Lent.{IsAllocator-lent, is_left, is_lent, LiesIn-lent, written-lent}
use Rattle.rlsf_tlsf.proofs.Opened.{IsAllocator-opened, view-opened}
use Rattle.rlsf_tlsf.proofs.tlsf.Tlsf.payload_mut.Goals as goal

pub load_usable_bytes-range-requires : goal.load_usable_bytes-range-requires
load_usable_bytes-range-requires g c =
    IsLiveIn-inside (IsAllocator-opened c.self-inside.view_is c.self.invariant) c.args.self.now (view-opened c.self-inside.view_is c.self.view_is) (at c.args.addr)
    c.get.ensures.value c.requires

pub slice_mut-requires : goal.slice_mut-requires
slice_mut-requires g c =
    let is = IsAllocator-opened c.self-inside.view_is c.self.invariant in
    let fields = contents c.self-inside.inside.0.0.inner c.self-inside.inside.0.1.0 in
    let (u, holds) = some_inside is c.args.self.now (view-opened c.self-inside.view_is c.self.view_is) (at c.args.addr) c.requires in
    let range = c.load_usable_bytes-range.ensures.range g.row.FLLEN g.row.SLLEN fields _ u refl is.stands (holds.0, holds.1 ∙ sym c.get.ensures.value) in
    subst (λ (m : Space). LiesIn c.load_usable_bytes-range.result m.start (length m.bytes)) (sym c.load_usable_bytes-range.ensures.memory)
    (LiesIn-lent is (at c.args.addr) u holds c.load_usable_bytes-range.result range)

pub invariant_of-self-lent : goal.invariant_of-self-lent
invariant_of-self-lent g c =
    let is = IsAllocator-opened c.self-inside.view_is c.self.invariant in
    λ w.
    let fields = contents c.self-inside.inside.0.0.inner c.self-inside.inside.0.1.0 in
    let (u, holds) = some_inside is c.args.self.now (view-opened c.self-inside.view_is c.self.view_is) (at c.args.addr) c.requires in
    let range = c.load_usable_bytes-range.ensures.range g.row.FLLEN g.row.SLLEN fields _ u refl is.stands (holds.0, holds.1 ∙ sym c.get.ensures.value) in
    IsAllocator-lent is (at c.args.addr) u holds c.load_usable_bytes-range.new.memory c.load_usable_bytes-range.ensures.memory c.load_usable_bytes-range.result range w

pub returns : goal.returns
returns g c =
    let addr = at c.args.addr in
    let fields = contents c.self-inside.inside.0.0.inner c.self-inside.inside.0.1.0 in
    let (u, holds) = some_inside (IsAllocator-opened c.self-inside.view_is c.self.invariant) c.args.self.now (view-opened c.self-inside.view_is c.self.view_is) addr c.requires in
    let read = c.load_usable_bytes-range.ensures.memory in
    let range =
    c.load_usable_bytes-range.ensures.range g.row.FLLEN g.row.SLLEN fields _ u refl (IsAllocator-opened c.self-inside.view_is c.self.invariant).stands
    (holds.0, holds.1 ∙ sym c.get.ensures.value) in
    let value = c.slice_mut.ensures.value ∙ ap (λ (m : Space). bytes_in m c.load_usable_bytes-range.result) read in
    let is = is_lent (IsAllocator-opened c.self-inside.view_is c.self.invariant) addr u holds c.load_usable_bytes-range.result range c.slice_mut.result.now value in
    let left = is_left (IsAllocator-opened c.self-inside.view_is c.self.invariant) addr u holds (length c.slice_mut.result.now) is.whole in
    rw (← (view-opened c.self-inside.view_is c.self.view_is)) (
      (
        refl,
        λ w. written-lent (IsAllocator-opened c.self-inside.view_is c.self.invariant) addr u holds c.load_usable_bytes-range.new.memory read c.load_usable_bytes-range.result
            is.start (length c.slice_mut.result.now) is.len w,
      ),
      record {
        writes_back = tt;
        value = is.bytes ∙ sym (bytes_at-held (IsAllocator-opened c.self-inside.view_is c.self.invariant).stands.well_formed addr u holds);
        meaning = λ w. (left w).meaning;
        filled = λ w. (left w).filled;
        bytes = λ w. (left w).bytes;
        aligns = λ w. (left w).aligns;
        count = λ w. (left w).count;
        blocks = λ w. (left w).blocks;
        bounds = λ w. (left w).bounds;
        lengths =
            λ w. (left w).lengths ∙ ap length (bytes_at-held (IsAllocator-opened c.self-inside.view_is c.self.invariant).stands.well_formed addr u holds)
            ∙ ap length (sym is.bytes);
        rest = λ w. (left w).rest;
      },
    )
