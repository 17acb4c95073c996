use Rattle.std.proofs.Common.{◌<◌, length, arith, sym}
use Rattle.std.proofs.lemmas.Option.{IfSome_then}
use Rattle.rlsf_shared_heap.specs.Shared.{IsOfOne}
use Rattle.rlsf_shared_heap.proofs.shared.heaps.SharedHeaps.allocate_shared.Goals as goal
use Rattle.rlsf_shared_heap.proofs.shared.heaps.SharedHeaps.allocate_shared.Goals.{then-turn-from_own, else-turn-from_own}

pub index-requires : goal.index-requires
index-requires g c =
    elim c.if-turn-from_own.branch [ then-turn-from_own w ↦ omega (arith, w.index-is) | else-turn-from_own w ↦ omega (arith, w.index-is) ]

pub returns-in_err-own : goal.returns-in_err-own
returns-in_err-own g c = rw c.from_residual.ensures (record { own = tt; zeros = tt; align = tt; aligned = tt; sized = tt; few = tt })

pub returns-then-is_some : goal.returns-then-is_some
unfolding IsOfOne
returns-then-is_some g c =
    let did = c.allocate_shared-payload.ensures in
    let within : c.if-turn-from_own.index < length c.args.self.now = rw (← c.self.view_is)
    (elim c.if-turn-from_own.branch [ then-turn-from_own w ↦ omega (arith, w.index-is) | else-turn-from_own w ↦ omega (arith, w.index-is) ]) in
    record {
      own = IfSome_then c.allocate_shared-payload.result did.payload (λ p own.
          (c.if-turn-from_own.index, c.index.result.now, within, rw (← c.self.view_is) (sym c.index.ensures), sym own));
      zeros = did.zeros;
      align = did.align;
      aligned = did.aligned;
      sized = did.sized;
      few = did.few;
    }

pub returns : goal.returns
returns g c = record { own = tt; zeros = tt; align = tt; aligned = tt; sized = tt; few = tt }
