-- `grow`, by the lemma that it shares with `shrink`. Assumes `Logic`.
use Rattle.std.proofs.Common.{◌^◌, ◌≤◌, arith}
use prog.Memory.{size}
use denote.Param.{layout, param}
use Rattle.core.proofs.ptr.Rows.{times_below}
use Rattle.std.specs.Allocator.{FitsBlock}
use Rattle.rlsf_local_heap.proofs.local.LocalHeap.resized.Met.{met}
use Rattle.rlsf_local_heap.proofs.Resizing.{args, resizes}
use Rattle.rlsf_local_heap.specs.contracts.local.LocalHeapAllocator.grow.Key.{name as #self}
use Rattle.rlsf_local_heap.proofs.local.LocalHeapAllocator.grow.Statement.{statement}
use Rattle.rlsf_local_heap.proofs.local.LocalHeapAllocator.grow.Code as compiled

pub grow_spec : {M : Type 1} → statement M
grow_spec 𝓤 𝓛 𝓜 𝓡 wired T X L LX gU dU gI dI dd mU mI md =
    resizes T X gU dU gI dI dd 𝓛 𝓜 𝓡 (λ len old new. (len ≤ old) × (old ≤ new) × FitsBlock (param 1 X) new)
    (λ len old new asked. (
      asked.0,
      omega (arith, asked.0, asked.1),
      times_below old new (size (layout X)) (2 ^ 63) asked.1 asked.2,
      asked.2,
    ))
    _ (#self (args T X gU dU gI dI dd)) (compiled.unfolded 𝓤 𝓛.H 𝓜 𝓡 wired (T, (X, tt)) dU dI dd)
    (met 𝓤 𝓛 𝓜 𝓡 (compiled.calls-rlsf_local_heap::local::LocalHeap::resized 𝓡.env wired) T X L LX gU dU gI dI dd mU mI md)
