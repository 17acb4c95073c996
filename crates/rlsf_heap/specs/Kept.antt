-- Bytes of a heap's memory that a call leaves as they are.
use Rattle.std.specs.Prelude.{◌≡◌, ℕ, ◌+◌, ◌<◌, ◌≤◌, length}
use Rattle.rlsf_base.specs.declared.memory.range.Range.{Range}
use Rattle.rlsf_base.specs.OpenSpace.{IsBeside}
use Rattle.rlsf_base.specs.Out.{raw, is_own}
use Rattle.rlsf_base.specs.Space.{Space, byte_at, out_at}
use Rattle.rlsf_blocks.specs.Spare.{KeepsSpare}
use Rattle.rlsf_model.specs.State.{State}
use Rattle.rlsf_heap.specs.Heap.{HeapView, IsOutsideChunks}

-- each byte of the memory that no block is made of, before and after, is as it was
unfoldable pub KeepsSpareBytes : HeapView → HeapView → Type 0
KeepsSpareBytes before after = KeepsSpare before.memory before.state after.memory after.state

-- each byte of the memory beside a range is as it was
unfoldable pub KeepsBytesBeside : HeapView → HeapView → Range → Type 0
KeepsBytesBeside before after r = (a : ℕ) → before.memory.start ≤ a → a < before.memory.start + length before.memory.bytes → IsBeside r a
    → byte_at after.memory a ≡ byte_at before.memory a

-- each byte in no chunk, before and after, is the memory's own if and only if it was
abbrev pub KeepsOwn : Space → State → Space → State → Type 0
KeepsOwn m s n t = (a : ℕ) → m.start ≤ a → IsOutsideChunks s a → IsOutsideChunks t a → is_own (out_at n a) ≡ is_own (out_at m a)

-- no byte becomes raw: each that is raw was raw
unfoldable pub NoneBecomesRaw : HeapView → HeapView → Type 0
NoneBecomesRaw before after = (a : ℕ) → before.memory.start ≤ a → out_at after.memory a ≡ raw → out_at before.memory a ≡ raw

-- no byte beside a range becomes raw
unfoldable pub NoneBecomesRawBeside : HeapView → HeapView → Range → Type 0
NoneBecomesRawBeside before after r = (a : ℕ) → before.memory.start ≤ a → IsBeside r a → out_at after.memory a ≡ raw → out_at before.memory a ≡ raw
