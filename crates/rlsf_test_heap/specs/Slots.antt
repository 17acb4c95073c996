-- The payloads that the slots of a test hold.
use Rattle.std.specs.Prelude.{◌≡◌, ◌≢◌, ℕ, List, Option, All, IfSome}
use Rattle.rlsf_heap.specs.Heap.{Identity, IsWritten, PayloadView}

-- it is one of a heap
abbrev pub IsSlotOf : Identity → Option PayloadView → Type 0
IsSlotOf heap slot = IfSome slot (λ payload. payload.identity ≡ heap)

-- each is
abbrev pub AreSlotsOf : Identity → List (Option PayloadView) → Type 0
AreSlotsOf heap slots = All (IsSlotOf heap) slots

-- it is one of a heap, and each of its bytes is here
abbrev pub IsWrittenOf : Identity → Option PayloadView → Type 0
IsWrittenOf heap slot = IfSome slot (λ payload. (payload.identity ≡ heap) × IsWritten payload)

-- each is
abbrev pub AreWrittenOf : Identity → List (Option PayloadView) → Type 0
AreWrittenOf heap slots = All (IsWrittenOf heap) slots

-- it is one of a heap that is known by its address, with this alignment, and each of its bytes is here
abbrev pub IsHeld : Identity → ℕ → ℕ → PayloadView → Type 0
IsHeld heap addr align payload = (addr ≢ 0) × (payload.start ≡ addr) × (payload.align ≡ align) × (payload.identity ≡ heap) × IsWritten payload
