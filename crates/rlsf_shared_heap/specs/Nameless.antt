-- The identity of no heap.
use denote.RawPtr.{null_ptr}
use Rattle.rlsf_heap.specs.Heap.{Identity}

-- a placeholder for a name where no proof chooses one
abbrev pub nameless : Identity
nameless = record { home = record { start = 0; len = 0; view = record { base = record { ptr = null_ptr }; shift = 0 } }; ledger = 0 }
