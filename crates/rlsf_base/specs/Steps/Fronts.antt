-- An owner of which the first bytes were written.
use Rattle.std.specs.Prelude.{◌≡◌, ℕ, ◌≤◌, ◌++◌, List, length, take, drop}
use Rattle.rlsf_base.specs.Out.{kept_at}
use Rattle.rlsf_base.specs.Changes.{AreBytesHere, IsOwn}
use Rattle.rlsf_base.specs.Steps.Owners.{Gets, values_in, changes_with, values_with}
use Rattle.rlsf_base.specs.declared.memory.block.Bytes.{Bytes}

-- the first n bytes have these values afterwards, and are here. The others have the values that they had, and none is out
abbrev pub HasFront : Bytes → Bytes → List ℕ → ℕ → Type 0
HasFront old new values n = (n ≤ length values) × Gets old new (take n values ++ drop n old.bytes) × AreBytesHere new.out 0 n × IsOwn new.out 0 (length values)

-- n bytes from a place on were copied to another place: what became of the bytes is as if they were written
abbrev pub HasCopied : Bytes → Bytes → ℕ → ℕ → ℕ → Type 0
HasCopied old new from to n =
    Gets old new (values_with old to n (values_in old from n)) × ((k : ℕ) → kept_at new.out k ≡ kept_at (changes_with old to n) k)
