-- A shared heap as contracts see it.
use Rattle.std.specs.Prelude.{◌≡◌, List, Any}
use Rattle.rlsf_heap.specs.Heap.{Identity}

-- which heap it is: nothing else is known of a value behind a lock
pub record SharedView : Type 0 where
  pub identity : Identity

-- one of these heaps has this identity
unfoldable pub IsOfOne : List SharedView → Identity → Type 0
IsOfOne heaps identity = Any (λ h. h.identity ≡ identity) heaps
