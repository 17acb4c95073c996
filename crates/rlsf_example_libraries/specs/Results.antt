-- What a queue of messages and a pool of owned objects ensure by the clauses `result`, `room`, `refused` and `frame`.
use Rattle.std.specs.Prelude.{◌≡◌, ℕ, ◌+◌, ◌%◌, ◌<◌, ◌≤◌, ◌↔◌, List, [], length, replicate, IfSome, IsErr, IsErrOf, IsOk, IsSomeAnd, OnErr, Result}
use Rattle.rlsf_heap.specs.Heap.{IsWritten, PayloadView}
use Rattle.rlsf_example_libraries.specs.declared.messages.PopError.{PopError}
use Rattle.rlsf_example_libraries.specs.declared.messages.PopError.TheVariants.{Empty, TooShort}
use Rattle.rlsf_example_libraries.specs.declared.messages.PushError.{PushError}
use Rattle.rlsf_example_libraries.specs.declared.messages.PushError.TheVariants.{Full, TooLong}
use Rattle.rlsf_example_libraries.specs.Owned.{OwnedPool}
use Rattle.rlsf_example_libraries.specs.Queue.{Queue, oldest}
use Rattle.rlsf_example_libraries.specs.Stored.{FitsPool}

-- ---- a queue of messages

-- when a queue surely accepts a message of `len` bytes
pub record AcceptsMessage (before : Queue) (len : ℕ) (reply : Result (Unit {0}) PushError) : Type 0 where
  -- the queue is empty and can hold a message, its pool is long enough for this one, and it isn't longer than the queue's longest
  pub first : before.messages ≡ [] → 0 < before.capacity → FitsPool before.memory len 1 → IfSome before.longest (λ longest. len ≤ longest) → IsOk reply
  -- the queue has a longest message, this one isn't longer, and the queue isn't full
  pub enough : IsSomeAnd before.longest (λ longest. len ≤ longest) → IsErr reply → length before.messages ≡ before.capacity

-- when a push of `len` bytes is refused, and what it changes then
pub record RefusesPush (before after : Queue) (len : ℕ) (reply : Result (Unit {0}) PushError) : Type 0 where
  -- at an error, the messages are as they were
  pub same : OnErr reply (after.messages ≡ before.messages)
  -- `Full` is returned exactly if there are as many messages as the capacity
  pub full : IsErrOf reply Full ↔ (length before.messages ≡ before.capacity)
  -- `TooLong` exactly if there are fewer, and the message is longer than the queue's longest
  pub long : IsErrOf reply TooLong ↔ (length before.messages < before.capacity) × IsSomeAnd before.longest (λ longest. longest < len)

-- when a pop into these bytes is refused, and what it changes then
pub record RefusesPop (before after : Queue) (into left : List ℕ) (reply : Result ℕ PopError) : Type 0 where
  -- at an error, the messages are as they were
  pub same : OnErr reply (after.messages ≡ before.messages)
  -- and so are the bytes
  pub bytes : OnErr reply (left ≡ into)
  -- `Empty` is returned exactly if there is no message
  pub empty : IsErrOf reply Empty ↔ (before.messages ≡ [])
  -- `TooShort` exactly if the oldest message is longer than these bytes
  pub short : IsErrOf reply TooShort ↔ IsSomeAnd (oldest before.messages) (λ m. length into < length m)
  -- if they are as many as the queue's longest message, an error is returned only if there is no message
  pub enough : IsSomeAnd before.longest (λ longest. longest ≤ length into) → IsErr reply → before.messages ≡ []

-- what a push or a pop keeps in every case
pub record KeepsQueue (before after : Queue) : Type 0 where
  -- the most messages that it can hold
  pub capacity : after.capacity ≡ before.capacity
  -- the greatest length of a message
  pub longest : after.longest ≡ before.longest
  -- the addresses of the memory
  pub memory : after.memory ≡ before.memory

-- ---- a pool of objects that own their bytes

-- an object was taken
pub record IsObjectTaken (before after : OwnedPool) (object : PayloadView) : Type 0 where
  -- one more is out, and nothing else changed
  pub taken : after ≡ record before { live = before.live + 1 }
  -- the object is a payload of the pool's heap
  pub identity : object.identity ≡ before.identity
  -- with the pool's alignment
  pub align : object.align ≡ before.align
  -- all its bytes are here
  pub written : IsWritten object
  -- and 0
  pub zeros : object.bytes ≡ replicate (length object.bytes) 0
  -- it has at least the pool's size in bytes
  pub sized : before.size ≤ length object.bytes
  -- and less than 32 more
  pub few : length object.bytes < before.size + 32
  -- its address is a multiple of the alignment
  pub aligned : object.start % before.align ≡ 0
