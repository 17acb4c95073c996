-- Bounded queues of messages.
use Rattle.std.specs.Prelude.{ℕ, ◌-◌, ◌≤◌, List, [], ◌∷◌, Option, Some, None, map}
use Rattle.std.specs.List.{AllByRecursion}
use Rattle.rlsf_base.specs.Addr.{at}
use Rattle.rlsf_base.specs.declared.memory.range.Range.{Range}
use Rattle.rlsf_base.specs.Space.{Space}
use Rattle.rlsf_example_libraries.specs.declared.messages.Entry.{Entry}
use Rattle.rlsf_example_libraries.specs.Budgets.{FitsPayloads}
use Rattle.rlsf_example_libraries.specs.Stored.{Place, bytes_at_place}

-- a queue as its callers see it: its messages from the oldest on, the most that it can hold, the greatest length of one if
-- it was created with a longest message, the addresses of its memory, and how often the words of that memory were accessed
pub record Queue : Type 0 where
  pub messages : List (List ℕ)
  pub capacity : ℕ
  pub longest : Option ℕ
  pub memory : Range
  pub touches : ℕ

-- the oldest of the messages, if there is one
abbrev pub oldest : List (List ℕ) → Option (List ℕ)
oldest [] = None
oldest (m ∷ _) = Some m

-- where the message of an entry is stored
abbrev pub place_of_entry : Entry → Place
place_of_entry e = record { addr = at e.addr; align = 1; len = e.len }

-- the messages of these entries, as a memory has them
abbrev pub messages_in : Space → List Entry → List (List ℕ)
messages_in m entries = map (bytes_at_place m) (map place_of_entry entries)

-- a pool of a memory has room for `capacity` messages, each of `longest` bytes or fewer
abbrev pub FitsMessages : Range → ℕ → ℕ → Type 0
FitsMessages memory capacity longest = FitsPayloads memory (capacity - 1) longest 1

-- with a longest length, no entry is longer, and the pool has room for as many of that length as the queue can hold
abbrev pub KeepsLongest : Option ℕ → Range → ℕ → List Entry → Type 0
KeepsLongest None memory capacity entries = Unit {0}
KeepsLongest (Some longest) memory capacity entries = AllByRecursion (λ e. e.len ≤ longest) entries × FitsMessages memory capacity longest
