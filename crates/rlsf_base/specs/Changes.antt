-- Runs of bytes of one state, and what leaves, comes back or is written.
use Rattle.std.specs.Prelude.{◌≡◌, ℕ, ◌+◌, ◌-◌, ◌<◌, ◌≤◌, true, List, [], ◌∷◌, if◌then◌else◌}
use Rattle.rlsf_base.specs.Out.{Change, Kept, here, raw, out, is_own, all_here, kept_at}

-- the change of n bytes from the place i on to the state t
abbrev pub change : Kept → ℕ → ℕ → Change
change t i n = record { start = i; len = n; kept = t }

-- each of n bytes from the place i on has the state t
abbrev pub HaveByteState : Kept → List Change → ℕ → ℕ → Type 0
HaveByteState t cs i n = (k : ℕ) → i ≤ k → k < i + n → kept_at cs k ≡ t

-- each of n bytes from a place on is here
abbrev pub AreBytesHere : List Change → ℕ → ℕ → Type 0
AreBytesHere = HaveByteState here

-- each of n bytes from a place on is out
abbrev pub AreBytesOut : List Change → ℕ → ℕ → Type 0
AreBytesOut = HaveByteState out

-- each of n bytes from the place i on is the memory's own: here or raw
abbrev pub IsOwn : List Change → ℕ → ℕ → Type 0
IsOwn cs i n = (k : ℕ) → i ≤ k → k < i + n → is_own (kept_at cs k) ≡ true

-- each byte is the memory's own
abbrev pub IsAllOwn : List Change → Type 0
IsAllOwn cs = (k : ℕ) → is_own (kept_at cs k) ≡ true

-- the changes, once n bytes from the place i on left
abbrev pub left : ℕ → ℕ → List Change → List Change
left i n cs = change out i n ∷ cs

-- the changes, once n bytes from the place i on are written, or came back with values: none, where they are all here
abbrev pub came_back : ℕ → ℕ → List Change → List Change
came_back i n cs = if all_here cs i n then cs else change here i n ∷ cs

-- the changes, once n bytes from the place i on came back without values
abbrev pub came_raw : ℕ → ℕ → List Change → List Change
came_raw i n cs = change raw i n ∷ cs

-- the changes of the bytes from the place i on, whose places are counted from there
abbrev pub shifted : ℕ → List Change → List Change
shifted i [] = []
shifted i (c ∷ cs) = change c.kept (c.start - i) (c.start + c.len - i - (c.start - i)) ∷ shifted i cs
