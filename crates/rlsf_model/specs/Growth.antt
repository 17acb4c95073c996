-- How the reference model obtains more memory: its questions to a source, and what the answers lead to.
use Rattle.std.specs.Prelude.{◌≡◌, ℕ, ◌+◌, ◌-◌, ◌^◌, Bool, true, false, ◌||◌, List, [], ◌∷◌, ◌++◌, Option, Some, None, IsSome, nat_lt}
use Rattle.std.specs.Prelude.{if◌then◌else◌}
use Rattle.std.specs.Bool.{then_some}
use Rattle.std.specs.Option.{option_map, option_to_list}
use Rattle.rlsf_base.specs.declared.memory.range.Range.{Range}
use Rattle.rlsf_base.specs.Range.{range_at}
use Rattle.rlsf_model.specs.FlexState.{FlexState, KeptPool}
use Rattle.rlsf_model.specs.Insert.{Appends, Inserts}
use Rattle.rlsf_model.specs.Note.{Note, alloc, grow}
use Rattle.rlsf_model.specs.Terms.{Terms, with_len}

-- what a source is asked: first a range with the length that it is to grow to, and then, if that isn't given, the
-- length of a new range
pub record Questions : Type 0 where
  pub growth : Option (Range × ℕ)
  pub range : Option ℕ

-- the length of a new range in which an aligned part of e bytes is sure to lie, if it fits in a word
abbrev pub range_length : Terms → ℕ → Option ℕ
range_length t e = if nat_lt t.min_align 32 then then_some (nat_lt (e + 32) (2 ^ 64)) (e + 32) else Some e

-- What is asked for the pool that an allocation wants; nothing where no pool would do. Where a pool is kept, it is to be e bytes longer, if the
-- source can grow what it provided. If that isn't a length, nothing is asked, not even for a new range (rlsf 0.2.3 does so)
abbrev pub questions : Terms → Option KeptPool → Option ℕ → Questions
questions t kept None = record { growth = None; range = None }
questions t None (Some e) = record { growth = None; range = range_length t e }
questions t (Some k) (Some e) =
    if nat_lt (k.len + e) (2 ^ 64)
    then record { growth = then_some t.grow (k.range, k.len + e); range = if t.contiguous then None else range_length t e }
    else record { growth = None; range = None }

-- what came of the questions: nothing, a growth to a length, or a range
pub data Outcome : Type 0 where
  refused : Outcome
  growth_came : ℕ → Outcome
  range_came : Range → Outcome

-- what isn't asked isn't given
abbrev pub IsPossible : Questions → Outcome → Type 0
IsPossible q refused = Unit {0}
IsPossible q (growth_came len) = IsSome q.growth
IsPossible q (range_came r) = IsSome q.range

-- the questions with the answers that led to an outcome: the question for growth, if it is asked, and then that for a range, unless growth came
abbrev pub notes_of : Questions → Outcome → List Note
notes_of q refused = option_to_list (option_map (λ g. grow g.0 g.1 None) q.growth) ++ option_to_list (option_map (λ n. alloc n None) q.range)
notes_of q (growth_came len) = option_to_list (option_map (λ g. grow g.0 g.1 (Some len)) q.growth)
notes_of q (range_came r) = option_to_list (option_map (λ g. grow g.0 g.1 None) q.growth) ++ option_to_list (option_map (λ n. alloc n (Some r)) q.range)

-- the newest range is so long
abbrev pub longer : ℕ → List Range → List Range
longer len [] = []
longer len (p ∷ ps) = with_len p len ∷ ps

-- What came becomes part of the state. A range is inserted, and is the kept pool if the source takes ranges back or grows them. The bytes that
-- a growth gave are appended: those behind the kept pool, up to the end of its range, which is so long now
abbrev pub TakesIn : ℕ → Terms → FlexState → Outcome → FlexState → Type 0
TakesIn fllen t s refused u = u ≡ s
TakesIn fllen t s (range_came r) u =
    (len : ℕ) × Inserts fllen s.machine r (Some len) u.machine × (u.pools ≡ r ∷ s.pools)
    × (u.kept ≡ then_some (t.dealloc || t.grow) (record { range = r; len = len }))
TakesIn fllen t s (growth_came len) u =
    (k : KeptPool) × (taken : ℕ) × (s.kept ≡ Some k) × Appends fllen s.machine (range_at (k.range.start + k.len) (len - k.len)) taken u.machine
    × (u.pools ≡ longer len s.pools) × (u.kept ≡ Some (record { range = with_len k.range len; len = k.len + taken }))

-- how the state before, the pool that is wanted and the outcome determine the notes and the state after
pub record Extends (fllen : ℕ) (t : Terms) (s : FlexState) (wanted : Option ℕ) (outcome : Outcome) (notes : List Note) (u : FlexState) : Type 0 where
  pub possible : IsPossible (questions t s.kept wanted) outcome
  pub asked : notes ≡ notes_of (questions t s.kept wanted) outcome
  pub after : TakesIn fllen t s outcome u

-- whether memory came
abbrev pub is_more : Outcome → Bool
is_more refused = false
is_more (growth_came len) = true
is_more (range_came r) = true
