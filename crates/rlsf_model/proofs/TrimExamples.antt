-- The reference model over a source with trims: its replies and the ranges that it returns, computed, and that they are a run.
use Rattle.std.proofs.Common.{◌≡◌, ℕ, ◌+◌, ◌-◌, ◌<◌, ◌≤◌, Bool, true, false, ◌&&◌, ◌||◌, cond, leb, eqb, length, map, max, List, [], ◌∷◌}
use Rattle.std.proofs.Common.{◌++◌, Option, Some, None, find, take, drop, true≢false, arith, refl, sym}
use Rattle.std.proofs.lemmas.Bool.Decides.{nat_tests}
use Rattle.std.specs.Option.{is_some}
use Rattle.std.proofs.lemmas.Bool.{and_parts, eqb-true, leb-true}
use Rattle.std.proofs.lemmas.List.{take-append-drop}
use Rattle.rlsf_base.specs.declared.memory.range.Range.{Range}
use Rattle.rlsf_base.specs.Range.{end_of}
use Rattle.rlsf_model.specs.FlexRun.{FlexEvent, FlexLeads, FlexMayCall}
use Rattle.rlsf_model.specs.FlexState.{FlexState, KeptPool, with_machine}
use Rattle.rlsf_model.specs.Lists.{IsIn}
use Rattle.rlsf_model.specs.Note.{dealloc}
use Rattle.rlsf_model.specs.Release.{released}
use Rattle.rlsf_model.specs.Remove.{IsIdle, lies_within}
use Rattle.rlsf_model.specs.Run.{deallocate, trim}
use Rattle.rlsf_model.specs.State.{State, Used}
use Rattle.rlsf_model.specs.Terms.{Terms}
use Rattle.rlsf_model.specs.Trim.{all_removed, IsKeptToLast, IsNewestHeld}
use Rattle.rlsf_model.specs.WellFormed.{coverage}
use Rattle.rlsf_model.proofs.Coverage.{find-some, covers-before, covers-behind, covers-inside}
use Rattle.rlsf_model.proofs.FlexExamples.{Attempt, AreAnswers, AreAnswers-from, FlexAllocates-so, after, done, may_attempt}
use Rattle.rlsf_model.proofs.Removals.{lies_within-le, lies_within-true}
use Rattle.rlsf_model.proofs.Tiling.{block_of}

-- an allocation without its reply, a deallocation, or a trim by which so many ranges are returned
pub data Move : Type 0 where
  allocates : Attempt → Move
  frees : ℕ → Move
  gives_back : ℕ → Move

-- calls one after another, and the answers of a source that keeps to its terms, lead from one state to another
abbrev pub RunsWith : ℕ → ℕ → Terms → FlexState → List FlexEvent → FlexState → Type 0
RunsWith fllen sllen t s [] u = u ≡ s
RunsWith fllen sllen t s (c ∷ cs) u =
    (m : FlexState) × FlexMayCall t.space s.machine c.event × AreAnswers t s.pools c.notes × FlexLeads fllen sllen t s c.event c.notes m × RunsWith fllen sllen t m cs u

-- ---- what a trim returns and keeps

-- whether no used block has a byte of a range
abbrev pub is_idle : Range → List Used → Bool
is_idle r [] = true
is_idle r (u ∷ used) = (leb (end_of u.block) r.start || leb (end_of r) u.block.start) && is_idle r used

-- whether no used block has a byte of some ranges
abbrev pub are_idle : List Range → List Used → Bool
are_idle [] used = true
are_idle (r ∷ ranges) used = is_idle r used && are_idle ranges used

-- whether a used block begins in a range
abbrev pub is_held : Range → List Used → Bool
is_held r [] = false
is_held r (u ∷ used) = (leb r.start u.block.start && (leb (u.block.start + 1) (end_of r) && leb 1 u.block.len)) || is_held r used

-- whether the newest range holds a used block
abbrev pub is_newest_held : List Range → List Used → Bool
is_newest_held [] used = true
is_newest_held (r ∷ ranges) used = is_held r used

-- the end of the last chunk in a range
abbrev pub last_end : Range → List Range → ℕ
last_end r [] = 0
last_end r (c ∷ cs) = cond (lies_within r c) (max (end_of c) (last_end r cs)) (last_end r cs)

-- whether a chunk in a range ends at an address
abbrev pub ends_in : Range → ℕ → List Range → Bool
ends_in r a [] = false
ends_in r a (c ∷ cs) = (lies_within r c && eqb (end_of c) a) || ends_in r a cs

-- the pool that is kept
abbrev pub kept_of : List Range → List Range → Option KeptPool
kept_of chunks [] = None
kept_of chunks (r ∷ ranges) = Some (record { range = r; len = last_end r chunks - r.start })

-- whether there is a chunk in the newest range
abbrev pub has_last : List Range → List Range → Bool
has_last chunks [] = true
has_last chunks (r ∷ ranges) = leb r.start (last_end r chunks) && ends_in r (last_end r chunks) chunks

-- ---- calls

-- the state without the block, if there is one
abbrev pub without_block : FlexState → Option Used → FlexState
without_block s None = s
without_block s (Some u) = with_machine s (released s.machine u)

-- the block at an address
abbrev pub block_at : FlexState → ℕ → Option Used
block_at s addr = find (λ u. eqb u.payload addr) s.machine.used

-- the state once so many of the newest ranges were returned
abbrev pub trimmed : ℕ → FlexState → FlexState
trimmed n s =
    let m = all_removed (take n s.pools) s.machine in
    record { machine = m; pools = drop n s.pools; kept = kept_of m.chunks (drop n s.pools) }

abbrev pub moved_to : ℕ → ℕ → Terms → FlexState → Move → FlexState
moved_to fllen sllen t s (allocates a) = after fllen sllen t s a
moved_to fllen sllen t s (frees addr) = without_block s (block_at s addr)
moved_to fllen sllen t s (gives_back n) = trimmed n s

-- a call with its reply and notes
abbrev pub moved_by : ℕ → ℕ → Terms → FlexState → Move → FlexEvent
moved_by fllen sllen t s (allocates a) = done fllen sllen t s a
moved_by fllen sllen t s (frees addr) = record { event = deallocate addr; notes = [] }
moved_by fllen sllen t s (gives_back n) = record { event = trim n; notes = map dealloc (take n s.pools) }

-- whether it may be
abbrev pub may_move : ℕ → ℕ → Terms → FlexState → Move → Bool
may_move fllen sllen t s (allocates a) = may_attempt fllen sllen t s a
may_move fllen sllen t s (frees addr) = is_some (block_at s addr)
may_move fllen sllen t s (gives_back n) =
    t.dealloc
    && (eqb n (length (take n s.pools))
    && (are_idle (take n s.pools) s.machine.used && (is_newest_held (drop n s.pools) s.machine.used && has_last (all_removed (take n s.pools) s.machine).chunks (drop n s.pools))))

-- all calls with their replies and notes, the state after them, and whether they may be
abbrev pub all_moved_by : ℕ → ℕ → Terms → FlexState → List Move → List FlexEvent
all_moved_by fllen sllen t s [] = []
all_moved_by fllen sllen t s (m ∷ ms) = moved_by fllen sllen t s m ∷ all_moved_by fllen sllen t (moved_to fllen sllen t s m) ms

abbrev pub all_moved_to : ℕ → ℕ → Terms → FlexState → List Move → FlexState
all_moved_to fllen sllen t s [] = s
all_moved_to fllen sllen t s (m ∷ ms) = all_moved_to fllen sllen t (moved_to fllen sllen t s m) ms

abbrev pub may_move_all : ℕ → ℕ → Terms → FlexState → List Move → Bool
may_move_all fllen sllen t s [] = true
may_move_all fllen sllen t s (m ∷ ms) = may_move fllen sllen t s m && may_move_all fllen sllen t (moved_to fllen sllen t s m) ms

-- ---- they are a run

or_parts : (a b : Bool) {X : Type 0} → (a || b) ≡ true → (a ≡ true → X) → (b ≡ true → X) → X
or_parts true b e first second = first refl
or_parts false b e first second = second e

is_idle-from : (r : Range) (used : List Used) → is_idle r used ≡ true → (a : ℕ) → r.start ≤ a → a < end_of r → coverage block_of used a ≡ 0
is_idle-from r [] e a low high = refl
is_idle-from r (u ∷ used) e a low high = grind (arith, nat_tests, is_idle-from r used, and_parts, or_parts, covers-behind, covers-before)

are_idle-from : (s : State) (ranges : List Range) → are_idle ranges s.used ≡ true → (r : Range) → IsIn r ranges → IsIdle s r
are_idle-from s [] e r i = absurd i
are_idle-from s (q ∷ ranges) e r i = grind (arith, are_idle-from s ranges, and_parts, is_idle-from)

is_held-from : (r : Range) (used : List Used) → is_held r used ≡ true → (a : ℕ) × (r.start ≤ a) × (a < end_of r) × (1 ≤ coverage block_of used a)
is_held-from r [] e = absurd (true≢false (sym e))
is_held-from r (u ∷ used) e = or_parts (leb r.start u.block.start && (leb (u.block.start + 1) (end_of r) && leb 1 u.block.len)) (is_held r used) e
    (λ f. let (low, rest) = and_parts (leb r.start u.block.start) (leb (u.block.start + 1) (end_of r) && leb 1 u.block.len) f in
    let (high, some) = and_parts (leb (u.block.start + 1) (end_of r)) (leb 1 u.block.len) rest in
    let a = u.block.start in
    let full = leb-true 1 u.block.len some in
    (a, leb-true r.start a low, omega (arith, leb-true (a + 1) (end_of r) high), omega (arith, covers-inside u.block a (omega arith) (omega arith))))
    (λ f. let (a, low, high, some) = is_held-from r used f in (a, low, high, omega arith))

is_newest_held-from : (s : State) (ranges : List Range) → is_newest_held ranges s.used ≡ true → IsNewestHeld s ranges
is_newest_held-from s l e = grind (arith, is_held-from)

last_end-le : (r : Range) (cs : List Range) (c : Range) → IsIn c cs → r.start ≤ c.start → end_of c ≤ end_of r → end_of c ≤ last_end r cs
last_end-le r [] c i low high = absurd i
last_end-le r (d ∷ cs) c i low high = grind (arith, nat_tests, last_end-le r cs c, lies_within-le)

ends_in-from : (r : Range) (a : ℕ) (cs : List Range) → ends_in r a cs ≡ true
    → (c : Range) × IsIn c cs × (r.start ≤ c.start) × (end_of c ≤ end_of r) × (end_of c ≡ a)
ends_in-from r a [] e = absurd (true≢false (sym e))
ends_in-from r a (c ∷ cs) e = grind (arith, nat_tests, ends_in-from r a cs, or_parts, and_parts, lies_within-true)

has_last-from : (chunks ranges : List Range) → has_last chunks ranges ≡ true → IsKeptToLast chunks ranges (kept_of chunks ranges)
has_last-from chunks l e = grind (arith, and_parts, leb-true, ends_in-from, last_end-le)

split_at : (n : ℕ) (xs : List Range) → xs ≡ take n xs ++ drop n xs
split_at n xs = sym (take-append-drop n xs)

gone_answers : (t : Terms) (owed gone : List Range) → AreAnswers t owed (map dealloc gone)
gone_answers t owed [] = tt
gone_answers t owed (r ∷ gone) = (tt, gone_answers t owed gone)

module _ (fllen sllen : ℕ) (t : Terms) (s : FlexState) where
  free_leads : (addr : ℕ) (o : Option Used) → block_at s addr ≡ o → is_some o ≡ true → FlexLeads fllen sllen t s (deallocate addr) [] (without_block s o)
  free_leads addr None e some = absurd (true≢false (sym some))
  free_leads addr (Some u) e some =
      let is = find-some (λ v. eqb v.payload addr) u s.machine.used e in
      record { machine = released s.machine u; leads = record { block = u; holds = (is.0, eqb-true u.payload addr is.1); after = refl }; none = refl; after = refl }

  trim_leads : (n : ℕ) → may_move fllen sllen t s (gives_back n) ≡ true → FlexLeads fllen sllen t s (trim n) (map dealloc (take n s.pools)) (trimmed n s)
  trim_leads n e = grind (arith, and_parts, split_at, are_idle-from, is_newest_held-from, eqb-true, has_last-from)

  move_leads : (m : Move) → may_move fllen sllen t s m ≡ true
      → FlexMayCall t.space s.machine (moved_by fllen sllen t s m).event × AreAnswers t s.pools (moved_by fllen sllen t s m).notes
      × FlexLeads fllen sllen t s (moved_by fllen sllen t s m).event (moved_by fllen sllen t s m).notes (moved_to fllen sllen t s m)
  move_leads (allocates a) e = grind (arith, and_parts, eqb-true, AreAnswers-from, FlexAllocates-so)
  move_leads (frees addr) e = let leads = free_leads addr (block_at s addr) refl e in ((leads.leads.block, leads.leads.holds), tt, leads)
  move_leads (gives_back n) e = (tt, gone_answers t s.pools (take n s.pools), trim_leads n e)

-- calls that may be are a run
pub RunsWith-all : (fllen sllen : ℕ) (t : Terms) (s : FlexState) (moves : List Move) → may_move_all fllen sllen t s moves ≡ true
    → RunsWith fllen sllen t s (all_moved_by fllen sllen t s moves) (all_moved_to fllen sllen t s moves)
RunsWith-all fllen sllen t s [] e = refl
RunsWith-all fllen sllen t s (m ∷ ms) e = grind (arith, RunsWith-all fllen sllen t (moved_to fllen sllen t s m) ms, and_parts, move_leads)
