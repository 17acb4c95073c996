-- The reference model that asks a source for memory and is given the answers: its replies to allocations, computed, and that they are a run.
use Rattle.std.proofs.Common.{◌≡◌, ℕ, ◌%◌, ◌^◌, ◌+◌, Bool, true, ◌&&◌, leb, eqb, List, [], ◌∷◌, Option, Some, None, drop, true≢false, refl, sym, ap, ◌||◌}
use Rattle.std.proofs.Common.{◌∙◌, inl, inr}
use Rattle.std.specs.Bool.{then_some}
use Rattle.std.specs.Option.{is_some, IfSome}
use Rattle.std.proofs.lemmas.Bool.{and_parts, leb-true, eqb-true}
use Rattle.rlsf_base.specs.declared.memory.range.Range.{Range}
use Rattle.rlsf_model_sizes.specs.PowerOfTwo.{floor_log2}
use Rattle.rlsf_model_sizes.specs.Sizes.{max_pool_size, pool_size_to_contain_allocation, request_size}
use Rattle.rlsf_model.specs.Allocate.{choice}
use Rattle.rlsf_model.specs.FlexAllocate.{Asks, FlexAllocates}
use Rattle.rlsf_model.specs.FlexRun.{FlexEvent}
use Rattle.rlsf_model.specs.FlexState.{FlexState, KeptPool, with_machine}
use Rattle.rlsf_model.specs.Growth.{Outcome, Questions, IsPossible, TakesIn, refused, growth_came, range_came, is_more, longer, notes_of, questions}
use Rattle.rlsf_model.specs.Insert.{aligned_part, appended, appended_bytes, bytes_taken, cut, with_chunks}
use Rattle.rlsf_model.specs.Note.{Note, alloc, grow, dealloc}
use Rattle.rlsf_model.specs.Run.{allocate}
use Rattle.rlsf_model.specs.Terms.{IsGiven, IsGrown, Terms, with_len}
use Rattle.rlsf_model.proofs.Examples.{address, allocate_after, allocate_step, is_vacant, IsVacant-from}
use Rattle.rlsf_model.proofs.Names.{behind}

-- an allocation without its reply, and what comes of the questions if there is no room
pub record Attempt : Type 0 where
  pub size : ℕ
  pub align : ℕ
  pub outcome : Outcome

-- an answer keeps to the terms while these ranges are outstanding, of which the newest alone is asked to grow
abbrev pub IsAnswer : Terms → List Range → Note → Type 0
IsAnswer t owed (alloc n answer) = IfSome answer (λ r. IsGiven t owed n r)
IsAnswer t owed (grow r n answer) = IfSome answer (λ len. IsGrown t (drop 1 owed) r n len)
IsAnswer t owed (dealloc r) = Unit {0}

-- so does each of these, none of which but the last gives something
abbrev pub AreAnswers : Terms → List Range → List Note → Type 0
AreAnswers t owed [] = Unit {0}
AreAnswers t owed (n ∷ ns) = IsAnswer t owed n × AreAnswers t owed ns

-- ---- what it replies, what is asked for it, and the state after it

-- the free range that an allocation takes, if there is room
abbrev pub room : ℕ → FlexState → ℕ → ℕ → Option Range
room sllen s size align = choice sllen (request_size size align) s.machine.free

-- what is asked where there is no room
abbrev pub asked : ℕ → ℕ → Terms → FlexState → ℕ → ℕ → Questions
asked fllen sllen t s size align = questions t s.kept (pool_size_to_contain_allocation fllen sllen size align)

-- how many bytes of a range that came are taken, if it has room for a chunk
abbrev pub taken_of : ℕ → Range → Option ℕ
taken_of fllen r = bytes_taken r.start (cut (max_pool_size fllen) (aligned_part r))

-- a range came, of which so many bytes are taken
abbrev pub with_range : ℕ → Terms → FlexState → Range → Option ℕ → FlexState
with_range fllen t s r None = s
with_range fllen t s r (Some len) = record {
  machine = with_chunks (cut (max_pool_size fllen) (aligned_part r)) s.machine;
  pools = r ∷ s.pools;
  kept = then_some (t.dealloc || t.grow) (record { range = r; len = len });
}

-- the range of the kept pool, if there is one, became so long
abbrev pub with_growth : ℕ → FlexState → ℕ → Option KeptPool → FlexState
with_growth fllen s len None = s
with_growth fllen s len (Some k) = record {
  machine = appended (max_pool_size fllen) (behind k len) s.machine;
  pools = longer len s.pools;
  kept = Some (record { range = with_len k.range len; len = k.len + appended_bytes (max_pool_size fllen) (behind k len) });
}

-- what came is inserted
abbrev pub with_outcome : ℕ → Terms → FlexState → Outcome → FlexState
with_outcome fllen t s refused = s
with_outcome fllen t s (growth_came len) = with_growth fllen s len s.kept
with_outcome fllen t s (range_came r) = with_range fllen t s r (taken_of fllen r)

-- the state in which an allocation is placed: where there is no room, what came is inserted first
abbrev pub meanwhile : ℕ → Terms → FlexState → Outcome → Option Range → FlexState
meanwhile fllen t s outcome (Some f) = s
meanwhile fllen t s outcome None = with_outcome fllen t s outcome

-- what is asked for it: nothing where there is room
abbrev pub notes_for : Questions → Outcome → Option Range → List Note
notes_for q outcome (Some f) = []
notes_for q outcome None = notes_of q outcome

-- the state with the allocation in it, if it has a range
abbrev pub placed_in : ℕ → FlexState → ℕ → ℕ → Option Range → FlexState
placed_in sllen m size align o = with_machine m (allocate_after sllen m.machine size align [] o)

-- the state in which an attempt is placed
abbrev pub ready : ℕ → ℕ → Terms → FlexState → Attempt → FlexState
ready fllen sllen t s a = meanwhile fllen t s a.outcome (room sllen s a.size a.align)

-- the state after an attempt
abbrev pub after : ℕ → ℕ → Terms → FlexState → Attempt → FlexState
after fllen sllen t s a = placed_in sllen (ready fllen sllen t s a) a.size a.align (room sllen (ready fllen sllen t s a) a.size a.align)

-- an attempt with its reply and what is asked for it
abbrev pub done : ℕ → ℕ → Terms → FlexState → Attempt → FlexEvent
done fllen sllen t s a = record {
  event = allocate a.size a.align (address a.align (room sllen (ready fllen sllen t s a) a.size a.align));
  notes = notes_for (asked fllen sllen t s a.size a.align) a.outcome (room sllen s a.size a.align);
}

-- ---- whether the caller may ask so, and the source answer so

-- whether what came was asked for, and the allocation has a range in it
abbrev pub can_come : ℕ → Questions → FlexState → Outcome → Option Range → Bool
can_come fllen q s refused p = true
can_come fllen q s (growth_came len) p = is_some q.growth && (is_some s.kept && is_some p)
can_come fllen q s (range_came r) p = is_some q.range && (is_some (taken_of fllen r) && is_some p)

-- the same, where there may be room
abbrev pub may_come : ℕ → Questions → FlexState → Outcome → Option Range → Option Range → Bool
may_come fllen q s outcome (Some f) p = true
may_come fllen q s outcome None p = can_come fllen q s outcome p

-- whether n is a power of two
abbrev pub is_power_of_two : ℕ → Bool
is_power_of_two n = eqb n (2 ^ floor_log2 n)

-- whether a range answers the question for n bytes
abbrev pub is_given : Terms → List Range → ℕ → Range → Bool
is_given t owed n r = is_vacant t.space owed r && (leb n r.len && (is_power_of_two t.min_align && eqb (r.start % t.min_align) 0))

-- whether a length answers the question for growth to n bytes
abbrev pub is_grown : Terms → List Range → Range → ℕ → ℕ → Bool
is_grown t others r n len = is_vacant t.space others (with_len r len) && leb n len

-- whether an answer keeps to the terms
abbrev pub is_answer : Terms → List Range → Note → Bool
is_answer t owed (alloc n None) = true
is_answer t owed (alloc n (Some r)) = is_given t owed n r
is_answer t owed (grow r n None) = true
is_answer t owed (grow r n (Some len)) = is_grown t (drop 1 owed) r n len
is_answer t owed (dealloc r) = true

-- whether each of some answers does
abbrev pub are_answers : Terms → List Range → List Note → Bool
are_answers t owed [] = true
are_answers t owed (n ∷ ns) = is_answer t owed n && are_answers t owed ns

-- whether the alignment is one, and the answers keep to the terms and serve
abbrev pub may_attempt : ℕ → ℕ → Terms → FlexState → Attempt → Bool
may_attempt fllen sllen t s a =
    is_power_of_two a.align
    && (are_answers t s.pools (done fllen sllen t s a).notes
    && may_come fllen (asked fllen sllen t s a.size a.align) s a.outcome (room sllen s a.size a.align) (room sllen (ready fllen sllen t s a) a.size a.align))

-- ---- it is a run

-- what is something is not nothing
is_some_of : {A : Type 0} (o : Option A) (x : A) → o ≡ Some x → o ≡ None → ⊥
is_some_of o x some none = true≢false (ap is_some (sym some ∙ none))

-- what is_given tests
IsGiven-from : (t : Terms) (owed : List Range) (n : ℕ) (r : Range) → is_given t owed n r ≡ true → IsGiven t owed n r
IsGiven-from t owed n r e =
    let (vacant, rest) = and_parts (is_vacant t.space owed r) (leb n r.len && (is_power_of_two t.min_align && eqb (r.start % t.min_align) 0)) e in
    let (long, others) = and_parts (leb n r.len) (is_power_of_two t.min_align && eqb (r.start % t.min_align) 0) rest in
    let (power, aligned) = and_parts (is_power_of_two t.min_align) (eqb (r.start % t.min_align) 0) others in
    let v = IsVacant-from t.space owed r vacant in
    record {
      lies_in = v.lies_in;
      apart = v.apart;
      long = leb-true n r.len long;
      power = eqb-true t.min_align (2 ^ floor_log2 t.min_align) power;
      aligned = eqb-true (r.start % t.min_align) 0 aligned;
    }

-- what is_grown tests
IsGrown-from : (t : Terms) (others : List Range) (r : Range) (n len : ℕ) → is_grown t others r n len ≡ true → IsGrown t others r n len
IsGrown-from t others r n len e =
    let (vacant, long) = and_parts (is_vacant t.space others (with_len r len)) (leb n len) e in
    let v = IsVacant-from t.space others (with_len r len) vacant in
    record { lies_in = v.lies_in; apart = v.apart; long = leb-true n len long }

-- what is_answer tests
IsAnswer-from : (t : Terms) (owed : List Range) (note : Note) → is_answer t owed note ≡ true → IsAnswer t owed note
IsAnswer-from t owed (alloc n (Some r)) e = IsGiven-from t owed n r e
IsAnswer-from t owed (grow r n (Some len)) e = IsGrown-from t (drop 1 owed) r n len e
IsAnswer-from t owed x e = tt

-- what are_answers tests
pub AreAnswers-from : (t : Terms) (owed : List Range) (notes : List Note) → are_answers t owed notes ≡ true → AreAnswers t owed notes
AreAnswers-from t owed [] e = tt
AreAnswers-from t owed (n ∷ ns) e =
    let (first, others) = and_parts (is_answer t owed n) (are_answers t owed ns) e in
    (IsAnswer-from t owed n first, AreAnswers-from t owed ns others)

module _ (fllen sllen : ℕ) (t : Terms) (s : FlexState) where
  -- the range that came is taken in
  TakesIn-range : (r : Range) (n : Option ℕ) → taken_of fllen r ≡ n → is_some n ≡ true → TakesIn fllen t s (range_came r) (with_range fllen t s r n)
  TakesIn-range r None e some = absurd (true≢false (sym some))
  TakesIn-range r (Some len) e some = (len, record { answer = sym e; after = refl }, refl, refl)

  -- the growth that came is taken in
  TakesIn-growth : (len : ℕ) (k : Option KeptPool) → s.kept ≡ k → is_some k ≡ true → TakesIn fllen t s (growth_came len) (with_growth fllen s len k)
  TakesIn-growth len None e some = absurd (true≢false (sym some))
  TakesIn-growth len (Some k) e some = (k, appended_bytes (max_pool_size fllen) (behind k len), e, record { answer = refl; after = refl }, refl, refl)

  module _ (size align : ℕ) where
    -- where there is no room, the source is asked
    Asks-so : room sllen s size align ≡ None → (outcome : Outcome) → IsPossible (asked fllen sllen t s size align) outcome
        → TakesIn fllen t s outcome (with_outcome fllen t s outcome)
        → Asks fllen sllen t s size align outcome (notes_of (asked fllen sllen t s size align) outcome) (with_outcome fllen t s outcome)
    Asks-so none outcome possible takes = record { full = (none, refl); extends = record { possible = possible; asked = refl; after = takes } }

    -- an allocation that has a range in what came
    allocates_in_more : (outcome : Outcome) (notes : List Note) (m : FlexState) → is_more outcome ≡ true → Asks fllen sllen t s size align outcome notes m
        → (p : Option Range) → room sllen m size align ≡ p → is_some p ≡ true
        → FlexAllocates fllen sllen t s size align (address align p) notes (placed_in sllen m size align p)
    allocates_in_more outcome notes m more asks None e some = absurd (true≢false (sym some))
    allocates_in_more outcome notes m more asks (Some f) e some = inr (record {
      outcome = outcome;
      meanwhile = m;
      asks = asks;
      more = more;
      machine = allocate_after sllen m.machine size align [] (Some f);
      allocates = allocate_step sllen m.machine size align [] (Some f) e;
      after = refl;
    })

    -- an allocation where there is no room: in what came, or refused
    allocates_or_asks : room sllen s size align ≡ None → (outcome : Outcome) (p : Option Range) → room sllen (with_outcome fllen t s outcome) size align ≡ p
        → can_come fllen (asked fllen sllen t s size align) s outcome p ≡ true
        → FlexAllocates fllen sllen t s size align (address align p) (notes_of (asked fllen sllen t s size align) outcome)
        (placed_in sllen (with_outcome fllen t s outcome) size align p)
    allocates_or_asks none refused (Some f) e may = absurd (is_some_of (room sllen s size align) f e none)
    allocates_or_asks none refused None e may = Asks-so none refused tt refl
    allocates_or_asks none (growth_came len) p e may =
        let (possible, rest) = and_parts (is_some (asked fllen sllen t s size align).growth) (is_some s.kept && is_some p) may in
        let (kept, served) = and_parts (is_some s.kept) (is_some p) rest in
        let asks = Asks-so none (growth_came len) possible (TakesIn-growth len s.kept refl kept) in
        allocates_in_more (growth_came len) (notes_of (asked fllen sllen t s size align) (growth_came len)) (with_outcome fllen t s (growth_came len)) refl asks p e served
    allocates_or_asks none (range_came r) p e may =
        let (possible, rest) = and_parts (is_some (asked fllen sllen t s size align).range) (is_some (taken_of fllen r) && is_some p) may in
        let (taken, served) = and_parts (is_some (taken_of fllen r)) (is_some p) rest in
        let asks = Asks-so none (range_came r) possible (TakesIn-range r (taken_of fllen r) refl taken) in
        allocates_in_more (range_came r) (notes_of (asked fllen sllen t s size align) (range_came r)) (with_outcome fllen t s (range_came r)) refl asks p e served

    -- an allocation, in room or not
    pub FlexAllocates-so : (outcome : Outcome) (o p : Option Range) → room sllen s size align ≡ o → room sllen (meanwhile fllen t s outcome o) size align ≡ p
        → may_come fllen (asked fllen sllen t s size align) s outcome o p ≡ true
        → FlexAllocates fllen sllen t s size align (address align p) (notes_for (asked fllen sllen t s size align) outcome o)
        (placed_in sllen (meanwhile fllen t s outcome o) size align p)
    FlexAllocates-so outcome (Some f) None some e may = absurd (is_some_of (room sllen s size align) f some e)
    FlexAllocates-so outcome (Some f) (Some g) some e may =
        inl (record {
          machine = allocate_after sllen s.machine size align [] (Some g);
          allocates = allocate_step sllen s.machine size align [] (Some g) e;
          none = refl;
          after = refl;
        })
    FlexAllocates-so outcome None p none e may = allocates_or_asks none outcome p e may
