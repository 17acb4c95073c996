-- What a source is asked for payloads of one byte, where no pool is kept.
use Rattle.std.proofs.Common.{◌≡◌, ℕ, ◌<◌, ◌≤◌, ◌⊎◌, true, true≢false, List, [], ◌∷◌, ◌++◌, length, map, Option, Some, None, arith, refl, sym}
use Rattle.std.proofs.Common.{ap, subst, ◌∙◌, inl, inr}
use Rattle.std.specs.Option.{is_some}
use Rattle.std.proofs.lemmas.Bool.{cases_lt}
use Rattle.std.proofs.lemmas.List.{length-map}
use Rattle.rlsf_base.specs.declared.memory.range.Range.{Range}
use Rattle.rlsf_base.specs.Space.{range_of}
use Rattle.rlsf_model_sizes.specs.Sizes.{pool_size_to_contain_allocation}
use Rattle.rlsf_flex.specs.StandsFor.{FlexContents, FlexSteps}
use Rattle.rlsf_model.specs.Allocate.{choice, Places}
use Rattle.rlsf_model.specs.Answers.{MayAnswerAll}
use Rattle.rlsf_model.specs.FlexAllocate.{FlexAllocates}
use Rattle.rlsf_model.specs.FlexState.{FlexState, KeptPool, flex_empty}
use Rattle.rlsf_model.specs.Growth.{Extends, Outcome, range_came, growth_came, is_more, notes_of, questions, refused}
use Rattle.rlsf_model.specs.Insert.{Inserts}
use Rattle.rlsf_model.specs.Lists.{IsIn}
use Rattle.rlsf_model.specs.Note.{LeadsBy, Note, alloc}
use Rattle.rlsf_model.specs.State.{State}
use Rattle.rlsf_model.specs.Terms.{IsGiven, Terms}
use Rattle.rlsf_model.specs.WellFormed.{IsWellFormed}
use Rattle.rlsf_model.proofs.Notes.{terms-led}
use Rattle.rlsf_trace_flex_runs.specs.Listed.{Listed, Remembers, question_of}
use Rattle.rlsf_trace_flex_runs.specs.declared.listed.Question.{Question}
use Rattle.rlsf_test_flex.specs.Questions.{IsAskedForTwo, plain}
use Rattle.rlsf_test_flex.proofs.OneRange.{short_is_full, long_has_room}
use Rattle.rlsf_trace_flex_runs.proofs.Remembered.{remembered-led}

-- the notes with an outcome, where this pool is kept
abbrev notes_for : Range → Outcome → Option KeptPool → List Note
notes_for space outcome kept = notes_of (questions (plain space) kept (pool_size_to_contain_allocation 8 8 1 1)) outcome

-- where memory came, it was a range, which was inserted
more_is_a_range : (space : Range) (s m : FlexState) (outcome : Outcome) (notes : List Note) → s.kept ≡ None → is_more outcome ≡ true
    → Extends 8 (plain space) s (pool_size_to_contain_allocation 8 8 1 1) outcome notes m
    → (m.kept ≡ None) × (r : Range) × (notes ≡ alloc 64 (Some r) ∷ []) × (len : ℕ) × Inserts 8 s.machine r (Some len) m.machine
more_is_a_range space s m refused notes kept more e = absurd (true≢false (sym more))
more_is_a_range space s m (growth_came len) notes kept more e =
    absurd (true≢false (sym (subst (λ k. is_some (questions (plain space) k (pool_size_to_contain_allocation 8 8 1 1)).growth ≡ true) kept e.possible)))
more_is_a_range space s m (range_came r) notes kept more e =
    let (len, inserts, pools, none) = e.after in
    (none, r, e.asked ∙ ap (notes_for space (range_came r)) kept, len, inserts)

-- there is no room for a payload of one byte
abbrev IsFull : State → Type 0
IsFull m = choice 8 32 m.free ≡ None

-- what the first allocation has asked, as it replies, and whether it leaves room for another
abbrev HasAskedFirst : Option ℕ → List Note → State → Type 0
HasAskedFirst None notes m = (notes ≡ alloc 64 None ∷ []) × IsFull m
HasAskedFirst (Some a) notes m = (r : Range) × (notes ≡ alloc 64 (Some r) ∷ []) × (r.len < 96 → IsFull m) × (96 ≤ r.len → IsFull m → ⊥)

-- what another one has asked: nothing, if there was room
abbrev HasAskedThen : State → Option ℕ → List Note → Type 0
HasAskedThen m None notes = IsFull m × (notes ≡ alloc 64 None ∷ [])
HasAskedThen m (Some b) notes = (IsFull m × (q : Range) × (notes ≡ alloc 64 (Some q) ∷ [])) ⊎ ((IsFull m → ⊥) × (notes ≡ []))

-- the first one has no room; no pool is kept after it
asks_first : (space memory : Range) (u : FlexState) (reply : Option ℕ) (notes : List Note) → FlexAllocates 8 8 (plain space) flex_empty 1 1 reply notes u
    → MayAnswerAll (plain space) [] notes → IsWellFormed 8 8 memory u.machine → (u.kept ≡ None) × HasAskedFirst reply notes u.machine
asks_first space memory u None notes did answers w =
    (ap (λ (v : FlexState). v.kept) did.extends.after, (did.extends.asked, ap (λ (v : FlexState). choice 8 32 v.machine.free) did.extends.after))
asks_first space memory u (Some a) notes (inl did) answers w = absurd (true≢false (sym (ap is_some did.allocates.chosen)))
asks_first space memory u (Some a) notes (inr did) answers w =
    let (none, r, is, len, inserts) = more_is_a_range space flex_empty did.meanwhile did.outcome notes refl did.more did.asks.extends in
    let given : IsGiven (plain space) [] 64 r = answers (alloc 64 (Some r)) (subst (IsIn (alloc 64 (Some r))) (sym is) (inl refl)) in
    let places : Places 8 did.meanwhile.machine 1 1 a u.machine = subst (λ (v : FlexState). Places 8 did.meanwhile.machine 1 1 a v.machine) (sym did.after) did.allocates in (
      ap (λ (v : FlexState). v.kept) did.after ∙ none,
      (
        r,
        is,
        short_is_full did.meanwhile.machine u.machine r len a w inserts places given.aligned given.long,
        long_has_room did.meanwhile.machine u.machine r len a w inserts places given.aligned given.long,
      ),
    )

-- another one asks exactly where there is no room
asks_then : (space : Range) (s u : FlexState) (reply : Option ℕ) (notes : List Note) → s.kept ≡ None → FlexAllocates 8 8 (plain space) s 1 1 reply notes u
    → HasAskedThen s.machine reply notes
asks_then space s u None notes kept did = (did.full.0, did.extends.asked ∙ ap (notes_for space refused) kept)
asks_then space s u (Some b) notes kept (inl did) = inr (λ full. true≢false (sym (ap is_some (sym full ∙ did.allocates.chosen))), did.none)
asks_then space s u (Some b) notes kept (inr did) =
    let (none, q, is, len, inserts) = more_is_a_range space s did.meanwhile did.outcome notes kept did.more did.asks.extends in
    inl (did.asks.full.0, q, is)

-- the first one asks once
length-asked_first : (reply : Option ℕ) (notes : List Note) (m : State) → HasAskedFirst reply notes m → length notes ≤ 1
length-asked_first None notes m (is, full) = omega (arith, ap length is)
length-asked_first (Some a) notes m (r, is, short, long) = omega (arith, ap length is)

-- the second one once or not at all
length-asked_then : (m : State) (reply : Option ℕ) (notes : List Note) → HasAskedThen m reply notes → length notes ≤ 1
length-asked_then m None notes (full, is) = omega (arith, ap length is)
length-asked_then m (Some b) notes (inl (full, q, is)) = omega (arith, ap length is)
length-asked_then m (Some b) notes (inr (room, none)) = omega (arith, ap length none)

-- the questions of equal notes
same_notes : (ms ms' ns ns' : List Note) (asked : List Question) → ms ≡ ms' → ns ≡ ns' → asked ≡ map question_of ms ++ map question_of ns
    → asked ≡ map question_of ms' ++ map question_of ns'
same_notes ms ms' ns ns' asked m n is = is ∙ ap (λ l. map question_of l ++ map question_of ns) m ∙ ap (λ l. map question_of ms' ++ map question_of l) n

-- the questions of two allocations
two_asked : (first second : Option ℕ) (ms ns : List Note) (m : State) (asked : List Question) → HasAskedFirst first ms m → HasAskedThen m second ns
    → asked ≡ map question_of ms ++ map question_of ns
    → IsAskedForTwo first second asked
two_asked None None ms ns m asked (is, full) (still, then) all = same_notes ms (alloc 64 None ∷ []) ns (alloc 64 None ∷ []) asked is then all
two_asked None (Some b) ms ns m asked (is, full) (inl (still, q, then)) all = (q, same_notes ms (alloc 64 None ∷ []) ns (alloc 64 (Some q) ∷ []) asked is then all)
two_asked None (Some b) ms ns m asked (is, full) (inr (room, none)) all = absurd (room full)
two_asked (Some a) None ms ns m asked (r, is, short, long) (full, then) all =
    (r, elim (cases_lt r.len 96) [ inl few ↦ few | inr more ↦ absurd (long more full) ], same_notes ms (alloc 64 (Some r) ∷ []) ns (alloc 64 None ∷ []) asked is then all)
two_asked (Some a) (Some b) ms ns m asked (r, is, short, long) (inl (full, q, then)) all = (
  r,
  inr (
    elim (cases_lt r.len 96) [ inl few ↦ few | inr more ↦ absurd (long more full) ],
    q,
    same_notes ms (alloc 64 (Some r) ∷ []) ns (alloc 64 (Some q) ∷ []) asked is then all,
  ),
)
two_asked (Some a) (Some b) ms ns m asked (r, is, short, long) (inr (room, none)) all =
    (r, inl (elim (cases_lt r.len 96) [ inl few ↦ absurd (room (short few)) | inr more ↦ more ], same_notes ms (alloc 64 (Some r) ∷ []) ns [] asked is none all))

-- two allocations of one byte from the empty state, and what the source remembers of them
pub asked_for_two : (space memory : Range) (x y z : Listed) (begin s u : FlexState) (size align : ℕ) (first second : Option ℕ) (ms ns : List Note)
    → begin ≡ flex_empty → size ≡ 1 → align ≡ 1 → x.terms ≡ plain space → x.asked ≡ [] → 2 ≤ x.room
    → FlexAllocates 8 8 x.terms begin size align first ms s → MayAnswerAll x.terms begin.pools ms → IsWellFormed 8 8 memory s.machine → LeadsBy Remembers x ms y
    → FlexAllocates 8 8 y.terms s size align second ns u → LeadsBy Remembers y ns z → IsAskedForTwo first second z.asked
asked_for_two space memory x y z begin s u size align first second ms ns is_empty one_byte any terms none room one answers w led_one two led_two =
    let same : y.terms ≡ plain space = terms-led (λ (v : Listed). v.terms) Remembers (λ a b n led. led.terms) x y ms led_one ∙ terms in
    let did : FlexAllocates 8 8 (plain space) flex_empty 1 1 first ms s =
    subst (λ v. FlexAllocates 8 8 (plain space) v 1 1 first ms s) is_empty
    (at_one begin (plain space) first ms s (subst (λ t. FlexAllocates 8 8 t begin size align first ms s) terms one)) in
    let given : MayAnswerAll (plain space) [] ms =
    subst (λ (v : FlexState). MayAnswerAll (plain space) v.pools ms) is_empty (subst (λ t. MayAnswerAll t begin.pools ms) terms answers) in
    let (kept, has) = asks_first space memory s first ms did given w in
    let then : HasAskedThen s.machine second ns =
    asks_then space s u second ns kept (at_one s (plain space) second ns u (subst (λ t. FlexAllocates 8 8 t s size align second ns u) same two)) in
    let (room_one, asked_one) = remembered-led x y ms led_one (omega (arith, length-asked_first first ms s.machine has, room, ap length none)) in
    let before : y.asked ≡ map question_of ms = asked_one ∙ ap (λ xs. xs ++ map question_of ms) none in
    let many : length y.asked ≡ length ms = ap length before ∙ length-map ms question_of in
    let (room_two, asked_two) =
    remembered-led y z ns led_two (omega (arith, length-asked_first first ms s.machine has, length-asked_then s.machine second ns then, room, room_one, many)) in
    two_asked first second ms ns s.machine z.asked has then (asked_two ∙ ap (λ xs. xs ++ map question_of ns) before)
  where
    at_one : (v : FlexState) (t : Terms) (reply : Option ℕ) (notes : List Note) (w : FlexState) → FlexAllocates 8 8 t v size align reply notes w
        → FlexAllocates 8 8 t v 1 1 reply notes w
    at_one v t reply notes w did = subst (λ a. FlexAllocates 8 8 t v 1 a reply notes w) any (subst (λ n. FlexAllocates 8 8 t v n align reply notes w) one_byte did)

-- what a step over a source says of its notes and of the state after it
pub told : {S : Type 0} (fllen sllen : ℕ) (terms : S → Terms) (owes : S → List Range → Type 0) {leads : S → Note → S → Type 0} (v w : FlexContents S)
    (step : List Note → FlexState → Type 0) → FlexSteps fllen sllen terms owes leads v w step
    → (notes : List Note) × step notes w.state × LeadsBy leads v.source notes w.source × MayAnswerAll (terms v.source) v.state.pools notes
    × IsWellFormed fllen sllen (range_of w.memory) w.state.machine
unfolding FlexSteps
told fllen sllen terms owes v w step (notes, is, leads_by, answers, outside, stands, spare) = (notes, is, leads_by, answers, stands.well_formed.machine)
