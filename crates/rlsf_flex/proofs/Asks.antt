-- The questions of a growth, one after another.
use Rattle.std.proofs.Common.{◌≡◌, ℕ, ◌+◌, ◌^◌, ◌<◌, Bool, true, false, true≢false, cond, List, [], ◌++◌, append-nil, ◌∷◌, Option, Some, None}
use Rattle.std.proofs.Common.{IfNone, refl, sym, ◌∙◌, ap, subst, inl, inr}
use Rattle.std.specs.Option.{is_some, SomeIff}
use Rattle.std.specs.Bool.{then_some}
use Rattle.std.specs.Prelude.{nat_lt}
use Rattle.std.proofs.lemmas.Bool.{cases_lt, false≢true, le-ltb, lt-ltb}
use Rattle.std.proofs.lemmas.Option.{none-some, same_Some}
use Rattle.rlsf_base.specs.declared.memory.range.Range.{Range}
use Rattle.rlsf_flex.specs.StandsFor.{FlexContents, FlexStandsFor}
use Rattle.rlsf_flex.specs.Steps.Growth.{AskedGrowth, AskedRange, Extended, MayCome, Took, outcome_of_growth, outcome_of_range}
use Rattle.rlsf_model.specs.Answers.{MayAnswer, MayAnswerAll}
use Rattle.rlsf_model.specs.FlexState.{FlexState, KeptPool}
use Rattle.rlsf_model.specs.Growth.{IsPossible, Questions, growth_came, is_more, notes_of, questions}
use Rattle.rlsf_model.specs.Growth.{range_length, refused}
use Rattle.rlsf_model.specs.Note.{Note, LeadsBy, alloc, grow}
use Rattle.rlsf_model.specs.Terms.{Terms}
use Rattle.rlsf_model.proofs.Coverage.{IsIn-append}
use Rattle.rlsf_model.proofs.Notes.{LeadsBy-append, terms-led}
use Rattle.rlsf_model.proofs.RangeLengths.{if_fits-some}
use Rattle.rlsf_model.proofs.Names.{fitting, growth_note, range_note}
use Rattle.rlsf_flex.proofs.OutsideNow.{KeepsOutsideNow-refl, KeepsOutsideNow-then}
use Rattle.rlsf_flex.proofs.SpareBytes.{KeepsSpare-room, KeepsSpareButFooter-behind}

-- what is asked where the pool is kept
questions-kept : (t : Terms) (kept : Option KeptPool) (k : KeptPool) (e n : ℕ) → kept ≡ Some k → then_some (nat_lt (k.len + e) (2 ^ 64)) (k.len + e) ≡ Some n
    → questions t kept (Some e) ≡ record { growth = then_some t.grow (k.range, n); range = cond t.contiguous None (range_length t e) }
questions-kept t kept k e n is fits = ap (λ o. questions t o (Some e)) is ∙ go (nat_lt (k.len + e) (2 ^ 64)) fits
  where
    go : (b : Bool) → then_some b (k.len + e) ≡ Some n → fitting t k e b ≡ record { growth = then_some t.grow (k.range, n); range = cond t.contiguous None (range_length t e) }
    go false none = absurd (none-some n none)
    go true same = ap (λ m. let q : Questions = record { growth = then_some t.grow (k.range, m); range = cond t.contiguous None (range_length t e) } in q)
        (same_Some (k.len + e) n same)

-- what is asked where the pool that is kept would be too long
questions-past : (t : Terms) (kept : Option KeptPool) (k : KeptPool) (e : ℕ) → kept ≡ Some k → then_some (nat_lt (k.len + e) (2 ^ 64)) (k.len + e) ≡ None
    → questions t kept (Some e) ≡ record { growth = None; range = None }
questions-past t kept k e is past = ap (λ o. questions t o (Some e)) is ∙ go (nat_lt (k.len + e) (2 ^ 64)) past
  where
    go : (b : Bool) → then_some b (k.len + e) ≡ None → fitting t k e b ≡ record { growth = None; range = None }
    go false none = refl
    go true some = absurd (none-some (k.len + e) (sym some))

-- what is asked where none is kept
questions-first : (t : Terms) (kept : Option KeptPool) (e : ℕ) → kept ≡ None → questions t kept (Some e) ≡ record { growth = None; range = range_length t e }
questions-first t kept e is = ap (λ o. questions t o (Some e)) is

is_asked : {X : Type 0} (q : Option X) → (q ≡ None → ⊥) → is_some q ≡ true
is_asked None some = absurd (some refl)
is_asked (Some x) some = refl

-- a range comes only where one was asked for
range_possible : (growth : Option (Range × ℕ)) (range : Option ℕ) (answer : Option Range) → (range ≡ None → answer ≡ None)
    → IsPossible (record { growth = growth; range = range }) (outcome_of_range answer)
range_possible growth range None asked = tt
range_possible growth range (Some r) asked = is_asked range (λ none. none-some r (sym (asked none)))

-- the notes where no growth came
range_notes : (growth : Option (Range × ℕ)) (range : Option ℕ) (answer : Option Range)
    → growth_note growth None ++ range_note range answer ≡ notes_of (record { growth = growth; range = range }) (outcome_of_range answer)
range_notes growth range None = refl
range_notes growth range (Some r) = refl

-- ---- the answers are such as a source may give

-- the answer to the question for growth, if there is one
growth_note-answers : (t : Terms) (owed : List Range) (k : KeptPool) (n : ℕ) (answer : Option ℕ) → MayAnswer t owed (grow k.range n answer)
    → MayAnswerAll t owed (growth_note (then_some t.grow (k.range, n)) answer)
growth_note-answers t owed k n answer may = go t.grow
  where
    go : (b : Bool) → MayAnswerAll t owed (growth_note (then_some b (k.range, n)) answer)
    go true x i = elim i [ inl same ↦ subst (MayAnswer t owed) (sym same) may | inr none ↦ absurd none ]
    go false x i = absurd i

-- the answer to the question for a range, if there is one
range_note-answers : (t : Terms) (s : FlexState) (e : ℕ) (q : Option ℕ) → range_length t e ≡ q → (answer : Option Range) → MayCome t s e (outcome_of_range answer)
    → MayAnswerAll t s.pools (range_note q answer)
range_note-answers t s e None is answer may x i = absurd i
range_note-answers t s e (Some n) is None may x i = elim i [ inl same ↦ subst (MayAnswer t s.pools) (sym same) tt | inr none ↦ absurd none ]
range_note-answers t s e (Some n) is (Some r) may x i = elim i [ inl same ↦ subst (MayAnswer t s.pools) (sym same) (may n is) | inr none ↦ absurd none ]

-- one after the other
MayAnswerAll-append : (t : Terms) (owed : List Range) (ms ns : List Note) → MayAnswerAll t owed ms → MayAnswerAll t owed ns → MayAnswerAll t owed (ms ++ ns)
MayAnswerAll-append t owed ms ns first second x i = elim (IsIn-append x ms ns i) [ inl left ↦ first x left | inr right ↦ second x right ]

-- memory came exactly where there is an answer
came_range : (o : Option Range) → is_some o ≡ is_more (outcome_of_range o)
came_range None = refl
came_range (Some r) = refl

came_growth : (o : Option ℕ) → is_some o ≡ is_more (outcome_of_growth o)
came_growth None = refl
came_growth (Some len) = refl

-- what is true without an answer
pub if_none : {A P : Type 0} (o : Option A) → IfNone o P → is_some o ≡ false → P
if_none None p none = p
if_none (Some x) p none = absurd (true≢false none)

-- a question leads by one note
one_note : {S : Type 0} (leads : S → Note → S → Type 0) (x y : S) (n : Note) → leads x n y → LeadsBy leads x (n ∷ []) y
one_note leads x y n led = (y, led, refl)

-- a sum that fits, as checked_add gives it
pub sum_fits : (o : Option ℕ) (n len : ℕ) → SomeIff o (n < 2 ^ 64) n → o ≡ Some len → ((then_some (nat_lt n (2 ^ 64)) n) ≡ Some len) × (len ≡ n)
sum_fits None n len is some = absurd (none-some len some)
sum_fits (Some m) n len (below, same) some =
    let is : m ≡ len = same_Some m len some in
    (ap (λ b. then_some b n) (lt-ltb n (2 ^ 64) below) ∙ ap Some (sym same ∙ is), sym is ∙ same)

-- and one that doesn't
pub sum_past : (o : Option ℕ) (n : ℕ) → SomeIff o (n < 2 ^ 64) n → o ≡ None → then_some (nat_lt n (2 ^ 64)) n ≡ None
sum_past None n past none = elim (cases_lt n (2 ^ 64)) [
  | inl below ↦ absurd (past below)
  | inr above ↦ ap (λ b. then_some b n) (le-ltb n (2 ^ 64) above)
]
sum_past (Some m) n h none = absurd (none-some m (sym none))

-- what checked_add gives is the sum, if it fits
pub sum_is : (o : Option ℕ) (n : ℕ) → SomeIff o (n < 2 ^ 64) n → o ≡ then_some (nat_lt n (2 ^ 64)) n
sum_is None n past = sym (sum_past None n past refl)
sum_is (Some m) n fits = sym (sum_fits (Some m) n m fits refl).0

-- the pool that is kept would be too long, so nothing is asked
pub extended_past : {S : Type 0} {fllen sllen : ℕ} {terms : S → Terms} {owes : S → List Range → Type 0} {leads : S → Note → S → Type 0} {before : FlexContents S}
    {e : ℕ} {k : KeptPool}
    → before.state.kept ≡ Some k → then_some (nat_lt (k.len + e) (2 ^ 64)) (k.len + e) ≡ None → FlexStandsFor fllen sllen terms owes before
    → Extended fllen sllen terms owes leads before before e false
extended_past {terms = terms} {before = before} {e = e} {k = k} is_kept past stands =
    let t = terms before.source in
    let q : questions t before.state.kept (Some e) ≡ record { growth = None; range = None } = questions-past t before.state.kept k e is_kept past in
    record {
      outcome = refused;
      notes = [];
      extends = record { possible = tt; asked = ap (λ q. notes_of q refused) (sym q); after = refl };
      leads_by = refl;
      answers = λ x i. absurd i;
      outside = KeepsOutsideNow-refl before.memory before.state.pools;
      spare = λ a low high one two none. refl;
      stands = stands;
      came = refl;
      room = λ t. absurd (false≢true t);
    }

module _ {S : Type 0} {fllen sllen : ℕ} {terms : S → Terms} {owes : S → List Range → Type 0} {leads : S → Note → S → Type 0} {e : ℕ} where
  -- no range was asked for
  pub AskedRange-none : {v w : FlexContents S} → range_length (terms v.source) e ≡ None → w.source ≡ v.source → Took fllen sllen terms owes v w e refused
      → AskedRange fllen sllen terms owes leads v w e None
  AskedRange-none {v} {w} none same took = record {
    notes = subst (λ q. LeadsBy leads v.source (range_note q None) w.source) (sym none) same;
    asked = λ _. refl;
    took = took;
  }

  -- one was asked for
  pub AskedRange-asked : {v w : FlexContents S} {n : ℕ} {answer : Option Range} → range_length (terms v.source) e ≡ Some n → leads v.source (alloc n answer) w.source
      → Took fllen sllen terms owes v w e (outcome_of_range answer)
      → AskedRange fllen sllen terms owes leads v w e answer
  AskedRange-asked {v} {w} {n} {answer} is led took = record {
    notes = subst (λ q. LeadsBy leads v.source (range_note q answer) w.source) (sym is) (one_note leads v.source w.source (alloc n answer) led);
    asked = λ none. absurd (none-some n (sym none ∙ is));
    took = took;
  }

  module _ (k : KeptPool) (n : ℕ) where
    -- no growth was asked for
    pub AskedGrowth-none : {v w : FlexContents S} → (terms v.source).grow ≡ false → w.source ≡ v.source → Took fllen sllen terms owes v w e refused
        → AskedGrowth fllen sllen terms owes leads v w k n e None
    AskedGrowth-none {v} {w} fixed same took = record {
      notes = subst (λ (b : Bool). LeadsBy leads v.source (growth_note (then_some b (k.range, n)) None) w.source) (sym fixed) same;
      asked = λ _. refl;
      took = took;
    }

    -- growth was asked for
    pub AskedGrowth-asked : {v w : FlexContents S} {answer : Option ℕ} → (terms v.source).grow ≡ true → leads v.source (grow k.range n answer) w.source
        → Took fllen sllen terms owes v w e (outcome_of_growth answer)
        → AskedGrowth fllen sllen terms owes leads v w k n e answer
    AskedGrowth-asked {v} {w} {answer} grows led took =
        let is : then_some (terms v.source).grow (k.range, n) ≡ Some (k.range, n) = ap (λ (b : Bool). then_some b (k.range, n)) grows in
        record {
          notes = subst (λ q. LeadsBy leads v.source (growth_note q answer) w.source) (sym is) (one_note leads v.source w.source (grow k.range n answer) led);
          asked = λ none. absurd (none-some (k.range, n) (sym none ∙ is));
          took = took;
        }

module _ {S : Type 0} {fllen sllen : ℕ} {terms : S → Terms} {owes : S → List Range → Type 0} {leads : S → Note → S → Type 0} {before after : FlexContents S}
    {e : ℕ} where
  -- no pool is kept
  pub extended_first : {answer : Option Range} {more : Bool} → before.state.kept ≡ None → more ≡ is_some answer
      → AskedRange fllen sllen terms owes leads before after e answer → Extended fllen sllen terms owes leads before after e more
  extended_first {answer} none told h =
      let t = terms before.source in
      let q = questions-first t before.state.kept e none in
      record {
        outcome = outcome_of_range answer;
        notes = range_note (range_length t e) answer;
        extends = record {
          possible = subst (λ q. IsPossible q (outcome_of_range answer)) (sym q) (range_possible None (range_length t e) answer h.asked);
          asked = range_notes None (range_length t e) answer ∙ ap (λ q. notes_of q (outcome_of_range answer)) (sym q);
          after = h.took.takes;
        };
        leads_by = h.notes;
        answers = range_note-answers t before.state e (range_length t e) refl answer h.took.may;
        outside = h.took.outside;
        spare = h.took.spare;
        stands = h.took.stands;
        came = told ∙ came_range answer;
        room = h.took.room;
      }

  module _ {k : KeptPool} {n : ℕ} (is_kept : before.state.kept ≡ Some k) (fits : then_some (nat_lt (k.len + e) (2 ^ 64)) (k.len + e) ≡ Some n) {answer : Option ℕ}
      (h : AskedGrowth fllen sllen terms owes leads before after k n e answer) where
    asks : questions (terms before.source) before.state.kept (Some e)
        ≡ record { growth = then_some (terms before.source).grow (k.range, n); range = cond (terms before.source).contiguous None (range_length (terms before.source) e) }
    asks = questions-kept (terms before.source) before.state.kept k e n is_kept fits

    -- the question leaves the terms
    pub terms_stay : ((x y : S) (n : Note) → leads x n y → terms y ≡ terms x) → terms after.source ≡ terms before.source
    terms_stay constant = terms-led terms leads constant before.source after.source (growth_note (then_some (terms before.source).grow (k.range, n)) answer) h.notes

    no_answer : is_some answer ≡ false → answer ≡ None
    no_answer no_more = go answer no_more
      where
        go : (o : Option ℕ) → is_some o ≡ false → o ≡ None
        go None is = refl
        go (Some l) is = absurd (true≢false is)

    refused_notes : is_some answer ≡ false → LeadsBy leads before.source (growth_note (then_some (terms before.source).grow (k.range, n)) None) after.source
    refused_notes no_more = rw (no_answer no_more) at h.notes

    -- nothing came, so the state stays
    stands_still : is_some answer ≡ false → after.state ≡ before.state
    stands_still no_more = rw (no_answer no_more) at h.took.takes

    -- growth came
    pub extended_grown : is_some answer ≡ true → Extended fllen sllen terms owes leads before after e true
    extended_grown is_true = go answer refl
      where
        go : (o : Option ℕ) → answer ≡ o → Extended fllen sllen terms owes leads before after e true
        go None is = absurd (false≢true (sym (ap is_some is) ∙ is_true))
        go (Some l) is = record {
          outcome = growth_came l;
          notes = growth_note (then_some (terms before.source).grow (k.range, n)) (Some l);
          extends = record {
            possible = rw asks (is_asked (then_some (terms before.source).grow (k.range, n)) (λ none. none-some l (sym (h.asked none) ∙ is)));
            asked = ap (λ q. notes_of q (growth_came l)) (sym asks);
            after = rw is at h.took.takes;
          };
          leads_by = rw is at h.notes;
          answers = growth_note-answers (terms before.source) before.state.pools k n (Some l) (rw (if_fits-some (k.len + e) n fits) ((rw is at h.took.may) k is_kept));
          outside = h.took.outside;
          spare = h.took.spare;
          stands = h.took.stands;
          came = refl;
          room = λ t. h.took.room (sym (came_growth answer) ∙ is_true);
        }

    -- growth was refused, and the source is one range that grows
    pub extended_refused : is_some answer ≡ false → (terms before.source).contiguous ≡ true → Extended fllen sllen terms owes leads before after e false
    extended_refused no_more one_range =
        let q : questions (terms before.source) before.state.kept (Some e) ≡ record { growth = then_some (terms before.source).grow (k.range, n); range = None } =
        asks ∙ ap (λ (c : Bool). let q : Questions =
        record { growth = then_some (terms before.source).grow (k.range, n); range = cond c None (range_length (terms before.source) e) } in
        q) one_range in
        record {
          outcome = refused;
          notes = growth_note (then_some (terms before.source).grow (k.range, n)) None;
          extends = record { possible = tt; asked = sym (append-nil _) ∙ ap (λ q. notes_of q refused) (sym q); after = stands_still no_more };
          leads_by = refused_notes no_more;
          answers = growth_note-answers (terms before.source) before.state.pools k n None tt;
          outside = h.took.outside;
          spare = h.took.spare;
          stands = h.took.stands;
          came = refl;
          room = λ t. absurd (false≢true t);
        }

    -- growth was refused, and a range was asked for
    pub extended_second : {last : FlexContents S} {second : Option Range} {again : Bool} → is_some answer ≡ false → (terms before.source).contiguous ≡ false
        → terms after.source ≡ terms before.source
        → again ≡ is_some second → AskedRange fllen sllen terms owes leads after last e second → Extended fllen sllen terms owes leads before last e again
    extended_second {last} {second} no_more many same told r =
        let t = terms before.source in
        let q : questions t before.state.kept (Some e) ≡ record { growth = then_some t.grow (k.range, n); range = range_length t e } =
        asks ∙ ap (λ (c : Bool). let q : Questions = record { growth = then_some t.grow (k.range, n); range = cond c None (range_length t e) } in q) many in
        let still = KeepsSpare-room t before.memory after.memory before.state before.state refl (rw (stands_still no_more) at h.took.spare) in
        let spare = rw (same, stands_still no_more) at r.took.spare in
        record {
          outcome = outcome_of_range second;
          notes = growth_note (then_some t.grow (k.range, n)) None ++ range_note (range_length t e) second;
          extends = record {
            possible = rw q (range_possible (then_some t.grow (k.range, n)) (range_length t e) second (rw same at r.asked));
            asked = range_notes (then_some t.grow (k.range, n)) (range_length t e) second ∙ ap (λ q. notes_of q (outcome_of_range second)) (sym q);
            after = rw (same, stands_still no_more) at r.took.takes;
          };
          leads_by = LeadsBy-append leads before.source after.source last.source _ _ (refused_notes no_more) (rw same at r.notes);
          answers =
              MayAnswerAll-append t before.state.pools (growth_note (then_some t.grow (k.range, n)) None) (range_note (range_length t e) second)
              (growth_note-answers t before.state.pools k n None tt)
              (range_note-answers t before.state e (range_length t e) refl second (rw (same, stands_still no_more) at r.took.may));
          outside = KeepsOutsideNow-then before.memory after.memory last.memory before.state.pools after.state.pools last.state.pools h.took.outside r.took.outside;
          spare = KeepsSpareButFooter-behind t before.memory after.memory last.memory before.state last.state h.took.outside.place still spare;
          stands = r.took.stands;
          came = told ∙ came_range second;
          room = r.took.room;
        }
