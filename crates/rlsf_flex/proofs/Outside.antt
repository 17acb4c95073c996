-- What leaves the bytes outside of all ranges that were outstanding, through calls one after another.
use Rattle.std.proofs.Common.{◌≡◌, ℕ, ◌+◌, Bool, true, false, true≢false, List, [], ◌∷◌, ◌++◌, Option, Some, None, arith, refl, sym, ◌∙◌, ap}
use Rattle.std.proofs.Common.{subst}
use Rattle.std.specs.Option.{is_some}
use Rattle.std.specs.Bool.{then_some}
use Rattle.std.proofs.lemmas.Option.{none-some, same_Some}
use Rattle.rlsf_base.specs.declared.memory.range.Range.{Range}
use Rattle.rlsf_base.specs.Space.{Space, SamePlace}
use Rattle.rlsf_blocks.specs.Spare.{KeepsSpare}
use Rattle.rlsf_flex.specs.Outside.{IsOutside, KeepsOutside, NothingGoesBack, ever_owed, handed, handed_by}
use Rattle.rlsf_flex.specs.Steps.Outside.{KeepsOutsideNow}
use Rattle.rlsf_model.specs.FlexState.{FlexState, KeptPool}
use Rattle.rlsf_model.specs.FlexWellFormed.{AreHoused, IsNewest}
use Rattle.rlsf_model.specs.Growth.{Extends, IsPossible, Outcome, range_came, growth_came, notes_of, questions, refused}
use Rattle.rlsf_model.specs.Growth.{TakesIn}
use Rattle.rlsf_model.specs.Note.{Note, dealloc}
use Rattle.rlsf_model.specs.State.{State}
use Rattle.rlsf_model.specs.Terms.{Terms, with_len}
use Rattle.rlsf_model.specs.WellFormed.{coverage, itself}
use Rattle.rlsf_model.proofs.Coverage.{IsIn-append_left, IsIn-append_right, coverage-append}
use Rattle.rlsf_model.proofs.Names.{fitting, growth_note, range_note}
use Rattle.rlsf_flex.proofs.OutsideNow.{KeepsOutsideNow-spare}
use Rattle.rlsf_flex.proofs.Places.{SamePlace-refl, SamePlace-then}

-- ---- the ranges that ever were outstanding

-- what some answers provided, and then more
handed-append : (ms ns : List Note) (a : ℕ) → coverage itself (handed (ms ++ ns)) a ≡ coverage itself (handed ms) a + coverage itself (handed ns) a
handed-append [] ns a = omega arith
handed-append (m ∷ ms) ns a = omega (arith, handed-append ms ns a, coverage-append itself (handed_by m) (handed (ms ++ ns)) a, coverage-append itself (handed_by m) (handed ms) a)

-- an address counts as often as before, and once for each time that it was provided
pub ever_owed-coverage : (before : List Range) (notes : List Note) (a : ℕ)
    → coverage itself (ever_owed before notes) a ≡ coverage itself before a + coverage itself (handed notes) a
ever_owed-coverage before notes a = coverage-append itself before (handed notes) a

ever_owed-append : (before : List Range) (ms ns : List Note) (a : ℕ)
    → coverage itself (ever_owed before (ms ++ ns)) a ≡ coverage itself before a + coverage itself (handed ms) a + coverage itself (handed ns) a
ever_owed-append before ms ns a = omega (arith, ever_owed-coverage before (ms ++ ns) a, handed-append ms ns a)

-- nothing was returned in a part of what went before and behind
NothingGoesBack-parts : (ms ns : List Note) → NothingGoesBack (ms ++ ns) → NothingGoesBack ms × NothingGoesBack ns
NothingGoesBack-parts ms ns none = (λ r i. none r (IsIn-append_left (dealloc r) ms ns i), λ r i. none r (IsIn-append_right (dealloc r) ms ns i))

-- ---- steps

-- nothing is done
pub KeepsOutside-refl : (m : Space) (pools : List Range) → KeepsOutside m pools [] m pools
KeepsOutside-refl m pools = record {
  place = SamePlace-refl m;
  among = λ a none. omega (arith, ever_owed-coverage pools [] a, none);
  all_owed = λ kept a none. omega (arith, ever_owed-coverage pools [] a, none);
  bytes = λ a low high none. refl;
}

-- one after the other
pub KeepsOutside-then : (m n o : Space) (first second third : List Range) (notes more : List Note) → KeepsOutside m first notes n second → KeepsOutside n second more o third
    → KeepsOutside m first (notes ++ more) o third
KeepsOutside-then m n o first second third notes more one two = record {
  place = SamePlace-then m n o one.place two.place;
  among = λ a none. two.among a (middle a none);
  all_owed = λ kept a none.
      let (before, behind) = NothingGoesBack-parts notes more kept in
      let later = two.all_owed behind a none in
      let earlier = one.all_owed before a (omega (arith, ever_owed-coverage second more a, later)) in
      omega (arith, ever_owed-append first notes more a, ever_owed-coverage second more a, ever_owed-coverage first notes a, later, earlier);
  bytes = λ a low high none. two.bytes a (omega (arith, one.place.0, low)) (omega (arith, one.place.0, one.place.1, high)) (middle a none) ∙ one.bytes a low high (begin a none);
}
  where
    begin : (a : ℕ) → IsOutside (ever_owed first (notes ++ more)) a → IsOutside (ever_owed first notes) a
    begin a none = omega (arith, ever_owed-append first notes more a, ever_owed-coverage first notes a, none)

    middle : (a : ℕ) → IsOutside (ever_owed first (notes ++ more)) a → IsOutside (ever_owed second more) a
    middle a none = omega (arith, ever_owed-append first notes more a, ever_owed-coverage second more a, one.among a (begin a none), none)

-- what keeps each byte outside of the ranges, where the answers provided those that came
pub KeepsOutside-now : (m n : Space) (before after : List Range) (notes : List Note) → KeepsOutsideNow m before n after
    → ((a : ℕ) → IsOutside (ever_owed before notes) a → IsOutside after a)
    → ((a : ℕ) → IsOutside after a → IsOutside (ever_owed before notes) a) → KeepsOutside m before notes n after
KeepsOutside-now m n before after notes now among all_owed =
    record { place = now.place; among = among; all_owed = λ kept. all_owed; bytes = λ a low high none. now.bytes a low high (among a none) }

-- nothing was asked
pub KeepsOutside-alone : (m n : Space) (pools : List Range) → KeepsOutsideNow m pools n pools → KeepsOutside m pools [] n pools
KeepsOutside-alone m n pools now =
    KeepsOutside-now m n pools pools [] now (λ a none. omega (arith, ever_owed-coverage pools [] a, none)) (λ a none. omega (arith, ever_owed-coverage pools [] a, none))

-- what keeps spare bytes and asks nothing keeps those outside of the ranges, which house all chunks
pub KeepsOutside-spare : (m n : Space) (s t : State) (pools : List Range) → AreHoused pools s.chunks → AreHoused pools t.chunks → SamePlace m n → KeepsSpare m s n t
    → KeepsOutside m pools [] n pools
KeepsOutside-spare m n s t pools housed_before housed_after place keeps =
    KeepsOutside-alone m n pools (KeepsOutsideNow-spare m n s t pools pools housed_before housed_after (λ a none. none) place keeps)

-- ---- what the answers to the questions for more memory provided

handed-refused : (growth : Option (Range × ℕ)) (range : Option ℕ) → handed (growth_note growth None ++ range_note range None) ≡ []
handed-refused None None = refl
handed-refused None (Some n) = refl
handed-refused (Some (r, n)) None = refl
handed-refused (Some (r, n)) (Some m) = refl

handed-given : (growth : Option (Range × ℕ)) (range : Option ℕ) (r : Range) → is_some range ≡ true
    → handed (growth_note growth None ++ range_note range (Some r)) ≡ r ∷ []
handed-given growth None r some = absurd (true≢false (sym some))
handed-given None (Some n) r some = refl
handed-given (Some (q, m)) (Some n) r some = refl

handed-grown : (growth : Option (Range × ℕ)) (len : ℕ) → is_some growth ≡ true
    → (r : Range) × (n : ℕ) × (growth ≡ Some (r, n)) × (handed (growth_note growth (Some len)) ≡ with_len r len ∷ [])
handed-grown None len some = absurd (true≢false (sym some))
handed-grown (Some (r, n)) len some = (r, n, refl, refl)

-- growth is asked of the kept range
growth_of_kept : (t : Terms) (k : KeptPool) (e : ℕ) (b : Bool) (r : Range) (n : ℕ) → (fitting t k e b).growth ≡ Some (r, n) → r ≡ k.range
growth_of_kept t k e false r n is = absurd (none-some (r, n) is)
growth_of_kept t k e true r n is = go t.grow is
  where
    go : (b : Bool) → then_some {T = Range × ℕ} b (k.range, k.len + e) ≡ Some (r, n) → r ≡ k.range
    go false is = absurd (none-some (r, n) is)
    go true is = ap (λ p. p.0) (sym (same_Some (k.range, k.len + e) (r, n) is))

-- the ranges after some answers have the addresses of those before and of what was provided, and no others
abbrev IsKnown : List Range → List Range → List Note → Type 0
IsKnown before after notes = (a : ℕ)
    → (IsOutside (ever_owed before notes) a → IsOutside after a) × (IsOutside after a → IsOutside before a → IsOutside (ever_owed before notes) a)

module _ (fllen : ℕ) (t : Terms) (s u : FlexState) (e : ℕ) (newest : IsNewest t s.kept s.pools s.machine.chunks) where
  known : (o : Outcome) → IsPossible (questions t s.kept (Some e)) o → TakesIn fllen t s o u → IsKnown s.pools u.pools (notes_of (questions t s.kept (Some e)) o)
  known refused possible same a = grind (arith, handed-refused, ever_owed-coverage)
  known (range_came r) possible (len, inserts, pools, kept) a = grind (arith, handed-given, ever_owed-coverage)
  known (growth_came len) possible (k, taken, was, appends, pools, kept) a = grind (arith, handed-grown, growth_of_kept, ever_owed-coverage)

  -- so what asks for memory keeps the bytes outside of the ranges
  pub KeepsOutside-asked : {o : Outcome} {notes : List Note} (m n : Space) → Extends fllen t s (Some e) o notes u → KeepsOutsideNow m s.pools n u.pools
      → KeepsOutside m s.pools notes n u.pools
  KeepsOutside-asked {o} {notes} m n extends now =
      let all : IsKnown s.pools u.pools notes = subst (IsKnown s.pools u.pools) (sym extends.asked) (known o extends.possible extends.after) in
      KeepsOutside-now m n s.pools u.pools notes now (λ a. (all a).0) (λ a none. (all a).1 none (now.only_more a none))
