-- What the answers of a source give, where memory came.
use Rattle.std.proofs.Common.{◌≡◌, ℕ, ◌+◌, Bool, true, false, true≢false, List, ◌++◌, Option, Some, None, refl, sym, inl, ◌^◌}
use Rattle.std.specs.Option.{is_some}
use Rattle.std.specs.Bool.{then_some}
use Rattle.std.specs.Prelude.{nat_lt}
use Rattle.rlsf_base.specs.declared.memory.range.Range.{Range}
use Rattle.rlsf_model.specs.Answers.{MayAnswer, MayAnswerAll}
use Rattle.rlsf_model.specs.FlexState.{KeptPool}
use Rattle.rlsf_model.specs.Growth.{IsPossible, Outcome, Questions, range_came, growth_came, is_more, refused, notes_of, questions}
use Rattle.rlsf_model.specs.Note.{alloc, grow}
use Rattle.rlsf_model.specs.Terms.{IsGiven, Terms}
use Rattle.rlsf_model.proofs.Coverage.{IsIn-append_right}
use Rattle.rlsf_model.proofs.Names.{fitting, growth_note, range_note}

module _ (t : Terms) (owed : List Range) where
  -- a range that came is one that a source may give
  pub given_answer : (q : Questions) (r : Range) → IsPossible q (range_came r) → MayAnswerAll t owed (notes_of q (range_came r))
      → (n : ℕ) × (q.range ≡ Some n) × IsGiven t owed n r
  given_answer q r possible answers = go q.range possible answers
    where
      go : (range : Option ℕ) → is_some range ≡ true → MayAnswerAll t owed (growth_note q.growth None ++ range_note range (Some r))
          → (n : ℕ) × (range ≡ Some n) × IsGiven t owed n r
      go None possible answers = absurd (true≢false (sym possible))
      go (Some n) possible answers =
          (n, refl, answers (alloc n (Some r)) (IsIn-append_right (alloc n (Some r)) (growth_note q.growth None) (range_note (Some n) (Some r)) (inl refl)))

  -- a growth that came is one to which a source may let the kept range grow
  pub grown_answer : (k : KeptPool) (e len : ℕ) → IsPossible (questions t (Some k) (Some e)) (growth_came len)
      → MayAnswerAll t owed (notes_of (questions t (Some k) (Some e)) (growth_came len))
      → MayAnswer t owed (grow k.range (k.len + e) (Some len))
  grown_answer k e len possible answers = go (nat_lt (k.len + e) (2 ^ 64)) possible answers
    where
      asked : (b : Bool) → is_some (then_some {T = Range × ℕ} b (k.range, k.len + e)) ≡ true → MayAnswerAll t owed (growth_note (then_some b (k.range, k.len + e)) (Some len))
          → MayAnswer t owed (grow k.range (k.len + e) (Some len))
      asked true possible answers = answers (grow k.range (k.len + e) (Some len)) (inl refl)
      asked false possible answers = absurd (true≢false (sym possible))

      go : (b : Bool) → IsPossible (fitting t k e b) (growth_came len) → MayAnswerAll t owed (notes_of (fitting t k e b) (growth_came len))
          → MayAnswer t owed (grow k.range (k.len + e) (Some len))
      go false possible answers = absurd (true≢false (sym possible))
      go true possible answers = asked t.grow possible answers

-- memory comes only where a pool is wanted
pub more_wanted : (t : Terms) (kept : Option KeptPool) (wanted : Option ℕ) (outcome : Outcome) → is_more outcome ≡ true → IsPossible (questions t kept wanted) outcome
    → (e : ℕ) × (wanted ≡ Some e)
more_wanted t kept (Some e) outcome more possible = (e, refl)
more_wanted t kept None refused more possible = absurd (true≢false (sym more))
more_wanted t kept None o more possible = absurd (true≢false (sym possible))
