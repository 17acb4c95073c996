-- The page source answers what a source may answer, and its cursor is behind what is outstanding then.
use Rattle.std.proofs.Common.{◌≡◌, ℕ, ◌+◌, ◌<◌, ◌≤◌, Bool, true, false, true≢false, List, [], ◌∷◌, ◌++◌, Option, Some, None, arith, lit<, ◌^◌}
use Rattle.std.proofs.Common.{refl, sym, ◌∙◌, ap, subst, inl, inr}
use Rattle.std.proofs.lemmas.Option.{none-some, some_pair_parts}
use Rattle.std.specs.Option.{is_some}
use Rattle.std.specs.Bool.{then_some}
use Rattle.std.specs.Prelude.{nat_lt}
use Rattle.rlsf_base.specs.declared.memory.range.Range.{Range}
use Rattle.rlsf_base.specs.Range.{end_of, range_at}
use Rattle.rlsf_model_sizes.specs.SizeClass.{IsValid}
use Rattle.rlsf_model_sizes.specs.Sizes.{pool_size_to_contain_allocation}
use Rattle.rlsf_model.specs.Answers.{MayAnswer, MayAnswerAll}
use Rattle.rlsf_model.specs.FlexState.{FlexState, KeptPool}
use Rattle.rlsf_model.specs.FlexWellFormed.{IsFlexWellFormed, IsKeptPool, IsNewest}
use Rattle.rlsf_model.specs.Growth.{Extends, IsPossible, Outcome, range_came, growth_came, is_more, longer, notes_of, questions}
use Rattle.rlsf_model.specs.Growth.{refused, TakesIn}
use Rattle.rlsf_model.specs.Note.{LeadsBy, Note, alloc, grow}
use Rattle.rlsf_model.specs.Terms.{Terms, with_len}
use Rattle.rlsf_model.proofs.GivenAnswers.{more_wanted}
use Rattle.rlsf_model.proofs.RangeLengths.{range_asked, range_length-is}
use Rattle.rlsf_model.proofs.TakenPools.{pool_size_is}
use Rattle.rlsf_model.proofs.Names.{fitting, growth_note, range_note}
use Rattle.rlsf_model_global.specs.Cursor.{PageCursor, PageLeads, pages, terms_of, page_cursor}
use Rattle.rlsf_model_global.specs.Pages.{IsPageCursor, MayOwe}
use Rattle.rlsf_model_global.proofs.Cursors.{IsPageCursor-given, IsPageCursor-grown, given_range, grown_range}

-- the parameters are valid
pub valid64 : IsValid 64 64 64 64
valid64 = record { some_rows = lit< tt; rows_fit = omega arith; power_of_two = refl; classes_fit = omega arith }

-- ---- questions that were refused

-- they leave the cursor
pub refused_notes : (x y : PageCursor) (g : Option (Range × ℕ)) (r : Option ℕ) → LeadsBy PageLeads x (growth_note g None ++ range_note r None) y → y ≡ x
refused_notes x y None None led = led
refused_notes x y (Some (q, n)) (Some m) (z, led, (w, more, last)) = last ∙ more.1 ∙ led.1
refused_notes x y o o' (z, led, last) = last ∙ led.1

-- a source may refuse at any time
refused_answers : (t : Terms) (owed : List Range) (g : Option (Range × ℕ)) (r : Option ℕ) → MayAnswerAll t owed (growth_note g None ++ range_note r None)
refused_answers t owed None None n i = absurd i
refused_answers t owed (Some (q, l)) (Some m) n i = elim i [
  | inl e ↦ subst (MayAnswer t owed) (sym e) tt
  | inr (inl e) ↦ subst (MayAnswer t owed) (sym e) tt
  | inr (inr none) ↦ absurd none
]
refused_answers t owed o o' n i = elim i [ inl e ↦ subst (MayAnswer t owed) (sym e) tt | inr none ↦ absurd none ]

-- ---- what a growth is asked for

-- the kept range is to grow by what is wanted
growth_asked : (t : Terms) (k : KeptPool) (e : ℕ) (r : Range) (n : ℕ) → (questions t (Some k) (Some e)).growth ≡ Some (r, n) → (r ≡ k.range) × (n ≡ k.len + e)
growth_asked t k e r n asked = go (nat_lt (k.len + e) (2 ^ 64)) asked
  where
    told : (b : Bool) → then_some {T = Range × ℕ} b (k.range, k.len + e) ≡ Some (r, n) → (r ≡ k.range) × (n ≡ k.len + e)
    told true asked = let parts = some_pair_parts k.range r (k.len + e) n asked in (sym parts.0, sym parts.1)
    told false asked = absurd (none-some (r, n) asked)

    go : (b : Bool) → (fitting t k e b).growth ≡ Some (r, n) → (r ≡ k.range) × (n ≡ k.len + e)
    go false asked = absurd (none-some (r, n) asked)
    go true asked = told t.grow asked

-- ---- the answers

-- the answers are such as a source may give, the cursor is one, and these ranges may be outstanding then
pub record IsAnswered (x : PageCursor) (owed : List Range) (notes : List Note) (y : PageCursor) (now : List Range) : Type 0 where
  pub answers : MayAnswerAll (terms_of x) owed notes
  pub cursor : IsPageCursor y
  pub owes : MayOwe y now

module _ (x y : PageCursor) (is : IsPageCursor x) (owed : List Range) (may : MayOwe x owed) where
  -- nothing was asked
  pub nothing_asked : y ≡ x → IsAnswered x owed [] y owed
  nothing_asked same = record { answers = λ n i. absurd i; cursor = subst IsPageCursor (sym same) is; owes = subst (λ (z : PageCursor). MayOwe z owed) (sym same) may }

  refused_answered : (g : Option (Range × ℕ)) (r : Option ℕ) → LeadsBy PageLeads x (growth_note g None ++ range_note r None) y
      → IsAnswered x owed (growth_note g None ++ range_note r None) y owed
  refused_answered g r led =
      let same = refused_notes x y g r led in
      record { answers = refused_answers (terms_of x) owed g r; cursor = subst IsPageCursor (sym same) is; owes = subst (λ (z : PageCursor). MayOwe z owed) (sym same) may }

  page_answered : (n : ℕ) (r : Range) → 0 < n → LeadsBy PageLeads x (alloc n (Some r) ∷ []) y → IsAnswered x owed (alloc n (Some r) ∷ []) y (r ∷ owed)
  page_answered n r some (z, (fits, at, goes), last) =
      let page = range_at x.at (pages n) in
      let next = page_cursor x.space (x.at + pages n) x.grows in
      let (told, now) = given_range x is n (pages n) some refl fits owed may in
      record {
        answers = λ m i. elim i [
          | inl e ↦ subst (MayAnswer (terms_of x) owed) (sym e) (subst (λ (q : Range). MayAnswer (terms_of x) owed (alloc n (Some q))) (sym at) told)
          | inr none ↦ absurd none
        ];
        cursor = subst IsPageCursor (sym (last ∙ goes)) (IsPageCursor-given x is n (pages n) some refl fits);
        owes = subst (λ (w : PageCursor). MayOwe w (r ∷ owed)) (sym (last ∙ goes)) (subst (λ (q : Range). MayOwe next (q ∷ owed)) (sym at) now);
      }

  given_answered : (g : Option (Range × ℕ)) (n : ℕ) (r : Range) → 0 < n → LeadsBy PageLeads x (growth_note g None ++ range_note (Some n) (Some r)) y
      → IsAnswered x owed (growth_note g None ++ range_note (Some n) (Some r)) y (r ∷ owed)
  given_answered None n r some led = page_answered n r some led
  given_answered (Some (q, l)) n r some (w, first, rest) =
      let again = page_answered n r some (subst (λ (v : PageCursor). LeadsBy PageLeads v (alloc n (Some r) ∷ []) y) first.1 rest) in
      record {
        answers = λ m. elim [
          | inl e ↦ subst (MayAnswer (terms_of x) owed) (sym e) tt
          | inr i ↦ again.answers m i
        ];
        cursor = again.cursor;
        owes = again.owes;
      }

  grown_answered : (r : Range) (n len : ℕ) (rest : List Range) → r.len ≤ n → owed ≡ r ∷ rest → LeadsBy PageLeads x (grow r n (Some len) ∷ []) y
      → IsAnswered x owed (grow r n (Some len) ∷ []) y (with_len r len ∷ rest)
  grown_answered r n len rest short split (z, (last, fits, whole, goes), end) =
      let within : r.start + len ≤ end_of x.space = omega (arith, fits, whole) in
      let told : MayAnswer (terms_of x) owed (grow r n (Some len)) =
      λ before after parts. (grown_range x is r n len last whole short within before after (subst (MayOwe x) parts may)).0 in
      let first : MayOwe x ([] ++ r ∷ rest) = subst (MayOwe x) split may in
      let to : y ≡ page_cursor x.space (r.start + len) x.grows = end ∙ goes ∙ ap (λ m. page_cursor x.space (r.start + m) x.grows) (sym whole) in
      record {
        answers = λ m i. elim i [ inl e ↦ subst (MayAnswer (terms_of x) owed) (sym e) told | inr none ↦ absurd none ];
        cursor = subst IsPageCursor (sym to) (IsPageCursor-grown x is r n len whole within [] rest first);
        owes = subst (λ (w : PageCursor). MayOwe w (with_len r len ∷ rest)) (sym to) (grown_range x is r n len last whole short within [] rest first).1;
      }

module _ {memory : Range} (x y : PageCursor) (is : IsPageCursor x) (s u : FlexState) (w : IsFlexWellFormed 64 64 memory (terms_of x) s) (may : MayOwe x s.pools) where
  -- the pool that an allocation wants was asked for
  pub extended_answered : (size align : ℕ) (outcome : Outcome) (notes : List Note)
      → Extends 64 (terms_of x) s (pool_size_to_contain_allocation 64 64 size align) outcome notes u → LeadsBy PageLeads x notes y → IsAnswered x s.pools notes y u.pools
  extended_answered size align outcome notes step led =
      let q = questions (terms_of x) s.kept (pool_size_to_contain_allocation 64 64 size align) in
      subst (λ ns. IsAnswered x s.pools ns y u.pools) (sym step.asked)
      (go outcome q.growth q.range refl refl step.possible step.after (subst (λ ns. LeadsBy PageLeads x ns y) step.asked led))
    where
      t : Terms
      t = terms_of x

      wanted : Option ℕ
      wanted = pool_size_to_contain_allocation 64 64 size align

      -- it is 64 bytes or more
      pool_of : (o : Outcome) → is_more o ≡ true → IsPossible (questions t s.kept wanted) o → (e : ℕ) × (wanted ≡ Some e) × (64 ≤ e)
      pool_of o more possible =
          let (e, is_wanted) = more_wanted t s.kept wanted o more possible in
          (e, is_wanted, (pool_size_is 64 64 64 64 e valid64 (record { size = size; align = align; is = is_wanted })).0)

      go : (o : Outcome) (g : Option (Range × ℕ)) (r : Option ℕ) → (questions t s.kept wanted).growth ≡ g → (questions t s.kept wanted).range ≡ r
          → IsPossible (record { growth = g; range = r }) o → TakesIn 64 t s o u
          → LeadsBy PageLeads x (notes_of (record { growth = g; range = r }) o) y → IsAnswered x s.pools (notes_of (record { growth = g; range = r }) o) y u.pools
      go refused g r is_g is_r possible takes led =
          subst (IsAnswered x s.pools (growth_note g None ++ range_note r None) y) (sym (ap (λ (v : FlexState). v.pools) takes)) (refused_answered x y is s.pools may g r led)
      go (range_came c) g (Some n) is_g is_r possible (len, inserted, pools, kept) led =
          let (e, is_wanted, long) = pool_of (range_came c) refl (subst (λ o. is_some o ≡ true) (sym is_r) possible) in
          let told = range_asked t s.kept e n (ap (λ o. (questions t s.kept o).range) (sym is_wanted) ∙ is_r) in
          let some : 0 < n = elim (range_length-is t e n told) [ inl more ↦ omega (arith, more, long) | inr same ↦ omega (arith, same.1, long) ] in
          subst (IsAnswered x s.pools (growth_note g None ++ range_note (Some n) (Some c)) y) (sym pools) (given_answered x y is s.pools may g n c some led)
      go (growth_came len) (Some (c, n)) r is_g is_r possible (k, taken, was, appended, pools, kept) led =
          let (e, is_wanted, long) = pool_of (growth_came len) refl (subst (λ o. is_some o ≡ true) (sym is_g) possible) in
          let (same, sum) = growth_asked t k e c n (ap (λ o. (questions t o (Some e)).growth) (sym was) ∙ ap (λ o. (questions t s.kept o).growth) (sym is_wanted) ∙ is_g) in
          let newest : IsKeptPool t k s.pools s.machine.chunks = subst (λ o. IsNewest t o s.pools s.machine.chunks) was w.newest in
          let split : s.pools ≡ c ∷ newest.rest = newest.split ∙ ap (λ (p : Range). p ∷ newest.rest) (sym same) in
          let short : c.len ≤ n = omega (arith, newest.nearly, long, sum, ap (λ (p : Range). p.len) same) in
          subst (IsAnswered x s.pools (grow c n (Some len) ∷ []) y) (sym (pools ∙ ap (longer len) split))
          (grown_answered x y is s.pools may c n len newest.rest short split led)
      go o g r is_g is_r possible takes led = absurd (true≢false (sym possible))
