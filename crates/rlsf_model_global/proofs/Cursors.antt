-- The answers of the page source keep a source's contract.
use Rattle.std.proofs.Common.{◌≡◌, ℕ, ◌+◌, ◌%◌, ◌<◌, ◌≤◌, Bool, List, ◌∷◌, ◌++◌, arith, refl, sym, subst, inl, inr}
use Rattle.std.proofs.lemmas.Bool.{cases_lt}
use Rattle.rlsf_base.specs.declared.memory.range.Range.{Range}
use Rattle.rlsf_base.specs.Range.{end_of, range_at}
use Rattle.rlsf_model_sizes.specs.Rounding.{round32}
use Rattle.rlsf_model.specs.Lists.{IsIn}
use Rattle.rlsf_model.specs.Terms.{IsGiven, IsGrown, with_len}
use Rattle.rlsf_model.proofs.Between.{IsIn-between}
use Rattle.rlsf_model.proofs.Coverage.{IsIn-append_right}
use Rattle.rlsf_base.proofs.Numbers.Roundings.{next_multiple_of-le, next_multiple_of-multiple}
use Rattle.rlsf_model_global.proofs.Apart.{IsClear-grown, IsIn-grown, LieApart, LieApart-above, LieApart-grown, LieApart-less, LieApart-more}
use Rattle.rlsf_model_global.specs.Pages.{IsPageCursor, MayOwe}
use Rattle.rlsf_model_global.specs.Cursor.{PageCursor, first_page, page_cursor, pages, terms_of}

-- complete pages are no fewer bytes, and a multiple of 32 of them
pub pages-le : (n : ℕ) → n ≤ pages n
pages-le n = next_multiple_of-le n 65536

pub pages-whole : (n : ℕ) → pages n % 32 ≡ 0
pages-whole n = let whole : pages n % 65536 ≡ 0 = next_multiple_of-multiple n 65536 (omega arith) in omega (arith, whole)

-- a cursor that isn't at its space's end is at a multiple of 32
aligned_below : (c : PageCursor) → IsPageCursor c → c.at < end_of c.space → c.at % 32 ≡ 0
aligned_below c is low = elim is.aligned [ inl last ↦ absurd (omega arith) | inr whole ↦ whole ]

-- the first page's start is a cursor
pub first_cursor : (space : Range) (grows : Bool) → end_of space < 18446744073709551616 → IsPageCursor (page_cursor space (first_page space) grows)
first_cursor space grows addressable =
    record {
      after_start = omega arith;
      before_end = omega arith;
      aligned =
          elim (cases_lt (end_of space) (round32 space.start)) [
            | inl past ↦ inl (omega (arith, past))
            | inr within ↦
                inr (omega (arith, within, next_multiple_of-multiple space.start 32 (omega arith)))
          ];
      addressable = omega (arith, addressable);
    }

-- what may be outstanding lies in the space before the cursor, and doesn't overlap
lie_apart : (c : PageCursor) {owed : List Range} → MayOwe c owed → LieApart c.space.start c.at owed
lie_apart c may = record { low = may.start; high = may.end; disjoint = may.disjoint }

module _ (c : PageCursor) (is : IsPageCursor c) where
  -- the cursor stays one
  pub IsPageCursor-given : (min_size len : ℕ) → 0 < min_size → len ≡ pages min_size → c.at + len ≤ end_of c.space → IsPageCursor (page_cursor c.space (c.at + len) c.grows)
  IsPageCursor-given min_size len some whole fits =
      let begins = aligned_below c is (omega (arith, whole, some, pages-le min_size, fits)) in
      record { after_start = omega (arith, is.after_start); before_end = fits; aligned = inr (omega (arith, begins, whole, pages-whole min_size)); addressable = is.addressable }

  -- pages are given at the cursor, which moves to their end
  pub given_range : (min_size len : ℕ) → 0 < min_size → len ≡ pages min_size → c.at + len ≤ end_of c.space → (owed : List Range) → MayOwe c owed
      → IsGiven (terms_of c) owed min_size (range_at c.at len) × MayOwe (page_cursor c.space (c.at + len) c.grows) (range_at c.at len ∷ owed)
  given_range min_size len some whole fits owed may =
      let begins = aligned_below c is (omega (arith, whole, some, pages-le min_size, fits)) in
      let more : LieApart c.space.start (c.at + len) (range_at c.at len ∷ owed) = LieApart-more (range_at c.at len) (lie_apart c may) is.after_start (omega arith) in (
        record {
          lies_in = (is.after_start, fits);
          apart = λ a low high. LieApart-above (lie_apart c may) a low;
          long = omega (arith, whole, pages-le min_size);
          power = refl;
          aligned = begins;
        },
        record { cursor = IsPageCursor-given min_size len some whole fits; start = more.low; end = more.high; aligned = alignments begins; disjoint = more.disjoint },
      )
    where
      alignments : c.at % 32 ≡ 0 → (q : Range) → IsIn q (range_at c.at len ∷ owed) → q.start % 32 ≡ 0
      alignments begins q (inl e) = subst (λ (q : Range). q.start % 32 ≡ 0) (sym e) begins
      alignments begins q (inr i) = may.aligned q i

  -- the cursor stays one
  pub IsPageCursor-grown : (r : Range) (min_new_len len : ℕ) → len ≡ pages min_new_len → r.start + len ≤ end_of c.space → (xs ys : List Range)
      → MayOwe c (xs ++ r ∷ ys) → IsPageCursor (page_cursor c.space (r.start + len) c.grows)
  IsPageCursor-grown r min_new_len len whole fits xs ys may =
      let here = IsIn-append_right r xs (r ∷ ys) (inl refl) in
      record {
        after_start = omega (arith, may.start r here);
        before_end = fits;
        aligned = inr (omega (arith, may.aligned r here, whole, pages-whole min_new_len));
        addressable = is.addressable;
      }

  -- the range that ends at the cursor grows, and the cursor moves to its end
  pub grown_range : (r : Range) (min_new_len len : ℕ) → end_of r ≡ c.at → len ≡ pages min_new_len → r.len ≤ min_new_len → r.start + len ≤ end_of c.space
      → (xs ys : List Range) → MayOwe c (xs ++ r ∷ ys)
      → IsGrown (terms_of c) (xs ++ ys) r min_new_len len × MayOwe (page_cursor c.space (r.start + len) c.grows) (xs ++ with_len r len ∷ ys)
  grown_range r min_new_len len last whole longer fits xs ys may =
      let long : min_new_len ≤ len = omega (arith, whole, pages-le min_new_len) in
      let now = LieApart-grown r len xs ys last (omega (arith, longer, long)) (lie_apart c may) in (
        record { lies_in = (may.start r here, fits); apart = IsClear-grown r len xs ys last (omega (arith, longer, long)) (lie_apart c may); long = long },
        record { cursor = IsPageCursor-grown r min_new_len len whole fits xs ys may; start = now.low; end = now.high; aligned = alignments; disjoint = now.disjoint },
      )
    where
      here : IsIn r (xs ++ r ∷ ys)
      here = IsIn-append_right r xs (r ∷ ys) (inl refl)

      alignments : (q : Range) → IsIn q (xs ++ with_len r len ∷ ys) → q.start % 32 ≡ 0
      alignments q i = elim (IsIn-grown q r len xs ys i) [ inl old ↦ may.aligned q old | inr e ↦ subst (λ (q : Range). q.start % 32 ≡ 0) (sym e) (may.aligned r here) ]

-- a range is returned
pub gone_range : (c : PageCursor) (r : Range) (xs ys : List Range) → MayOwe c (xs ++ r ∷ ys) → MayOwe c (xs ++ ys)
gone_range c r xs ys may =
    let less = LieApart-less r xs ys (lie_apart c may) in
    record { cursor = may.cursor; start = less.low; end = less.high; aligned = λ q i. may.aligned q (IsIn-between q r xs ys i); disjoint = less.disjoint }

-- an outstanding range ends before the cursor
pub owed_ends : (c : PageCursor) (r : Range) (xs ys : List Range) → MayOwe c (xs ++ r ∷ ys) → end_of r ≤ c.at
owed_ends c r xs ys may = may.end r (IsIn-append_right r xs (r ∷ ys) (inl refl))
