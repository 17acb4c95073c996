-- What a source that provides its space from a cursor on gives, grows and takes back keeps a source's contract.
use Rattle.std.proofs.Common.{◌≡◌, ℕ, ◌+◌, ◌%◌, ◌<◌, ◌≤◌, ◌^◌, List, [], ◌∷◌, ◌++◌, arith, inl, refl, subst, sym, ap, ◌∙◌}
use Rattle.rlsf_base.specs.declared.memory.range.Range.{Range}
use Rattle.rlsf_base.specs.Range.{end_of, range_at}
use Rattle.rlsf_base.proofs.Numbers.PowersOfTwo.{IsPowerOfTwo-positive}
use Rattle.rlsf_base.proofs.Numbers.Roundings.{next_multiple_of-le, next_multiple_of-multiple}
use Rattle.rlsf_model.specs.Terms.{IsGiven, IsGrown, Terms, with_len}
use Rattle.rlsf_model.proofs.Coverage.{IsIn-append_right}
use Rattle.rlsf_model_global.proofs.Apart.{IsClear-grown, LieApart, LieApart-above, LieApart-grown, LieApart-less, LieApart-more}
use Rattle.rlsf_flex.specs.Bump.{Bump, BumpOwes, IsBump, Provides, bump_in}

-- what may be outstanding lies in the space before the cursor, and doesn't overlap
lie_apart : (b : Bump) {owed : List Range} → BumpOwes b owed → LieApart b.space.start b.at owed
lie_apart b may = record { low = may.start; high = may.end; disjoint = may.disjoint }

-- ranges that lie so may be outstanding
may_owe : (space : Range) (at : ℕ) {owed : List Range} → LieApart space.start at owed → BumpOwes (bump_in space at) owed
may_owe space at h = record { start = h.low; end = h.high; disjoint = h.disjoint }

-- nothing is outstanding at first
pub bump_owes_none : (b : Bump) → BumpOwes b []
bump_owes_none b = record { start = λ r i. absurd i; end = λ r i. absurd i; disjoint = λ a. omega arith }

-- a range is given that begins at the first multiple of the least alignment behind the cursor, which moves to its end
pub bump_gives : (g : Provides) (owed : List Range) → BumpOwes g.before owed
    → IsGiven g.terms owed g.min_size (range_at g.start g.len) × BumpOwes (bump_in g.space g.end) (range_at g.start g.len ∷ owed)
bump_gives g owed owes =
    let t = g.terms in let space = g.space in let at = g.at in let start = g.start in let len = g.len in let end = g.end in let is = g.invariant in
    let old = bump_in space at in
    let some = IsPowerOfTwo-positive t.min_align g.power in
    let behind_cursor : at ≤ start = omega (arith, g.rounded, next_multiple_of-le at t.min_align) in
    let aligned : start % t.min_align ≡ 0 = subst (λ (n : ℕ). n % t.min_align ≡ 0) (sym g.rounded) (next_multiple_of-multiple at t.min_align some) in
    let fits : end ≤ end_of space = subst (λ (x : Bump). end ≤ end_of x.space) (sym g.fields) g.fits in
    let lie = lie_apart old (subst (λ (x : Bump). BumpOwes x owed) (sym g.fields) owes) in
    let more : LieApart space.start (start + len) (range_at start len ∷ owed) = LieApart-more (range_at start len) lie is.after_start behind_cursor in
    let low : space.start ≤ start = omega (arith, is.after_start, behind_cursor) in
    let high : start + len ≤ space.start + space.len = omega (arith, g.ends, fits) in
    let same : space ≡ t.space = ap (λ (x : Bump). x.space) g.fields ∙ sym g.in_space in (
      record {
        lies_in = subst (λ (s : Range). (s.start ≤ start) × (start + len ≤ s.start + s.len)) same (low, high);
        apart = λ a first last. LieApart-above lie a (omega (arith, first, behind_cursor));
        long = g.long;
        power = g.power;
        aligned = aligned;
      },
      subst (λ (to : ℕ). BumpOwes (bump_in space to) (range_at start len ∷ owed)) (sym g.ends) (may_owe space (start + len) more),
    )

-- the range that ends at the cursor grows, and the cursor moves to its end
pub bump_grows : (t : Terms) (b : Bump) (space : Range) (at : ℕ) (r : Range) (min_new_len len end : ℕ) → bump_in space at ≡ b → t.space ≡ b.space → end_of r ≡ at
    → min_new_len ≤ len → r.len ≤ min_new_len
    → end ≡ r.start + len → end ≤ end_of b.space → (xs ys : List Range) → BumpOwes b (xs ++ r ∷ ys)
    → IsGrown t (xs ++ ys) r min_new_len len × BumpOwes (bump_in space end) (xs ++ with_len r len ∷ ys)
bump_grows t b space at r min_new_len len end here in_space last long longer ends within xs ys owes =
    let old = bump_in space at in
    let fits : end ≤ end_of space = subst (λ (x : Bump). end ≤ end_of x.space) (sym here) within in
    let may = subst (λ (x : Bump). BumpOwes x (xs ++ r ∷ ys)) (sym here) owes in
    let lie = lie_apart old may in
    let more : r.len ≤ len = omega (arith, longer, long) in
    let low : space.start ≤ r.start = may.start r (IsIn-append_right r xs (r ∷ ys) (inl refl)) in
    let high : r.start + len ≤ space.start + space.len = omega (arith, ends, fits) in
    let same : space ≡ t.space = ap (λ (x : Bump). x.space) here ∙ sym in_space in (
      record {
        lies_in = subst (λ (s : Range). (s.start ≤ r.start) × (r.start + len ≤ s.start + s.len)) same (low, high);
        apart = IsClear-grown r len xs ys last more lie;
        long = long;
      },
      subst (λ (to : ℕ). BumpOwes (bump_in space to) (xs ++ with_len r len ∷ ys)) (sym ends) (may_owe space (r.start + len) (LieApart-grown r len xs ys last more lie)),
    )

-- a range is returned
pub bump_takes : (b : Bump) (r : Range) (xs ys : List Range) → BumpOwes b (xs ++ r ∷ ys) → BumpOwes b (xs ++ ys)
bump_takes b r xs ys may = may_owe b.space b.at (LieApart-less r xs ys (lie_apart b may))

-- the end of an outstanding range fits in a word
pub bump_end : (b : Bump) (space : Range) (at : ℕ) (r : Range) → bump_in space at ≡ b → IsBump (bump_in space at)
    → (xs : List Range) × (ys : List Range) × BumpOwes b (xs ++ r ∷ ys) → end_of r < 2 ^ 64
bump_end b space at r here is (xs, ys, owes) =
    let may = subst (λ (x : Bump). BumpOwes x (xs ++ r ∷ ys)) (sym here) owes in
    omega (arith, may.end r (IsIn-append_right r xs (r ∷ ys) (inl refl)), is.before_end, is.addressable)
