-- The answers of a source with a cursor keep a source's contract.
use Rattle.std.proofs.Common.{◌≡◌, ℕ, ◌+◌, ◌%◌, ◌<◌, ◌≤◌, List, ◌∷◌, ◌++◌, arith, inl, refl}
use Rattle.rlsf_base.specs.declared.memory.range.Range.{Range}
use Rattle.rlsf_model_sizes.specs.PowerOfTwo.{IsPowerOfTwo}
use Rattle.rlsf_base.specs.Range.{end_of, range_at}
use Rattle.rlsf_base.proofs.Numbers.PowersOfTwo.{IsPowerOfTwo-positive}
use Rattle.rlsf_model.specs.Terms.{IsGiven, IsGrown, with_len}
use Rattle.rlsf_model.proofs.Coverage.{IsIn-append_right}
use Rattle.rlsf_model_global.proofs.Apart.{IsClear-grown, LieApart, LieApart-above, LieApart-grown, LieApart-less, LieApart-more}
use Rattle.rlsf_test_flex.specs.Cursor.{Cursor, IsCursor, CursorMayOwe}

-- a power of two isn't 0
pub positive : (n : ℕ) → IsPowerOfTwo n → 0 < n
positive = IsPowerOfTwo-positive

-- the source with its cursor at another address
abbrev pub moved_to : Cursor → ℕ → Cursor
moved_to c at = record { terms = c.terms; at = at }

-- what may be outstanding lies in the space before the cursor, and doesn't overlap
lie_apart : (c : Cursor) {owed : List Range} → CursorMayOwe c owed → LieApart c.terms.space.start c.at owed
lie_apart c may = record { low = may.start; high = may.end; disjoint = may.disjoint }

-- ranges that lie so may be outstanding
may_owe : (c : Cursor) {owed : List Range} → LieApart c.terms.space.start c.at owed → CursorMayOwe c owed
may_owe c h = record { start = h.low; end = h.high; disjoint = h.disjoint }

-- a range is provided that begins at the cursor or behind it, which moves to its end
pub given_range : (c : Cursor) (min_size start len : ℕ) → IsCursor c → c.at ≤ start → start % c.terms.min_align ≡ 0 → min_size ≤ len
    → start + len ≤ end_of c.terms.space → (owed : List Range) → CursorMayOwe c owed
    → IsGiven c.terms owed min_size (range_at start len) × CursorMayOwe (moved_to c (start + len)) (range_at start len ∷ owed)
given_range c min_size start len is behind_cursor aligned long fits owed may =
    let lie = lie_apart c may in (
      record {
        lies_in = (omega (arith, is.after_start), fits);
        apart = λ a low high. LieApart-above lie a (omega (arith, low, behind_cursor));
        long = long;
        power = is.power;
        aligned = aligned;
      },
      may_owe (moved_to c (start + len)) (LieApart-more (range_at start len) lie is.after_start behind_cursor),
    )

-- the range that ends at the cursor grows, and the cursor moves to its end
pub grown_range : (c : Cursor) (r : Range) (min_new_len len : ℕ) → IsCursor c → end_of r ≡ c.at → min_new_len ≤ len → r.len ≤ min_new_len
    → r.start + len ≤ end_of c.terms.space → (xs ys : List Range) → CursorMayOwe c (xs ++ r ∷ ys)
    → IsGrown c.terms (xs ++ ys) r min_new_len len × CursorMayOwe (moved_to c (r.start + len)) (xs ++ with_len r len ∷ ys)
grown_range c r min_new_len len is last long longer fits xs ys may =
    let lie = lie_apart c may in
    let more : r.len ≤ len = omega (arith, longer, long) in (
      record { lies_in = (may.start r (IsIn-append_right r xs (r ∷ ys) (inl refl)), fits); apart = IsClear-grown r len xs ys last more lie; long = long },
      may_owe (moved_to c (r.start + len)) (LieApart-grown r len xs ys last more lie),
    )

-- a range returns to the source
pub gone_range : (c : Cursor) (r : Range) (xs ys : List Range) → CursorMayOwe c (xs ++ r ∷ ys) → CursorMayOwe c (xs ++ ys)
gone_range c r xs ys may = may_owe c (LieApart-less r xs ys (lie_apart c may))

-- an outstanding range has its end in the space
pub owed_ends : (c : Cursor) (r : Range) (xs ys : List Range) → CursorMayOwe c (xs ++ r ∷ ys) → end_of r ≤ c.at
owed_ends c r xs ys may = may.end r (IsIn-append_right r xs (r ∷ ys) (inl refl))
