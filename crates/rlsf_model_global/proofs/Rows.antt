-- Rows in the order of their addresses.
use Rattle.std.proofs.Common.{◌≡◌, ◌≢◌, ◌⊎◌, ℕ, suc, ◌<◌, ◌≤◌, List, [], ◌∷◌, None, Bool, true, false, true≢false, not, nat_lt}
use Rattle.std.proofs.Common.{◌==◌, refl, sym, subst, arith, inl, inr, if◌then◌else◌}
use Rattle.std.proofs.lemmas.Bool.Decides.{eqb_tells, leb_tells, nat_tests}
use Rattle.rlsf_model.specs.Lists.{IsIn}
use Rattle.rlsf_model_global.specs.Rows.{Row, key, IsSorted, row_at, put, without_row}

-- a test isn't both
pub clash : {X : Type 0} → true ≡ false → X
clash e = absurd (true≢false e)

pub clash' : {X : Type 0} → false ≡ true → X
clash' e = absurd (true≢false (sym e))

-- what is in the entries with one more
pub IsIn-put : (x row : Row) (rows : List Row) → IsIn x (put row rows) → (x ≡ row) ⊎ IsIn x rows
IsIn-put x row [] h = h
IsIn-put x row (r ∷ rows) h = let rest = IsIn-put x row rows in grind (arith, nat_tests)

pub IsIn-without_row : (x : Row) (a : ℕ) (rows : List Row) → IsIn x (without_row a rows) → IsIn x rows × (key x ≢ a)
IsIn-without_row x a [] h = absurd h
IsIn-without_row x a (r ∷ rows) h = let rest = IsIn-without_row x a rows in grind (arith, nat_tests)

-- a new address keeps the order
pub put-sorted : (row : Row) (rows : List Row) → IsSorted rows → ((r : Row) → IsIn r rows → key r ≢ key row) → IsSorted (put row rows)
put-sorted row [] s n = (λ x h. absurd h, tt)
put-sorted row (r ∷ rows) s n =
    by (put-sorted row rows s.1 (λ x i. n x (inr i))) (nat_lt (key r) (key row)) (key r == key row) (leb_tells (suc (key r)) (key row)) (eqb_tells (key r) (key row))
  where
    by : IsSorted (put row rows) → (lt eq : Bool) → ((lt ≡ true) × (suc (key r) ≤ key row)) ⊎ ((lt ≡ false) × (key row < suc (key r)))
        → ((eq ≡ true) × (key r ≡ key row)) ⊎ ((eq ≡ false) × (key r ≢ key row))
        → IsSorted (if lt then r ∷ put row rows else if eq then row ∷ rows else row ∷ r ∷ rows)
    by rest true eq (inl (_, below)) t = (λ x i. elim (IsIn-put x row rows i) [ inl e ↦ subst (λ y. key r < key y) (sym e) (omega (arith, below)) | inr j ↦ s.0 x j ], rest)
    by rest true eq (inr (off, _)) t = clash off
    by rest false eq (inl (off, _)) t = clash' off
    by rest false true t (inl (_, same)) = absurd (n r (inl refl) same)
    by rest false true t (inr (off, _)) = clash off
    by rest false false (inr (_, le)) (inl (off, _)) = clash' off
    by rest false false (inr (_, le)) (inr (_, differs)) =
        let below : key row < key r = grind (arith, n r (inl refl)) in
        (λ x. elim [ inl e ↦ subst (λ y. key row < key y) (sym e) below | inr i ↦ omega (arith, below, s.0 x i) ], s)

-- and so does one entry less
pub without_row-sorted : (a : ℕ) (rows : List Row) → IsSorted rows → IsSorted (without_row a rows)
without_row-sorted a [] s = tt
without_row-sorted a (r ∷ rows) s = by (without_row-sorted a rows s.1) (key r == a)
  where
    by : IsSorted (without_row a rows) → (eq : Bool) → IsSorted (if not eq then r ∷ without_row a rows else without_row a rows)
    by rest true = rest
    by rest false = (λ x i. s.0 x (IsIn-without_row x a rows i).0, rest)

-- an address without an entry
pub absent-row_at : (addr : ℕ) (rows : List Row) → row_at addr rows ≡ None → (r : Row) → IsIn r rows → key r ≢ addr
absent-row_at addr [] e r i = absurd i
absent-row_at addr (x ∷ rows) e r i = let rest = absent-row_at addr rows in grind (arith, nat_tests, e)
