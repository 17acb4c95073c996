-- Rows as a map from addresses, and what becomes of it.
use Rattle.std.proofs.Common.{◌≡◌, ◌≢◌, ℕ, ◌+◌, ◌<◌, ◌≤◌, length, List, [], ◌∷◌, Option, Some, None, arith, refl, sym, ◌∙◌, ap, subst, inl}
use Rattle.std.proofs.Common.{inr}
use Rattle.std.proofs.lemmas.Bool.{cases_eq}
use Rattle.std.proofs.lemmas.Bool.Decides.{nat_tests}
use Rattle.std.proofs.lemmas.Option.{none-some}
use Rattle.rlsf_base.specs.declared.memory.layout.Layout.{Layout}
use Rattle.rlsf_model.specs.Callers.{align_at, bytes_at}
use Rattle.rlsf_model.specs.FlexState.{FlexState, flex_empty}
use Rattle.rlsf_model.specs.State.{State}
use Rattle.rlsf_model_global.specs.Heap.{Agrees, Lists}
use Rattle.rlsf_model_global.specs.Rows.{Row, key, put, row_at, without_row}

-- ---- the entry at an address

pub row_at-put_here : (row : Row) (rows : List Row) → row_at (key row) (put row rows) ≡ Some row
row_at-put_here row [] = grind (arith, nat_tests)
row_at-put_here row (r ∷ rows) = let rest = row_at-put_here row rows in grind (arith, nat_tests)

pub row_at-put_other : (row : Row) (rows : List Row) (a : ℕ) → a ≢ key row → row_at a (put row rows) ≡ row_at a rows
row_at-put_other row [] a other = grind (arith, nat_tests)
row_at-put_other row (r ∷ rows) a other = let rest = row_at-put_other row rows a other in grind (arith, nat_tests)

pub row_at-without_here : (a : ℕ) (rows : List Row) → row_at a (without_row a rows) ≡ None
row_at-without_here a [] = refl
row_at-without_here a (r ∷ rows) = let rest = row_at-without_here a rows in grind (arith, nat_tests)

pub row_at-without_other : (addr : ℕ) (rows : List Row) (a : ℕ) → a ≢ addr → row_at a (without_row addr rows) ≡ row_at a rows
row_at-without_other addr [] a other = refl
row_at-without_other addr (r ∷ rows) a other = let rest = row_at-without_other addr rows a other in grind (arith, nat_tests)

-- ---- entries and payloads

pub Agrees-at : {o o' : Option Row} {l l' : Option ℕ} {b b' : List ℕ} → o ≡ o' → l ≡ l' → b ≡ b' → Agrees o' l' b' → Agrees o l b
Agrees-at {o} {o'} {l} {l'} {b} {b'} e f g h = subst (λ x. Agrees x l b) (sym e) (subst (λ y. Agrees o' y b) (sym f) (subst (λ z. Agrees o' l' z) (sym g) h))

-- where no payload is, no entry is
pub agrees-none : (o : Option Row) (b : List ℕ) → Agrees o None b → o ≡ None
agrees-none None b h = refl
agrees-none (Some r) b (is, enough, few) = absurd (none-some r.1.align is)

-- a payload with as many bytes agrees as well
agrees-filled : (o : Option Row) (l : Option ℕ) (b b' : List ℕ) → length b' ≡ length b → Agrees o l b → Agrees o l b'
agrees-filled None l b b' len h = h
agrees-filled (Some r) l b b' len (is, enough, few) = (is, omega (arith, enough, len), omega (arith, few, len))

-- nothing is live at the beginning
pub Lists-none : (s : FlexState) → s ≡ flex_empty → Lists [] s.machine
unfolding align_at
Lists-none s same a = ap (λ (x : FlexState). align_at x.machine a) same

-- at the address is a payload for the layout
pub record IsServed (m : State) (addr : ℕ) (layout : Layout) : Type 0 where
  pub live : align_at m addr ≡ Some layout.align
  pub sized : layout.size ≤ length (bytes_at m addr)
  pub few : length (bytes_at m addr) < layout.size + 32

module _ (rows : List Row) (m n : State) (lists : Lists rows m) where
  -- a payload more, and an entry more
  pub Lists-put : (row : Row) → IsServed n (key row) row.1 → ((a : ℕ) → a ≢ key row → align_at n a ≡ align_at m a)
      → ((a : ℕ) → a ≢ key row → bytes_at n a ≡ bytes_at m a) → Lists (put row rows) n
  Lists-put row is aligns bytes a = elim (cases_eq a (key row)) [
    | inl same ↦ subst (λ b. Agrees (row_at b (put row rows)) (align_at n b) (bytes_at n b)) (sym same)
        (Agrees-at (row_at-put_here row rows) refl refl (is.live, is.sized, is.few))
    | inr other ↦ Agrees-at (row_at-put_other row rows a other) (aligns a other) (bytes a other) (lists a)
  ]

  -- a payload less, and an entry less
  pub Lists-without_row : (addr : ℕ) → align_at n addr ≡ None → ((a : ℕ) → a ≢ addr → align_at n a ≡ align_at m a)
      → ((a : ℕ) → a ≢ addr → bytes_at n a ≡ bytes_at m a) → Lists (without_row addr rows) n
  Lists-without_row addr gone aligns bytes a = elim (cases_eq a addr) [
    | inl same ↦ subst (λ b. Agrees (row_at b (without_row addr rows)) (align_at n b) (bytes_at n b)) (sym same) (Agrees-at (row_at-without_here addr rows) refl refl gone)
    | inr other ↦ Agrees-at (row_at-without_other addr rows a other) (aligns a other) (bytes a other) (lists a)
  ]

  -- other bytes in a payload
  pub Lists-filled : (addr : ℕ) → align_at n ≡ align_at m → length (bytes_at n addr) ≡ length (bytes_at m addr)
      → ((a : ℕ) → a ≢ addr → bytes_at n a ≡ bytes_at m a) → Lists rows n
  Lists-filled addr aligns len bytes a = elim (cases_eq a addr) [
    | inl same ↦ subst (λ b. Agrees (row_at b rows) (align_at n b) (bytes_at n b)) (sym same)
        (Agrees-at refl (ap (λ f. f addr) aligns) refl (agrees-filled (row_at addr rows) (align_at m addr) (bytes_at m addr) (bytes_at n addr) len (lists addr)))
    | inr other ↦ Agrees-at refl (ap (λ f. f a) aligns) (bytes a other) (lists a)
  ]

  -- a payload with another size, where it was or elsewhere
  pub Lists-moved : (addr : ℕ) (row : Row) → IsServed n (key row) row.1 → (key row ≢ addr → align_at n addr ≡ None)
      → ((a : ℕ) → a ≢ addr → a ≢ key row → align_at n a ≡ align_at m a)
      → ((a : ℕ) → a ≢ addr → a ≢ key row → bytes_at n a ≡ bytes_at m a) → Lists (put row (without_row addr rows)) n
  Lists-moved addr row is left aligns bytes a = elim (cases_eq a (key row)) [
    | inl same ↦ subst (λ b. Agrees (row_at b (put row (without_row addr rows))) (align_at n b) (bytes_at n b)) (sym same)
        (Agrees-at (row_at-put_here row (without_row addr rows)) refl refl (is.live, is.sized, is.few))
    | inr other ↦ Agrees-at (row_at-put_other row (without_row addr rows) a other) refl refl (elim (cases_eq a addr) [
      | inl gone ↦ subst (λ b. Agrees (row_at b (without_row addr rows)) (align_at n b) (bytes_at n b)) (sym gone)
          (Agrees-at (row_at-without_here addr rows) refl refl (left (λ same. other (gone ∙ sym same))))
      | inr apart ↦ Agrees-at (row_at-without_other addr rows a apart) (aligns a apart other) (bytes a apart other) (lists a)
    ])
  ]
