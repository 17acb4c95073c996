-- The units of 16 bytes of a block. A unit has a way if its first byte is the owner's. Ways leave with the bytes, and come back
-- with them. Assumes `Logic`.
--     ways-same             the same units have theirs
--     ways_part, ways_join  the ways of some units are parted from the others', and joined
--     parted                which they are, when a run of bytes leaves or comes back
use Rattle.std.proofs.Common.{◌≡◌, ℕ, zero, suc, ◌+◌, ◌-◌, ◌*◌, ◌<◌, ◌≤◌, ◌⊎◌, Bool, true, false, List, [], ◌∷◌, refl, sym, ap, subst}
use Rattle.std.proofs.Common.{◌∙◌, arith, inl, inr}
use Rattle.std.specs.Prelude.{◌%◌, ◌&&◌, eqb, if◌then◌else◌}
use seplogic.Ra.Ura.{Ura}
use base.Logic.{ent, sep, emp, id⊢}
use base.Fml.{fsep}
use types.Logic.{Logic, sem}
use types.Kit.{‵, ◌⊛◌, ◌$◌, ◌∵◌, !, qed, move, drop as skip', use0, use1, use2, split, fsplit, fjoin, rewrite, done}
use denote.Steps.{nothing}
use Rattle.std.proofs.Math.Bool.{not}
use Rattle.std.proofs.Math.Dec.{eqb-suc-zero}
use Rattle.std.proofs.lemmas.Bool.{cases_lt, eq-eqb}
use Rattle.rlsf_base.specs.Out.{Change, raw, out, is_own, kept_at}
use Rattle.rlsf_base.specs.Changes.{AreBytesOut, IsOwn, left, came_back, came_raw}
use Rattle.rlsf_base.specs.Steps.Ownership.{units_for, units_in, units_from, way_if, ways_of, begins_in, own_unit}
use Rattle.rlsf_base.proofs.RawBlock.OpenedUnits.{ways}
use Rattle.rlsf_base.proofs.Changes.{and-false, in_run-yes, in_run-before, in_run-behind, changed-there, changed-before, changed-behind, back-there, back-before, back-behind}
use Rattle.rlsf_base.proofs.Changes.{none-out}

-- where a block is aligned to 16, these are all of its units
pub units_in-aligned : (shift skip len : ℕ) → shift % 16 ≡ 0 → units_in shift skip len ≡ units_for skip len
units_in-aligned shift skip len e = ap (λ t. if t then units_for skip len else 0) (eq-eqb (shift % 16) 0 e)

-- a number that isn't zero
pub not-zero : (n : ℕ) → 0 < n → eqb n 0 ≡ false
not-zero zero p = absurd (omega (arith, p))
not-zero (suc n) p = eqb-suc-zero n

-- where it isn't, there are none
pub units_in-elsewhere : (shift skip len : ℕ) → 0 < shift % 16 → units_in shift skip len ≡ 0
units_in-elsewhere shift skip len p = ap (λ t. if t then units_for skip len else 0) (not-zero (shift % 16) p)

-- where the first byte is the block's first, its address determines them
pub units_in-first : (shift start len : ℕ) → (shift + start) % 16 ≡ 0 → units_in shift 0 len ≡ units_from start len
units_in-first shift start len e = grind (arith, cases_lt, units_in-elsewhere, units_in-aligned)

-- of the two that share the units of a third, one has it, and the other hasn't
abbrev pub Shares : Bool → Bool → Bool → Type 0
Shares whole rest part = ((rest ≡ false) × (part ≡ whole)) ⊎ ((rest ≡ whole) × (part ≡ false))

-- ---- whose a unit is

no-and : (t u : Bool) → t ≡ false → (t && u) ≡ false
no-and t u e = ap (λ s. s && u) e

-- its first byte determines it
pub unit-same : (cs ds : List Change) (skip len u : ℕ)
    → (skip ≤ u * 16 → u * 16 < skip + len → is_own (kept_at cs (u * 16 - skip)) ≡ is_own (kept_at ds (u * 16 - skip)))
    → own_unit cs skip len u ≡ own_unit ds skip len u
unit-same cs ds skip len u same = grind (arith, cases_lt, no-and, in_run-before, in_run-behind)

unit-own : (cs : List Change) (skip len u : ℕ) → skip ≤ u * 16 → u * 16 < skip + len → is_own (kept_at cs (u * 16 - skip)) ≡ true → own_unit cs skip len u ≡ true
unit-own cs skip len u lo hi own = ap (λ t. t && is_own (kept_at cs (u * 16 - skip))) (in_run-yes skip len (u * 16) lo hi) ∙ own

-- where each byte is the owner's, it has each unit that begins there
pub unit-all : (cs : List Change) (skip len u : ℕ) → IsOwn cs 0 len → own_unit cs skip len u ≡ begins_in skip len u
unit-all cs skip len u own = grind (arith, cases_lt, no-and, in_run-before, unit-own, in_run-yes, in_run-behind)

-- where each byte is out, it has none
pub unit-gone : (cs : List Change) (skip len u : ℕ) → AreBytesOut cs 0 len → own_unit cs skip len u ≡ false
unit-gone cs skip len u gone = grind (arith, cases_lt, no-and, in_run-before, and-false, in_run-behind)

-- in no bytes no unit begins
pub unit-nowhere : (cs : List Change) (skip u : ℕ) → own_unit cs skip 0 u ≡ false
unit-nowhere cs skip u = grind (arith, cases_lt, no-and, in_run-before, in_run-behind)

-- a run of the owner's bytes was written
pub unit-written : (cs : List Change) (skip len i n u : ℕ) → IsOwn cs i n → own_unit cs skip len u ≡ own_unit (came_back i n cs) skip len u
unit-written cs skip len i n u own = grind (arith, unit-same, cases_lt, back-before, back-there, back-behind)

-- the changes cs by which a run of n from the place p on is the owner's; ds by which it isn't; and ps, those of the run alone
pub parted : (cs ds ps : List Change) (skip len p n u : ℕ) → skip ≤ p → p + n ≤ skip + len → IsOwn cs (p - skip) n → AreBytesOut ds (p - skip) n
    → ((k : ℕ) → (k < p - skip) ⊎ (p - skip + n ≤ k) → is_own (kept_at ds k) ≡ is_own (kept_at cs k)) → IsOwn ps 0 n
    → Shares (own_unit cs skip len u) (own_unit ds skip len u) (own_unit ps p n u)
parted cs ds ps skip len p n u from to own gone same all = let k = u * 16 - skip in elim (cases_lt (u * 16) p) [
  | inl before ↦ inr (unit-same ds cs skip len u (λ lo hi. same k (inl (omega (arith, before, lo)))), no-and _ _ (in_run-before p n (u * 16) before))
  | inr behind ↦ elim (cases_lt (u * 16) (p + n)) [
    | inl inside ↦ inl (
      ap (λ t. begins_in skip len u && is_own t) (gone k (omega (arith, behind, from)) (omega (arith, inside, behind, from))) ∙ and-false (begins_in skip len u),
      unit-own ps p n u behind inside (all (u * 16 - p) (omega arith) (omega (arith, inside, behind)))
          ∙ sym (unit-own cs skip len u (omega (arith, behind, from)) (omega (arith, inside, to)) (own k (omega (arith, behind, from)) (omega (arith, inside, behind, from)))),
    )
    | inr past ↦ inr (unit-same ds cs skip len u (λ lo hi. same k (inr (omega (arith, past, from, lo)))), no-and _ _ (in_run-behind p n (u * 16) past))
  ]
]

-- what holds of bytes around a run that leaves, or comes back
pub around-left : (cs : List Change) (i n k : ℕ) → (k < i) ⊎ (i + n ≤ k) → is_own (kept_at (left i n cs) k) ≡ is_own (kept_at cs k)
around-left cs i n k side = elim side [ inl before ↦ ap is_own (changed-before out cs i n k before) | inr past ↦ ap is_own (changed-behind out cs i n k past) ]

pub around-raw : (cs : List Change) (i n k : ℕ) → (k < i) ⊎ (i + n ≤ k) → is_own (kept_at cs k) ≡ is_own (kept_at (came_raw i n cs) k)
around-raw cs i n k side = elim side [ inl before ↦ ap is_own (sym (changed-before raw cs i n k before)) | inr past ↦ ap is_own (sym (changed-behind raw cs i n k past)) ]

pub around-back : (cs : List Change) (i n k : ℕ) → (k < i) ⊎ (i + n ≤ k) → is_own (kept_at cs k) ≡ is_own (kept_at (came_back i n cs) k)
around-back cs i n k side = elim side [ inl before ↦ ap is_own (sym (back-before cs i n k before)) | inr past ↦ ap is_own (sym (back-behind cs i n k past)) ]

pub left-out : (cs : List Change) (i n : ℕ) → AreBytesOut (left i n cs) i n
left-out cs i n k lo hi = changed-there out cs i n k lo hi

pub back-own : (cs : List Change) (i n : ℕ) → IsOwn (came_back i n cs) i n
back-own cs i n k lo hi = ap is_own (back-there cs i n k lo hi)

pub none-own : (i n : ℕ) → IsOwn [] i n
none-own i n k lo hi = ap is_own (none-out k)

-- some units, and the others
pub others : (part : Bool) → Shares true (not part) part
others true = inl (refl, refl)
others false = inr (refl, refl)

-- ---- their ways

module _ {M : Type 1} {𝓤 : Ura M} (𝓛 : Logic 𝓤) (b : ℕ) where
  pub ways-same : (is is' : ℕ → Bool) (u n o : ℕ) → ((v : ℕ) → is v ≡ is' v) → ways_of is u n b o ≡ ways_of is' u n b o
  ways-same is is' u zero o h = refl
  ways-same is is' u (suc n) o h = λ i. fsep (way_if (h u i) b (u * 16 + o)) (ways-same is is' (suc u) n o h i)

  way_part : (whole rest part : Bool) (o : ℕ) → Shares whole rest part
      → ent 𝓤 (sem 𝓛 (way_if whole b o)) (sep 𝓤 (sem 𝓛 (way_if part b o)) (sem 𝓛 (way_if rest b o)))
  way_part whole rest part o shares = elim shares [
    | inl e ↦ qed 𝓛 (‵ (way_if whole b o) ∷ []) ∵ rewrite ! 0 (λ (t : Bool). ‵ (way_if t b o)) (sym e.1) refl $ nothing ! $
        rewrite ! 0 (λ (t : Bool). ‵ (way_if t b o)) {x = rest} {y = false} (sym e.0) refl $ move ! (1 ∷ []) $ done !
    | inr e ↦ qed 𝓛 (‵ (way_if whole b o) ∷ []) ∵ rewrite ! 0 (λ (t : Bool). ‵ (way_if t b o)) (sym e.0) refl $ nothing ! $
        rewrite ! 0 (λ (t : Bool). ‵ (way_if t b o)) {x = part} {y = false} (sym e.1) refl $ done !
  ]

  way_join : (whole rest part : Bool) (o : ℕ) → Shares whole rest part
      → ent 𝓤 (sep 𝓤 (sem 𝓛 (way_if part b o)) (sem 𝓛 (way_if rest b o))) (sem 𝓛 (way_if whole b o))
  way_join whole rest part o shares = elim shares [
    | inl e ↦ qed 𝓛 (‵ (way_if part b o) ∷ ‵ (way_if rest b o) ∷ []) ∵ rewrite ! 0 (λ (t : Bool). ‵ (way_if t b o)) e.1 refl $ move ! (1 ∷ []) $ skip' ! $
        done !
    | inr e ↦ qed 𝓛 (‵ (way_if part b o) ∷ ‵ (way_if rest b o) ∷ []) ∵ skip' ! $ rewrite ! 0 (λ (t : Bool). ‵ (way_if t b o)) e.0 refl $ done !
  ]

  pub ways_part : (whole rest part : ℕ → Bool) (u n o : ℕ) → ((v : ℕ) → Shares (whole v) (rest v) (part v))
      → ent 𝓤 (sem 𝓛 (ways_of whole u n b o)) (sep 𝓤 (sem 𝓛 (ways_of part u n b o)) (sem 𝓛 (ways_of rest u n b o)))
  ways_part whole rest part u zero o h = qed 𝓛 (‵ (ways_of whole u zero b o) ∷ []) ∵ nothing ! $ done !
  ways_part whole rest part u (suc n) o h = let at = u * 16 + o in
      qed 𝓛 (‵ (ways_of whole u (suc n) b o) ∷ []) ∵ fsplit ! $ use1 𝓛 (‵ (way_if (part u) b at) ⊛ ‵ (way_if (rest u) b at))
      (way_part (whole u) (rest u) (part u) at (h u)) $ split ! $ move ! (2 ∷ []) $
      use1 𝓛 (‵ (ways_of part (suc u) n b o) ⊛ ‵ (ways_of rest (suc u) n b o)) (ways_part whole rest part (suc u) n o h) $ split ! $
      -- [the part's ways; the rest's; the part's way; the rest's]
      move ! (2 ∷ 0 ∷ []) $ fjoin ! $ move ! (2 ∷ 1 ∷ []) $ fjoin ! $ move ! (1 ∷ []) $ done !

  pub ways_join : (whole rest part : ℕ → Bool) (u n o : ℕ) → ((v : ℕ) → Shares (whole v) (rest v) (part v))
      → ent 𝓤 (sep 𝓤 (sem 𝓛 (ways_of part u n b o)) (sem 𝓛 (ways_of rest u n b o))) (sem 𝓛 (ways_of whole u n b o))
  ways_join whole rest part u zero o h = qed 𝓛 (‵ (ways_of part u zero b o) ∷ ‵ (ways_of rest u zero b o) ∷ []) ∵ skip' ! $ done !
  ways_join whole rest part u (suc n) o h = let at = u * 16 + o in
      qed 𝓛 (‵ (ways_of part u (suc n) b o) ∷ ‵ (ways_of rest u (suc n) b o) ∷ []) ∵ fsplit ! $ move ! (2 ∷ []) $ fsplit ! $
      -- [the rest's way; the rest's ways; the part's way; the part's ways]
      move ! (3 ∷ 1 ∷ []) $ use2 𝓛 (‵ (ways_of whole (suc u) n b o)) (ways_join whole rest part (suc u) n o h) $
      move ! (2 ∷ 1 ∷ []) $ use2 𝓛 (‵ (way_if (whole u) b at)) (way_join (whole u) (rest u) (part u) at (h u)) $ fjoin ! $ done !

  -- ways that are all there
  pub ways_all : (is : ℕ → Bool) (u n o at : ℕ) → at ≡ u * 16 + o → ((v : ℕ) → u ≤ v → v < u + n → is v ≡ true) → ways_of is u n b o ≡ ways n b at
  ways_all is u zero o at e h = refl
  ways_all is u (suc n) o at e h =
      λ i. fsep (way_if (h u (omega arith) (omega arith) i) b (sym e i)) (ways_all is (suc u) n o (at + 16) (omega (arith, e)) (λ v lo hi. h v (omega arith) (omega arith)) i)

  -- ways of which none is there
  pub ways_none : (own : ℕ → Bool) (u n o : ℕ) → ((v : ℕ) → u ≤ v → v < u + n → own v ≡ false) → ent 𝓤 (emp 𝓤) (sem 𝓛 (ways_of own u n b o))
  ways_none own u zero o h = id⊢ 𝓤 (emp 𝓤)
  ways_none own u (suc n) o h = qed 𝓛 [] ∵ use0 𝓛 (‵ (ways_of own (suc u) n b o)) (ways_none own (suc u) n o (λ v lo hi. h v (omega arith) (omega arith))) $ nothing ! $
      rewrite ! 0 (λ (t : Bool). ‵ (way_if t b (u * 16 + o))) {x = own u} {y = false} (sym (h u (omega arith) (omega arith))) refl $ fjoin ! $ done !

  -- the ways by the place of the first byte: the same where that is the block's first, and else none
  pub ways_first : (cs : List Change) (skip len units o at : ℕ) → skip + o ≡ at
      → ent 𝓤 (sem 𝓛 (ways_of (own_unit cs skip len) 0 units b o)) (sem 𝓛 (ways_of (own_unit cs 0 len) 0 (if eqb skip 0 then units else 0) b at))
  ways_first cs zero len units o at e = let same : o ≡ at = omega (arith, e) in
      subst (λ (k : ℕ). ent 𝓤 (sem 𝓛 (ways_of (own_unit cs 0 len) 0 units b o)) (sem 𝓛 (ways_of (own_unit cs 0 len) 0 units b k))) same (id⊢ 𝓤 _)
  ways_first cs (suc skip) len units o at e = qed 𝓛 (‵ (ways_of (own_unit cs (suc skip) len) 0 units b o) ∷ []) ∵ skip' ! $ nothing ! $
      rewrite ! 0 (λ (t : Bool). ‵ (ways_of (own_unit cs 0 len) 0 (if t then units else 0) b at)) {x = eqb (suc skip) 0} {y = false} (sym (eqb-suc-zero skip)) refl $ done !
