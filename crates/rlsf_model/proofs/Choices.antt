-- The range that an allocation takes.
use Rattle.std.specs.Prelude.{nat_lt, nat_le, ◌||◌, ◌&&◌, ◌==◌}
use Rattle.std.proofs.Common.{◌≡◌, ℕ, ◌*◌, true, cond, true≢false, List, [], ◌∷◌, Option, Some, None, find}
use Rattle.std.proofs.Common.{arith, refl, sym, ◌∙◌, ap, subst, inl, inr}
use Rattle.std.proofs.lemmas.Bool.{cases_lt, leb-true, le-leb, lt-ltb, le-ltb, eqb-true, eq-eqb, and_parts, and_from}
use Rattle.rlsf_base.specs.declared.memory.range.Range.{Range}
use Rattle.rlsf_model_sizes.specs.SizeClass.{SizeClass, class_of, class_start, reaches, Reaches, IsAtMost}
use Rattle.rlsf_base.proofs.SizeClasses.Order.{IsAtMost-refl, IsAtMost-trans, IsAtMost-total, IsAtMost-antisymm}
use Rattle.rlsf_model.specs.Lists.{IsIn}
use Rattle.rlsf_model.specs.Allocate.{has_class, least_reaching, choice}
use Rattle.rlsf_model.proofs.Coverage.{by_test, find-some, find-none}
use Rattle.rlsf_model.proofs.Names.{earlier}

pub is_at_most-true : (c d : SizeClass) → (nat_lt c.exponent d.exponent || (c.exponent == d.exponent && nat_le c.division d.division)) ≡ true → IsAtMost c d
is_at_most-true c d h = grind (arith, cases_lt, and_parts, le-ltb, eqb-true, leb-true)

pub is_at_most-from : (c d : SizeClass) → IsAtMost c d → (nat_lt c.exponent d.exponent || (c.exponent == d.exponent && nat_le c.division d.division)) ≡ true
is_at_most-from c d h = grind (arith, lt-ltb, le-ltb, and_from, eq-eqb, le-leb)

pub has_class-true : (sllen : ℕ) (c : SizeClass) (f : Range) → has_class sllen c f ≡ true → class_of sllen f.len ≡ c
has_class-true sllen c f h = grind (arith, and_parts, eqb-true)

pub has_class-from : (sllen : ℕ) (c : SizeClass) (f : Range) → class_of sllen f.len ≡ c → has_class sllen c f ≡ true
has_class-from sllen c f e = grind (arith, and_from, eq-eqb)

-- c is the least class that reaches a size among those of some ranges
pub record IsLeast (sllen size : ℕ) (free : List Range) (c : SizeClass) : Type 0 where
  pub range : Range
  pub is_in : IsIn range free
  pub has : class_of sllen range.len ≡ c
  pub reached : Reaches sllen c size
  pub least : (g : Range) → IsIn g free → Reaches sllen (class_of sllen g.len) size → IsAtMost c (class_of sllen g.len)

-- either no class reaches, or there is the least one
pub data Least (sllen size : ℕ) (free : List Range) (o : Option SizeClass) : Type 0 where
  none_reaches : o ≡ None → ((g : Range) → IsIn g free → Reaches sllen (class_of sllen g.len) size → ⊥) → Least sllen size free o
  one_reaches : (c : SizeClass) → o ≡ Some c → IsLeast sllen size free c → Least sllen size free o

module _ (sllen size : ℕ) where
  pub least_of : (free : List Range) → Least sllen size free (least_reaching sllen size free)
  least_of [] = none_reaches refl (λ g h. absurd h)
  least_of (f ∷ fs) =
      let c = class_of sllen f.len in
      let least = least_reaching sllen size fs in
      by_test (reaches sllen c size)
      (λ yes_reaches. let reached : Reaches sllen c size = leb-true (size * sllen) (class_start sllen c) yes_reaches in
      let is : least_reaching sllen size (f ∷ fs) ≡ Some (earlier c least) = ap (λ b. cond b (Some (earlier c least)) least) yes_reaches in
      elim (least_of fs) [
        | none_reaches e none ↦ one_reaches c (is ∙ ap (λ o. Some (earlier c o)) e) (record {
          range = f;
          is_in = inl refl;
          has = refl;
          reached = reached;
          least = λ g h r. elim h [ inl same ↦ subst (λ x. IsAtMost c (class_of sllen x.len)) (sym same) (IsAtMost-refl c) | inr i ↦ absurd (none g i r) ];
        })
        | one_reaches d e l ↦ by_test (nat_lt c.exponent d.exponent || (c.exponent == d.exponent && nat_le c.division d.division))
            (λ first. one_reaches c (is ∙ ap (λ o. Some (earlier c o)) e ∙ ap (λ b. Some (cond b c d)) first) (record {
              range = f;
              is_in = inl refl;
              has = refl;
              reached = reached;
              least = λ g h r. elim h [
                | inl same ↦ subst (λ x. IsAtMost c (class_of sllen x.len)) (sym same) (IsAtMost-refl c)
                | inr i ↦ IsAtMost-trans c d (class_of sllen g.len) (is_at_most-true c d first) (l.least g i r)
              ];
            }))
            (λ later. let order : IsAtMost d c =
            elim (IsAtMost-total c d) [ inl back ↦ absurd (true≢false (sym (is_at_most-from c d back) ∙ later)) | inr order ↦ order ] in
            one_reaches d (is ∙ ap (λ o. Some (earlier c o)) e ∙ ap (λ b. Some (cond b c d)) later) (record {
              range = l.range;
              is_in = inr l.is_in;
              has = l.has;
              reached = l.reached;
              least = λ g h r. elim h [ inl same ↦ subst (λ x. IsAtMost d (class_of sllen x.len)) (sym same) order | inr i ↦ l.least g i r ];
            }))
      ])
      (λ fails. let is : least_reaching sllen size (f ∷ fs) ≡ least = ap (λ b. cond b (Some (earlier c least)) least) fails in
      let short : Reaches sllen c size → ⊥ = λ r. true≢false (sym (le-leb (size * sllen) (class_start sllen c) r) ∙ fails) in
      elim (least_of fs) [
        | none_reaches e none ↦ none_reaches (is ∙ e)
            (λ g h r. elim h [ inl same ↦ absurd (short (subst (λ x. Reaches sllen (class_of sllen x.len) size) same r)) | inr i ↦ none g i r ])
        | one_reaches d e l ↦ one_reaches d (is ∙ e) (record {
          range = l.range;
          is_in = inr l.is_in;
          has = l.has;
          reached = l.reached;
          least = λ g h r. elim h [ inl same ↦ absurd (short (subst (λ x. Reaches sllen (class_of sllen x.len) size) same r)) | inr i ↦ l.least g i r ];
        })
      ])

-- f is the choice for a size: the first of the free ranges of its class, which is the least that reaches
pub record IsChoice (sllen size : ℕ) (free : List Range) (f : Range) : Type 0 where
  pub is_in : IsIn f free
  pub found : find (has_class sllen (class_of sllen f.len)) free ≡ Some f
  pub reached : Reaches sllen (class_of sllen f.len) size
  pub least : (g : Range) → IsIn g free → Reaches sllen (class_of sllen g.len) size → IsAtMost (class_of sllen f.len) (class_of sllen g.len)

module _ (sllen size : ℕ) (free : List Range) where
  pub choice-some : (f : Range) → choice sllen size free ≡ Some f → IsChoice sllen size free f
  choice-some f h = grind (arith, least_of, find-some, has_class-true)

  -- where nothing is chosen, no free range's class reaches
  pub choice-none : choice sllen size free ≡ None → (g : Range) → IsIn g free → Reaches sllen (class_of sllen g.len) size → ⊥
  choice-none h = grind (arith, least_of, true≢false, has_class-from, find-none)

  -- where no class reaches, nothing is chosen
  pub choice-from_none : ((g : Range) → IsIn g free → Reaches sllen (class_of sllen g.len) size → ⊥) → choice sllen size free ≡ None
  choice-from_none short = grind (arith, least_of)

  -- the range that is found first of the least class that reaches is the choice
  pub choice-from : (f : Range) → IsChoice sllen size free f → choice sllen size free ≡ Some f
  choice-from f is = grind (arith, least_of, IsAtMost-antisymm)
