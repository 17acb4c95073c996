-- Notes that lead from one value of a source to another.
use Rattle.std.proofs.Common.{◌≡◌, List, [], ◌∷◌, ◌++◌, refl, sym, ◌∙◌, ap, subst}
use Rattle.rlsf_model.specs.Note.{Note, grow, LeadsBy, IsSameQuestion, AnswersAgree}
use Rattle.rlsf_model.specs.Terms.{Terms}

-- where some notes lead, more notes go on from
pub LeadsBy-append : {S : Type 0} (leads : S → Note → S → Type 0) (x y z : S) (ms ns : List Note) → LeadsBy leads x ms y → LeadsBy leads y ns z
    → LeadsBy leads x (ms ++ ns) z
LeadsBy-append leads x y z [] ns first second = subst (λ v. LeadsBy leads v ns z) first second
LeadsBy-append leads x y z (m ∷ ms) ns (v, step, rest) second = (v, step, LeadsBy-append leads v y z ms ns rest second)

-- notes lead from a source to one with the same terms
pub terms-led : {S : Type 0} (terms : S → Terms) (leads : S → Note → S → Type 0) → ((x y : S) (n : Note) → leads x n y → terms y ≡ terms x)
    → (x y : S) (ns : List Note) → LeadsBy leads x ns y → terms y ≡ terms x
terms-led terms leads constant x y [] led = ap terms led
terms-led terms leads constant x y (n ∷ ns) (z, led, rest) = terms-led terms leads constant z y ns rest ∙ constant x z n led

-- a question is the same as itself
IsSameQuestion-refl : (m : Note) → IsSameQuestion m m
IsSameQuestion-refl (grow r n answer) = (refl, refl)
IsSameQuestion-refl x = refl

-- a source whose answer and whose value after a question are determined by its value before answers the same questions the same
pub AnswersAgree-led : {S : Type 0} (leads : S → Note → S → Type 0)
    → ((x y z : S) (m n : Note) → IsSameQuestion m n → leads x m y → leads x n z → (m ≡ n) × (y ≡ z))
    → (x y z : S) (ms ns : List Note) → LeadsBy leads x ms y → LeadsBy leads x ns z → AnswersAgree ms ns
AnswersAgree-led leads steady x y z (m ∷ ms) (n ∷ ns) (v, a, rest) (v', b, rest') = (
  λ same. (steady x v v' m n same a b).0,
  λ is. AnswersAgree-led leads steady v y z ms ns rest
      (subst (λ q. LeadsBy leads q ns z) (sym (steady x v v' m n (subst (IsSameQuestion m) is (IsSameQuestion-refl m)) a b).1) rest'),
)
AnswersAgree-led leads steady x y z l ns first second = tt

-- the same notes lead such a source to the same value
pub led-determined : {S : Type 0} (leads : S → Note → S → Type 0)
    → ((x y z : S) (m n : Note) → IsSameQuestion m n → leads x m y → leads x n z → (m ≡ n) × (y ≡ z))
    → (x y z : S) (ns : List Note) → LeadsBy leads x ns y → LeadsBy leads x ns z → y ≡ z
led-determined leads steady x y z [] first second = first ∙ sym second
led-determined leads steady x y z (n ∷ ns) (v, a, rest) (v', b, rest') =
    led-determined leads steady v y z ns rest (subst (λ q. LeadsBy leads q ns z) (sym (steady x v v' n n (IsSameQuestion-refl n) a b).1) rest')

-- the answers agree on what the notes begin with
pub AnswersAgree-front : (ms ns xs ys : List Note) → AnswersAgree (ms ++ xs) (ns ++ ys) → AnswersAgree ms ns
AnswersAgree-front (m ∷ ms) (n ∷ ns) xs ys (first, rest) = (first, λ same. AnswersAgree-front ms ns xs ys (rest same))
AnswersAgree-front l ns xs ys agree = tt

-- and behind the same notes
pub AnswersAgree-behind : (ns xs ys : List Note) → AnswersAgree (ns ++ xs) (ns ++ ys) → AnswersAgree xs ys
AnswersAgree-behind [] xs ys agree = agree
AnswersAgree-behind (n ∷ ns) xs ys (first, rest) = AnswersAgree-behind ns xs ys (rest refl)
