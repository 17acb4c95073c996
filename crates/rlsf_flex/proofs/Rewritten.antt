-- What a footer that is written leaves of the others.
use Rattle.std.proofs.Common.{◌≡◌, ℕ, ◌+◌, ◌≤◌, List, length, [], ◌∷◌, Bool, false, true, arith, refl, sym, ◌∙◌, subst, inl, inr}
use Rattle.std.proofs.lemmas.Bool.{false≢true}
use Rattle.rlsf_base.specs.declared.memory.range.Range.{Range}
use Rattle.rlsf_base.specs.Range.{end_of, LiesIn}
use Rattle.rlsf_base.specs.Space.{IsWord, Space, word_at}
use Rattle.rlsf_flex.specs.Footers.{footer_of, Footers, WritesFooter}
use Rattle.rlsf_flex.specs.Steps.Footing.{IsFooted}
use Rattle.rlsf_model.specs.Insert.{IsClear}
use Rattle.rlsf_model.specs.Lists.{IsIn}
use Rattle.rlsf_flex.proofs.Frames.{word_at-bytes}
use Rattle.rlsf_flex.proofs.Places.{SamePlace-refl, out_at-place}
use Rattle.rlsf_model.proofs.RangesInChunks.{coverage-in}

-- a range's footer reads as it did
abbrev ReadsSame : Space → Space → Range → Type 0
ReadsSame m n p = (word_at n (footer_of p) ≡ word_at m (footer_of p)) × (word_at n (footer_of p + 8) ≡ word_at m (footer_of p + 8))

Footers-read : (m n : Space) (ps : List Range) → ((p : Range) → IsIn p ps → ReadsSame m n p) → Footers m ps → Footers n ps
Footers-read m n [] same f = tt
Footers-read m n (p ∷ ps) same f =
    let (start, len) = same p (inl refl) in
    (start ∙ f.0, len ∙ f.1, Footers-read m n ps (λ q i. same q (inr i)) f.2)

-- the footers of ranges that are apart from the one whose footer was written
pub Footers-written : (m n : Space) (r : Range) (start len : ℕ) (ps : List Range) → m.out ≡ [] → WritesFooter m n r start len → 64 ≤ r.len → IsClear r ps
    → ((p : Range) → IsIn p ps → (64 ≤ p.len) × LiesIn p m.start (length m.bytes)) → Footers m ps → Footers n ps
Footers-written m n r start len ps none w long apart placed = Footers-read m n ps read
  where
    -- a word of p is none of r's footer
    other : (p : Range) → IsIn p ps → (a : ℕ) → IsWord m a → p.start ≤ a → a + 8 ≤ end_of p → word_at n a ≡ word_at m a
    other p i a word low high = word_at-bytes m n a w.place.0 w.place.1 word (λ b from to.
        w.bytes b (omega (arith, word.1)) (omega (arith, word.1)) (λ in_footer under.
        absurd (omega (arith, coverage-in p ps b i (omega arith) (omega arith), apart b (omega arith) (omega arith))))) (λ b from to. out_at-place m n w.place none b)

    read : (p : Range) → IsIn p ps → ReadsSame m n p
    read p i =
        let (l, at) = placed p i in (
          other p i (footer_of p) (omega arith, (omega (arith, at), omega (arith, at))) (omega arith) (omega arith),
          other p i (footer_of p + 8) (omega arith, (omega (arith, at), omega (arith, at))) (omega arith) (omega arith),
        )

-- ---- a footer, where one is written

pub IsFooted-written : (takes_back : Bool) (m n : Space) (r : Range) (start len start' len' : ℕ) → takes_back ≡ true → WritesFooter m n r start' len' → start' ≡ start
    → len' ≡ len → IsFooted takes_back m n r start len
IsFooted-written takes_back m n r start len start' len' is w e f = grind arith

pub IsFooted-none : (takes_back : Bool) (m : Space) (r : Range) (start len : ℕ) → takes_back ≡ false → IsFooted takes_back m m r start len
IsFooted-none takes_back m r start len none = record { place = SamePlace-refl m; written = λ takes. absurd (false≢true (sym none ∙ takes)); bytes = λ a low high apart. refl }

-- the same footer, by other names of its words
pub IsFooted-named : {takes takes_back : Bool} {m n : Space} {r : Range} {start start' len len' : ℕ} → takes ≡ takes_back → start ≡ start' → len ≡ len'
    → IsFooted takes m n r start len → IsFooted takes_back m n r start' len'
IsFooted-named {takes} {takes_back} {m} {n} {r} {start} {start'} {len} {len'} same first second foot =
    subst (λ b. IsFooted b m n r start' len') same (subst (λ l. IsFooted takes m n r start' l) second (subst (λ s. IsFooted takes m n r s len) first foot))
