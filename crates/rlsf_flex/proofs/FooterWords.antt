-- The two words of a footer, written and read.
use Rattle.std.proofs.Common.{◌≡◌, ℕ, ◌+◌, ◌-◌, ◌^◌, ◌<◌, ◌≤◌, ◌⊎◌, List, [], ◌∷◌, Option, Some, None, arith, refl, sym, ◌∙◌, ap}
use Rattle.std.proofs.Common.{inl, cond, eqb}
use Rattle.std.proofs.lemmas.Bool.{cases_lt, ne_eqb}
use Rattle.rlsf_base.specs.declared.memory.range.Range.{Range}
use Rattle.rlsf_base.specs.Range.{range_at}
use Rattle.rlsf_base.specs.Space.{Space, byte_range, word_at, word_range, with_word, SamePlace, IsWord}
use Rattle.rlsf_base.specs.OpenSpace.{out_with, IsWritable}
use Rattle.rlsf_base.proofs.Changes.{back-none}
use Rattle.rlsf_base.proofs.Lending.Present.{own-none}
use Rattle.rlsf_base.proofs.Lending.Replaced.{byte_at-same}
use Rattle.rlsf_base.proofs.Words.Written.{bytes_in-with_word, word_at-same, word_at-other}
use Rattle.rlsf_blocks.specs.Spare.{IsSpareWord}
use Rattle.rlsf_flex.specs.Footers.{footer_of, first, first_start, Footers, WritesFooter}
use Rattle.rlsf_model.specs.Lists.{IsIn}
use Rattle.rlsf_model.specs.State.{State}
use Rattle.rlsf_flex.proofs.Places.{SamePlace-then}

-- a spare word of a memory is one of every memory at the same place
pub IsSpareWord-place : (m n : Space) (s : State) (a b : ℕ) → SamePlace m n → a ≡ b → IsSpareWord m s b → IsSpareWord n s a
IsSpareWord-place m n s a b place same (word, spare) =
    ((omega (arith, word.0), (omega (arith, word.1, place.0), omega (arith, word.1, place.0, place.1))), λ x from to. spare x (omega arith) (omega arith))

-- where nothing is out, a write leaves nothing out
out-written : (m n : Space) (a : ℕ) → SamePlace m n → m.out ≡ [] → n.out ≡ out_with m (word_range a)
out-written m n a place none = place.3 none ∙ sym (back-none m.out (a - m.start) 8 none)

-- a byte that a word doesn't have is before it or behind it
side : (a at : ℕ) → (at ≤ a → a < at + 8 → ⊥) → (a + 1 ≤ at) ⊎ (at + 8 ≤ a)
side a at apart = grind (arith, cases_lt)

-- the two words were written, one after the other
pub writes_footer : (m k n : Space) (p : Range) (at start len : ℕ) → at ≡ footer_of p → m.out ≡ [] → IsWord m (footer_of p) → IsWord m (footer_of p + 8)
    → start < 2 ^ 64 → len < 2 ^ 64
    → SamePlace m k → k.bytes ≡ with_word m at start → SamePlace k n → n.bytes ≡ with_word k (at + 8) len → WritesFooter m n p start len
writes_footer m k n p at start len is none has_first has_second start_fits len_fits place1 bytes1 place2 bytes2 =
    let first : IsWritable m at = (omega (arith, has_first.0), (omega (arith, has_first.1), omega (arith, has_first.1)), own-none m (word_range at) none) in
    let second : IsWritable k (at + 8) =
    (omega (arith, has_second.0), (omega (arith, has_second.1, place1.0), omega (arith, has_second.1, place1.0, place1.1)), own-none k (word_range (at + 8)) (place1.3 none)) in
    let out1 = out-written m k at place1 none in
    let out2 = out-written k n (at + 8) place2 (place1.3 none) in
    record {
      place = SamePlace-then m k n place1 place2;
      reads_start =
          ap (word_at n) (sym is) ∙ word_at-other k n (at + 8) len second place2.0 bytes2 out2 at first.0 (omega (arith, first.1, place1.0)) (λ e. omega (arith, e))
          ∙ word_at-same m k at start first place1.0 bytes1 out1 start_fits;
      reads_len = ap (λ a. word_at n (a + 8)) (sym is) ∙ word_at-same k n (at + 8) len second place2.0 bytes2 out2 len_fits;
      bytes = λ a from below apart.
          byte_at-same k n a (bytes_in-with_word k n (at + 8) len second place2.0 bytes2 out2 (byte_range a) (omega (arith, from, place1.0))
          (side a (at + 8) (λ low high. apart (omega (arith, is)) (omega (arith, is)))))
          ∙ byte_at-same m k a (bytes_in-with_word m k at start first place1.0 bytes1 out1 (byte_range a) from
          (side a at (λ low high. apart (omega (arith, is)) (omega (arith, is)))));
    }

-- where no range begins at 0, the start that is 0 names none
pub first-none : (rest : List Range) → first_start rest ≡ 0 → ((p : Range) → IsIn p rest → 0 < p.start) → None ≡ first rest
first-none [] zero some = refl
first-none (p ∷ ps) zero some = absurd (omega (arith, zero, some p (inl refl)))

-- the range that a footer names, if any
abbrev pub before : Space → Range → Option Range
before m p = cond (eqb (word_at m (footer_of p)) 0) None (Some (range_at (word_at m (footer_of p)) (word_at m (footer_of p + 8))))

range_named : (start len : ℕ) (q : Range) → start ≡ q.start → len ≡ q.len → 0 < q.start → cond (eqb start 0) None (Some (range_at start len)) ≡ Some q
range_named start len q same_start same_len some =
    ap (λ b. cond b None (Some (range_at start len))) (ne_eqb start 0 (λ z. absurd (omega (arith, z, same_start, some))))
    ∙ ap (λ x. Some (range_at x len)) same_start ∙ ap (λ x. Some (range_at q.start x)) same_len

-- it is the first of those that follow
pub before-first : (m : Space) (p : Range) (rest : List Range) → Footers m (p ∷ rest) → ((q : Range) → IsIn q rest → 0 < q.start) → before m p ≡ first rest
before-first m p [] (start, len, rest) some = ap (λ w. cond (eqb w 0) None (Some (range_at w (word_at m (footer_of p + 8))))) start
before-first m p (q ∷ qs) (start, len, rest) some = range_named _ _ q start len (some q (inl refl))
