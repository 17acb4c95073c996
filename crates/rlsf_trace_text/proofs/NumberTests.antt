-- Reading a number digit by digit.
use Rattle.std.proofs.Common.{◌≡◌, ℕ, ◌+◌, ◌*◌, ◌^◌, ◌<◌, ◌≤◌, Bool, true, false, ltb, ◌&&◌, List, [], ◌∷◌, length, get_or, drop, suc}
use Rattle.std.proofs.Common.{drop-cons, Option, Some, None, refl, sym, ap, ◌∙◌, arith}
use Rattle.std.specs.Char.{is_ascii_digit, digit_value}
use Rattle.std.specs.Str.{all_ascii_digits}
use Rattle.std.specs.Str.Parse.{digits_value, digits_value_after}
use Rattle.std.proofs.lemmas.Bool.{and_left, and_right, and_from, le-ltb, lt-ltb, ltb-false, cond-true, cond-false}
use Rattle.std.proofs.lemmas.List.{drop_all}
use Rattle.rlsf_trace_text.specs.Numbers.{with_digit, value_of}

-- more digits make no smaller number
digits_value_after-le : (n : ℕ) (ds : List ℕ) → n ≤ digits_value_after 10 n ds
digits_value_after-le n [] = omega arith
digits_value_after-le n (d ∷ ds) = omega (arith, digits_value_after-le (n * 10 + digit_value d) ds)

abbrev none : Option ℕ
none = None

-- if no byte can follow the digits so far, the complete word has no value
pub value_of-stops : (word rest : List ℕ) (value byte : ℕ) → all_ascii_digits word ≡ all_ascii_digits (byte ∷ rest)
    → digits_value 10 word ≡ digits_value_after 10 value (byte ∷ rest) → None ≡ with_digit value byte → none ≡ value_of word
unfolding value_of
value_of-stops word rest value byte digits total stop = sym (cond-false _ _ _ (by_digit (is_ascii_digit byte) refl (ltb (value * 10 + digit_value byte) (2 ^ 64)) refl))
  where
    by_digit : (d : Bool) → is_ascii_digit byte ≡ d → (t : Bool) → ltb (value * 10 + digit_value byte) (2 ^ 64) ≡ t
        → (all_ascii_digits word && ltb (digits_value 10 word) (2 ^ 64)) ≡ false
    by_digit false failed t e = and_left _ _ (digits ∙ and_left _ _ failed)
    by_digit true passed true e =
        let next : with_digit value byte ≡ Some (value * 10 + digit_value byte) = cond-true _ _ _ (and_from _ _ passed e) in
        absurd cc
    by_digit true passed false e =
        and_right _ _ (le-ltb (digits_value 10 word) (2 ^ 64) (omega (arith, digits_value_after-le (value * 10 + digit_value byte) rest, ltb-false _ _ e)))

-- once all digits were read, their value is that of the complete word
pub value_of-ends : (word : List ℕ) (value : ℕ) → value < 2 ^ 64 → all_ascii_digits word ≡ true → digits_value 10 word ≡ value → Some value ≡ value_of word
unfolding value_of
value_of-ends word value small digits total =
    ap Some (sym total) ∙ sym (cond-true _ _ _ (and_from _ _ digits (lt-ltb (digits_value 10 word) (2 ^ 64) (omega arith))))

-- this holds at a place of the word, too
pub value_of-stops_at : (word : List ℕ) (i value : ℕ) → i < length word → all_ascii_digits word ≡ all_ascii_digits (drop i word)
    → digits_value 10 word ≡ digits_value_after 10 value (drop i word) → None ≡ with_digit value (get_or word i 0) → none ≡ value_of word
value_of-stops_at word i value inside digits total stop =
    let next = drop-cons word i 0 inside in
    value_of-stops word (drop (suc i) word) value (get_or word i 0) (digits ∙ ap all_ascii_digits next) (total ∙ ap (digits_value_after 10 value) next) stop

pub value_of-ends_at : (word : List ℕ) (i value : ℕ) → length word ≤ i → value < 2 ^ 64 → all_ascii_digits word ≡ all_ascii_digits (drop i word)
    → digits_value 10 word ≡ digits_value_after 10 value (drop i word) → Some value ≡ value_of word
value_of-ends_at word i value past small digits total =
    let ended = drop_all i word past in
    value_of-ends word value small (digits ∙ ap all_ascii_digits ended) (total ∙ ap (digits_value_after 10 value) ended)

-- a word's value, as its digits are read one by one
pub ruleset value_read = (value_of-stops_at, value_of-ends_at)
