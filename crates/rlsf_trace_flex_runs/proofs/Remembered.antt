-- What a source remembers of a question and its answer.
use Rattle.std.proofs.Common.{◌≡◌, ℕ, ◌+◌, ◌%◌, ◌≤◌, List, [], ◌∷◌, ◌++◌, length, length-append, append-nil, append_assoc, map, Option, Some, None}
use Rattle.std.proofs.Common.{MatchOption, arith, sym, ap, ◌∙◌}
use Rattle.std.specs.Prelude.{if◌then◌else◌}
use Rattle.std.proofs.lemmas.Bool.{lt-ltb}
use Rattle.rlsf_base.specs.declared.memory.range.Range.{Range}
use Rattle.rlsf_model_sizes.specs.PowerOfTwo.{IsPowerOfTwo}
use Rattle.rlsf_model.specs.Note.{LeadsBy, Note, alloc, grow}
use Rattle.rlsf_trace_flex_runs.specs.Listed.{HandsOut, Listed, Remembers, question_of, remembered}
use Rattle.rlsf_trace_flex_runs.proofs.HandedOut.{behind_range}

-- two values of a source have equal terms, equal room and equal questions
abbrev IsAlike : Listed → Listed → Type 0
IsAlike s t = (t.terms ≡ s.terms) × (t.room ≡ s.room) × (t.asked ≡ s.asked)

-- equal values are alike
alike_if_same : (s t : Listed) → t ≡ s → IsAlike s t
alike_if_same s t e = (ap (λ (v : Listed). v.terms) e, ap (λ (v : Listed). v.room) e, ap (λ (v : Listed). v.asked) e)

-- what is provided leaves the rest alike
alike_if_out : (s t : Listed) (r : Range) → HandsOut s r t → IsAlike s t
alike_if_out s t r out = (ap (λ (v : Listed). v.terms) out.after, ap (λ (v : Listed). v.room) out.after, ap (λ (v : Listed). v.asked) out.after)

-- a note is put at the end of what was remembered before its answer
remembers : (s t u : Listed) (n : Note) → IsAlike s t → u ≡ record t { asked = remembered t.room t.asked (question_of n) } → Remembers s n u
remembers s t u n (terms, room, asked) is = record {
  terms = ap (λ (v : Listed). v.terms) is ∙ terms;
  room = ap (λ (v : Listed). v.room) is ∙ room;
  asked = ap (λ (v : Listed). v.asked) is ∙ ap (λ m. remembered m t.asked (question_of n)) room ∙ ap (λ xs. remembered s.room xs (question_of n)) asked;
}

-- the question for a range is remembered
pub remembers_range : (s t u : Listed) (min_size : ℕ) (answer : Option Range)
    → MatchOption answer (t ≡ s) (λ r. HandsOut s r t × (min_size ≤ r.len) × IsPowerOfTwo s.terms.min_align × (r.start % s.terms.min_align ≡ 0))
    → u ≡ record t { asked = remembered t.room t.asked (question_of (alloc min_size answer)) } → Remembers s (alloc min_size answer) u
remembers_range s t u min_size None as_before is = remembers s t u (alloc min_size None) (alike_if_same s t as_before) is
remembers_range s t u min_size (Some r) (out, long, power, aligned) is = remembers s t u (alloc min_size (Some r)) (alike_if_out s t r out) is

-- the question for growth is remembered
pub remembers_growth : (s t u : Listed) (r : Range) (min_new_len : ℕ) (answer : Option ℕ)
    → MatchOption answer (t ≡ s) (λ len. HandsOut s (behind_range r len) t × (min_new_len ≤ len))
    → u ≡ record t { asked = remembered t.room t.asked (question_of (grow r min_new_len answer)) } → Remembers s (grow r min_new_len answer) u
remembers_growth s t u r min_new_len None as_before is = remembers s t u (grow r min_new_len None) (alike_if_same s t as_before) is
remembers_growth s t u r min_new_len (Some len) (out, long) is = remembers s t u (grow r min_new_len (Some len)) (alike_if_out s t (behind_range r len) out) is

-- notes lead to a source that remembers them behind the others, if there is room for all
pub remembered-led : (x y : Listed) (ns : List Note) → LeadsBy Remembers x ns y → length x.asked + length ns ≤ x.room
    → (y.room ≡ x.room) × (y.asked ≡ x.asked ++ map question_of ns)
remembered-led x y [] same room = (ap (λ (v : Listed). v.room) same, ap (λ (v : Listed). v.asked) same ∙ sym (append-nil x.asked))
remembered-led x y (n ∷ ns) (z, led, rest) room =
    let at_end : z.asked ≡ x.asked ++ question_of n ∷ [] =
    led.asked ∙ ap (λ b. if b then x.asked ++ question_of n ∷ [] else x.asked) (lt-ltb (length x.asked) x.room (omega (arith, room))) in
    let longer : length z.asked ≡ length x.asked + 1 = ap length at_end ∙ length-append x.asked (question_of n ∷ []) in
    let (same, others) = remembered-led z y ns rest (omega (arith, room, longer, led.room)) in
    (same ∙ led.room, others ∙ ap (λ xs. xs ++ map question_of ns) at_end ∙ append_assoc x.asked (question_of n ∷ []) (map question_of ns))
