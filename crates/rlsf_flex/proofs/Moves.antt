-- A payload moves into a block that is allocated for it: its bytes are copied there, and its old block is deallocated.
use Rattle.std.specs.Prelude.{◌++◌}
use Rattle.std.proofs.Common.{◌≡◌, ℕ, ◌≤◌, List, Some, length, length-drop, min, take, drop, arith, inl, refl, sym, ◌∙◌, ap, subst}
use Rattle.std.proofs.lemmas.List.{length-append, take_all, take_at}
use Rattle.rlsf_base.specs.declared.memory.range.Range.{Range}
use Rattle.rlsf_model_sizes.specs.PowerOfTwo.{IsPowerOfTwo}
use Rattle.rlsf_base.specs.Space.{range_of, SamePlace}
use Rattle.rlsf_blocks.specs.Spare.{KeepsSpare}
use Rattle.rlsf_tlsf.specs.Allocator.{Allocator, IsInState}
use Rattle.rlsf_model.specs.Allocate.{Allocates, given, placed, Places}
use Rattle.rlsf_model.specs.Callers.{bytes_at}
use Rattle.rlsf_model.specs.Reallocate.{Keeps, MovesAway}
use Rattle.rlsf_model.specs.Release.{Deallocates}
use Rattle.rlsf_model.specs.Run.{Fills, allocate, deallocate, fill}
use Rattle.rlsf_model.specs.State.{State, Used, usable, Holds}
use Rattle.rlsf_model.specs.WellFormed.{IsWellFormed}
use Rattle.rlsf_model.proofs.CallerWords.{bytes_at-held}
use Rattle.rlsf_model.proofs.Changes.{Holds-unique}
use Rattle.rlsf_model.proofs.Live.{allocated_filled, allocation_has_size, other_payloads_stay}
use Rattle.rlsf_blocks.proofs.RepresentedStates.SpareBytes.{KeepsSpare-trans}
use Rattle.rlsf_flex.proofs.Places.{SamePlace-then}

-- a list with the whole of a shorter one in front keeps it
pub Keeps-front : (n : ℕ) (old new : List ℕ) → length old ≡ n → n ≤ length new → Keeps old (take n old ++ drop n new)
Keeps-front n old new is short =
    let whole : take n old ≡ old = take_all n old (omega (arith, is)) in
    let front : length (take n old) ≡ n = ap length whole ∙ is in
    let long : n ≤ length (take n old ++ drop n new) = omega (arith, length-append (take n old) (drop n new), front) in
    let least : min (length old) (length (take n old ++ drop n new)) ≡ n = omega (arith, is, long) in
    subst (λ k. take k (take n old ++ drop n new) ≡ take k old) (sym least) (take_at (take n old) (drop n new) n front)

-- and is as long as it was
pub length-front : (n : ℕ) (old new : List ℕ) → length old ≡ n → n ≤ length new → length (take n old ++ drop n new) ≡ length new
length-front n old new is short =
    let front : length (take n old) ≡ n = ap length (take_all n old (omega (arith, is))) ∙ is in
    omega (arith, length-append (take n old) (drop n new), length-drop n new, front, short)

-- the bytes that were copied are those of the two payloads
pub Fills-copied : {fllen sllen : ℕ} {memory : Range} {s t : State} → IsWellFormed fllen sllen memory s → (from to len : ℕ) (x y : Used) → Holds s from x → Holds s to y
    → Fills s to (take len (bytes_at s from) ++ drop len (bytes_at s to)) t
    → Fills s to (take len x.bytes ++ drop len y.bytes) t
Fills-copied {s = s} {t = t} w from to len x y source target =
    subst (λ (l : List ℕ). Fills s to l t) (λ i. (take len (bytes_at-held w from x source i) ++ drop len (bytes_at-held w to y target i)))

module _ {fllen sllen : ℕ} {v w : Allocator} {s t : State} (stands : IsInState fllen sllen v s) (addr : ℕ) (u : Used) (holds : Holds s addr u) (size align to : ℕ)
    (is : u.align ≡ align) (short : (usable u).len ≤ size)
    (step : Places sllen s size align to t) (now : IsInState fllen sllen w t) where
  power : IsPowerOfTwo align
  power = subst IsPowerOfTwo is (stands.stands.well_formed.used u holds.0).power

  -- the block that was allocated, which has the address
  abbrev pub new : Used
  new = placed step.range size align step.bytes

  pub Holds-new : Holds t to new
  Holds-new = subst (λ x. Holds x to new) (sym step.after) (inl refl, sym step.answer)

  -- the old one is used still
  pub Holds-old : Holds t addr u
  Holds-old = (other_payloads_stay fllen sllen s t (allocate size align (Some to)) u step holds.0 (λ none. none), holds.1)

  -- which is no shorter than the old one
  pub long : (usable u).len ≤ (usable new).len
  long =
      let (x, at, enough, few) = allocation_has_size fllen sllen (range_of v.memory) s t size align (Some to) stands.stands.well_formed power step in
      let same : x ≡ new = Holds-unique now.stands.well_formed to x new at Holds-new in
      omega (arith, short, subst (λ x. size ≤ (usable x).len) same enough)

  -- a fill of the new block is an allocation with other bytes
  module _ (bytes : List ℕ) (r : State) (fills : Fills t to bytes r) where
    same : fills.block ≡ new
    same = Holds-unique now.stands.well_formed to fills.block new fills.holds Holds-new

    filled : r ≡ given sllen s step.range (placed step.range size align bytes)
    filled = allocated_filled stands.stands.well_formed power step fills

    pub Places-filled : Places sllen s size align to r
    Places-filled = record {
      range = step.range;
      bytes = bytes;
      chosen = step.chosen;
      answer = step.answer;
      length = fills.length ∙ ap (λ (x : Used). length x.bytes) same ∙ step.length;
      after = filled;
    }

  -- then the old block was deallocated
  module _ (x y : Allocator) (r q : State) (fills : Fills t to (take (usable u).len u.bytes ++ drop (usable u).len step.bytes) r) (gone : Deallocates r addr q) where
    pub MovesAway-copied : MovesAway sllen s u size to q
    MovesAway-copied =
        let bytes = (take (usable u).len u.bytes ++ drop (usable u).len step.bytes) in
        record {
          meanwhile = r;
          allocated = subst (λ a. Allocates sllen s size a (Some to) r) (sym is) (Places-filled bytes r fills);
          block = placed step.range size align bytes;
          holds = subst (λ x. Holds x to (placed step.range size align bytes)) (sym (filled bytes r fills)) (inl refl, sym step.answer);
          kept =
              Keeps-front (usable u).len u.bytes step.bytes (stands.stands.well_formed.used u holds.0).bytes
              (omega (arith, long, (now.stands.well_formed.used new Holds-new.0).bytes));
          released = subst (λ a. Deallocates r a q) (sym holds.1) gone;
        }

    pub KeepsSpare-copied : SamePlace v.memory w.memory → SamePlace w.memory x.memory → KeepsSpare v.memory s w.memory t → KeepsSpare w.memory t x.memory r
        → KeepsSpare x.memory r y.memory q
        → KeepsSpare v.memory s y.memory q
    KeepsSpare-copied first second one two three =
        KeepsSpare-trans fllen sllen v.memory x.memory y.memory s r q (deallocate addr) (λ bad. bad) (SamePlace-then v.memory w.memory x.memory first second) gone
        (KeepsSpare-trans fllen sllen v.memory w.memory x.memory s t r (fill to (take (usable u).len u.bytes ++ drop (usable u).len step.bytes))
        (λ bad. bad) first fills one two) three
