use Rattle.std.proofs.Common.{◌≡◌, ℕ, ◌+◌, ◌-◌, ◌≤◌, List, ◌++◌, length, take, drop, arith, ap, refl, sym, ◌∙◌, length-append, length-drop}
use Rattle.std.proofs.Common.{length-take}
use Rattle.std.proofs.Math.Seq.{take-length}
use Rattle.std.specs.List.{refill}
use Rattle.rlsf_base.specs.Lends.{refilled}
use Rattle.rlsf_base.specs.Out.{kept_at}
use Rattle.rlsf_base.specs.LendsPiece.{lent_piece}
use Rattle.rlsf_base.specs.Piece.{IsFull, Piece}
use Rattle.rlsf_base.proofs.Lending.Refilled.{refilled-here, refilled-left, refilled-long}
use Rattle.rlsf_base.proofs.Words.Splices.{length-splice}
use Rattle.rlsf_base.proofs.memory.part.Part.as_mut_slice.Goals as goal

pub slice_mut-requires : goal.slice_mut-requires
slice_mut-requires c = (
  c.self.invariant.place.0,
  (
    (omega arith, omega arith),
    λ k lo hi. ap (λ (q : Piece). kept_at q.out k) c.self.view_is
        ∙ c.requires k (omega arith) (omega (arith, hi, ap (λ (q : Piece). length q.bytes) c.self.view_is, c.self.invariant.whole.0)),
  ),
)

as_long : (bs w : List ℕ) (i len : ℕ) → i + len ≤ length bs → length (refilled bs i len w) ≡ length bs
as_long bs w i len room =
    let old = drop i bs in
    let filled : length (refill len old w) ≡ len =
    omega (arith, room, length-take len (w ++ drop (length w) old), length-append w (drop (length w) old), length-drop (length w) old, length-drop i bs) in
    length-splice bs (refill len old w) i len room filled

pub invariant_of-self-lent : goal.invariant_of-self-lent
invariant_of-self-lent c = λ w.
    let is = c.self.invariant in let p = c.self.inside in
    record {
      lies = is.lies;
      first = is.first;
      place = is.place;
      whole = (
        as_long p.bytes.bytes w (c.place.result - p.bytes.skip) p.range.len (omega arith) ∙ is.whole.0,
        λ k lo hi. is.whole.1 k lo (omega (arith, hi, as_long p.bytes.bytes w (c.place.result - p.bytes.skip) p.range.len (omega arith))),
      );
      small = is.small;
    }

-- the part's bytes are those of the view
lent : (p : Piece) (bytes : List ℕ) (i len : ℕ) → i ≡ 0 → len ≡ length p.bytes → bytes ≡ p.bytes → (w : List ℕ)
    → record { home = p.home; start = p.start; bytes = refilled bytes i len w; out = p.out } ≡ lent_piece p w
unfolding lent_piece
lent p bytes i len first all same w = λ j. record { home = p.home; start = p.start; bytes = refilled (same j) (first j) (all j) w; out = p.out }

lent-left : (p : Piece) (w : List ℕ) → length w ≡ length p.bytes → (lent_piece p w).bytes ≡ w
unfolding lent_piece
lent-left p w long = refilled-left p.bytes w long

lent-long : (p : Piece) (w : List ℕ) → length (lent_piece p w).bytes ≡ length p.bytes
unfolding lent_piece
lent-long p w = refilled-long p.bytes w

lent-full : (p : Piece) (w : List ℕ) → IsFull p → IsFull (lent_piece p w)
unfolding lent_piece
lent-full p w full = refilled-here p.bytes w p.out full

lent-home : (p : Piece) (w : List ℕ) → (lent_piece p w).home ≡ p.home
unfolding lent_piece
lent-home p w = refl

lent-start : (p : Piece) (w : List ℕ) → (lent_piece p w).start ≡ p.start
unfolding lent_piece
lent-start p w = refl

pub returns : goal.returns
returns c =
    let p = c.self.inside in let now = c.args.self.now in let is = c.self.view_is in
    let first : c.place.result - p.bytes.skip ≡ 0 = omega arith in
    let all : p.range.len ≡ length now.bytes = sym c.self.invariant.whole.0 ∙ ap (λ (q : Piece). length q.bytes) is in
    let value = c.slice_mut.ensures.value ∙ (λ i. take (all i) (drop (first i) (is i).bytes)) ∙ take-length now.bytes in (
      (
        refl,
        λ w. (λ i. record { home = (is i).home; start = (is i).start; bytes = refilled (is i).bytes (first i) (all i) w; out = (is i).out })
            ∙ lent now now.bytes 0 (length now.bytes) refl refl refl w,
      ),
      record {
        writes_back = tt;
        value = value;
        filled = λ w long. lent-left now w (long ∙ ap length value);
        lengths = λ w. lent-long now w;
        full = λ w. lent-full now w c.requires;
        home = λ w. lent-home now w;
        start = λ w. lent-start now w;
      },
    )
