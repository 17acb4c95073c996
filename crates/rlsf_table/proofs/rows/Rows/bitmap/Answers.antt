-- The loop copies the row's bits, one place after another.
use Rattle.std.proofs.Common.{◌≡◌, ℕ, true, false, ◌∙◌, sym, ap}
use Rattle.rlsf_int.specs.Bits.{bit, bit-zero}
use Rattle.rlsf_table.specs.Steps.Places.{row_word}
use Rattle.rlsf_table.proofs.Tables.Copied.{copied-one, copied-none, copied-nothing}
use Rattle.rlsf_table.proofs.rows.Rows.bitmap.Goals as goal
use Rattle.rlsf_table.proofs.rows.Rows.bitmap.Goals.{then-has, else-has}

pub loop-place-init : goal.loop-place-init
loop-place-init g c k =
    ap (λ n. bit n k) c.empty-places.ensures ∙ bit-zero k ∙ copied-nothing (λ j. bit (row_word g.row.PLACES c.args.self.now.low c.args.self.now.high c.args.fl) j) k

pub loop-place-preserved : goal.loop-place-preserved
loop-place-preserved g c k =
    let word = λ (j : ℕ). bit (row_word g.row.PLACES c.args.self.now.low c.args.self.now.high c.args.fl) j in
    elim c.if-has.branch [
      | then-has w ↦
          let one : word c.loop-place.place ≡ true = sym c.has.ensures ∙ w.if-has.true in
          copied-one word k c.loop-place.place _ (c.loop-place.invariant k) _ (ap (λ x. bit (g.B.BitPattern.pattern x) k) w.places-is ∙ w.insert_within.ensures k) one
      | else-has w ↦
          let none : word c.loop-place.place ≡ false = sym c.has.ensures ∙ w.if-has.false in
          ap (λ x. bit (g.B.BitPattern.pattern x) k) w.places-is ∙ copied-none word k c.loop-place.place _ (c.loop-place.invariant k) none
    ]
