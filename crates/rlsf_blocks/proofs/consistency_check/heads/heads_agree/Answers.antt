use Rattle.std.proofs.Common.{◌≡◌, ◌&&◌, arith, refl, ◌∙◌, ap, subst}
use Rattle.std.proofs.Math.Bool.{and-true}
use Rattle.std.proofs.lemmas.Bool.{lt-ltb}
use borrow.Author.Count.{below_more}
use Rattle.rlsf_int.specs.Bits.{bit}
use Rattle.rlsf_blocks.specs.Consistency.Heads.{RowAgrees}
use Rattle.rlsf_blocks.proofs.consistency_check.heads.heads_agree.Goals as goal

pub loop-fl-preserved : goal.loop-fl-preserved
loop-fl-preserved g c =
    let fl = c.loop-fl.fl in
    let t = c.args.table.now in
    let within = c.loop-fl-test.true in
    let same : c.get_bit.result ≡ bit t.first_level fl =
    c.get_bit.ensures
    ∙ ap (λ b. bit c.fl_bitmap-rows.result fl && b) (lt-ltb fl 128 (omega (arith, within, c.requires.parameters.rows_fit))) ∙ and-true (bit c.fl_bitmap-rows.result fl)
    ∙ c.fl_bitmap-rows.ensures.within fl within in
    below_more (λ k. RowAgrees g.row.FLLEN g.row.SLLEN c.args.pools.now c.args.memory.now t k (bit t.first_level k)) fl c.loop-fl.invariant
    (subst (RowAgrees g.row.FLLEN g.row.SLLEN c.args.pools.now c.args.memory.now t fl) same (c.if-not-row_agrees.ensures.0 refl))
