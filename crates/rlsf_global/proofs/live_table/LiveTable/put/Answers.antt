use Rattle.std.proofs.Common.{◌≡◌, ◌^◌, ◌<◌, ◌∙◌, None, arith, subst, sym}
use Rattle.rlsf_global.proofs.CodedRows.{kept-put}
use Rattle.rlsf_global.proofs.RowsBelow.{live-few}
use Rattle.rlsf_global.specs.LiveRows.{LiveRows}
use Rattle.rlsf_model_global.specs.Rows.{key, row_at}
use Rattle.rlsf_global.proofs.live_table.LiveTable.put.Goals as goal

pub overflow_add-self : goal.overflow_add-self
overflow_add-self c = let few = live-few c.self.inside.codes c.self.inside.entries.rows c.self.inside.live c.self.invariant in omega (arith, few)

pub invariant_of-self : goal.invariant_of-self
invariant_of-self c =
    let t = c.self.inside in
    let cover = c.cover.ensures in
    let set = c.set.ensures in
    let fresh = subst (λ (v : LiveRows). row_at (key c.args.row) v.rows ≡ None) (sym c.self.view_is) c.requires.fresh in
    let fits = subst (λ n. n < 2 ^ 64) c.get-2.ensures.value c.get-2.type_inv in
    kept-put t.codes c.set.new.self t.entries.rows t.live c.self.invariant (set.space ∙ cover.space)
    c.get-2.result c.code_of.result set.here (λ a off. set.others a off ∙ cover.same a) (set.room cover.room)
    c.args.row c.get-2.ensures.value c.code_of.ensures fresh fits c.put.new.self.rows c.put.ensures
