use Rattle.std.proofs.Common.{◌^◌, ◌<◌, IsSome, ap, ◌∙◌, subst, sym}
use Rattle.rlsf_global.proofs.CodedRows.{coded-place, coded-same, kept-replaced}
use Rattle.rlsf_codes.specs.Codes.{HasPlace}
use Rattle.rlsf_global.specs.LiveRows.{LiveRows}
use Rattle.rlsf_model_global.specs.Rows.{key, put, row_at}
use Rattle.rlsf_global.proofs.live_table.LiveTable.replace.Goals as goal

pub set-requires : goal.set-requires
set-requires c =
    let t = c.self.inside in
    let codes = c.cover.new.self in
    let some = subst (λ (v : LiveRows). IsSome (row_at (key c.args.row) v.rows)) (sym c.self.view_is) c.requires.live in
    let coded = coded-same t.codes codes t.entries.rows c.self.invariant.coded c.cover.ensures.space c.cover.ensures.same in
    subst (HasPlace codes) (sym c.get.ensures.value) (coded-place codes t.entries.rows coded (key c.args.row) some)

pub invariant_of-self : goal.invariant_of-self
invariant_of-self c =
    let t = c.self.inside in
    let cover = c.cover.ensures in
    let set = c.set.ensures in
    let some = subst (λ (v : LiveRows). IsSome (row_at (key c.args.row) v.rows)) (sym c.self.view_is) c.requires.live in
    let fits = subst (λ n. n < 2 ^ 64) c.get.ensures.value c.get.type_inv in
    kept-replaced t.codes c.set.new.self t.entries.rows t.live c.self.invariant (set.space ∙ cover.space)
    c.get.result c.code_of.result set.here (λ a off. set.others a off ∙ cover.same a) (set.room cover.room)
    c.args.row c.get.ensures.value c.code_of.ensures some fits c.put.new.self.rows (c.put.ensures ∙ ap (put c.args.row) c.remove.ensures)
