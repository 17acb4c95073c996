use Rattle.std.proofs.Common.{IsSome, refl, subst, sym}
use Rattle.rlsf_base.specs.Addr.{at}
use Rattle.rlsf_global.proofs.CodedRows.{coded-place, kept-ready, kept-without}
use Rattle.rlsf_codes.specs.Codes.{HasPlace}
use Rattle.rlsf_global.specs.LiveRows.{LiveRows}
use Rattle.rlsf_model_global.specs.Rows.{row_at}
use Rattle.rlsf_global.proofs.live_table.LiveTable.remove.Goals as goal

pub set-requires : goal.set-requires
set-requires c =
    let t = c.self.inside in
    let some = subst (λ (v : LiveRows). IsSome (row_at (at c.args.addr) v.rows)) (sym c.self.view_is) c.requires.live in
    subst (HasPlace t.codes) (sym c.get.ensures.value) (coded-place t.codes t.entries.rows c.self.invariant.coded (at c.args.addr) some)

pub invariant_of-self : goal.invariant_of-self
invariant_of-self c =
    let t = c.self.inside in
    let set = c.set.ensures in
    let some = subst (λ (v : LiveRows). IsSome (row_at (at c.args.addr) v.rows)) (sym c.self.view_is) c.requires.live in
    kept-without t.codes c.set.new.self t.entries.rows t.live c.self.invariant set.space c.get.result 0 set.here set.others
    (set.room (kept-ready t.codes t.entries.rows t.live c.self.invariant (at c.args.addr) some))
    (at c.args.addr) c.get.ensures.value refl some c.remove.new.self.rows c.remove.ensures
