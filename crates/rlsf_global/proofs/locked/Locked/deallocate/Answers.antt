use Rattle.rlsf_global.proofs.KeptMemories.{keeps_looked, keeps_looked_before}
use Rattle.std.proofs.Common.{Ok, lit<, refl, sym, arith}
use Rattle.rlsf_base.specs.Addr.{at}
use Rattle.rlsf_global.proofs.Lives.{known, unknown}
use Rattle.rlsf_global.proofs.locked.Locked.deallocate.Goals as goal

pub row_of-requires : goal.row_of-requires
row_of-requires g c = (lit< tt, c.self.invariant.locked.lists)

pub invariant_of-self : goal.invariant_of-self
invariant_of-self g c = rw c.row_of.ensures.table (record { locked = c.self.invariant.locked; space = c.self.invariant.space })

pub release-requires : goal.release-requires
release-requires g c = (
  lit< tt,
  rw c.row_of.ensures.table (record { locked = c.self.invariant.locked; space = c.self.invariant.space }, sym c.in-Some.ensures.row),
)

pub invariant_of-self-2 : goal.invariant_of-self-2
invariant_of-self-2 g c = c.release.ensures.listed

pub returns-in_default : goal.returns-in_default
returns-in_default g c =
    rw (← c.self.view_is, c.row_of.ensures.table) (record {
      step = rw (← c.in_default.ensures.row) (refl, refl);
      result = tt;
      unknown = unknown c.self.inside.flex c.self.inside.rows.rows (at c.args.addr) (sym c.in_default.ensures.row);
      refused = record { same = refl; memory = refl };
      frame = keeps_looked c.self.inside.flex c.self.inside.rows;
      touches = omega arith;
    })

pub returns : goal.returns
returns g c =
    let did = rw c.row_of.ensures.table at c.release.ensures in
    rw (← c.self.view_is) (record {
      step = rw (← c.in-Some.ensures.row) (refl, did.step);
      result = did.result;
      unknown = known c.self.inside.flex c.self.inside.rows.rows (at c.args.addr) _ (sym c.in-Some.ensures.row) (Ok tt) refl;
      refused = tt;
      frame = keeps_looked_before c.self.inside.flex c.release.new.flex c.self.inside.rows c.release.new.table did.frame did.looks;
      touches = did.touches;
    })
