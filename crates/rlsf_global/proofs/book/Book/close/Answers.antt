use Rattle.std.proofs.Common.{rules, ◌≡◌, ◌∙◌, true, false, ap, sym}
use Rattle.std.proofs.lemmas.Bool.{false≢true}
use Rattle.rlsf_global.specs.Journal.Close.{is_strange}
use Rattle.rlsf_global.proofs.Journal.Closings.{told_closed, told_mismatch, told_missing, told_strange}
use Rattle.rlsf_global.proofs.book.Book.close.Goals as goal
use Rattle.rlsf_global.proofs.book.Book.close.Goals.{After-is_missing}

pub returns-then-is_strange : goal.returns-then-is_strange
returns-then-is_strange c =
    let is : is_strange c.args.callers c.args.passes.items ≡ true =
    ap (is_strange c.args.callers) (sym c.deref.ensures.value) ∙ sym c.is_strange.ensures ∙ c.if-is_strange.true in
    let told = told_strange c.args.callers c.args.passes.items c.self.inside.journal.items is in
    record {
      strange = told.strange;
      missing = told.missing;
      mismatch = rw (← c.self.view_is) told.mismatch;
      agreed = tt;
      journal = tt;
      live = tt;
    }

-- no pass is strange
none : (c : After-is_missing) → is_strange c.args.callers c.args.passes.items ≡ false
none c = ap (is_strange c.args.callers) (sym c.deref.ensures.value) ∙ sym c.is_strange.ensures ∙ c.if-is_strange.false

pub returns-then-is_missing : goal.returns-then-is_missing
returns-then-is_missing c =
    let lacks = rw (c.if-is_missing.true, c.deref-2.ensures.value) at c.is_missing.ensures in
    let told = told_missing c.args.callers c.args.passes.items c.self.inside.journal.items (none (goal.at.returns-then-is_missing c).After-is_missing) lacks in
    record {
      strange = told.strange;
      missing = told.missing;
      mismatch = rw (← c.self.view_is) told.mismatch;
      agreed = tt;
      journal = tt;
      live = tt;
    }

pub returns-then-not-agree : goal.returns-then-not-agree
returns-then-not-agree c =
    let each = rw (c.if-is_missing.false, c.deref-2.ensures.value) at c.is_missing.ensures in
    let agree = rw (c.deref-3.ensures.value, c.deref-4.ensures.value) at c.agree.ensures in
    let told = told_mismatch c.args.callers c.args.passes.items c.self.inside.journal.items (none (goal.at.returns-then-not-agree c).After-is_missing) each
    (λ same. false≢true (sym c.if-not-agree.true ∙ agree.1 same)) in
    record {
      strange = told.strange;
      missing = told.missing;
      mismatch = rw (← c.self.view_is) told.mismatch;
      agreed = tt;
      journal = tt;
      live = tt;
    }

pub returns : goal.returns
returns c =
    let no_strange = none (goal.at.returns c).After-is_missing in
    let each = rw (c.if-is_missing.false, c.deref-2.ensures.value) at c.is_missing.ensures in
    let agree = rw (c.deref-3.ensures.value, c.deref-4.ensures.value) at c.agree.ensures in
    record {
      strange = (told_closed c.args.callers c.args.passes.items c.self.inside.journal.items no_strange each (agree.0 c.if-not-agree.false) _).strange;
      missing = (told_closed c.args.callers c.args.passes.items c.self.inside.journal.items no_strange each (agree.0 c.if-not-agree.false) _).missing;
      mismatch = rw (← c.self.view_is) (told_closed c.args.callers c.args.passes.items c.self.inside.journal.items no_strange each (agree.0 c.if-not-agree.false) _).mismatch;
      agreed = rw (← c.self.view_is) ((no_strange, each), agree.0 c.if-not-agree.false);
      journal = search rules;
      live = search rules;
    }
