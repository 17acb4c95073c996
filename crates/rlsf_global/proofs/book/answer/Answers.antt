use Rattle.std.proofs.Common.{rules, sym, subst}
use Rattle.rlsf_global.specs.declared.entry.Reply.TheVariants.{Placed, Freed, NoRoom, TableMemory, UnknownAddress}
use Rattle.rlsf_global.specs.Journal.Entries.{IsReplyTo}
use Rattle.rlsf_global.proofs.Journal.KeptMemories.{allocation_leaves, deallocation_leaves, on_ok, on_unasked, reallocation_leaves}
use Rattle.rlsf_global.proofs.Journal.Replies.{no_room, on_err, placed}
use Rattle.rlsf_global.proofs.book.answer.Goals as goal

pub returns-in-NoRoom : goal.returns-in-NoRoom
returns-in-NoRoom c = record {
  step = no_room _ _ c.in-Allocate.is c.in-Err.is c.in-NoRoom.is c.allocate.ensures.step;
  not_journal = search rules;
  fits = subst (λ call. IsReplyTo call NoRoom) (sym c.in-Allocate.is) tt;
  refused = (on_err c.in-Err.is c.allocate.ensures.refused).bytes;
  memory =
      let did = c.allocate.ensures in
      allocation_leaves c.in-Allocate.is did.frame.memory did.touches did.frame.grow did.frame.copied NoRoom tt;
}

pub returns-in-Ok : goal.returns-in-Ok
returns-in-Ok c = record {
  step = placed _ _ c.in-Allocate.is c.in-Ok.is c.allocate.ensures.step;
  not_journal = search rules;
  fits = subst (λ call. IsReplyTo call (Placed c.in-Ok.addr)) (sym c.in-Allocate.is) tt;
  refused = tt;
  memory =
      let did = c.allocate.ensures in
      allocation_leaves c.in-Allocate.is did.frame.memory did.touches did.frame.grow did.frame.copied (Placed c.in-Ok.addr) tt;
}

pub returns-in_default : goal.returns-in_default
returns-in_default c = record {
  step = (on_err c.in-Err.is c.allocate.ensures.refused).same;
  not_journal = search rules;
  fits = subst (λ call. IsReplyTo call TableMemory) (sym c.in-Allocate.is) tt;
  refused = (on_err c.in-Err.is c.allocate.ensures.refused).bytes;
  memory =
      let did = c.allocate.ensures in
      allocation_leaves c.in-Allocate.is did.frame.memory did.touches did.frame.grow did.frame.copied TableMemory (on_unasked c.in-Err.is c.in_default.not-NoRoom did.unasked);
}

pub returns-in-Ok-deallocate-clause-memory : goal.returns-in-Ok-deallocate-clause-memory
returns-in-Ok-deallocate-clause-memory c =
    let did = c.deallocate.ensures in
    deallocation_leaves c.in-Deallocate.is did.frame.memory did.touches did.frame.grow did.frame.copied Freed tt

pub returns-in-Err-deallocate-clause-memory : goal.returns-in-Err-deallocate-clause-memory
returns-in-Err-deallocate-clause-memory c =
    let did = c.deallocate.ensures in
    deallocation_leaves c.in-Deallocate.is did.frame.memory did.touches did.frame.grow did.frame.copied UnknownAddress (on_err c.in-Err-deallocate.is did.refused).memory

pub returns-in-Ok-reallocate-clause-memory : goal.returns-in-Ok-reallocate-clause-memory
returns-in-Ok-reallocate-clause-memory c =
    let did = c.reallocate.ensures in
    reallocation_leaves c.in-Reallocate.is did.frame.memory did.touches did.frame.grow (Placed c.in-Ok-reallocate.to) (on_ok c.in-Ok-reallocate.is did.frame.copied) tt

pub returns-in-NoRoom-error-clause-memory : goal.returns-in-NoRoom-error-clause-memory
returns-in-NoRoom-error-clause-memory c =
    let did = c.reallocate.ensures in
    reallocation_leaves c.in-Reallocate.is did.frame.memory did.touches did.frame.grow NoRoom (on_err c.in-Err-reallocate.is did.frame.copied_none) tt

pub returns-in_default-error : goal.returns-in_default-error
returns-in_default-error c = record {
  step = search rules;
  not_journal = search rules;
  fits = subst (λ call. IsReplyTo call UnknownAddress) (sym c.in-Reallocate.is) tt;
  refused = (on_err c.in-Err-reallocate.is c.reallocate.ensures.refused).bytes;
  memory =
      let did = c.reallocate.ensures in
      reallocation_leaves c.in-Reallocate.is did.frame.memory did.touches did.frame.grow UnknownAddress (on_err c.in-Err-reallocate.is did.frame.copied_none)
      (on_unasked c.in-Err-reallocate.is c.in_default-error.not-NoRoom did.unasked);
}
