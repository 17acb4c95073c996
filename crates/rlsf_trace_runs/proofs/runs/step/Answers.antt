use Rattle.std.proofs.Common.{refl}
use Rattle.rlsf_trace_text.specs.declared.op.Answer.TheVariants.{Refused}
use Rattle.rlsf_trace_text.specs.declared.op.Op.TheVariants.{Trim}
use Rattle.rlsf_trace_text.specs.declared.op.TraceError.TheVariants.{NotForTlsf}
use Rattle.rlsf_trace_runs.proofs.NamedPayloads.{LeadsOn-nothing, room_left}
use Rattle.rlsf_trace_runs.proofs.runs.step.Goals as goal

pub returns-in-Insert : goal.returns-in-Insert
returns-in-Insert g c = record {
  does = rw c.in-Insert.is c.insert.ensures.does;
  room = c.insert.ensures.room;
  place = c.insert.ensures.place;
}

pub returns-in-Append : goal.returns-in-Append
returns-in-Append g c = record {
  does = rw c.in-Append.is c.append.ensures.does;
  room = c.append.ensures.room;
  place = c.append.ensures.place;
}

pub returns-in-Alloc : goal.returns-in-Alloc
returns-in-Alloc g c = record {
  does = rw c.in-Alloc.is c.alloc.ensures.does;
  room = c.alloc.ensures.room;
  place = c.alloc.ensures.place;
}

pub returns-in-Free : goal.returns-in-Free
returns-in-Free g c = record {
  does = rw c.in-Free.is c.free.ensures.does;
  room = c.free.ensures.room;
  place = c.free.ensures.place;
}

pub returns-in-FreeUnknown : goal.returns-in-FreeUnknown
returns-in-FreeUnknown g c = record {
  does = rw c.in-FreeUnknown.is c.free_unknown.ensures.does;
  room = c.free_unknown.ensures.room;
  place = c.free_unknown.ensures.place;
}

pub returns-in-Realloc : goal.returns-in-Realloc
returns-in-Realloc g c = record {
  does = rw c.in-Realloc.is c.realloc.ensures.does;
  room = c.realloc.ensures.room;
  place = c.realloc.ensures.place;
}

pub returns-in-ReallocNoMove : goal.returns-in-ReallocNoMove
returns-in-ReallocNoMove g c = record {
  does = rw c.in-ReallocNoMove.is c.realloc_no_move.ensures.does;
  room = room_left c.args.tables.now;
  place = c.realloc_no_move.ensures.place;
}

pub returns-in-Fill : goal.returns-in-Fill
returns-in-Fill g c = record {
  does = rw c.in-Fill.is c.fill.ensures.does;
  room = room_left c.args.tables.now;
  place = c.fill.ensures.place;
}

pub returns-in-Put : goal.returns-in-Put
returns-in-Put g c = record {
  does = rw c.in-Put.is c.put.ensures.does;
  room = room_left c.args.tables.now;
  place = c.put.ensures.place;
}

pub returns-in-Get : goal.returns-in-Get
returns-in-Get g c = record {
  does = rw c.in-Get.is c.get.ensures;
  room = room_left c.args.tables.now;
  place = (refl, refl, refl, λ none. none);
}

pub returns-in-Usable : goal.returns-in-Usable
returns-in-Usable g c = record {
  does = rw c.in-Usable.is c.usable.ensures;
  room = room_left c.args.tables.now;
  place = (refl, refl, refl, λ none. none);
}

pub returns-in-Block : goal.returns-in-Block
returns-in-Block g c = record {
  does = rw c.in-Block.is c.block.ensures;
  room = room_left c.args.tables.now;
  place = (refl, refl, refl, λ none. none);
}

pub returns-in-Trim : goal.returns-in-Trim
returns-in-Trim g c = record {
  does = λ s at. rw c.in-Trim.is (LeadsOn-nothing at Trim (Refused NotForTlsf) (tt, refl));
  room = room_left c.args.tables.now;
  place = (refl, refl, refl, λ none. none);
}
