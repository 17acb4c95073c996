use Rattle.std.proofs.Common.{arith, refl}
use Rattle.rlsf_trace_flex_runs.proofs.NamedPayloads.{not_on_ranges}
use Rattle.rlsf_trace_flex_runs.proofs.PlacedPayloads.{trimmed}
use Rattle.rlsf_trace_flex_runs.proofs.runs.step.Goals as goal

pub returns-in-Insert : goal.returns-in-Insert
returns-in-Insert g c = record {
  does = not_on_ranges c.requires.state c.args.op c.in-Insert.is;
  room = λ ops more. omega (arith, more);
}

pub returns-in-Alloc : goal.returns-in-Alloc
returns-in-Alloc g c = record {
  does = rw c.in-Alloc.is c.alloc.ensures.does;
  room = c.alloc.ensures.room;
}

pub returns-in-Free : goal.returns-in-Free
returns-in-Free g c = record {
  does = rw c.in-Free.is (c.free.ensures.told refl);
  room = c.free.ensures.room;
}

pub returns-in-FreeUnknown : goal.returns-in-FreeUnknown
returns-in-FreeUnknown g c = record {
  does = rw c.in-FreeUnknown.is (c.free-in-FreeUnknown.ensures.untold refl);
  room = c.free-in-FreeUnknown.ensures.room;
}

pub returns-in-Realloc : goal.returns-in-Realloc
returns-in-Realloc g c = record {
  does = rw c.in-Realloc.is c.realloc.ensures.does;
  room = c.realloc.ensures.room;
}

pub returns-in-ReallocNoMove : goal.returns-in-ReallocNoMove
returns-in-ReallocNoMove g c = record {
  does = rw c.in-ReallocNoMove.is c.realloc_no_move.ensures;
  room = λ ops more. omega (arith, more);
}

pub returns-in-Fill : goal.returns-in-Fill
returns-in-Fill g c = record {
  does = rw c.in-Fill.is c.fill.ensures;
  room = λ ops more. omega (arith, more);
}

pub returns-in-Put : goal.returns-in-Put
returns-in-Put g c = record {
  does = rw c.in-Put.is c.put.ensures;
  room = λ ops more. omega (arith, more);
}

pub returns-in-Get : goal.returns-in-Get
returns-in-Get g c = record {
  does = rw c.in-Get.is c.get.ensures;
  room = λ ops more. omega (arith, more);
}

pub returns-in-Usable : goal.returns-in-Usable
returns-in-Usable g c = record {
  does = rw c.in-Usable.is c.usable.ensures;
  room = λ ops more. omega (arith, more);
}

pub returns-in-Trim : goal.returns-in-Trim
returns-in-Trim g c = record {
  does = rw c.in-Trim.is (trimmed c.requires.state c.trim.result c.trim.ensures.step);
  room = λ ops more. omega (arith, more);
}
