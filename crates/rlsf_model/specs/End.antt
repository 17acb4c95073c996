-- The end: what becomes of the ranges that are outstanding.
use Rattle.std.specs.Prelude.{List, [], map, if◌then◌else◌}
use Rattle.rlsf_base.specs.declared.memory.range.Range.{Range}
use Rattle.rlsf_model.specs.Note.{Note, dealloc}
use Rattle.rlsf_model.specs.Terms.{Terms}

-- each range is returned once, as grown, the newest first, if the source takes ranges back; else none is
abbrev pub notes_at_end : Terms → List Range → List Note
notes_at_end t pools = if t.dealloc then map dealloc pools else []

-- what is outstanding after the end
abbrev pub owed_at_end : Terms → List Range → List Range
owed_at_end t pools = if t.dealloc then [] else pools
