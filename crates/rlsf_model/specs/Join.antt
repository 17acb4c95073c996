-- A range becomes free: it is joined to the free ranges that adjoin it.
use Rattle.std.specs.Prelude.{ℕ, Bool, List, ◌∷◌, ◌==◌, find}
use Rattle.std.specs.Option.{option_map_or}
use Rattle.rlsf_base.specs.declared.memory.range.Range.{Range}
use Rattle.rlsf_base.specs.Range.{end_of}
use Rattle.rlsf_model.specs.Lists.{without}
use Rattle.rlsf_model.specs.State.{between}

-- whether a range ends at the address
abbrev pub ends_at : ℕ → Range → Bool
ends_at a f = end_of f == a

-- whether a range begins at the address
abbrev pub starts_at : ℕ → Range → Bool
starts_at a f = f.start == a

-- Ranges that end where r begins, or begin where r ends, are removed from the list. Their union with r is put in front: from the start
-- of the range before, or that of r where there is none, to the end of the range behind, or that of r where there is none
abbrev pub join : Range → List Range → List Range
join r free =
    let rest = without (ends_at r.start) free in
    let start = option_map_or (λ f. f.start) (find (ends_at r.start) free) r.start in
    let end = option_map_or end_of (find (starts_at (end_of r)) rest) (end_of r) in
    between start end ∷ without (starts_at (end_of r)) rest
