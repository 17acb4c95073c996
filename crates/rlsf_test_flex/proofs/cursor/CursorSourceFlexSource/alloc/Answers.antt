use Rattle.std.proofs.Common.{◌≡◌, ℕ, List, ◌∷◌, ◌+◌, ◌%◌, ◌≤◌, arith, sym, subst, ◌∙◌}
use Rattle.rlsf_base.specs.declared.memory.range.Range.{Range}
use Rattle.rlsf_base.specs.Range.{end_of, range_at}
use Rattle.rlsf_test_flex.specs.Cursor.{Cursor, CursorMayOwe}
use Rattle.rlsf_test_flex.proofs.Cursors.{given_range, moved_to}
use Rattle.rlsf_model.specs.Terms.{IsGiven}
use Rattle.rlsf_test_flex.proofs.cursor.CursorSourceFlexSource.alloc.Goals as goal

pub returns-clause-owes : goal.returns-clause-owes
returns-clause-owes c =
    let h = c.self.inside.habits in
    let fields : Cursor =
    record { terms = record { space = c.self.inside.space; dealloc = h.dealloc; grow = h.grow; contiguous = h.contiguous; min_align = h.min_align }; at = c.self.inside.at } in
    let start = c.in_ok-start.start in
    let len = c.in_ok-len.len in
    let same : fields ≡ c.args.self.now = c.self.view_is ∙ c.remember.ensures in
    let (begins, aligned) = subst (λ (v : Cursor). (v.at ≤ start) × (start % v.terms.min_align ≡ 0)) (sym c.self.view_is) c.in_ok-start.ensures in
    let (ends, fits) = subst (λ (v : Cursor). (c.in_ok-end.end ≡ start + len) × (c.in_ok-end.end ≤ end_of v.terms.space)) (sym c.self.view_is) c.in_ok-end.ensures in
    subst (λ (end : ℕ). (owed : List Range) → CursorMayOwe c.args.self.now owed
    → IsGiven c.args.self.now.terms owed c.args.min_size (range_at start len) × CursorMayOwe (moved_to fields end) (range_at start len ∷ owed)) (sym ends)
    (subst (λ (old : Cursor). (owed : List Range) → CursorMayOwe old owed
    → IsGiven old.terms owed c.args.min_size (range_at start len) × CursorMayOwe (moved_to fields (start + len)) (range_at start len ∷ owed)) same
    (given_range fields c.args.min_size start len c.self.invariant begins aligned (omega (arith, c.in_ok-len.ensures)) (omega (arith, ends, fits))))
