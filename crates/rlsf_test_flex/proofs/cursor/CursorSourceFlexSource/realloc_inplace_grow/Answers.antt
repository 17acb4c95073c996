use Rattle.std.proofs.Common.{◌≡◌, ℕ, List, ◌∷◌, ◌++◌, ◌+◌, ◌≤◌, arith, sym, subst, ◌∙◌}
use Rattle.rlsf_base.specs.declared.memory.range.Range.{Range}
use Rattle.rlsf_base.specs.Range.{end_of}
use Rattle.rlsf_test_flex.specs.Cursor.{Cursor, CursorMayOwe}
use Rattle.rlsf_test_flex.proofs.Cursors.{grown_range, moved_to, owed_ends}
use Rattle.rlsf_model.specs.Terms.{IsGrown, with_len}
use Rattle.rlsf_test_flex.proofs.cursor.CursorSourceFlexSource.realloc_inplace_grow.Goals as goal

pub overflow_add-range : goal.overflow_add-range
overflow_add-range c =
    let (before, after, may) =
    subst (λ (v : Cursor). (before : List Range) × (after : List Range) × CursorMayOwe v (before ++ c.args.range ∷ after)) (sym (c.self.view_is ∙ c.remember.ensures))
    c.requires.outstanding in
    omega (arith, owed_ends _ c.args.range before after may, c.self.invariant.before_end, c.self.invariant.addressable)

pub returns-clause-owes : goal.returns-clause-owes
returns-clause-owes c =
    let h = c.self.inside.habits in
    let fields : Cursor =
    record { terms = record { space = c.self.inside.space; dealloc = h.dealloc; grow = h.grow; contiguous = h.contiguous; min_align = h.min_align }; at = c.self.inside.at } in
    let r = c.args.range in
    let len = c.in_ok-len.len in
    let same : fields ≡ c.args.self.now = c.self.view_is ∙ c.remember.ensures in
    let (ends, fits) = subst (λ (v : Cursor). (c.in_ok-end.end ≡ r.start + len) × (c.in_ok-end.end ≤ end_of v.terms.space)) (sym c.self.view_is) c.in_ok-end.ensures in
    let last : r.start + r.len ≡ c.self.inside.at = omega (arith, c.if-range-self.false) in
    subst (λ (end : ℕ). (before after : List Range) → CursorMayOwe c.args.self.now (before ++ r ∷ after)
    → IsGrown c.args.self.now.terms (before ++ after) r c.args.min_new_len len × CursorMayOwe (moved_to fields end) (before ++ with_len r len ∷ after)) (sym ends)
    (subst (λ (old : Cursor). (before after : List Range) → CursorMayOwe old (before ++ r ∷ after)
    → IsGrown old.terms (before ++ after) r c.args.min_new_len len × CursorMayOwe (moved_to fields (r.start + len)) (before ++ with_len r len ∷ after)) same
    (grown_range fields r c.args.min_new_len len c.self.invariant last (omega (arith, c.in_ok-len.ensures)) c.requires.longer (omega (arith, ends, fits))))
