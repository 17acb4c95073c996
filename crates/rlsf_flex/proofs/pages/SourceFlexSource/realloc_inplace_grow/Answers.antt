use Rattle.std.proofs.Common.{◌≡◌, ℕ, List, ◌∷◌, ◌++◌, ◌+◌, ◌-◌, ◌≤◌, Some, arith, refl, sym, subst, ap}
use Rattle.rlsf_base.specs.declared.memory.range.Range.{Range}
use Rattle.rlsf_base.specs.Range.{end_of}
use Rattle.rlsf_model_global.specs.Pages.{IsPageCursor, MayOwe}
use Rattle.rlsf_model_global.specs.Cursor.{PageCursor, PageLeads, page_cursor, pages, terms_of}
use Rattle.rlsf_model_global.proofs.Cursors.{IsPageCursor-grown, grown_range, owed_ends}
use Rattle.rlsf_model.specs.Note.{grow}
use Rattle.rlsf_model.specs.Terms.{IsGrown, with_len}
use Rattle.rlsf_flex.proofs.pages.SourceFlexSource.realloc_inplace_grow.Goals as goal

-- some ranges are outstanding, among them r
abbrev Owed : PageCursor → Range → Type 0
Owed v r = (before : List Range) × (after : List Range) × MayOwe v (before ++ r ∷ after)

pub overflow_add-range : goal.overflow_add-range
overflow_add-range g c =
    let (before, after, may) = subst (λ (v : PageCursor). Owed v c.args.range) (sym c.self.view_is) c.requires.outstanding in
    omega (arith, owed_ends _ c.args.range before after may, c.self.invariant.before_end, c.self.invariant.addressable)

pub invariant_of-self : goal.invariant_of-self
invariant_of-self g c =
    let fields : PageCursor = page_cursor c.self.inside.space c.self.inside.at g.Options.GlobalTlsfOptions.COALESCE_POOLS in
    let r = c.args.range in
    let end = c.in_ok-end.end in
    let (ends, fits) = subst (λ (v : PageCursor). (end ≡ r.start + pages c.args.min_new_len) × (end ≤ end_of v.space)) (sym c.self.view_is) c.in_ok-end.ensures in
    let (before, after, may) = subst (λ (v : PageCursor). Owed v r) (sym c.self.view_is) c.requires.outstanding in
    subst (λ (e : ℕ). IsPageCursor (page_cursor fields.space e fields.grows)) (sym ends)
    (IsPageCursor-grown fields c.self.invariant r c.args.min_new_len (pages c.args.min_new_len) refl (omega (arith, ends, fits)) before after may)

pub returns-clause-leads : goal.returns-clause-leads
returns-clause-leads g c =
    let fields : PageCursor = page_cursor c.self.inside.space c.self.inside.at g.Options.GlobalTlsfOptions.COALESCE_POOLS in
    let r = c.args.range in
    let end = c.in_ok-end.end in
    let (ends, fits) = subst (λ (v : PageCursor). (end ≡ r.start + pages c.args.min_new_len) × (end ≤ end_of v.space)) (sym c.self.view_is) c.in_ok-end.ensures in
    let last : r.start + r.len ≡ fields.at = omega (arith, c.if-self-range.false) in
    subst (λ (old : PageCursor). PageLeads old (grow r c.args.min_new_len (Some (end - r.start))) (page_cursor fields.space end fields.grows)) c.self.view_is
    (last, omega (arith, ends, fits), omega (arith, ends), ap (λ (e : ℕ). page_cursor fields.space e fields.grows) ends)

pub returns-clause-owes : goal.returns-clause-owes
returns-clause-owes g c =
    let fields : PageCursor = page_cursor c.self.inside.space c.self.inside.at g.Options.GlobalTlsfOptions.COALESCE_POOLS in
    let r = c.args.range in
    let end = c.in_ok-end.end in
    let (ends, fits) = subst (λ (v : PageCursor). (end ≡ r.start + pages c.args.min_new_len) × (end ≤ end_of v.space)) (sym c.self.view_is) c.in_ok-end.ensures in
    let last : r.start + r.len ≡ fields.at = omega (arith, c.if-self-range.false) in
    let len : end - r.start ≡ pages c.args.min_new_len = omega (arith, ends) in
    let back : r.start + (end - r.start) ≡ end = omega (arith, ends) in
    subst (λ (old : PageCursor). (before after : List Range) → MayOwe old (before ++ r ∷ after)
    → IsGrown (terms_of old) (before ++ after) r c.args.min_new_len (end - r.start)
    × MayOwe (page_cursor fields.space end fields.grows) (before ++ with_len r (end - r.start) ∷ after))
    c.self.view_is
    (subst (λ (e : ℕ). (before after : List Range) → MayOwe fields (before ++ r ∷ after)
    → IsGrown (terms_of fields) (before ++ after) r c.args.min_new_len (end - r.start)
    × MayOwe (page_cursor fields.space e fields.grows) (before ++ with_len r (end - r.start) ∷ after)) back
    (grown_range fields c.self.invariant r c.args.min_new_len (end - r.start) last len c.requires.longer (omega (arith, back, fits))))
