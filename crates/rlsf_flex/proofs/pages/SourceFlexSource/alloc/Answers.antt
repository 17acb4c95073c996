use Rattle.std.proofs.Common.{◌≡◌, ℕ, List, ◌∷◌, ◌+◌, ◌-◌, ◌≤◌, Some, arith, refl, sym, subst, ap}
use Rattle.rlsf_base.specs.declared.memory.range.Range.{Range}
use Rattle.rlsf_base.specs.Range.{end_of, range_at}
use Rattle.rlsf_model_global.specs.Pages.{IsPageCursor, MayOwe}
use Rattle.rlsf_model_global.specs.Cursor.{PageCursor, PageLeads, page_cursor, pages, terms_of}
use Rattle.rlsf_model_global.proofs.Cursors.{IsPageCursor-given, given_range}
use Rattle.rlsf_model.specs.Note.{alloc}
use Rattle.rlsf_model.specs.Terms.{IsGiven}
use Rattle.rlsf_flex.proofs.pages.SourceFlexSource.alloc.Goals as goal

pub invariant_of-self : goal.invariant_of-self
invariant_of-self g c =
    let fields : PageCursor = page_cursor c.self.inside.space c.self.inside.at g.Options.GlobalTlsfOptions.COALESCE_POOLS in
    let end = c.in_ok-end.end in
    let (ends, fits) = subst (λ (v : PageCursor). (end ≡ fields.at + pages c.args.min_size) × (end ≤ end_of v.space)) (sym c.self.view_is) c.in_ok-end.ensures in
    subst (λ (e : ℕ). IsPageCursor (page_cursor fields.space e fields.grows)) (sym ends)
    (IsPageCursor-given fields c.self.invariant c.args.min_size (pages c.args.min_size) c.requires.0 refl (omega (arith, ends, fits)))

pub returns-clause-leads : goal.returns-clause-leads
returns-clause-leads g c =
    let fields : PageCursor = page_cursor c.self.inside.space c.self.inside.at g.Options.GlobalTlsfOptions.COALESCE_POOLS in
    let end = c.in_ok-end.end in
    let (ends, fits) = subst (λ (v : PageCursor). (end ≡ fields.at + pages c.args.min_size) × (end ≤ end_of v.space)) (sym c.self.view_is) c.in_ok-end.ensures in
    let len : end - fields.at ≡ pages c.args.min_size = omega (arith, ends) in
    subst (λ (old : PageCursor). PageLeads old (alloc c.args.min_size (Some (range_at fields.at (end - fields.at)))) (page_cursor fields.space end fields.grows)) c.self.view_is
    (omega (arith, ends, fits), ap (range_at fields.at) len, ap (λ (e : ℕ). page_cursor fields.space e fields.grows) ends)

pub returns-clause-owes : goal.returns-clause-owes
returns-clause-owes g c =
    let fields : PageCursor = page_cursor c.self.inside.space c.self.inside.at g.Options.GlobalTlsfOptions.COALESCE_POOLS in
    let end = c.in_ok-end.end in
    let (ends, fits) = subst (λ (v : PageCursor). (end ≡ fields.at + pages c.args.min_size) × (end ≤ end_of v.space)) (sym c.self.view_is) c.in_ok-end.ensures in
    let len : end - fields.at ≡ pages c.args.min_size = omega (arith, ends) in
    let back : fields.at + (end - fields.at) ≡ end = omega (arith, ends) in
    subst (λ (old : PageCursor). (owed : List Range) → MayOwe old owed
    → IsGiven (terms_of old) owed c.args.min_size (range_at fields.at (end - fields.at))
    × MayOwe (page_cursor fields.space end fields.grows) (range_at fields.at (end - fields.at) ∷ owed))
    c.self.view_is
    (subst (λ (e : ℕ). (owed : List Range) → MayOwe fields owed
    → IsGiven (terms_of fields) owed c.args.min_size (range_at fields.at (end - fields.at))
    × MayOwe (page_cursor fields.space e fields.grows) (range_at fields.at (end - fields.at) ∷ owed))
    back
    (given_range fields c.self.invariant c.args.min_size (end - fields.at) c.requires.0 len (omega (arith, back, fits))))
