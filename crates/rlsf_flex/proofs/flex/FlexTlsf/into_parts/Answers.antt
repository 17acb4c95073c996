use Rattle.std.proofs.Common.{◌∙◌, arith, sym, subst}
use Rattle.rlsf_model.specs.End.{notes_at_end, owed_at_end}
use Rattle.rlsf_model.specs.Note.{LeadsBy}
use Rattle.rlsf_flex.specs.Footers.{AreSpelled}
use Rattle.rlsf_flex.proofs.Ends.{spelled, ends_with, ends_without}
use Rattle.rlsf_flex.proofs.flex.FlexTlsf.into_parts.Given as given
use Rattle.rlsf_flex.proofs.flex.FlexTlsf.into_parts.Goals as goal
use Rattle.rlsf_flex.proofs.flex.FlexTlsf.into_parts.Goals.{Joined-supports_dealloc, then-supports_dealloc, else-supports_dealloc}

pub into_memory-memory-requires : goal.into_memory-memory-requires
into_memory-memory-requires g c = omega arith

pub give_back-requires-clause-outstanding : goal.give_back-requires-clause-outstanding
give_back-requires-clause-outstanding g c =
    let ranges = c.self.inside.parts.owed.ranges in
    let v = c.self.invariant.stands in
    let has = sym c.supports_dealloc.ensures ∙ c.if-supports_dealloc.true in (
      ranges,
      subst (λ m. AreSpelled m c.newest_range.result ranges) (sym c.into_memory-memory.ensures)
          (spelled c.self.inside.parts.kept c.newest_range.result v has c.newest_range.ensures),
      v.owed,
    )

-- what the source is at the end
ends : (g : given.Over) (c : Joined-supports_dealloc g)
    → LeadsBy g.S.FlexSource.leads c.self.inside.parts.source (notes_at_end (g.S.FlexSource.terms c.self.inside.parts.source) c.self.inside.parts.owed.ranges)
    c.if-supports_dealloc.source
    × g.S.FlexSource.owes c.if-supports_dealloc.source (owed_at_end (g.S.FlexSource.terms c.self.inside.parts.source) c.self.inside.parts.owed.ranges)
ends g c =
    let owes = g.S.FlexSource.owes in
    let leads = g.S.FlexSource.leads in
    let x = c.self.inside.parts.source in
    let t = g.S.FlexSource.terms x in
    let ranges = c.self.inside.parts.owed.ranges in
    let v = c.self.invariant.stands in
    elim c.if-supports_dealloc.branch [
      | then-supports_dealloc w ↦
          let has = sym c.supports_dealloc.ensures ∙ w.if-supports_dealloc.true in
          let are =
          subst (λ m. AreSpelled m w.newest_range.result ranges) (sym c.into_memory-memory.ensures)
          (spelled c.self.inside.parts.kept w.newest_range.result v has w.newest_range.ensures) in
          rw w.source-is (ends_with owes leads t x w.give_back.new.source ranges has (w.give_back.ensures.end ranges are v.owed))
      | else-supports_dealloc w ↦ rw w.source-is (ends_without owes leads t x ranges (sym c.supports_dealloc.ensures ∙ w.if-supports_dealloc.false) v.owed)
    ]

pub returns : goal.returns
returns g c =
    let (leads, owes) = ends g (goal.at.returns g c).Joined-supports_dealloc in
    rw (← c.self.view_is) (record { memory = c.into_memory-memory.ensures; leads = leads; owes = owes })
