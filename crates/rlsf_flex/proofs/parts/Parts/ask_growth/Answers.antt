use Rattle.std.proofs.Common.{true, false, ◌≡◌, ◌+◌, [], arith, sym, ap, ◌∙◌, subst, refl, inl}
use Rattle.rlsf_base.specs.Space.{IsWord, range_of, word_at}
use Rattle.rlsf_tlsf.specs.Allocator.{Allocator, IsInState}
use Rattle.rlsf_flex.specs.Footers.{first_len, first_start, footer_of, Footers}
use Rattle.rlsf_flex.specs.Steps.Footing.{IsFooted}
use Rattle.rlsf_flex.specs.StandsFor.{kept_pool}
use Rattle.rlsf_flex.specs.Steps.Growth.{HasSamePayloads}
use Rattle.rlsf_flex.specs.Steps.Parts.{flex_over}
use Rattle.rlsf_model.specs.Growth.{longer}
use Rattle.rlsf_model.specs.Insert.{Appends, IsNext}
use Rattle.rlsf_model.specs.Lists.{IsIn}
use Rattle.rlsf_model.specs.Note.{grow}
use Rattle.rlsf_model.specs.Terms.{Terms, with_len}
use Rattle.rlsf_model.proofs.TakenPools.{pool_size_is}
use Rattle.rlsf_model.proofs.Names.{behind}
use Rattle.rlsf_tlsf.proofs.Standing.{of_state, stepped}
use Rattle.rlsf_flex.proofs.Asks.{AskedGrowth-asked, AskedGrowth-none}
use Rattle.rlsf_flex.proofs.Calls.{stays_in}
use Rattle.rlsf_flex.proofs.Frames.{ends_here, spare_here}
use Rattle.rlsf_flex.proofs.Growths.{Grew, Grew-footers, Grew-longer, Grew-next, Grew-taken, Grew-took}
use Rattle.rlsf_flex.proofs.Outcomes.{Took-named, Took-refused}
use Rattle.rlsf_flex.proofs.Kept.{IsKeptPool-known}
use Rattle.rlsf_flex.proofs.KeptPayloads.{HasSamePayloads-refl, HasSamePayloads-same, HasSamePayloads-trans}
use Rattle.rlsf_flex.proofs.Places.{SamePlace-refl}
use Rattle.rlsf_flex.proofs.Rewritten.{IsFooted-none, IsFooted-written}
use Rattle.rlsf_flex.proofs.InnerAllocator.{inner_in}
use Rattle.rlsf_flex.proofs.parts.Parts.ask_growth.Given as given
use Rattle.rlsf_flex.proofs.parts.Parts.ask_growth.Goals as goal
use Rattle.rlsf_flex.proofs.parts.Parts.ask_growth.Goals.{In_ok-grown, Joined-supports_dealloc, then-supports_dealloc, else-supports_dealloc}

pub realloc_inplace_grow-requires-clause-outstanding : goal.realloc_inplace_grow-requires-clause-outstanding
realloc_inplace_grow-requires-clause-outstanding g c =
    let (was, kept) = IsKeptPool-known c.requires.stands c.requires.kept in
    ([], kept.rest, subst (g.S.FlexSource.owes c.args.self.now.source) kept.split c.requires.stands.owed)

pub realloc_inplace_grow-requires-clause-longer : goal.realloc_inplace_grow-requires-clause-longer
realloc_inplace_grow-requires-clause-longer g c =
    let (was, kept) = IsKeptPool-known c.requires.stands c.requires.kept in
    let (room, whole, short) = pool_size_is _ _ g.row.FLLEN g.row.SLLEN c.args.wanted c.requires.valid c.requires.wanted in
    omega (arith, kept.nearly, c.requires.len, room)

-- the growth that came
grew : (g : given.Over) (c : In_ok-grown g)
    → Grew g.row.FLLEN g.row.SLLEN c.args.wanted g.S.FlexSource.terms g.S.FlexSource.owes (flex_over c.args.self.now) c.realloc_inplace_grow.new.self (kept_pool c.args.pool)
    c.args.len c.in_ok-grown.grown
grew g c =
    let v = c.requires.stands in
    let (was, kept) = IsKeptPool-known v c.requires.kept in
    let (is_grown, owed) = c.in_ok-grown.ensures.owes [] kept.rest (subst (g.S.FlexSource.owes c.args.self.now.source) kept.split v.owed) in
    record {
      before = v;
      whole = c.requires.whole;
      size = c.requires.wanted;
      was = was;
      kept = kept;
      is_asked = c.requires.len;
      is_grown = is_grown;
      owed = owed;
      anywhere = λ front behind split. (c.in_ok-grown.ensures.owes front behind (subst (g.S.FlexSource.owes c.args.self.now.source) split v.owed)).0;
    }

pub read_footer-start-requires-clause-range : goal.read_footer-start-requires-clause-range
read_footer-start-requires-clause-range g c =
    let is_grew = grew g (goal.at.read_footer-start-requires-clause-range g c).In_ok-grown in
    ends_here c.args.self.now.tlsf.memory c.requires.stands.well_formed c.args.pool.range (subst (IsIn c.args.pool.range) (sym is_grew.kept.split) (inl refl))

pub read_footer-start-requires-clause-words : goal.read_footer-start-requires-clause-words
read_footer-start-requires-clause-words g c =
    let is_grew = grew g (goal.at.read_footer-start-requires-clause-words g c).In_ok-grown in
    let footer = spare_here c.args.self.now.tlsf.memory c.requires.stands.well_formed c.args.pool.range (subst (IsIn c.args.pool.range) (sym is_grew.kept.split) (inl refl)) in
    subst (λ m. IsWord m (footer_of c.args.pool.range) × IsWord m (footer_of c.args.pool.range + 8)) (sym c.memory_ref.ensures.memory) (footer.0.0, footer.1.0)

pub write_footer-requires : goal.write_footer-requires
write_footer-requires g c =
    let now = with_len c.args.pool.range c.in_ok-grown.grown in
    let (ends, footer) =
    Grew-footers c.requires.valid (grew g (goal.at.write_footer-requires g c).In_ok-grown) c.args.self.now.tlsf.memory c.requires.stands.well_formed.machine
    (SamePlace-refl c.args.self.now.tlsf.memory) now (inl refl) in
    (omega arith, (ends, (footer, c.requires.whole)))

pub overflow_add-pool : goal.overflow_add-pool
overflow_add-pool g c =
    let is_grew = grew g (goal.at.overflow_add-pool g c).In_ok-grown in
    let ends = ends_here c.args.self.now.tlsf.memory c.requires.stands.well_formed c.args.pool.range (subst (IsIn c.args.pool.range) (sym is_grew.kept.split) (inl refl)) in
    omega (arith, ends.1, is_grew.kept.within)

pub overflow_sub-grown : goal.overflow_sub-grown
overflow_sub-grown g c =
    let (enough, more, long) = Grew-longer c.requires.valid (grew g (goal.at.overflow_sub-grown g c).In_ok-grown) in
    omega (arith, enough)

-- the footer was moved, or there is none
moved : (g : given.Over) (c : Joined-supports_dealloc g)
    → (h : Grew g.row.FLLEN g.row.SLLEN c.args.wanted g.S.FlexSource.terms g.S.FlexSource.owes (flex_over c.args.self.now) c.realloc_inplace_grow.new.self (kept_pool c.args.pool)
    c.args.len c.in_ok-grown.grown)
    → IsInState g.row.FLLEN g.row.SLLEN c.if-supports_dealloc.tlsf c.args.self.now.tlsf.state
    × IsFooted (g.S.FlexSource.terms c.args.self.now.source).dealloc c.args.self.now.tlsf.memory c.if-supports_dealloc.tlsf.memory (with_len c.args.pool.range c.in_ok-grown.grown)
    (first_start h.kept.rest) (first_len h.kept.rest)
moved g c h =
    let t = g.S.FlexSource.terms c.args.self.now.source in
    let a = c.args.self.now.tlsf in
    let now = with_len c.args.pool.range c.in_ok-grown.grown in
    let takes : c.supports_dealloc.result ≡ t.dealloc =
    subst (λ (e : Terms). c.supports_dealloc.result ≡ e.dealloc)
    (g.met.S.FlexSource.constant c.args.self.now.source c.realloc_inplace_grow.new.self (grow c.args.pool.range c.args.len c.realloc_inplace_grow.result)
    c.realloc_inplace_grow.ensures.leads) c.supports_dealloc.ensures in
    let Done : Allocator → Type 0 =
    λ d. IsInState g.row.FLLEN g.row.SLLEN d a.state × IsFooted t.dealloc a.memory d.memory now (first_start h.kept.rest) (first_len h.kept.rest) in
    elim c.if-supports_dealloc.branch [
      | then-supports_dealloc w ↦
          let f = subst (Footers a.memory) h.kept.split (h.before.footers (sym takes ∙ w.if-supports_dealloc.true)) in
          subst Done (sym w.tlsf-is) (
            stays_in (inner_in h.before h.whole) w.write_footer.new.tlsf w.write_footer.ensures.state w.write_footer.ensures.stands,
            IsFooted-written _ _ _ _ _ _ _ _ (sym takes ∙ w.if-supports_dealloc.true) w.write_footer.ensures.footer
                (subst (λ m. w.read_footer-start.result.0 ≡ word_at m (footer_of c.args.pool.range)) w.memory_ref.ensures.memory w.read_footer-start.ensures.0 ∙ f.0)
                (subst (λ m. w.read_footer-start.result.1 ≡ word_at m (footer_of c.args.pool.range + 8)) w.memory_ref.ensures.memory w.read_footer-start.ensures.1 ∙ f.1),
          )
      | else-supports_dealloc w ↦ subst Done (sym w.tlsf-is) (inner_in h.before h.whole, IsFooted-none _ _ _ _ _ (sym takes ∙ w.if-supports_dealloc.false))
    ]

pub append_free_block_ptr-taken-requires : goal.append_free_block_ptr-taken-requires
append_free_block_ptr-taken-requires g c =
    let h = grew g (goal.at.append_free_block_ptr-taken-requires g c).In_ok-grown in
    let (stands, footed) = moved g (goal.at.append_free_block_ptr-taken-requires g c).Joined-supports_dealloc h in (
      omega arith,
      of_state stands (λ x. IsNext (range_of c.if-supports_dealloc.tlsf.memory) x (behind (kept_pool c.args.pool) c.in_ok-grown.grown))
          (Grew-next c.requires.valid h c.if-supports_dealloc.tlsf.memory footed.place),
    )

pub overflow_add-kept : goal.overflow_add-kept
overflow_add-kept g c =
    let h = grew g (goal.at.overflow_add-kept g c).In_ok-grown in
    let (stands, footed) = moved g (goal.at.overflow_add-kept g c).Joined-supports_dealloc h in
    let d = c.if-supports_dealloc.tlsf in
    let (t, step, after, spare) =
    stepped stands c.append_free_block_ptr-taken.new.self
    (λ x. Appends g.row.FLLEN x (behind (kept_pool c.args.pool) c.in_ok-grown.grown) c.append_free_block_ptr-taken.result) c.append_free_block_ptr-taken.ensures.step in
    let (pool, taken) = Grew-taken c.requires.valid h t c.append_free_block_ptr-taken.result step in
    let (ends, footer) = Grew-footers c.requires.valid h d.memory stands.stands.well_formed footed.place (with_len c.args.pool.range c.in_ok-grown.grown) (inl refl) in
    let longer = Grew-longer c.requires.valid h in
    omega (arith, taken.within, ends.1, longer.0)

pub realloc_inplace_grow-requires-clause-supported : goal.realloc_inplace_grow-requires-clause-supported
realloc_inplace_grow-requires-clause-supported g c = sym c.supports_realloc_inplace_grow-grows.ensures ∙ c.if-not-grows.false

pub returns-then-not-grows : goal.returns-then-not-grows
returns-then-not-grows g c = record {
  step =
      let fixed : (g.S.FlexSource.terms c.args.self.now.source).grow ≡ false = sym c.supports_realloc_inplace_grow-grows.ensures ∙ c.if-not-grows.true in
      let before = flex_over c.args.self.now in
      AskedGrowth-none (kept_pool c.args.pool) c.args.len fixed refl
      (Took-refused before c.args.self.now.source c.requires.stands refl c.requires.stands.owed c.args.wanted);
  payloads = HasSamePayloads-refl c.args.self.now.tlsf;
  whole = c.requires.whole;
  refused = record { same = refl };
}

pub returns-in_err-grown : goal.returns-in_err-grown
returns-in_err-grown g c =
    rw c.from_residual.ensures (record {
      step =
          let grows : (g.S.FlexSource.terms c.args.self.now.source).grow ≡ true = sym c.supports_realloc_inplace_grow-grows.ensures ∙ c.if-not-grows.false in
          let v = c.requires.stands in
          let before = flex_over c.args.self.now in
          let (was, kept) = IsKeptPool-known v c.requires.kept in
          let same =
          g.met.S.FlexSource.constant c.args.self.now.source c.realloc_inplace_grow.new.self (grow c.args.pool.range c.args.len c.realloc_inplace_grow.result)
          c.realloc_inplace_grow.ensures.leads in
          let y = c.realloc_inplace_grow.new.self in
          let owed =
          subst (g.S.FlexSource.owes y) (sym kept.split) (c.in_err-grown.ensures.owes [] kept.rest (subst (g.S.FlexSource.owes c.args.self.now.source) kept.split v.owed)) in
          AskedGrowth-asked (kept_pool c.args.pool) c.args.len grows c.in_err-grown.ensures.leads (Took-refused before y v same owed c.args.wanted);
      payloads = HasSamePayloads-refl c.args.self.now.tlsf;
      whole = c.requires.whole;
      refused = record { same = refl };
    })

pub returns : goal.returns
returns g c = record {
  step =
      let grows : (g.S.FlexSource.terms c.args.self.now.source).grow ≡ true = sym c.supports_realloc_inplace_grow-grows.ensures ∙ c.if-not-grows.false in
      let h = grew g (goal.at.returns g c).In_ok-grown in
      let (stands, footed) = moved g (goal.at.returns g c).Joined-supports_dealloc h in
      let d = c.if-supports_dealloc.tlsf in
      let same =
      g.met.S.FlexSource.constant c.args.self.now.source c.realloc_inplace_grow.new.self (grow c.args.pool.range c.args.len c.realloc_inplace_grow.result)
      c.realloc_inplace_grow.ensures.leads in
      let (t, step, after, spare) =
      stepped stands c.append_free_block_ptr-taken.new.self
      (λ x. Appends g.row.FLLEN x (behind (kept_pool c.args.pool) c.in_ok-grown.grown) c.append_free_block_ptr-taken.result) c.append_free_block_ptr-taken.ensures.step in
      AskedGrowth-asked (kept_pool c.args.pool) c.args.len grows c.in_ok-grown.ensures.leads
      (Took-named after.state (c.grow.ensures ∙ ap (longer c.in_ok-grown.grown) h.kept.split)
      (Grew-took c.requires.valid h d c.append_free_block_ptr-taken.new.self t c.append_free_block_ptr-taken.result same stands footed step after spare
      c.append_free_block_ptr-taken.ensures.frame.place));
  payloads =
      let did = c.append_free_block_ptr-taken.ensures in
      let taken : HasSamePayloads g.row.SLLEN c.if-supports_dealloc.tlsf c.append_free_block_ptr-taken.new.self = assumption (did.frame, did.bounds) in
      elim c.if-supports_dealloc.branch [
        | then-supports_dealloc w ↦
            let wrote = w.write_footer.ensures in
            let footed = HasSamePayloads-same c.args.self.now.tlsf w.write_footer.new.tlsf wrote.state wrote.footer.place wrote.grow wrote.copied in
            HasSamePayloads-trans _ _ _ (subst (HasSamePayloads g.row.SLLEN c.args.self.now.tlsf) (sym w.tlsf-is) footed) taken
        | else-supports_dealloc w ↦ subst (λ (d : Allocator). HasSamePayloads g.row.SLLEN d c.append_free_block_ptr-taken.new.self) w.tlsf-is taken
      ];
  whole =
      let (stands, footed) = moved g (goal.at.returns g c).Joined-supports_dealloc (grew g (goal.at.returns g c).In_ok-grown) in
      c.append_free_block_ptr-taken.ensures.frame.place.3 (footed.place.3 c.requires.whole);
  refused = tt;
}
