use Rattle.std.proofs.Common.{◌≡◌, ℕ, arith, Option, Some, None, sym, ap, ◌∙◌, refl, ◌||◌}
use Rattle.std.specs.Bool.{then_some}
use Rattle.std.specs.Int.NonZero.{non_zero_usize_get}
use Rattle.std.specs.Option.{MatchOption, option_map}
use Rattle.rlsf_base.specs.Addr.{reply}
use Rattle.std.specs.declared.num.NonZeroUsize.{NonZeroUsize}
use Rattle.rlsf_base.specs.Space.{range_of}
use Rattle.rlsf_blocks.specs.Spare.{KeepsSpare}
use Rattle.rlsf_tlsf.specs.Allocator.{IsInState}
use Rattle.rlsf_flex.specs.StandsFor.{kept_of, kept_pool}
use Rattle.rlsf_flex.specs.Steps.Growth.{HasSamePayloads}
use Rattle.rlsf_flex.specs.Steps.Parts.{flex_over}
use Rattle.rlsf_model.specs.Insert.{Inserts}
use Rattle.rlsf_model.proofs.Untouched.{parts_of-IsFresh}
use Rattle.rlsf_model.specs.Note.{alloc}
use Rattle.rlsf_model.specs.Terms.{Terms}
use Rattle.rlsf_model.proofs.FlexGrowths.{given_fresh}
use Rattle.rlsf_model.proofs.TakenPools.{pool_size_is}
use Rattle.rlsf_flex.proofs.Asks.{AskedRange-asked, AskedRange-none}
use Rattle.rlsf_flex.proofs.Calls.{stays_in}
use Rattle.rlsf_flex.proofs.NewRanges.{Came, Came-footer, Came-took}
use Rattle.rlsf_flex.proofs.Outcomes.{Took-named, Took-refused}
use Rattle.rlsf_flex.proofs.Kept.{kept_of-then_some}
use Rattle.rlsf_flex.proofs.KeptPayloads.{HasSamePayloads-refl, HasSamePayloads-same, HasSamePayloads-trans}
use Rattle.rlsf_flex.proofs.RangeLengths.{range_length-whole}
use Rattle.rlsf_flex.proofs.Rewritten.{IsFooted-named}
use Rattle.rlsf_flex.proofs.InnerAllocator.{opened, stood_at}
use Rattle.rlsf_flex.proofs.parts.Parts.ask_range.Given as given
use Rattle.rlsf_flex.proofs.parts.Parts.ask_range.Goals as goal
use Rattle.rlsf_flex.proofs.parts.Parts.ask_range.Goals.{In_ok-range, After-insert_free_block_ptr}

pub alloc-requires : goal.alloc-requires
alloc-requires g c =
    let (room, whole, short) = pool_size_is _ _ g.row.FLLEN g.row.SLLEN c.args.wanted c.requires.valid c.requires.wanted in
    let is = range_length-whole (g.S.FlexSource.terms c.args.self.now.source) c.args.wanted c.in_ok-len.len whole (sym c.in_ok-len.ensures) in
    (omega (arith, is.0, room), is.1)

-- the range that came
came : (g : given.Over) (c : In_ok-range g)
    → Came g.row.FLLEN g.row.SLLEN c.args.wanted g.S.FlexSource.terms g.S.FlexSource.owes (flex_over c.args.self.now) c.alloc.new.self c.in_ok-len.len c.in_ok-range.range
came g c =
    let (is_given, owed) = c.in_ok-range.ensures.owes c.args.self.now.owed.ranges c.requires.stands.owed in
    record { before = c.requires.stands; whole = c.requires.whole; size = c.requires.wanted; told = sym c.in_ok-len.ensures; is_given = is_given; owed = owed }

pub insert_free_block_ptr-requires : goal.insert_free_block_ptr-requires
insert_free_block_ptr-requires g c =
    let is_came = came g (goal.at.insert_free_block_ptr-requires g c).In_ok-range in (
      omega arith,
      parts_of-IsFresh (range_of c.args.self.now.tlsf.memory) c.args.self.now.tlsf.state c.in_ok-range.range
          (given_fresh is_came.before.well_formed c.in_ok-len.len c.in_ok-range.range is_came.is_given),
    )

-- the range was taken
taken : (g : given.Over) (c : After-insert_free_block_ptr g)
    → Inserts g.row.FLLEN c.args.self.now.tlsf.state c.in_ok-range.range (reply c.insert_free_block_ptr.result) c.insert_free_block_ptr.new.self.state
    × IsInState g.row.FLLEN g.row.SLLEN c.insert_free_block_ptr.new.self c.insert_free_block_ptr.new.self.state
    × KeepsSpare c.args.self.now.tlsf.memory c.args.self.now.tlsf.state c.insert_free_block_ptr.new.self.memory c.insert_free_block_ptr.new.self.state
taken g c = let (step, stands, spare) = opened _ _ _ c.insert_free_block_ptr.ensures.step in
    (step, record { state = refl; stands = stands }, spare)

pub write_footer_if-requires : goal.write_footer_if-requires
write_footer_if-requires g c =
    let is_came = came g (goal.at.write_footer_if-requires g c).In_ok-range in
    let (step, stands, spare) = taken g (goal.at.write_footer_if-requires g c).After-insert_free_block_ptr in
    let place = c.insert_free_block_ptr.ensures.frame.place in
    let (ends, footer) = Came-footer c.requires.valid is_came c.insert_free_block_ptr.new.self.memory c.insert_free_block_ptr.new.self.state _ step place in
    (omega arith, (ends, (footer, (place.3 c.requires.whole, stood_at _ stands.stands))))

-- how many bytes were taken
taken_is : (o : Option NonZeroUsize) (taken n : ℕ) → MatchOption o (taken ≡ 0) (λ x. taken ≡ non_zero_usize_get x)
    → option_map non_zero_usize_get o ≡ Some n → taken ≡ n
taken_is None taken n counted is = absurd (cc)
taken_is (Some x) taken n counted is = cc

pub returns-in_err-len : goal.returns-in_err-len
returns-in_err-len g c =
    rw c.from_residual.ensures (record {
      step =
          let before = flex_over c.args.self.now in
          AskedRange-none (sym c.in_err-len.ensures) refl (Took-refused before c.args.self.now.source c.requires.stands refl c.requires.stands.owed c.args.wanted);
      payloads = HasSamePayloads-refl c.args.self.now.tlsf;
      refused = record { same = refl };
    })

pub returns-in_err-range : goal.returns-in_err-range
returns-in_err-range g c =
    rw c.from_residual-in_err-range.ensures (record {
      step =
          let before = flex_over c.args.self.now in
          let same = g.met.S.FlexSource.constant c.args.self.now.source c.alloc.new.self (alloc c.in_ok-len.len c.alloc.result) c.alloc.ensures.leads in
          AskedRange-asked (sym c.in_ok-len.ensures) c.in_err-range.ensures.leads
          (Took-refused before c.alloc.new.self c.requires.stands same (c.in_err-range.ensures.owes c.args.self.now.owed.ranges c.requires.stands.owed) c.args.wanted);
      payloads = HasSamePayloads-refl c.args.self.now.tlsf;
      refused = record { same = refl };
    })

pub returns : goal.returns
returns g c = record {
  step =
      let t = g.S.FlexSource.terms c.args.self.now.source in
      let same = g.met.S.FlexSource.constant c.args.self.now.source c.alloc.new.self (alloc c.in_ok-len.len c.alloc.result) c.alloc.ensures.leads in
      let is_came = came g (goal.at.returns g c).In_ok-range in
      let b = c.insert_free_block_ptr.new.self in
      let d = c.write_footer_if.new.tlsf in
      let r = c.in_ok-range.range in
      let wrote = c.write_footer_if.ensures in
      let (step, stands, spare) = taken g (goal.at.returns g c).After-insert_free_block_ptr in
      let (start, len) = c.words_of-start.ensures in
      let footed = IsFooted-named (c.supports_dealloc-takes_back.ensures ∙ ap (λ (e : Terms). e.dealloc) same) start len wrote.footer in
      AskedRange-asked (sym c.in_ok-len.ensures) c.in_ok-range.ensures.leads (Took-named wrote.state c.give.ensures
      (Came-took c.requires.valid is_came b d b.state _ c.args.self.now.kept (kept_of c.then_some-self.result) same refl step stands spare
      c.insert_free_block_ptr.ensures.frame.place
      (stays_in stands d wrote.state wrote.stands) footed
      (λ n is. ap kept_of c.then_some-self.ensures ∙ kept_of-then_some c.keeps_pool.result (record { range = r; len = c.len_of-taken.result })
      ∙ ap (λ k. then_some k (kept_pool (record { range = r; len = c.len_of-taken.result }))) (c.keeps_pool.ensures ∙ ap (λ (x : Terms). x.dealloc || x.grow) same)
      ∙ ap (λ m. then_some (t.dealloc || t.grow) (record { range = r; len = m })) (taken_is c.insert_free_block_ptr.result c.len_of-taken.result n c.len_of-taken.ensures is))));
  payloads =
      let did = c.insert_free_block_ptr.ensures in
      let wrote = c.write_footer_if.ensures in
      let taken : HasSamePayloads g.row.SLLEN c.args.self.now.tlsf c.insert_free_block_ptr.new.self = assumption (did.frame, did.bounds) in
      HasSamePayloads-trans _ _ _ taken (HasSamePayloads-same c.insert_free_block_ptr.new.self c.write_footer_if.new.tlsf wrote.state wrote.footer.place wrote.grow wrote.copied);
  refused = tt;
}
