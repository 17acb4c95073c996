use Rattle.std.proofs.Common.{◌≡◌, arith, None, refl, sym, subst}
use Rattle.rlsf_flex.specs.StandsFor.{FlexStandsFor, flex_contents}
use Rattle.rlsf_model.specs.FlexState.{FlexState, flex_empty}
use Rattle.rlsf_table.proofs.Parameters.{IsValid-widest}
use Rattle.rlsf_tlsf.proofs.Standing.{in_state}
use Rattle.rlsf_flex.proofs.EmptyFlex.{FlexStandsFor-empty}
use Rattle.rlsf_flex.proofs.InnerAllocator.{contents_at, flex_stood_at}
use Rattle.rlsf_flex.proofs.flex.FlexTlsf.new.Given as given
use Rattle.rlsf_flex.proofs.flex.FlexTlsf.new.Goals as goal
use Rattle.rlsf_flex.proofs.flex.FlexTlsf.new.Goals.{After-new-2}

pub new-requires : goal.new-requires
new-requires g c = (omega arith, IsValid-widest g.FLBitmap.BitPattern.width_limit c.requires.valid)

-- the allocator represents its state, which is the empty one
stands : (g : given.Over) (c : After-new-2 g)
    → FlexStandsFor g.row.FLLEN g.row.SLLEN g.S.FlexSource.terms g.S.FlexSource.owes (flex_contents c.new.result None c.args.source c.new-2.result.ranges)
stands g c =
    let is : (flex_contents c.new.result None c.args.source c.new-2.result.ranges).state ≡ flex_empty =
    λ i. record { machine = c.new.ensures.state i; pools = c.new-2.ensures i; kept = None } in
    subst (λ (s : FlexState). FlexStandsFor g.row.FLLEN g.row.SLLEN g.S.FlexSource.terms g.S.FlexSource.owes (contents_at c.new.result c.args.source s)) (sym is)
    (FlexStandsFor-empty g.row.FLLEN g.row.SLLEN g.S.FlexSource.terms g.S.FlexSource.owes c.new.result c.args.memory c.args.source c.new.ensures.state c.new.ensures.stands
    c.new.ensures.memory c.requires.nothing_owed c.requires.space)

pub invariant_of-result : goal.invariant_of-result
invariant_of-result g c = record {
  valid = c.requires.valid;
  stands = stands g (goal.at.invariant_of-result g c).After-new-2;
  whole = (in_state g.row.FLLEN g.row.SLLEN c.new.result c.new.ensures.stands).stands.whole;
}

pub returns : goal.returns
returns g c = record {
  state = λ i. record { machine = c.new.ensures.state i; pools = c.new-2.ensures i; kept = None };
  count = c.new.ensures.count;
  stands = flex_stood_at (stands g (goal.at.returns g c).After-new-2);
  source = refl;
  memory = c.new.ensures.memory;
}
