use Rattle.std.proofs.Common.{rules, arith, ◌≡◌, ◌+◌, refl, nat_le, length, sym, ◌∙◌, ap}
use Rattle.std.proofs.lemmas.Bool.{leb-true}
use Rattle.rlsf_base.specs.Addr.{at}
use Rattle.rlsf_model.specs.Callers.{bytes_at}
use Rattle.rlsf_checked.specs.Answers.{fits, if_in_range}
use Rattle.rlsf_checked.proofs.InRange.{at_live}
use Rattle.rlsf_checked.proofs.checked.CheckedTlsf.read.Given as given
use Rattle.rlsf_checked.proofs.checked.CheckedTlsf.read.Goals as goal
use Rattle.rlsf_checked.proofs.checked.CheckedTlsf.read.Goals.{After-reaches}

-- whether they fit
reach : (g : given.Over) (c : After-reaches g)
    → c.reaches.result ≡ fits c.args.offset (length c.args.bytes.now) (bytes_at c.self.inside.heap.state (at c.args.addr))
reach g c = c.reaches.ensures ∙ ap (λ l. nat_le (c.args.offset + length c.args.bytes.now) (length l)) c.payload-payload.ensures

pub returns-in_default : goal.returns-in_default
returns-in_default g c = record {
  answer =
      ap (λ o. if_in_range o (fits c.args.offset (length c.args.bytes.now) (bytes_at c.args.self.now.heap.state (at c.args.addr)))) c.in_default.ensures.value;
  read = tt;
  refused = refl;
}

pub returns-then-not-reaches : goal.returns-then-not-reaches
returns-then-not-reaches g c =
    let live = rw (← c.self.view_is) at c.in-Some.ensures.value in
    rw (← c.self.view_is) (record {
      answer = at_live live (sym c.if-not-reaches.true ∙ reach g (goal.at.returns-then-not-reaches g c).After-reaches);
      read = tt;
      refused = refl;
    })

pub returns : goal.returns
returns g c =
    let live = rw (← c.self.view_is) at c.in-Some.ensures.value in
    rw (← c.self.view_is) (record {
      answer = at_live live (sym c.if-not-reaches.false ∙ reach g (goal.at.returns g c).After-reaches);
      read = search rules;
      refused = tt;
    })

pub overflow_add-offset : goal.overflow_add-offset
overflow_add-offset g c =
    omega (arith, leb-true (c.args.offset + length c.args.bytes.now) (length c.payload-payload.result.now) (sym c.reaches.ensures ∙ c.if-not-reaches.false))

pub slice_bounds-copy_from_slice-end : goal.slice_bounds-copy_from_slice-end
slice_bounds-copy_from_slice-end g c =
    omega (arith, leb-true (c.args.offset + length c.args.bytes.now) (length c.payload-payload.result.now) (sym c.reaches.ensures ∙ c.if-not-reaches.false))
